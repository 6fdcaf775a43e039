use Rattle.std.specs.Prelude.{IsOk}
use Rattle.std.specs.List.{AllByRecursion}
use Rattle.std.proofs.Common.{◌≡◌, ◌*◌, ◌+◌, ◌-◌, ◌≤◌, length}
use Rattle.nla_frame.specs.NlaItems.{nla_items}
use Rattle.linkinfo_table.specs.FamilyMeaning.{alike_by, meaning_by}
use Rattle.linkinfo_table.specs.Last.{StandsIn, attributes_of}
use Rattle.linkinfo_table.specs.Lists.{values}
use Rattle.linkinfo_table.proofs.Differences.{pairs_left}
use Rattle.linkinfo_table.proofs.Lasts.{left_of}
use Rattle.linkinfo_devices.specs.Nested.{self_listed}
use Rattle.linkinfo_devices.proofs.nested_differences.+nested_difference.Given as goal

abbrev pub invariant-nested_list_difference-loop-p : goal.invariant-nested_list_difference-loop-p
invariant-nested_list_difference-loop-p g l =
    let own = g.F.RowFamily in
    let of_list = self_listed own.FAMILY (meaning_by own l.lists) (alike_by own l.lists) in
    let inside = g.F.NestedFamily.contents l.lists in
    record {
      first : IsOk (values (meaning_by own l.lists) (nla_items l.x));
      second : IsOk (values (meaning_by own l.lists) (nla_items l.y));
      stand_a : AllByRecursion (StandsIn l.a) (left_of l.a l.x);
      stand_b : AllByRecursion (StandsIn l.b) (left_of l.b l.y);
      left :
          pairs_left of_list inside (left_of l.a l.x) (left_of l.b l.y)
          ≡ pairs_left of_list inside (attributes_of l.a) (attributes_of l.b);
      room : 4 * l.count + (length l.x + length l.y) ≤ length l.a + length l.b;
      left_a : length l.x ≤ length l.a;
      left_b : length l.y ≤ length l.b;
    }

abbrev pub decreases-nested_list_difference-loop-p : goal.decreases-nested_list_difference-loop-p
decreases-nested_list_difference-loop-p g l = length l.x

abbrev pub decreases-nested_difference : goal.decreases-nested_difference
decreases-nested_difference g l = 3 * (128 - l.lists) + 1

abbrev pub decreases-pair_difference : goal.decreases-pair_difference
decreases-pair_difference g l = 3 * (128 - l.lists) + 2

abbrev pub decreases-nested_list_difference : goal.decreases-nested_list_difference
decreases-nested_list_difference g l = 3 * (128 - l.lists) + 3
