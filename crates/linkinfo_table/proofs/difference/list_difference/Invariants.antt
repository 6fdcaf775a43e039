use Rattle.std.specs.Prelude.{IsOk}
use Rattle.std.specs.List.{AllByRecursion}
use Rattle.std.proofs.Common.{◌≡◌, ◌*◌, ◌+◌, ◌≤◌, length}
use Rattle.nla_frame.specs.NlaItems.{nla_items}
use Rattle.linkinfo_table.specs.Contents.{listed}
use Rattle.linkinfo_table.specs.Last.{StandsIn, attributes_of}
use Rattle.linkinfo_table.specs.Lists.{values}
use Rattle.linkinfo_table.proofs.Differences.{pairs_left}
use Rattle.linkinfo_table.proofs.Lasts.{left_of}
use Rattle.linkinfo_table.proofs.difference.list_difference.Given as goal

abbrev pub invariant-loop-p : goal.invariant-loop-p
invariant-loop-p g l =
    let family = g.F.LinkFamily in
    let of_list =
    listed family.FAMILY (family.meaning l.ctx) (family.alike l.ctx) family.IS_SET in
    record {
      first : IsOk (values (family.meaning l.ctx) (nla_items l.x));
      second : IsOk (values (family.meaning l.ctx) (nla_items l.y));
      stand_a : AllByRecursion (StandsIn l.a) (left_of l.a l.x);
      stand_b : AllByRecursion (StandsIn l.b) (left_of l.b l.y);
      left :
          pairs_left of_list (family.contents l.ctx) (left_of l.a l.x) (left_of l.b l.y)
          ≡ pairs_left of_list (family.contents l.ctx) (attributes_of l.a) (attributes_of l.b);
      room : 4 * l.count + (length l.x + length l.y) ≤ length l.a + length l.b;
      left_a : length l.x ≤ length l.a;
      left_b : length l.y ≤ length l.b;
    }

abbrev pub decreases-loop-p : goal.decreases-loop-p
decreases-loop-p g l = length l.x
