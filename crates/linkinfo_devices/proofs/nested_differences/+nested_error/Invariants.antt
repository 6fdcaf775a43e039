use Rattle.std.proofs.Common.{◌≡◌, ◌*◌, ◌+◌, ◌-◌, ◌≤◌, length}
use Rattle.nla_frame.specs.NlaItems.{nla_items}
use Rattle.linkinfo_table.specs.FamilyMeaning.{alike_by, meaning_by}
use Rattle.linkinfo_table.proofs.Differences.{error_left}
use Rattle.linkinfo_devices.specs.Nested.{self_listed}
use Rattle.linkinfo_devices.proofs.nested_differences.+nested_error.Given as goal

abbrev pub invariant-nested_list_error-loop-next : goal.invariant-nested_list_error-loop-next
invariant-nested_list_error-loop-next g l =
    let own = g.F.RowFamily in
    let of_list = self_listed own.FAMILY (meaning_by own l.lists) (alike_by own l.lists) in
    let inside = g.F.NestedFamily.contents l.lists in
    record {
      left :
          error_left of_list inside (length l.bytes - length l.rest) (nla_items l.rest)
          ≡ error_left of_list inside 0 (nla_items l.bytes);
      room : 4 * l.count + length l.rest ≤ length l.bytes;
    }

abbrev pub decreases-nested_list_error-loop-next : goal.decreases-nested_list_error-loop-next
decreases-nested_list_error-loop-next g l = length l.rest

abbrev pub decreases-nested_error : goal.decreases-nested_error
decreases-nested_error g l = 2 * (128 - l.lists) + 1

abbrev pub decreases-nested_list_error : goal.decreases-nested_list_error
decreases-nested_list_error g l = 2 * (128 - l.lists) + 2
