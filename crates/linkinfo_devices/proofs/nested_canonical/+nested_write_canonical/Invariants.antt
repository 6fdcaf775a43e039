use Rattle.std.proofs.Common.{◌+◌, ◌*◌, ◌-◌, ◌≤◌, length}
use Rattle.std.specs.Prelude.{IsOk}
use Rattle.nla_frame.specs.NlaItems.{nla_items}
use Rattle.nla_frame.proofs.Emitting.{Written}
use Rattle.linkinfo_table.specs.FamilyRows.{row_of}
use Rattle.linkinfo_table.specs.Lists.{canonical_list, values}
use Rattle.linkinfo_table.specs.Rows.{meaning_in}
use Rattle.linkinfo_devices.proofs.nested_canonical.+nested_write_canonical.Given as goal

abbrev pub invariant-nested_list_write_canonical-loop-next :
    goal.invariant-nested_list_write_canonical-loop-next
invariant-nested_list_write_canonical-loop-next g l =
    let m =
    meaning_in g.F.RowFamily.FAMILY g.F.RowFamily.other
    (λ n. row_of (g.F.RowFamily.rows l.lists n)) in
    let canonical = g.F.RowFamily.canonical in
    record {
      accepted : IsOk (values m (nla_items l.rest));
      so_far : Written (canonical_list canonical m (nla_items l.bytes))
          (canonical_list canonical m (nla_items l.rest)) l.place l.fn.buffer l.buffer;
      room : 4 * l.count + length l.rest ≤ length l.bytes;
    }

abbrev pub decreases-nested_list_write_canonical-loop-next :
    goal.decreases-nested_list_write_canonical-loop-next
decreases-nested_list_write_canonical-loop-next g l = length l.rest

abbrev pub decreases-nested_write_canonical : goal.decreases-nested_write_canonical
decreases-nested_write_canonical g l = 3 * (128 - l.lists) + 1

abbrev pub decreases-nested_write_list : goal.decreases-nested_write_list
decreases-nested_write_list g l = 3 * (128 - l.lists) + 3

abbrev pub decreases-nested_list_write_canonical : goal.decreases-nested_list_write_canonical
decreases-nested_list_write_canonical g l = 3 * (128 - l.lists) + 2
