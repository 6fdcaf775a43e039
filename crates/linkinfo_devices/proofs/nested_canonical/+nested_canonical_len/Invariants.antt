use Rattle.std.proofs.Common.{◌≡◌, ◌+◌, ◌*◌, ◌-◌, ◌≤◌, length}
use Rattle.std.specs.Prelude.{IsOk}
use Rattle.nla_frame.specs.NlaItems.{nla_items}
use Rattle.linkinfo_table.specs.FamilyRows.{row_of}
use Rattle.linkinfo_table.specs.Lists.{canonical_list, values}
use Rattle.linkinfo_table.specs.Rows.{meaning_in}
use Rattle.linkinfo_devices.proofs.nested_canonical.+nested_canonical_len.Given as goal

abbrev pub invariant-nested_list_canonical_len-loop-next :
    goal.invariant-nested_list_canonical_len-loop-next
invariant-nested_list_canonical_len-loop-next g l =
    let m =
    meaning_in g.F.RowFamily.FAMILY g.F.RowFamily.other
    (λ n. row_of (g.F.RowFamily.rows l.lists n)) in
    let canonical = g.F.RowFamily.canonical in
    record {
      accepted : IsOk (values m (nla_items l.rest));
      so_far : l.total + length (canonical_list canonical m (nla_items l.rest))
          ≡ length (canonical_list canonical m (nla_items l.bytes));
      small : l.total ≤ 65531;
      room : 4 * l.count + length l.rest ≤ length l.bytes;
    }

abbrev pub decreases-nested_list_canonical_len-loop-next :
    goal.decreases-nested_list_canonical_len-loop-next
decreases-nested_list_canonical_len-loop-next g l = length l.rest

abbrev pub decreases-nested_canonical_len : goal.decreases-nested_canonical_len
decreases-nested_canonical_len g l = 2 * (128 - l.lists) + 1

abbrev pub decreases-nested_list_canonical_len : goal.decreases-nested_list_canonical_len
decreases-nested_list_canonical_len g l = 2 * (128 - l.lists) + 2
