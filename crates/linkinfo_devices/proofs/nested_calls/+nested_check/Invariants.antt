use Rattle.std.proofs.Common.{◌≡◌, ◌+◌, ◌*◌, ◌-◌, ◌≤◌, length}
use Rattle.nla_frame.specs.Answers.{verdict}
use Rattle.nla_frame.specs.NlaItems.{nla_items}
use Rattle.linkinfo_table.specs.FamilyRows.{row_of}
use Rattle.linkinfo_table.specs.Lists.{values, headers_of}
use Rattle.linkinfo_table.specs.Rows.{meaning_in, headers_inside}
use Rattle.linkinfo_devices.proofs.nested_calls.+nested_check.Given as goal

abbrev pub invariant-nested_list_check-loop-next : goal.invariant-nested_list_check-loop-next
invariant-nested_list_check-loop-next g l =
    let m =
    meaning_in g.F.RowFamily.FAMILY g.F.RowFamily.other
    (λ n. row_of (g.F.RowFamily.rows l.lists n)) in
    let h = headers_inside (λ n. row_of (g.F.RowFamily.rows l.lists n)) in
    record {
      answer : verdict (values m (nla_items l.rest)) ≡ verdict (values m (nla_items l.bytes));
      counted : l.count + headers_of m h (nla_items l.rest)
          ≡ l.fn.count + headers_of m h (nla_items l.bytes);
      room : 4 * l.count + length l.rest ≤ 4 * l.fn.count + length l.bytes;
    }

abbrev pub decreases-nested_list_check-loop-next : goal.decreases-nested_list_check-loop-next
decreases-nested_list_check-loop-next g l = length l.rest

abbrev pub decreases-nested_check : goal.decreases-nested_check
decreases-nested_check g l = 2 * (128 - l.lists) + 1

abbrev pub decreases-nested_list_check : goal.decreases-nested_list_check
decreases-nested_list_check g l = 2 * (128 - l.lists) + 2
