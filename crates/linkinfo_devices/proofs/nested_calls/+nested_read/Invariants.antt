use Rattle.std.proofs.Common.{◌≡◌, ◌+◌, ◌*◌, ◌-◌, ◌≤◌, false, length}
use Rattle.nla_frame.specs.NlaItems.{nla_items}
use Rattle.linkinfo_table.specs.FamilyRows.{row_of}
use Rattle.linkinfo_table.specs.Lists.{values, append_to, headers_of, memory_of}
use Rattle.linkinfo_table.specs.Rows.{meaning_in, headers_inside, memory_in}
use Rattle.linkinfo_devices.proofs.nested_calls.+nested_read.Given as goal

abbrev pub invariant-nested_list_read-loop-next : goal.invariant-nested_list_read-loop-next
invariant-nested_list_read-loop-next g l =
    let m =
    meaning_in g.F.RowFamily.FAMILY g.F.RowFamily.other
    (λ n. row_of (g.F.RowFamily.rows l.lists n)) in
    let h = headers_inside (λ n. row_of (g.F.RowFamily.rows l.lists n)) in
    let needs = memory_in (λ n. row_of (g.F.RowFamily.rows l.lists n)) in
    record {
      answer : append_to l.items.items (values m (nla_items l.rest)) ≡ values m (nla_items l.bytes);
      certain : memory_of m needs (nla_items l.bytes) ≡ false →
          memory_of m needs (nla_items l.rest) ≡ false;
      counted : l.count + headers_of m h (nla_items l.rest)
          ≡ l.fn.count + headers_of m h (nla_items l.bytes);
      rises : l.fn.count ≤ l.count;
      room : 4 * l.count + length l.rest ≤ 4 * l.fn.count + length l.bytes;
    }

abbrev pub decreases-nested_list_read-loop-next : goal.decreases-nested_list_read-loop-next
decreases-nested_list_read-loop-next g l = length l.rest

abbrev pub decreases-nested_read : goal.decreases-nested_read
decreases-nested_read g l = 3 * (128 - l.lists) + 1

abbrev pub decreases-nested_push : goal.decreases-nested_push
decreases-nested_push g l = 3 * (128 - l.lists) + 2

abbrev pub decreases-nested_list_read : goal.decreases-nested_list_read
decreases-nested_list_read g l = 3 * (128 - l.lists) + 3
