use Rattle.std.proofs.Common.{◌≡◌, ◌+◌, ◌*◌, ◌-◌, ◌≤◌, length}
use Rattle.std.specs.Prelude.{IsOk}
use Rattle.nla_frame.specs.NlaItems.{nla_items}
use Rattle.linkinfo_table.specs.FamilyRows.{row_of}
use Rattle.linkinfo_table.specs.Lists.{values, headers_of, alike_pairs}
use Rattle.linkinfo_table.specs.Rows.{meaning_in, headers_inside, alike_in}
use Rattle.linkinfo_devices.proofs.nested_calls.+nested_same.Given as goal

abbrev pub invariant-nested_list_same-loop-next : goal.invariant-nested_list_same-loop-next
invariant-nested_list_same-loop-next g l =
    let m =
    meaning_in g.F.RowFamily.FAMILY g.F.RowFamily.other
    (λ n. row_of (g.F.RowFamily.rows l.lists n)) in
    let h = headers_inside (λ n. row_of (g.F.RowFamily.rows l.lists n)) in
    let f = alike_in (λ n. row_of (g.F.RowFamily.rows l.lists n)) in
    record {
      first : IsOk (values m (nla_items l.x));
      second : IsOk (values m (nla_items l.y));
      same : alike_pairs f (nla_items l.x) (nla_items l.y)
          ≡ alike_pairs f (nla_items l.a) (nla_items l.b);
      counted : l.count + (headers_of m h (nla_items l.x) + headers_of m h (nla_items l.y))
          ≡ l.fn.count + (headers_of m h (nla_items l.a) + headers_of m h (nla_items l.b));
      rises : l.fn.count ≤ l.count;
      room : 4 * l.count + (length l.x + length l.y) ≤ 4 * l.fn.count + (length l.a + length l.b);
    }

abbrev pub decreases-nested_list_same-loop-next : goal.decreases-nested_list_same-loop-next
decreases-nested_list_same-loop-next g l = length l.x

abbrev pub decreases-nested_same : goal.decreases-nested_same
decreases-nested_same g l = 2 * (128 - l.lists) + 1

abbrev pub decreases-nested_list_same : goal.decreases-nested_list_same
decreases-nested_list_same g l = 2 * (128 - l.lists) + 2
