use Rattle.std.proofs.Common.{◌≡◌, ◌+◌, ◌*◌, ◌≤◌, length}
use Rattle.std.specs.Prelude.{IsOk}
use Rattle.nla_frame.specs.NlaItems.{nla_items}
use Rattle.linkinfo_table.specs.Lists.{values, headers_of, alike_pairs}
use Rattle.linkinfo_table.proofs.list.pairs_same.Given as goal

abbrev pub invariant-loop-next : goal.invariant-loop-next
invariant-loop-next g l =
    let m = g.F.LinkFamily.meaning l.ctx in
    let h = g.F.LinkFamily.headers l.ctx in
    let f = g.F.LinkFamily.alike l.ctx in
    let needs = g.F.LinkFamily.needs_memory l.ctx in
    record {
      first : IsOk (values m (nla_items l.x));
      second : IsOk (values m (nla_items l.y));
      same : alike_pairs f (nla_items l.x) (nla_items l.y)
          ≡ alike_pairs f (nla_items l.a) (nla_items l.b);
      counted : l.count + (headers_of m h (nla_items l.x) + headers_of m h (nla_items l.y))
          ≡ l.fn.count + (headers_of m h (nla_items l.a) + headers_of m h (nla_items l.b));
      rises : l.fn.count ≤ l.count;
      room : 4 * l.count + (length l.x + length l.y) ≤ 4 * l.fn.count + (length l.a + length l.b);
    }

abbrev pub decreases-loop-next : goal.decreases-loop-next
decreases-loop-next g l = length l.x
