use Rattle.std.proofs.Common.{◌≡◌, ◌+◌, ◌*◌, ◌≤◌, true, length}
use Rattle.nla_frame.specs.NlaItems.{nla_items}
use Rattle.linkinfo_table.specs.Lists.{values, append_to, headers_of, memory_of}
use Rattle.linkinfo_table.proofs.list.list_read.Given as goal

abbrev pub invariant-loop-next : goal.invariant-loop-next
invariant-loop-next g l =
    let m = g.F.LinkFamily.meaning l.ctx in
    let h = g.F.LinkFamily.headers l.ctx in
    let f = g.F.LinkFamily.alike l.ctx in
    let needs = g.F.LinkFamily.needs_memory l.ctx in
    record {
      answer : append_to l.items.items (values m (nla_items l.rest)) ≡ values m (nla_items l.bytes);
      certain : memory_of m needs (nla_items l.bytes) ≡ true;
      counted : l.count + headers_of m h (nla_items l.rest)
          ≡ l.fn.count + headers_of m h (nla_items l.bytes);
      rises : l.fn.count ≤ l.count;
      room : 4 * l.count + length l.rest ≤ 4 * l.fn.count + length l.bytes;
    }

abbrev pub decreases-loop-next : goal.decreases-loop-next
decreases-loop-next g l = length l.rest
