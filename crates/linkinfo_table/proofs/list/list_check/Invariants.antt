use Rattle.std.proofs.Common.{◌≡◌, ◌+◌, ◌*◌, ◌≤◌, length}
use Rattle.nla_frame.specs.Answers.{verdict}
use Rattle.nla_frame.specs.NlaItems.{nla_items}
use Rattle.linkinfo_table.specs.Lists.{values, headers_of}
use Rattle.linkinfo_table.proofs.list.list_check.Given as goal

abbrev pub invariant-loop-next : goal.invariant-loop-next
invariant-loop-next g l =
    let m = g.F.LinkFamily.meaning l.ctx in
    let h = g.F.LinkFamily.headers l.ctx in
    let f = g.F.LinkFamily.alike l.ctx in
    let needs = g.F.LinkFamily.needs_memory l.ctx in
    record {
      answer : verdict (values m (nla_items l.rest)) ≡ verdict (values m (nla_items l.bytes));
      counted : l.count + headers_of m h (nla_items l.rest)
          ≡ l.fn.count + headers_of m h (nla_items l.bytes);
      room : 4 * l.count + length l.rest ≤ 4 * l.fn.count + length l.bytes;
    }

abbrev pub decreases-loop-next : goal.decreases-loop-next
decreases-loop-next g l = length l.rest
