use Rattle.std.proofs.Common.{ap, arith, rules}
use Rattle.nla_frame.specs.NlaItems.{nla_items}
use Rattle.linkinfo_table.specs.Lists.{values}
use Rattle.linkinfo_table.proofs.Measuring.{measured_after}
use Rattle.linkinfo_table.proofs.list.list_measure.Goals as goal

pub loop-next-preserved : goal.loop-next-preserved
loop-next-preserved g c =
    let m = g.F.LinkFamily.meaning c.args.ctx in
    let on = rw c.in_ok-nla.was at c.in-Some.ensures in
    let inv = c.loop-next.invariant in
    record {
      answer = search rules;
      so_far =
          measured_after g.F.Nla.attribute (values m (nla_items c.loop-next.rest.now))
          (values m (nla_items c.in_ok-nla.after.now)) (m c.in_ok-nla.nla) c.loop-next.total
          c.canonical_len.result c.total_with-total.result _ inv.so_far
          (ap (values m) on.nla_items_are) c.in_ok-check_value.ensures.answer
          c.canonical_len.ensures c.total_with-total.ensures;
      room = omega (arith, inv.room, on.counted, on.room, c.check_value.ensures.quarter);
    }
