use Rattle.std.proofs.Common.{◌-◌, length, refl, arith, rules}
use Rattle.nla_frame.specs.NlaItems.{nla_items}
use Rattle.linkinfo_table.specs.Lists.{canonical_list}
use Rattle.linkinfo_table.proofs.Writing.{write_next}
use Rattle.linkinfo_table.proofs.list.list_write_canonical.Goals as goal

pub loop-next-preserved : goal.loop-next-preserved
loop-next-preserved g c =
    let m = g.F.LinkFamily.meaning c.args.ctx in
    let attribute = g.F.Nla.attribute in
    let buffer = c.loop-next.buffer in
    let at = c.loop-next.place in
    record {
      accepted = search rules;
      so_far =
          write_next (λ _ a. m a) (λ t _. t) attribute
          (canonical_list attribute m (nla_items c.args.bytes.now)) (tt {0})
          (nla_items c.loop-next.rest.now) c.unwrap-nla.result.0
          (nla_items c.unwrap-nla.result.1.now)
          at c.args.buffer.now buffer c.loop-next.invariant.so_far (search rules)
          c.loop-next.invariant.accepted
          (search (rules, arith)) c.write_canonical-place.result
          c.write_canonical-place.ensures.taken
          (length buffer - at) refl c.write_canonical-place.new.buffer
          c.write_canonical-place.ensures.written;
      room = search (rules, arith);
    }
