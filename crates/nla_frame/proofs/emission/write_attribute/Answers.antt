use Rattle.std.proofs.Common.{◌∙◌, ◌-◌, length, refl, rules, arith}
use Rattle.nla_frame.proofs.Emitting.{framed_after}
use Rattle.nla_frame.proofs.emission.write_attribute.Goals as goal

pub returns : goal.returns
returns g c =
    let buffer = c.args.buffer.now in
    record {
      taken = search (rules, arith);
      written =
          c.write_frame.ensures
          ∙ framed_after (g.T.Nla.attribute c.args.item.now) buffer c.emit_payload-len.new.buffer
          c.emit_payload-len.result (length buffer - 4) c.kind.result
          c.emit_payload-len.ensures.taken refl c.kind.ensures c.requires.room
          c.emit_payload-len.ensures.written;
    }
