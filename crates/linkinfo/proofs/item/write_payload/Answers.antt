use Rattle.std.proofs.Common.{◌∙◌, ◌-◌, length, refl, rules, arith}
use Rattle.nla_frame.specs.Attribute.{Attribute}
use Rattle.nla_frame.proofs.Emitting.{framed_after}
use Rattle.linkinfo.proofs.item.write_payload.Goals as goal

pub returns : goal.returns
returns g c =
    let buffer = c.args.buffer.now in
    let a : Attribute = record {
      kind = c.args.kind;
      value = (g.F.PayloadFamily.data_of c.args.family).canonical c.args.payload.now;
    } in
    let payload = c.write_canonical_payload-len in
    record {
      taken = search (rules, arith);
      written =
          c.write_frame.ensures
          ∙ framed_after a buffer payload.new.buffer payload.result (length buffer - 4) c.args.kind
          payload.ensures.taken refl refl c.requires.room payload.ensures.written;
    }
