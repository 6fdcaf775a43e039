use Rattle.std.proofs.Common.{◌∙◌, ◌-◌, length, refl, rules, arith}
use Rattle.nla_frame.specs.Attribute.{Attribute}
use Rattle.nla_frame.proofs.Emitting.{framed_after}
use Rattle.nla_frame.proofs.emission.write_bytes_attribute.Goals as goal

pub returns : goal.returns
returns c =
    let buffer = c.args.buffer.now in
    let a : Attribute = record { kind = c.args.kind; value = c.args.value.now } in
    record {
      taken = search (rules, arith);
      written =
          c.write_frame.ensures
          ∙ framed_after a buffer c.write_bytes-len.new.buffer c.write_bytes-len.result
          (length buffer - 4)
          c.args.kind c.write_bytes-len.ensures.taken refl refl c.requires.room
          c.write_bytes-len.ensures.written;
    }
