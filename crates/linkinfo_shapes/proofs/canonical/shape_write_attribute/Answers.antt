use Rattle.std.proofs.Common.{◌∙◌, ◌-◌, length, refl, rules, arith}
use Rattle.nla_frame.specs.Attribute.{Attribute}
use Rattle.nla_frame.proofs.Emitting.{framed_after}
use Rattle.linkinfo_shapes.specs.Shapes.{canonical}
use Rattle.linkinfo_shapes.proofs.canonical.shape_write_attribute.Goals as goal

pub returns : goal.returns
returns c =
    let buffer = c.args.buffer.now in
    let a : Attribute = record {
      kind = c.args.kind;
      value = canonical c.args.shape c.args.payload.now;
    } in
    record {
      taken = search (rules, arith);
      written =
          c.write_frame.ensures
          ∙ framed_after a buffer c.shape_write_canonical-len.new.buffer
          c.shape_write_canonical-len.result
          (length buffer - 4) c.args.kind
          c.shape_write_canonical-len.ensures.taken refl refl c.requires.room
          c.shape_write_canonical-len.ensures.written;
    }
