use Rattle.std.proofs.Common.{◌-◌, ◌∙◌, arith, length, refl, rules}
use Rattle.nla_frame.proofs.Emitting.{framed_after}
use Rattle.linkinfo_build.proofs.parts.write_data_attribute.Goals as goal

pub returns : goal.returns
returns c =
    let buffer = c.args.buffer.now in
    record {
      taken = search (rules, arith);
      written =
          c.write_frame.ensures
          ∙ framed_after _ buffer c.write_data_payload-len.new.buffer
          c.write_data_payload-len.result (length buffer - 4) c.args.kind
          c.write_data_payload-len.ensures.taken refl refl c.requires.room
          c.write_data_payload-len.ensures.written;
    }
