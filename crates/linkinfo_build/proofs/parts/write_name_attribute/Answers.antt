use Rattle.std.proofs.Common.{◌-◌, ◌∙◌, ap, arith, length, refl, rules}
use Rattle.nla_frame.proofs.Emitting.{framed_after}
use Rattle.linkinfo_build.proofs.LinkParts.{name_bytes, name_fits}
use Rattle.linkinfo_build.proofs.parts.write_name_attribute.Goals as goal

pub write_frame-requires-clause-fits : goal.write_frame-requires-clause-fits
write_frame-requires-clause-fits c = omega (
  arith,
  c.write_name_payload-len.ensures.taken,
  ap length (name_bytes c.args.name.now c.requires.fits),
  (name_fits c.args.name.now c.requires.fits).1,
)

pub returns : goal.returns
returns c =
    let buffer = c.args.buffer.now in
    record {
      taken = search (rules, arith);
      written =
          c.write_frame.ensures
          ∙ framed_after _ buffer c.write_name_payload-len.new.buffer
          c.write_name_payload-len.result (length buffer - 4) c.args.kind
          c.write_name_payload-len.ensures.taken refl refl c.requires.room
          c.write_name_payload-len.ensures.written;
    }
