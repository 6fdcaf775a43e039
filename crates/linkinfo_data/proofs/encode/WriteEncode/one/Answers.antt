-- The encoding of one attribute is as long as the attribute's buffer must be.
use Rattle.std.proofs.Common.{◌∙◌, ◌++◌, ap, arith, drop, sym, ℕ}
use Rattle.nla_frame.specs.Attribute.{canonical_string}
use Rattle.nla_frame.proofs.Emitting.{length-canonical_string}
use Rattle.linkinfo_data.proofs.encode.WriteEncode.one.Goals as goal

pub write_attribute-requires-clause-room : goal.write_attribute-requires-clause-room
write_attribute-requires-clause-room g c = omega (
  arith,
  c.requires.1,
  length-canonical_string (g.T.Nla.attribute c.args.nla.now),
)

pub returns : goal.returns
returns g c =
    let a = g.T.Nla.attribute c.args.nla.now in
    let writes = c.write_attribute.ensures in
    record {
      taken = writes.taken ∙ sym (length-canonical_string a);
      written =
          writes.written
          ∙ ap (λ (n : ℕ). canonical_string a ++ drop n c.args.buffer.now)
          (sym (length-canonical_string a));
    }
