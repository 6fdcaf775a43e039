use Rattle.std.proofs.Common.{
  ◌∙◌,
  ◌-◌,
  ◌≤◌,
  ◌++◌,
  List,
  ℕ,
  drop,
  length,
  refl,
  sym,
  subst,
  rules,
  arith,
}
use Rattle.nla_frame.specs.Attribute.{Attribute, buffer_len_of, canonical_string}
use Rattle.nla_frame.specs.Canonical.{bytes_for}
use Rattle.nla_frame.proofs.Emitting.{framed_after}
use Rattle.linkinfo_table.proofs.payload_calls.write_framed.Goals as goal

pub returns : goal.returns
returns g c =
    let buffer = c.args.buffer.now in
    let a : ℕ → List ℕ → Attribute = λ n p.
    record {
      kind = n;
      value = bytes_for g.R.Payload.LinkPayload.canon (g.R.Payload.LinkPayload.means p);
    } in
    let number = c.payload_kind.result in
    let room =
    subst (λ (p : List ℕ). buffer_len_of (a number p) ≤ length buffer) (sym c.value.ensures.value)
    c.requires.room in
    record {
      taken = search (rules, arith);
      written =
          c.write_frame.ensures
          ∙ framed_after (a number c.value.result.now) buffer c.write_canonical-len.new.buffer
          c.write_canonical-len.result (length buffer - 4) number
          c.write_canonical-len.ensures.taken refl refl room
          c.write_canonical-len.ensures.written
          ∙ (λ i.
          let b = a (c.payload_kind.ensures i) (c.value.ensures.value i) in
          canonical_string b ++ drop (buffer_len_of b) buffer);
    }
