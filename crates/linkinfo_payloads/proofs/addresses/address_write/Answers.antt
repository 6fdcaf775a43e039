-- The attribute of an address more is the first of those that follow.
use Rattle.std.proofs.Common.{
  ◌≡◌,
  ◌∷◌,
  ◌+◌,
  ◌-◌,
  ◌++◌,
  Ok,
  ap,
  arith,
  drop,
  length,
  refl,
  rules,
  subst,
  sym,
  take,
  ◌∙◌,
}
use Rattle.std.specs.Prelude.{IsOk}
use Rattle.nla_frame.specs.Attribute.{Attribute, canonical_string}
use Rattle.nla_frame.specs.NlaItems.{nla_items}
use Rattle.nla_frame.proofs.Emitting.{length-canonical_string, write_text}
use Rattle.linkinfo_payloads.specs.Addresses.{addresses}
use Rattle.linkinfo_payloads.proofs.AddressSteps.{accepted_on, written_from}
use Rattle.linkinfo_payloads.proofs.addresses.address_write.Goals as goal

pub loop-next-preserved : goal.loop-next-preserved
loop-next-preserved g c =
    let width = g.A.Fixed.WIDTH in
    let of = g.A.Fixed.value_of in
    let bytes = g.A.Fixed.bytes_of in
    let holds = g.A.Fixed.holds in
    let fixed = g.met.A.Fixed.fixed in
    let more = nla_items c.unwrap-nla.result.1.now in
    let nla = c.unwrap-nla.result.0 in
    let k = c.loop-next.index in
    let buffer = c.loop-next.buffer in
    let at = c.loop-next.place in
    let on : nla_items c.loop-next.rest.now ≡ Ok nla ∷ more = search rules in
    let accepted =
    accepted_on width of bytes holds fixed nla more
    (subst (λ ps. IsOk (addresses width of ps)) on c.loop-next.invariant.accepted) in
    let same = c.value.ensures.value in
    let a : Attribute = record { kind = k; value = c.value.result.now } in
    let wrote = c.write_bytes_attribute-place.ensures in
    let tail = take (length buffer - at) (drop at buffer) in
    let left = written_from width of bytes (k + 1) more in
    record {
      accepted = accepted.others;
      so_far =
          write_text (written_from width of bytes 0 (nla_items c.args.payload.now))
          (written_from width of bytes k (nla_items c.loop-next.rest.now))
          (canonical_string a) left at c.args.buffer.now buffer c.loop-next.invariant.so_far
          (ap (λ ps. written_from width of bytes k ps) on
          ∙ accepted.written c.value.ensures.attribute k
          ∙ ap (λ v. canonical_string (record { kind = k; value = v }) ++ left) (sym same))
          (omega (arith, c.requires.room, c.loop-next.auto.buffer))
          c.write_bytes_attribute-place.result
          (wrote.taken ∙ sym (length-canonical_string a)) (length buffer - at) refl
          c.write_bytes_attribute-place.new.buffer
          (wrote.written ∙ ap (λ n. canonical_string a ++ drop n tail) (sym wrote.taken));
      few =
          omega (
            arith,
            c.loop-next.invariant.few,
            wrote.taken,
            ap length same,
            accepted.long,
            g.met.A.Address.some,
          );
      room = search (rules, arith);
    }
