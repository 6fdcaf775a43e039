-- An address more is the first of those that follow.
use Rattle.std.proofs.Common.{◌+◌, ◌-◌, ◌++◌, ap, arith, drop, length, refl, sym, take, ◌∙◌}
use Rattle.nla_frame.specs.Attribute.{Attribute, canonical_string, list_string}
use Rattle.nla_frame.proofs.Emitting.{length-canonical_string, length-list_string-cons, write_text}
use Rattle.linkinfo_payloads.specs.Addresses.{address_string, numbered}
use Rattle.linkinfo_payloads.proofs.AddressSteps.{numbered_on}
use Rattle.linkinfo_payloads.proofs.addresses.address_emit.Goals as goal

pub write_element-place-requires : goal.write_element-place-requires
write_element-place-requires g c =
    let bytes = g.A.Fixed.bytes_of in
    let xs = c.args.items.now in
    let i = c.loop-item.item-index in
    let k = c.loop-item.index in
    let x = c.item-item.result in
    let on = numbered_on bytes k xs i x c.loop-item-test.true c.item-item.is in
    omega (
      arith,
      ap length on,
      length-list_string-cons (record { kind = k; value = bytes x })
          (numbered bytes (k + 1) (drop (i + 1) xs)),
      c.loop-item.invariant.so_far.place,
      c.requires.room,
      c.loop-item.auto.buffer,
    )

pub loop-item-preserved : goal.loop-item-preserved
loop-item-preserved g c =
    let bytes = g.A.Fixed.bytes_of in
    let xs = c.args.items.now in
    let i = c.loop-item.item-index in
    let k = c.loop-item.index in
    let x = c.item-item.result in
    let a : Attribute = record { kind = k; value = bytes x } in
    let buffer = c.loop-item.buffer in
    let at = c.loop-item.place in
    let wrote = c.write_element-place.ensures.written in
    let tail = take (length buffer - at) (drop at buffer) in
    record {
      so_far =
          write_text (address_string bytes xs) (list_string (numbered bytes k (drop i xs)))
          (canonical_string a) (list_string (numbered bytes (k + 1) (drop (i + 1) xs))) at
          c.args.buffer.now buffer c.loop-item.invariant.so_far
          (numbered_on bytes k xs i x c.loop-item-test.true c.item-item.is)
          (omega (arith, c.requires.room, c.loop-item.auto.buffer)) c.write_element-place.result
          (wrote.taken ∙ sym (length-canonical_string a)) (length buffer - at) refl
          c.write_element-place.new.buffer
          (wrote.written ∙ ap (λ n. canonical_string a ++ drop n tail) (sym wrote.taken));
      few =
          omega (
            arith,
            c.loop-item.invariant.few,
            c.write_element-place.ensures.width,
            g.met.A.Address.some,
          );
    }
