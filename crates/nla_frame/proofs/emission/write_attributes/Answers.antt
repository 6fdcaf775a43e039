use Rattle.std.proofs.Common.{arith, ◌-◌, length, ap, ◌∙◌, sym, take, drop, ◌++◌, refl}
use Rattle.nla_frame.specs.Attribute.{canonical_string}
use Rattle.nla_frame.proofs.Emitting.{write_one}
use Rattle.nla_frame.proofs.emission.write_attributes.Goals as goal

pub loop-item-preserved : goal.loop-item-preserved
loop-item-preserved g c =
    let f = g.T.Nla.attribute in
    let x = c.item-item.result in
    let buffer = c.loop-item.buffer in
    let at = c.loop-item.place in
    let tail = take (length buffer - at) (drop at buffer) in
    write_one f c.args.items.now c.loop-item.item-index
    at c.args.buffer.now buffer c.loop-item.invariant
    (omega (arith, c.requires.room, c.loop-item.auto.buffer)) x c.loop-item-test.true c.item-item.is
    c.write_attribute-place.result c.write_attribute-place.ensures.taken
    (length buffer - at) refl c.write_attribute-place.new.buffer
    (c.write_attribute-place.ensures.written
    ∙ ap (λ k. canonical_string (f x) ++ drop k tail) (sym c.write_attribute-place.ensures.taken))
