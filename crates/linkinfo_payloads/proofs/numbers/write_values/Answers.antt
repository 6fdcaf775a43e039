use Rattle.std.proofs.Common.{◌-◌, ◌+◌, ◌++◌, ap, arith, drop, length, refl, sym, take, ◌∙◌}
use Rattle.std.specs.List.{flat_map}
use Rattle.nla_frame.proofs.Emitting.{write_text}
use Rattle.linkinfo_payloads.proofs.Placing.{one_value}
use Rattle.linkinfo_payloads.proofs.numbers.write_values.Goals as goal

pub loop-item-preserved : goal.loop-item-preserved
loop-item-preserved g c =
    let bytes = g.N.Fixed.bytes_of in
    let xs = c.args.items.now in
    let i = c.loop-item.item-index in
    let x = c.item-item.result in
    let buffer = c.loop-item.buffer in
    let at = c.loop-item.place in
    let wrote = c.write-place.ensures.written in
    let tail = take (length buffer - at) (drop at buffer) in
    write_text (flat_map bytes xs) (flat_map bytes (drop i xs)) (bytes x)
    (flat_map bytes (drop (i + 1) xs)) at c.args.buffer.now buffer c.loop-item.invariant
    (one_value bytes xs i x c.loop-item-test.true c.item-item.is)
    (omega (arith, c.requires, c.loop-item.auto.buffer)) c.write-place.result wrote.taken
    (length buffer - at) refl c.write-place.new.buffer
    (wrote.written ∙ ap (λ k. bytes x ++ drop k tail) (sym wrote.taken))
