use Rattle.std.proofs.Common.{◌∙◌, ◌++◌, ◌-◌, ap, arith, drop, length, map, refl, sym, take, rules}
use Rattle.nla_frame.proofs.Emitting.{fits_inside, framed_after, write_one}
use Rattle.nla_frame.specs.Attribute.{canonical_string}
use Rattle.linkinfo_devices.proofs.nested_emission.+nested_emit.Goals as goal

pub emit_attribute-returns : goal.emit_attribute-returns
emit_attribute-returns g t c =
    let buffer = c.args.buffer.now in
    record {
      taken = search (rules, arith);
      written =
          c.write_frame.ensures
          ∙ framed_after (g.F.RowFamily.canonical c.args.value.now) buffer
          c.nested_emit_payload-len.new.buffer c.nested_emit_payload-len.result (length buffer - 4)
          c.nested_kind.result
          c.nested_emit_payload-len.ensures.taken refl c.nested_kind.ensures c.requires.room
          c.nested_emit_payload-len.ensures.written;
    }

pub emit_list-loop-item-init : goal.emit_list-loop-item-init
emit_list-loop-item-init g t c = record {
  place = omega arith;
  each = fits_inside (map g.F.RowFamily.canonical c.args.items.now) c.requires.fits;
  kept = refl;
  written = refl;
}

pub emit_list-loop-item-preserved : goal.emit_list-loop-item-preserved
emit_list-loop-item-preserved g t c =
    let f = g.F.RowFamily.canonical in
    let x = c.item-item.result in
    let buffer = c.loop-item.buffer in
    let at = c.loop-item.place in
    let tail = take (length buffer - at) (drop at buffer) in
    write_one f c.args.items.now c.loop-item.item-index
    at c.args.buffer.now buffer c.loop-item.invariant
    (omega (arith, c.requires.room, c.loop-item.auto.buffer)) x c.loop-item-test.true c.item-item.is
    c.emit_attribute-place.result c.emit_attribute-place.ensures.taken
    (length buffer - at) refl c.emit_attribute-place.new.buffer
    (c.emit_attribute-place.ensures.written
    ∙ ap (λ k. canonical_string (f x) ++ drop k tail) (sym c.emit_attribute-place.ensures.taken))
