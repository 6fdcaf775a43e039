use Rattle.std.proofs.Common.{◌-◌, List, length, refl, subst, ap, arith, rules}
use Rattle.std.specs.List.{AllByRecursion}
use Rattle.nla_frame.specs.Attribute.{Attribute, Fits, list_string}
use Rattle.nla_frame.proofs.Emitting.{all_written}
use Rattle.linkinfo.specs.Items.{written_attribute}
use Rattle.linkinfo.proofs.Writing.{
  left_of,
  measured_more,
  walk_ends,
  walk_goes_on,
  walk_writes,
  write_item,
}
use Rattle.linkinfo.proofs.canonical_into.write_rest.Goals as goal

pub unwrap-nla-requires : goal.unwrap-nla-requires
unwrap-nla-requires g c =
    walk_goes_on g.P.DataLayer.families _ _ c.in-Some.next c.in-Some.ensures.step
    c.loop-next.invariant.accepted

pub write_item-place-requires-clause-accepted : goal.write_item-place-requires-clause-accepted
write_item-place-requires-clause-accepted g c =
    (walk_writes g.P.DataLayer.families c.families_lawful.ensures _ _ c.in-Some.next
    c.unwrap-nla.result (search rules) c.in-Some.ensures.step
    c.loop-next.invariant.accepted).accepted

pub write_item-place-requires-clause-fits : goal.write_item-place-requires-clause-fits
write_item-place-requires-clause-fits g c =
    let step =
    walk_writes g.P.DataLayer.families c.families_lawful.ensures _ _ c.in-Some.next
    c.unwrap-nla.result (search rules) c.in-Some.ensures.step c.loop-next.invariant.accepted in
    (subst (λ (attributes : List Attribute). AllByRecursion Fits attributes) step.whole
    c.loop-next.invariant.each).0

pub write_item-place-requires-clause-room : goal.write_item-place-requires-clause-room
write_item-place-requires-clause-room g c =
    let layer = g.P.DataLayer.families in
    let step =
    walk_writes layer c.families_lawful.ensures _ _ c.in-Some.next c.unwrap-nla.result
    (search rules)
    c.in-Some.ensures.step c.loop-next.invariant.accepted in
    let a = written_attribute layer c.unwrap-nla.result.1 c.unwrap-nla.result.0 in
    let more =
    measured_more c.loop-next.place (left_of layer c.args.walk.now) (left_of layer c.loop-next.walk)
    (left_of layer c.advance.new.self) a c.loop-next.invariant.so_far.place step.whole in
    search (rules, arith)

pub loop-next-preserved : goal.loop-next-preserved
loop-next-preserved g c =
    let layer = g.P.DataLayer.families in
    let buffer = c.loop-next.buffer in
    let at = c.loop-next.place in
    let step =
    walk_writes layer c.families_lawful.ensures _ _ c.in-Some.next c.unwrap-nla.result
    (search rules)
    c.in-Some.ensures.step c.loop-next.invariant.accepted in
    record {
      accepted = step.others;
      each =
          (subst (λ (attributes : List Attribute). AllByRecursion Fits attributes) step.whole
          c.loop-next.invariant.each).1;
      so_far =
          write_item layer (list_string (left_of layer c.args.walk.now)) c.loop-next.walk
          c.advance.new.self c.unwrap-nla.result.0 c.unwrap-nla.result.1
          at c.args.buffer.now buffer step
          c.loop-next.invariant.so_far c.loop-next.invariant.accepted
          (omega (arith, c.requires.room, c.loop-next.auto.buffer)) c.write_item-place.result
          c.write_item-place.ensures.taken
          (length buffer - at) refl c.write_item-place.new.buffer
          c.write_item-place.ensures.written;
    }

pub returns : goal.returns
returns g c =
    let layer = g.P.DataLayer.families in
    let end =
    walk_ends layer c.loop-next.walk c.advance.new.self c.advance.result c.advance.ensures.step
    c.in_default.is in
    all_written (list_string (left_of layer c.args.walk.now))
    (list_string (left_of layer c.loop-next.walk)) c.loop-next.place c.args.buffer.now
    c.loop-next.buffer
    c.loop-next.invariant.so_far (ap list_string end)
