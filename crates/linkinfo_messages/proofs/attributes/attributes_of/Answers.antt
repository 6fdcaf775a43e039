use Rattle.std.proofs.Common.{refl, ap, ◌∙◌, arith, length}
use Rattle.nla_frame.specs.Walk.{Passes, Fails}
use Rattle.linkinfo_messages.proofs.Locating.{
  room,
  moved,
  damage_moves,
  name_moves,
  name_place_moves,
  info_moves,
  counted_at_end,
  counted_at_damage,
}
use Rattle.linkinfo_messages.proofs.Slicing.{slices_with}
use Rattle.linkinfo_messages.proofs.attributes.attributes_of.Goals as goal

pub with-attributes-requires : goal.with-attributes-requires
with-attributes-requires c =
    let h : Passes c.loop-item.nlas c.in-Ok.nla c.next.new.self =
    (rw c.in-Ok.is at c.in-Some.ensures.steps).steps in
    omega (
      arith,
      room _ _ _ h,
      ap length c.loop-item.invariant.source,
      c.loop-item.invariant.place,
    )

pub loop-item-preserved : goal.loop-item-preserved
loop-item-preserved c =
    let steps = rw c.in-Ok.is at c.in-Some.ensures.steps in
    let h : Passes c.loop-item.nlas c.in-Ok.nla c.next.new.self = steps.steps in
    let kept = c.loop-item.invariant in
    let next = moved _ _ _ _ _ h steps.source kept.place in
    rw c.place.ensures.place (record {
      can_next = tt;
      is_finite = tt;
      source = steps.source ∙ kept.source;
      place = refl;
      damaged = damage_moves _ _ _ _ _ h steps.source kept.place ∙ kept.damaged;
      name = name_moves _ _ _ _ _ _ _ next c.with-attributes.ensures.name kept.name;
      name_place =
          name_place_moves _ _ _ _ _ _ _ next c.with-attributes.ensures.name_place kept.name_place;
      info = info_moves _ _ _ _ _ _ _ next c.with-attributes.ensures.info kept.info;
      slices =
          slices_with _ _ _ _ _ _ _ _ _ _ _ _ _ _ h kept.source kept.place
          c.with-attributes.ensures.name c.with-attributes.ensures.name_place
          c.with-attributes.ensures.info kept.slices;
      examined = kept.examined;
      counted = steps.counted ∙ kept.counted;
    })

pub add-requires : goal.add-requires
add-requires c =
    let kept = c.loop-item.invariant in
    omega (
      arith,
      c.examined.ensures.quarter,
      ap length (c.in-Some.ensures.steps.source ∙ kept.source),
      kept.examined,
      c.requires.count,
    )

pub returns-in_default-item-clause-counted : goal.returns-in_default-item-clause-counted
returns-in_default-item-clause-counted c =
    let steps = rw c.in_default-item.is at c.in-Some.ensures.steps in
    let h : Fails c.loop-item.nlas c.next.new.self = steps.steps in
    let kept = c.loop-item.invariant in
    omega (
      arith,
      counted_at_damage _ _ _ h kept.counted,
      c.examined.ensures.count,
      c.add.ensures,
      kept.examined,
    )

pub returns-in_default-item-clause-quarter : goal.returns-in_default-item-clause-quarter
returns-in_default-item-clause-quarter c =
    let kept = c.loop-item.invariant in
    omega (
      arith,
      c.examined.ensures.quarter,
      ap length (c.in-Some.ensures.steps.source ∙ kept.source),
      c.add.ensures,
      kept.examined,
    )

pub add-requires-2 : goal.add-requires-2
add-requires-2 c =
    let kept = c.loop-item.invariant in
    omega (
      arith,
      c.examined-2.ensures.quarter,
      ap length (c.in_default.ensures.steps.source ∙ kept.source),
      kept.examined,
      c.requires.count,
    )

pub returns-clause-counted : goal.returns-clause-counted
returns-clause-counted c =
    let steps = c.in_default.ensures.steps.steps in
    let kept = c.loop-item.invariant in
    omega (
      arith,
      counted_at_end _ _ _ steps.0 steps.1 kept.counted,
      c.examined-2.ensures.count,
      c.add-2.ensures,
      kept.examined,
    )

pub returns-clause-quarter : goal.returns-clause-quarter
returns-clause-quarter c =
    let kept = c.loop-item.invariant in
    omega (
      arith,
      c.examined-2.ensures.quarter,
      ap length (c.in_default.ensures.steps.source ∙ kept.source),
      c.add-2.ensures,
      kept.examined,
    )
