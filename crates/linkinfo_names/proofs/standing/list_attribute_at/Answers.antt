use Rattle.std.proofs.Common.{ap, arith, length, sym, ◌∙◌, ◌-◌, List, ℕ}
use Rattle.linkinfo_shapes.specs.Typed.{typed_shape_of}
use Rattle.linkinfo_names.specs.Standing.{family_in, stands_at}
use Rattle.linkinfo_names.proofs.Offsets.{
  broken_step,
  end_step,
  header_step,
  later_step,
  nested_step,
  own_step,
  padding_step,
  single_step,
}
use Rattle.linkinfo_names.proofs.standing.list_attribute_at.Goals as goal

pub returns-then-left-eq0 : goal.returns-then-left-eq0
returns-then-left-eq0 c =
    let step = rw c.in-Ok.is at c.in-Some.ensures in
    sym (own_step c.loop-step.family c.in-Ok.nla _ _ _ _ step)
    ∙ ap (λ (n : ℕ). stands_at c.loop-step.family c.loop-step.rest.now n) (sym c.if-left-eq0.true)
    ∙ c.loop-step.invariant.left

pub returns-then-left-size : goal.returns-then-left-size
returns-then-left-size c =
    let step = rw c.in-Ok.is at c.in-Some.ensures in
    let long = ap length c.value-payload.ensures.value in
    sym
    (padding_step c.loop-step.family c.in-Ok.nla _ _ _ _ step c.loop-step.left
    (omega (arith, c.if-left-eq0.false)) (omega (arith, c.if-left-payload.true, long))
    c.if-left-size.true)
    ∙ c.loop-step.invariant.left

pub returns-then-left-lt4 : goal.returns-then-left-lt4
returns-then-left-lt4 c =
    let step = rw c.in-Ok.is at c.in-Some.ensures in
    sym
    (header_step c.loop-step.family c.in-Ok.nla _ _ _ _ step c.loop-step.left
    (omega (arith, c.if-left-eq0.false)) c.if-left-lt4.true)
    ∙ c.loop-step.invariant.left

pub returns-in_err-family : goal.returns-in_err-family
returns-in_err-family c =
    let step = rw c.in-Ok.is at c.in-Some.ensures in
    let family = c.loop-step.family in
    let long = ap length c.value-payload.ensures.value in
    c.from_residual.ensures
    ∙ sym
    (single_step family c.in-Ok.nla _ _ _ _ step c.loop-step.left
    (omega (arith, c.if-left-eq0.false)) (omega (arith, c.if-left-payload.false, long))
    (ap (λ (k : ℕ). family_in family (typed_shape_of family k)) (sym c.kind.ensures)
    ∙ sym c.family_inside.ensures
    ∙ c.in_err-family.was))
    ∙ c.loop-step.invariant.left

pub loop-step-preserved-then-left-payload : goal.loop-step-preserved-then-left-payload
loop-step-preserved-then-left-payload c =
    let step = rw c.in-Ok.is at c.in-Some.ensures in
    let long = ap length c.value-payload.ensures.value in
    record {
      left =
          sym
          (later_step c.loop-step.family c.in-Ok.nla _ _ _ _ step c.loop-step.left
          (omega (arith, c.if-left-eq0.false)) (omega (arith, c.if-left-payload.true, long))
          (omega (arith, c.if-left-size.false)))
          ∙ c.loop-step.invariant.left;
      room = omega (arith, step.counted, step.room, c.loop-step.invariant.room);
    }

pub loop-step-preserved : goal.loop-step-preserved
loop-step-preserved c =
    let step = rw c.in-Ok.is at c.in-Some.ensures in
    let family = c.loop-step.family in
    let inner = c.in_ok-family.family in
    let value = c.value-payload.ensures.value in
    let long = ap length value in
    record {
      left =
          ap (λ (p : List ℕ). stands_at inner p (c.loop-step.left - 4)) value
          ∙ sym
          (nested_step family c.in-Ok.nla _ _ _ _ step inner c.loop-step.left
          (omega (arith, c.if-left-lt4.false)) (omega (arith, c.if-left-payload.false, long))
          (ap (λ (k : ℕ). family_in family (typed_shape_of family k)) (sym c.kind.ensures)
          ∙ sym c.family_inside.ensures
          ∙ c.in_ok-family.was))
          ∙ c.loop-step.invariant.left;
      room = omega (arith, step.counted, step.room, c.loop-step.invariant.room, long);
    }

pub returns-in_default-step : goal.returns-in_default-step
returns-in_default-step c =
    let breaks = rw c.in_default-step.is at c.in-Some.ensures in
    sym (broken_step c.loop-step.family _ c.loop-step.left _ _ _ breaks)
    ∙ c.loop-step.invariant.left

pub returns : goal.returns
returns c =
    sym (end_step c.loop-step.family _ c.loop-step.left _ _ c.in_default.ensures)
    ∙ c.loop-step.invariant.left
