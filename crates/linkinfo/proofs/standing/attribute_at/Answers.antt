use Rattle.std.specs.Prelude.{Option}
use Rattle.std.proofs.Common.{ap, arith, length, sym, ◌∙◌, ◌-◌, List, ℕ}
use Rattle.nla_frame.specs.declared.error.Family.TheVariants as family
use Rattle.linkinfo_shapes.specs.declared.shape.Shape.{Shape}
use Rattle.linkinfo_names.proofs.Under.{at_header, broken, ended, in_padding, next, within}
use Rattle.linkinfo.specs.Roles.{role_at, role_of}
use Rattle.linkinfo.specs.Standing.{
  inside_at,
  link_shape,
  own_at,
  stands_from,
  stands_in_role,
}
use Rattle.linkinfo.specs.Strings.{next_kinds}
use Rattle.linkinfo.specs.declared.role.CurrentKinds.{CurrentKinds}
use Rattle.linkinfo.specs.declared.role.Role.{Role}
use Rattle.linkinfo.proofs.AtOffsets.{from_start, next_is, placed}
use Rattle.linkinfo.proofs.standing.attribute_at.Goals as goal

pub loop-step-init : goal.loop-step-init
loop-step-init c = record {
  left = from_start c.none-kinds.result c.args.list.now c.args.offset c.none-kinds.ensures;
  room = omega (arith, c.new-count.ensures);
}

pub returns-in_default-step : goal.returns-in_default-step
returns-in_default-step c =
    let breaks = rw c.in_default-step.is at c.in-Some.ensures in
    sym (broken own_at inside_at next_kinds c.loop-step.kinds _ c.loop-step.left _ _ _ breaks)
    ∙ c.loop-step.invariant.left

pub returns : goal.returns
returns c =
    sym
    (ended own_at inside_at next_kinds c.loop-step.kinds _ c.loop-step.left _ _
    c.in_default.ensures)
    ∙ c.loop-step.invariant.left

pub returns-then-left-eq0 : goal.returns-then-left-eq0
returns-then-left-eq0 c =
    let step = rw c.in-Ok.is at c.in-Some.ensures in
    let kinds = c.loop-step.kinds in
    let nla = c.in-Ok.nla in
    ap (λ (shape : Option Shape). placed shape nla)
    (c.link_shape.ensures ∙ ap link_shape c.kind-kind.ensures)
    ∙ sym (at_header own_at inside_at next_kinds kinds nla _ _ _ _ step)
    ∙ ap (λ (n : ℕ). stands_from kinds c.loop-step.rest.now n) (sym c.if-left-eq0.true)
    ∙ c.loop-step.invariant.left

pub returns-then-left-payload : goal.returns-then-left-payload
returns-then-left-payload c =
    let step = rw c.in-Ok.is at c.in-Some.ensures in
    let kinds = c.loop-step.kinds in
    let nla = c.in-Ok.nla in
    let left = c.loop-step.left in
    let value = c.value-payload.ensures.value in
    let long = ap length value in
    c.inside.ensures
    ∙ ap (λ (r : Role). stands_in_role r c.value-payload.result.now left)
    (c.role_of-role.ensures ∙ ap (λ (k : ℕ). role_of kinds k) c.kind-kind.ensures)
    ∙ ap (λ (p : List ℕ). stands_in_role (role_at kinds nla) p left) value
    ∙ sym
    (within own_at inside_at next_kinds kinds nla _ _ _ _ step left
    (omega (arith, c.if-left-eq0.false)) (omega (arith, c.if-left-payload.true, long)))
    ∙ c.loop-step.invariant.left

pub returns-then-left-size : goal.returns-then-left-size
returns-then-left-size c =
    let step = rw c.in-Ok.is at c.in-Some.ensures in
    let long = ap length c.value-payload.ensures.value in
    sym
    (in_padding own_at inside_at next_kinds c.loop-step.kinds c.in-Ok.nla _ _ _ _ step
    c.loop-step.left (omega (arith, c.if-left-eq0.false))
    (omega (arith, c.if-left-payload.false, long)) c.if-left-size.true)
    ∙ c.loop-step.invariant.left

pub loop-step-preserved : goal.loop-step-preserved
loop-step-preserved c =
    let step = rw c.in-Ok.is at c.in-Some.ensures in
    let kinds = c.loop-step.kinds in
    let nla = c.in-Ok.nla in
    let after = c.in-Ok.after.now in
    let rest = c.loop-step.rest.now in
    let left = c.loop-step.left in
    let long = ap length c.value-payload.ensures.value in
    let role_is =
    c.role_of-role.ensures ∙ ap (λ (k : ℕ). role_of kinds k) c.kind-kind.ensures in
    let kinds_are =
    next_is kinds nla _ _ _ role_is c.kinds_after-next.ensures c.unwrap_or-kinds.ensures in
    record {
      left =
          ap (λ (t : CurrentKinds). stands_from t after (left - (length rest - length after)))
          kinds_are
          ∙ sym
          (next own_at inside_at next_kinds kinds nla rest after _ _ step left
          (omega (arith, c.if-left-eq0.false)) (omega (arith, c.if-left-payload.false, long))
          (omega (arith, c.if-left-size.false)))
          ∙ c.loop-step.invariant.left;
      room = omega (arith, step.counted, step.room, c.loop-step.invariant.room);
    }
