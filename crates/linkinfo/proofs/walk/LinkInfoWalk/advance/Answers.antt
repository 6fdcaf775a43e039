use Rattle.std.proofs.Common.{refl, sym, ◌∙◌}
use Rattle.linkinfo.proofs.Walking.{none_left, kinds_after_is, own_error, no_header}
use Rattle.linkinfo.proofs.walk.LinkInfoWalk.advance.Goals as goal

pub returns-then-is_some-clause-step : goal.returns-then-is_some-clause-step
returns-then-is_some-clause-step c = (
  refl,
  rw (← c.self.view_is) (none_left c.self.inside.attributes c.self.inside.kinds _
      (sym c.is_some.ensures ∙ c.if-is_some.true)),
)

pub returns-in-Err-kinds_after-clause-step : goal.returns-in-Err-kinds_after-clause-step
returns-in-Err-kinds_after-clause-step c =
    let moves = rw c.in-Ok.is at c.in_ok-nla.ensures.steps in
    rw (← c.self.view_is) (own_error _ _ _ _ _ _ _ (sym c.is_some.ensures ∙ c.if-is_some.false)
    c.place-place.ensures.place moves.steps
    (sym (kinds_after_is _ _ _ _ c.role_of-role.ensures c.kind.ensures)
    ∙ sym c.in-Err-kinds_after.ensures))

pub returns-in-Err-clause-step : goal.returns-in-Err-clause-step
returns-in-Err-clause-step c =
    let moves = rw c.in-Err.is at c.in_ok-nla.ensures.steps in
    rw (← c.self.view_is) (no_header _ _ _ _ _ _ (sym c.is_some.ensures ∙ c.if-is_some.false)
    c.place-place.ensures.place moves)
