-- The first attribute that is left, and those after it; or none, and none is left.
use Rattle.std.proofs.Common.{arith, sym, ◌∙◌}
use Rattle.linkinfo_table.proofs.UnmetOrder.{none_left}
use Rattle.linkinfo.specs.Unmets.{unmets_of}
use Rattle.linkinfo.proofs.AllUnmets.{found_by, goes_on_by, progress}
use Rattle.linkinfo.proofs.unmet_walk.UnmetAttributesIterator.next.Goals as goal

pub returns-in_err-unmet-clause-steps : goal.returns-in_err-unmet-clause-steps
returns-in_err-unmet-clause-steps c =
    let w = c.self.inside in
    let none =
    none_left w.from (unmets_of w.is_typed w.have.now w.want.now)
    (sym c.next_in.ensures ∙ c.in_err-unmet.was) in
    rw (c.from_residual.ensures, ← c.self.view_is) (none, none)

pub overflow_add-self : goal.overflow_add-self
overflow_add-self c =
    let w = c.self.inside in
    omega (
      arith,
      found_by w.is_typed w.have.now w.want.now w.from c.in_ok-unmet.unmet
          (sym c.next_in.ensures ∙ c.in_ok-unmet.was),
    )

pub returns-clause-steps : goal.returns-clause-steps
returns-clause-steps c =
    let w = c.self.inside in
    rw (← c.self.view_is)
    (goes_on_by w.is_typed w.have.now w.want.now w.from c.in_ok-unmet.unmet
    (sym c.next_in.ensures ∙ c.in_ok-unmet.was))

pub returns-clause-goes : goal.returns-clause-goes
returns-clause-goes c = progress _ _ _ (returns-clause-steps c)
