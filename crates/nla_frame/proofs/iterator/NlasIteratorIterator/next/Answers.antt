use Rattle.std.proofs.lemmas.List.{take_rest}
use Rattle.nla_frame.proofs.Walking.{on_failed, on_attribute, on_error, progress}
use Rattle.nla_frame.proofs.iterator.NlasIteratorIterator.next.Goals as goal

pub returns-then-self-clause-steps : goal.returns-then-self-clause-steps
returns-then-self-clause-steps c = rw (← c.self.view_is) (on_failed _ _ _ _ c.if-self.true)

pub returns-in-Ok-clause-steps : goal.returns-in-Ok-clause-steps
returns-in-Ok-clause-steps c =
    let step = rw c.in-Ok.is at c.in_ok-nla.ensures in
    rw (← c.self.view_is) (on_attribute _ _ _ _ _ _ _ _
    (take_rest c.self.inside.bytes.now c.self.inside.place) c.self.invariant.0 c.if-self.false step)

pub returns-in-Err-clause-steps : goal.returns-in-Err-clause-steps
returns-in-Err-clause-steps c =
    let step = rw c.in-Err.is at c.in_ok-nla.ensures in
    rw (← c.self.view_is) (on_error _ _ _ _ _ _ _
    (take_rest c.self.inside.bytes.now c.self.inside.place) c.if-self.false step)

pub returns-in-Err-clause-goes : goal.returns-in-Err-clause-goes
returns-in-Err-clause-goes c = progress _ _ _ (returns-in-Err-clause-steps c)
