use Rattle.linkinfo_messages.proofs.Linking.{on_end, on_failed}
use Rattle.linkinfo_messages.proofs.links.LinkMessagesIterator.next.Goals as goal

pub returns-then-self-clause-steps : goal.returns-then-self-clause-steps
returns-then-self-clause-steps c = rw (← c.self.view_is) (on_failed _ _ _ _ c.if-self.true)

pub returns-in-Ok-None-clause-steps : goal.returns-in-Ok-None-clause-steps
returns-in-Ok-None-clause-steps c =
    let none = rw c.in-Ok-None.field-0-is at c.in-Ok-None.ensures in
    rw (← c.self.view_is) (on_end _ _ _ _ _ c.if-self.false none)
