use Rattle.linkinfo_messages.proofs.Resuming.{advances, continues, in_order}
use Rattle.linkinfo_messages.proofs.laws.resumed.Goals as goal

pub returns-clause-continues : goal.returns-clause-continues
returns-clause-continues c = continues

pub returns-clause-in_order : goal.returns-clause-in_order
returns-clause-in_order c = in_order

pub returns-clause-advances : goal.returns-clause-advances
returns-clause-advances c = advances
