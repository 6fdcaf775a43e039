use Rattle.linkinfo_print.proofs.Kept.{has_each, keeps_others, keeps_shown}
use Rattle.linkinfo_print.proofs.laws.nothing_hidden.Goals as goal

pub returns-clause-each : goal.returns-clause-each
returns-clause-each c = has_each

pub returns-clause-shown : goal.returns-clause-shown
returns-clause-shown c = keeps_shown

pub returns-clause-others : goal.returns-clause-others
returns-clause-others c = keeps_others
