use Rattle.linkinfo.proofs.Meeting.{list_met, string_met}
use Rattle.linkinfo.proofs.unmet_laws.met_by_last.Goals as goal

pub returns-clause-data : goal.returns-clause-data
returns-clause-data g c = λ l inside have want. list_met l inside have want

pub returns-clause-list : goal.returns-clause-list
returns-clause-list g c = λ have want. string_met g.P.DataLayer.families have want
