use Rattle.linkinfo.proofs.Meeting.{data_itself, string_itself}
use Rattle.linkinfo.proofs.unmet_laws.met_by_itself.Goals as goal

pub returns-clause-data : goal.returns-clause-data
returns-clause-data g c = λ l inside s. data_itself l inside s

pub returns-clause-list : goal.returns-clause-list
returns-clause-list g c = λ s. string_itself g.P.DataLayer.families s
