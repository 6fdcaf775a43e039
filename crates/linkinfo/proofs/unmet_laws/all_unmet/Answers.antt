use Rattle.linkinfo.proofs.AllUnmets.{all_in_order, no_unmets, strings_first}
use Rattle.linkinfo.proofs.unmet_laws.all_unmet.Goals as goal

pub returns-clause-first : goal.returns-clause-first
returns-clause-first g c = λ have want. strings_first g.P.DataLayer.families have want

pub returns-clause-order : goal.returns-clause-order
returns-clause-order g c = λ have want. all_in_order g.P.DataLayer.families have want

pub returns-clause-none : goal.returns-clause-none
returns-clause-none g c = λ have want. no_unmets g.P.DataLayer.families have want
