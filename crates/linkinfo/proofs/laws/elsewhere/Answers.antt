-- the families that the layer does not supply have equal answers
use Rattle.linkinfo.proofs.Elsewhere.{layer_answers}
use Rattle.linkinfo.proofs.Supplied.{supplied_is}
use Rattle.linkinfo.proofs.laws.elsewhere.Goals as goal

pub returns-clause-supplied : goal.returns-clause-supplied
returns-clause-supplied g c = λ r. supplied_is r

pub returns-clause-answers : goal.returns-clause-answers
returns-clause-answers g c = λ none.
    layer_answers _ c.families_lawful_by.ensures c.families_lawful.ensures c.args.bytes.now none
