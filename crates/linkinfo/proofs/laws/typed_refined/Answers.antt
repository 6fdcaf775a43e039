-- no data of the typed layer is a set
use Rattle.linkinfo_data.specs.TypedLayer.{typed_has_no_sets}
use Rattle.linkinfo.proofs.laws.typed_refined.Goals as goal

pub returns-clause-met : goal.returns-clause-met
returns-clause-met c = λ want e. c.refined.ensures.met typed_has_no_sets want e
