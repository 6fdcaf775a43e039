use Rattle.linkinfo.proofs.Whole.{reading_no_memory}
use Rattle.linkinfo.proofs.laws.no_memory.Goals as goal

pub returns : goal.returns
returns g c = λ s. reading_no_memory g.P.DataLayer.families c.families_lawful.ensures s
