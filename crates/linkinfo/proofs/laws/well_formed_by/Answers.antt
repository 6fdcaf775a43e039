use Rattle.linkinfo.proofs.Stated.{list_stated}
use Rattle.linkinfo.proofs.laws.well_formed_by.Goals as goal

pub returns : goal.returns
returns g c = list_stated _ _ c.well_formed_by.ensures
