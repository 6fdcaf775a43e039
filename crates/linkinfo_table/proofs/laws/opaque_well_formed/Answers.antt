use Rattle.linkinfo_table.proofs.laws.opaque_well_formed.Goals as goal
use Rattle.linkinfo_table.specs.Conditions.{opaque_stated}

pub returns : goal.returns
returns g c = opaque_stated
