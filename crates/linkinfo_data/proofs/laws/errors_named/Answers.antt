use Rattle.linkinfo_data.proofs.DataNamed.{data_named}
use Rattle.linkinfo_data.proofs.laws.errors_named.Goals as goal

pub returns : goal.returns
returns g c = data_named _ c.lawful.ensures
