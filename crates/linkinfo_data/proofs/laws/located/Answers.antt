use Rattle.linkinfo_data.proofs.Located.{data_located}
use Rattle.linkinfo_data.proofs.laws.located.Goals as goal

pub returns : goal.returns
returns g c = data_located g.P.DataLayer.families c.lawful.ensures
