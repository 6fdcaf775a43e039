use Rattle.linkinfo_data.specs.DataLawful.{data_lawful}
use Rattle.linkinfo_data.proofs.laws.families_lawful_by.Goals as goal

pub returns : goal.returns
returns g c = data_lawful _ c.lawful.ensures
