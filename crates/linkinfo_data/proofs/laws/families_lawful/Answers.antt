use Rattle.linkinfo_data.proofs.laws.families_lawful.Goals as goal

pub returns : goal.returns
returns g c = c.lawful.ensures
