use Rattle.linkinfo_table.proofs.laws.lawful.Goals as goal

pub returns : goal.returns
returns g c = g.met.F.LinkFamily.lawful
