use Rattle.linkinfo_table.proofs.Layering.{supplied_family}
use Rattle.linkinfo_data.proofs.laws.supplied_lawful.Goals as goal

pub returns : goal.returns
returns g c =
    supplied_family g.F.LinkFamily g.F.Nla.attribute g.met.F.LinkFamily.looked_up
    g.met.F.LinkFamily.lawful tt
