use Rattle.linkinfo_table.specs.ErrorNames.{names, names_first, names_list}
use Rattle.linkinfo_table.proofs.laws.errors_named.Goals as goal

pub returns : goal.returns
returns g c =
    let f = g.F.LinkFamily in
    let says = g.met.F.LinkFamily.looked_up in
    record {
      attribute = names f.FAMILY f.inside f.keeping g.F.Nla.attribute f.lookup f.meaning says;
      list = names_list f.FAMILY f.inside f.keeping g.F.Nla.attribute f.lookup f.meaning says;
      first = names_first f.FAMILY f.inside f.keeping g.F.Nla.attribute f.lookup f.meaning says;
    }
