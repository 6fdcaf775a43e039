use Rattle.linkinfo_table.specs.LookupLaws.{own_family}
use Rattle.nla_frame.specs.Attribute.{masked}
use Rattle.linkinfo_table.proofs.laws.looked_up.Goals as goal

pub returns-clause-says : goal.returns-clause-says
returns-clause-says g c = λ a. g.met.F.LinkFamily.looked_up c.args.ctx a

pub returns-clause-kept : goal.returns-clause-kept
returns-clause-kept g c = λ nla. g.met.F.LinkFamily.keeps nla

pub returns-clause-own_error : goal.returns-clause-own_error
returns-clause-own_error g c = λ a e none h.
    own_family g.F.LinkFamily.FAMILY g.F.LinkFamily.inside g.F.LinkFamily.keeping g.F.Nla.attribute
    g.F.LinkFamily.meaning a (g.F.LinkFamily.lookup c.args.ctx (masked a.kind))
    (g.F.LinkFamily.meaning c.args.ctx a) (g.met.F.LinkFamily.looked_up c.args.ctx a) none e
    h
