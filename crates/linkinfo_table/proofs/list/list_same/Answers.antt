use Rattle.std.proofs.Common.{arith}
use Rattle.linkinfo_table.specs.ListLaws.{lists_same}
use Rattle.linkinfo_table.proofs.list.list_same.Goals as goal

pub returns-clause-equal : goal.returns-clause-equal
returns-clause-equal g c =
    lists_same (g.F.LinkFamily.meaning c.args.ctx) (g.F.LinkFamily.alike c.args.ctx)
    (g.met.F.LinkFamily.lawful c.args.ctx).alike_is
    c.args.a.now c.args.b.now (λ i. omega (arith, c.type_inv.a i))
    (λ i. omega (arith, c.type_inv.b i)) c.requires.first c.requires.second
    c.pairs_same.result c.pairs_same.ensures.same
