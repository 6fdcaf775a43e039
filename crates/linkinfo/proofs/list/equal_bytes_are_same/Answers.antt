use Rattle.std.proofs.Common.{arith}
use Rattle.linkinfo.proofs.Whole.{same_of_equal}
use Rattle.linkinfo.proofs.list.equal_bytes_are_same.Goals as goal

pub returns : goal.returns
returns g c = λ equal accepted.
    same_of_equal g.P.DataLayer.families c.families_lawful.ensures c.args.a.now
    c.args.b.now (λ i. omega (arith, c.type_inv.a i)) (λ i. omega (arith, c.type_inv.b i)) equal
    accepted
