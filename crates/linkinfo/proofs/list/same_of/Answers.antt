use Rattle.std.proofs.Common.{arith}
use Rattle.std.specs.Cmp.Lexicographic.{pointwise_decides}
use Rattle.linkinfo.proofs.Whole.{same_equal, same_answered, same_values}
use Rattle.linkinfo.proofs.list.same_of.Goals as goal

pub returns-clause-equal : goal.returns-clause-equal
returns-clause-equal g c =
    same_equal g.P.DataLayer.families c.families_lawful.ensures c.args.a.now
    c.args.b.now _ (λ i. omega (arith, c.type_inv.a i)) (λ i. omega (arith, c.type_inv.b i))
    c.same_uncounted.ensures.answer

pub returns-clause-values : goal.returns-clause-values
returns-clause-values g c = λ x y h k.
    same_values g.P.DataLayer.families c.families_lawful.ensures c.args.a.now
    c.args.b.now _ x.0 y.0 _ (λ i. omega (arith, c.type_inv.a i))
    (λ i. omega (arith, c.type_inv.b i))
    c.same_uncounted.ensures.answer h k (pointwise_decides c.equality.ensures x.0 y.0)

pub returns-clause-canonical : goal.returns-clause-canonical
returns-clause-canonical g c = λ xs ys h k f e.
    same_answered g.P.DataLayer.families c.families_lawful.ensures c.args.a.now
    c.args.b.now _ xs ys (λ i. omega (arith, c.type_inv.a i)) (λ i. omega (arith, c.type_inv.b i))
    c.same_uncounted.ensures.answer h k f e
