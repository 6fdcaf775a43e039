use Rattle.std.proofs.Common.{arith}
use Rattle.linkinfo.proofs.Whole.{reading_is_well, canonical_reading, appended_reading}
use Rattle.linkinfo.proofs.list.VecLinkInfoOf.parse.Goals as goal

pub returns-clause-well_formed : goal.returns-clause-well_formed
returns-clause-well_formed g c = λ xs e.
    reading_is_well g.P.DataLayer.families c.families_lawful.ensures c.args.bytes.now xs
    (λ i. omega (arith, c.type_inv.bytes i)) e

pub returns-clause-canonical : goal.returns-clause-canonical
returns-clause-canonical g c = λ xs fits e.
    canonical_reading g.P.DataLayer.families c.families_lawful.ensures c.args.bytes.now
    xs (λ i. omega (arith, c.type_inv.bytes i)) fits e

pub returns-clause-appended : goal.returns-clause-appended
returns-clause-appended g c = λ a b xs ys four e h k.
    appended_reading g.P.DataLayer.families c.families_lawful.ensures c.args.bytes.now a
    b xs ys (λ i. omega (arith, c.type_inv.bytes i)) four e h k
