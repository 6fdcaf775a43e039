use Rattle.std.proofs.Common.{arith}
use Rattle.linkinfo.proofs.MetAlike.{alike_met, alike_turned}
use Rattle.linkinfo.proofs.unmet_laws.same_is_met.Goals as goal

pub returns : goal.returns
returns g c = λ first second same.
    let layer = g.P.DataLayer.families in
    let bytes = c.args.bytes.now in
    let other = c.args.other.now in
    let turned =
    alike_turned layer c.families_lawful.ensures bytes other
    (λ i. omega (arith, c.type_inv.bytes i))
    (λ i. omega (arith, c.type_inv.other i)) first second same in (
      alike_met layer c.families_lawful.ensures bytes other first same,
      alike_met layer c.families_lawful.ensures other bytes second turned,
    )
