use Rattle.std.proofs.Common.{arith, sym}
use Rattle.linkinfo_table.proofs.AllUnmets.{none_after}
use Rattle.linkinfo_table.proofs.unmet.found_unmet.Goals as goal

-- nothing of an attribute is after its end
pub returns-then-end-from-clause-unmet : goal.returns-then-end-from-clause-unmet
returns-then-end-from-clause-unmet g c =
    let family = g.F.LinkFamily in
    sym
    (none_after c.args.from (family.contents c.args.ctx) family.FAMILY (family.alike c.args.ctx)
    c.args.have.now c.args.want.now
    (omega (arith, c.if-end-from.true, c.length.ensures)))
