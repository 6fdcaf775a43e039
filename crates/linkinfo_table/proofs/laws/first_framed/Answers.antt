use Rattle.std.proofs.Common.{arith}
use Rattle.linkinfo_table.specs.ReadingLaws.{first_means, first_has_error, first_decided}
use Rattle.linkinfo_table.proofs.laws.first_framed.Goals as goal

pub returns-clause-means : goal.returns-clause-means
returns-clause-means g c = λ x.
    first_means (g.F.LinkFamily.meaning c.args.ctx) c.args.bytes.now x
    (λ i. omega (arith, c.type_inv.bytes i))

pub returns-clause-rejected : goal.returns-clause-rejected
returns-clause-rejected g c = λ e.
    first_has_error (g.F.LinkFamily.meaning c.args.ctx) c.args.bytes.now e
    (λ i. omega (arith, c.type_inv.bytes i))

pub returns-clause-decided : goal.returns-clause-decided
returns-clause-decided g c =
    first_decided (g.F.LinkFamily.meaning c.args.ctx) c.args.bytes.now
    (λ i. omega (arith, c.type_inv.bytes i))
