use Rattle.std.proofs.Common.{arith}
use Rattle.linkinfo_table.specs.ReadingLaws.{list_means, list_has_error, list_decided}
use Rattle.linkinfo_table.proofs.laws.list_framed.Goals as goal

pub returns-clause-means : goal.returns-clause-means
returns-clause-means g c = λ xs.
    list_means (λ _ a. g.F.LinkFamily.meaning c.args.ctx a) (λ t _. t) (tt {0}) c.args.bytes.now xs
    (λ i. omega (arith, c.type_inv.bytes i))

pub returns-clause-rejected : goal.returns-clause-rejected
returns-clause-rejected g c = λ e.
    list_has_error (λ _ a. g.F.LinkFamily.meaning c.args.ctx a) (λ t _. t) (tt {0}) c.args.bytes.now
    e (λ i. omega (arith, c.type_inv.bytes i))

pub returns-clause-decided : goal.returns-clause-decided
returns-clause-decided g c =
    list_decided (λ _ a. g.F.LinkFamily.meaning c.args.ctx a) (λ t _. t) (tt {0}) c.args.bytes.now
    (λ i. omega (arith, c.type_inv.bytes i))
