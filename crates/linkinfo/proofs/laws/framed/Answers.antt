use Rattle.std.proofs.Common.{arith}
use Rattle.linkinfo_table.specs.ReadingLaws.{list_means, list_has_error, list_decided}
use Rattle.linkinfo.specs.Items.{link_meaning}
use Rattle.linkinfo.specs.Roles.{no_kinds}
use Rattle.linkinfo.specs.Strings.{next_kinds, reading}
use Rattle.linkinfo.proofs.laws.framed.Goals as goal

pub returns-clause-means : goal.returns-clause-means
unfolding reading
returns-clause-means g c = λ xs.
    list_means (link_meaning g.P.DataLayer.families) next_kinds no_kinds
    c.args.bytes.now xs (λ i. omega (arith, c.type_inv.bytes i))

pub returns-clause-rejected : goal.returns-clause-rejected
unfolding reading
returns-clause-rejected g c = λ e.
    list_has_error (link_meaning g.P.DataLayer.families) next_kinds no_kinds
    c.args.bytes.now e (λ i. omega (arith, c.type_inv.bytes i))

pub returns-clause-decided : goal.returns-clause-decided
returns-clause-decided g c =
    list_decided (link_meaning g.P.DataLayer.families) next_kinds no_kinds
    c.args.bytes.now (λ i. omega (arith, c.type_inv.bytes i))
