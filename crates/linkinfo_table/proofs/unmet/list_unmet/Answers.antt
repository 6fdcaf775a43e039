use Rattle.std.proofs.Common.{sym, ◌∙◌}
use Rattle.linkinfo_table.specs.Last.{attributes_of}
use Rattle.linkinfo_table.specs.Unmets.{attribute_unmets, found_unmets}
use Rattle.linkinfo_table.proofs.AllUnmets.{first_lasts}
use Rattle.linkinfo_table.proofs.unmet.list_unmet.Goals as goal

-- by the last attribute of each type, first from an offset on, then all
pub returns-else-IS_SET-clause-unmet : goal.returns-else-IS_SET-clause-unmet
returns-else-IS_SET-clause-unmet g c =
    let family = g.F.LinkFamily in
    rw (sym c.if-IS_SET.ensures)
    (c.lasts_unmet.ensures.unmet
    ∙ first_lasts c.args.from
    (found_unmets family.FAMILY
    (attribute_unmets (family.contents c.args.ctx) family.FAMILY (family.alike c.args.ctx)))
    (attributes_of c.args.have.now) (attributes_of c.args.want.now))
