-- What is not met of a payload, by offsets in the list around it.
use Rattle.std.proofs.Common.{ap, sym, ◌∙◌, Some}
use Rattle.linkinfo_table.specs.Contents.{listed}
use Rattle.linkinfo_table.proofs.AllUnmets.{listed_inside}
use Rattle.linkinfo_table.proofs.list_payload.NlasLinkPayload.unmet.Goals as goal

pub returns-clause-unmet : goal.returns-clause-unmet
returns-clause-unmet g c =
    let family = g.F.LinkFamily in
    rw c.inside.ensures
    (listed_inside
    (listed family.FAMILY (family.meaning tt) (family.alike tt) family.IS_SET) (family.contents tt)
    c.args.from c.from_inside-from.result c.args.want.now c.args.have.now c.value-2.result.now
    c.value.result.now c.in_ok-inside.inside c.value-2.ensures.value c.value.ensures.value
    c.from_inside-from.ensures c.in_ok-inside.ensures.unmet)
