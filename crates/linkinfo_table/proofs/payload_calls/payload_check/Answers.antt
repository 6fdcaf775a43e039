use Rattle.std.proofs.Common.{ap, arith, ◌∙◌, length}
use Rattle.nla_frame.specs.Attribute.{masked}
use Rattle.linkinfo_table.specs.TypedRows.{row_means}
use Rattle.linkinfo_table.proofs.RowPayloads.{checked, in_call}
use Rattle.linkinfo_table.proofs.payload_calls.payload_check.Goals as goal

pub returns : goal.returns
returns g c =
    let is = g.met.R.PayloadRow.row_is c.args.ctx in
    let rows = g.F.RowFamily.rows c.args.ctx in
    let a = c.args.nla.now in
    let payload = g.R.Payload.LinkPayload in
    let same = c.value.ensures.value in
    let means =
    row_means rows a g.R.PayloadRow.NUMBER c.requires.row is g.F.RowFamily.FAMILY
    g.F.RowFamily.other
    ∙ in_call g.R.PayloadRow.label payload.means c.FAMILY.result g.F.RowFamily.FAMILY c.kind.result
    (masked a.kind) c.value.result.now a.value c.FAMILY.ensures c.kind.ensures same in
    record {
      answer = checked g.R.PayloadRow.label c.check.result _ _ c.check.ensures.answer means;
      counted = omega (arith, c.check.ensures.counted, ap payload.headers same);
      rises = c.check.ensures.rises;
      quarter = omega (arith, c.check.ensures.quarter, ap length same);
    }
