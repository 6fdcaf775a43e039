use Rattle.std.proofs.Common.{sym, ap, arith, ◌∙◌, length}
use Rattle.nla_frame.specs.Attribute.{masked}
use Rattle.linkinfo_table.specs.TypedRows.{row_means, row_needs}
use Rattle.linkinfo_table.proofs.RowPayloads.{certain_value, gives_value, in_call, on_value}
use Rattle.linkinfo_table.proofs.payload_calls.payload_read.Goals as goal

pub returns : goal.returns
returns g c =
    let is = g.met.R.PayloadRow.row_is c.args.ctx in
    let rows = g.F.RowFamily.rows c.args.ctx in
    let number = g.R.PayloadRow.NUMBER in
    let a = c.args.nla.now in
    let payload = g.R.Payload.LinkPayload in
    let label = g.R.PayloadRow.label in
    let same = c.value.ensures.value in
    let read = c.read.ensures in
    let made = c.wrap_result.ensures in
    let means =
    row_means rows a number c.requires.row is g.F.RowFamily.FAMILY g.F.RowFamily.other
    ∙ in_call label payload.means c.FAMILY.result g.F.RowFamily.FAMILY c.kind.result
    (masked a.kind) c.value.result.now a.value c.FAMILY.ensures c.kind.ensures same in
    let needs =
    row_needs rows a number c.requires.row is ∙ ap payload.needs_memory (sym same) in
    record {
      answer = gives_value label c.read.result _ c.wrap_result.result _ made means read.answer;
      certain =
          certain_value label c.read.result _ c.wrap_result.result _ made means _ _ needs
          read.certain;
      counted =
          on_value label c.read.result _ c.wrap_result.result _ made means
          (λ counted. omega (arith, counted, ap payload.headers same)) read.counted;
      rises = read.rises;
      quarter = omega (arith, read.quarter, ap length same);
    }
