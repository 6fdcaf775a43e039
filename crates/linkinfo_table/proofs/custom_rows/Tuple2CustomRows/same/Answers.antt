use Rattle.std.proofs.Common.{arith, sym, ◌∙◌, ◌≡◌}
use Rattle.nla_frame.specs.Attribute.{masked}
use Rattle.linkinfo_table.proofs.RowPayloads.{alike_types, either_at, either_other, on_true}
use Rattle.linkinfo_table.proofs.custom_rows.Tuple2CustomRows.same.Goals as goal

pub returns-then-kind-NUMBER : goal.returns-then-kind-NUMBER
returns-then-kind-NUMBER g c =
    let a = c.args.a.now in
    let b = c.args.b.now in
    let number = g.R.PayloadRow.NUMBER in
    let inside = g.R.Payload.LinkPayload.headers in
    let others = g.Rest.CustomRows.headers in
    let at = sym c.kind.ensures ∙ c.if-kind-NUMBER.true ∙ c.NUMBER.ensures in
    let same = c.payload_same.ensures.same in
    record {
      same = same;
      counted =
          on_true c.payload_same.result (λ t counted.
          let types = alike_types (g.F.RowFamily.rows c.args.ctx) a b (sym same ∙ t) in
          omega (
            arith,
            counted,
            either_at number inside others a at,
            either_at number inside others b (types ∙ at),
          )) c.payload_same.ensures.counted;
      rises = c.payload_same.ensures.rises;
      quarter = c.payload_same.ensures.quarter;
    }

pub returns-else-kind-NUMBER : goal.returns-else-kind-NUMBER
returns-else-kind-NUMBER g c =
    let a = c.args.a.now in
    let b = c.args.b.now in
    let number = g.R.PayloadRow.NUMBER in
    let inside = g.R.Payload.LinkPayload.headers in
    let others = g.Rest.CustomRows.headers in
    let other : masked a.kind ≡ number → ⊥ = λ e.
    c.if-kind-NUMBER.false (c.kind.ensures ∙ e ∙ sym c.NUMBER.ensures) in
    let same = c.same.ensures.same in
    record {
      same = same;
      counted =
          on_true c.same.result (λ t counted.
          let types = alike_types (g.F.RowFamily.rows c.args.ctx) a b (sym same ∙ t) in
          omega (
            arith,
            counted,
            either_other number inside others a other,
            either_other number inside others b (λ e. other (sym types ∙ e)),
          )) c.same.ensures.counted;
      rises = c.same.ensures.rises;
      quarter = c.same.ensures.quarter;
    }
