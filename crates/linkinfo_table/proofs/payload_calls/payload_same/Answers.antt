use Rattle.std.proofs.Common.{sym, ap, arith, ◌∙◌, length}
use Rattle.nla_frame.specs.Attribute.{masked}
use Rattle.linkinfo_table.specs.TypedRows.{row_compares, row_means}
use Rattle.linkinfo_table.proofs.RowPayloads.{accepted, on_true, other_type, same_type}
use Rattle.linkinfo_table.proofs.payload_calls.payload_same.Goals as goal

pub same-requires-clause-first : goal.same-requires-clause-first
same-requires-clause-first g c =
    let a = c.args.a.now in
    accepted g.R.PayloadRow.label g.R.Payload.LinkPayload.means g.F.RowFamily.FAMILY (masked a.kind)
    c.value.result.now a.value _ c.value.ensures.value
    (row_means (g.F.RowFamily.rows c.args.ctx) a g.R.PayloadRow.NUMBER c.requires.row
    (g.met.R.PayloadRow.row_is c.args.ctx) g.F.RowFamily.FAMILY g.F.RowFamily.other)
    c.requires.first

pub same-requires-clause-second : goal.same-requires-clause-second
same-requires-clause-second g c =
    let b = c.args.b.now in
    let at = sym c.kind.ensures ∙ c.if-kind.true ∙ c.kind-2.ensures ∙ c.requires.row in
    accepted g.R.PayloadRow.label g.R.Payload.LinkPayload.means g.F.RowFamily.FAMILY (masked b.kind)
    c.value-then-kind.result.now b.value _ c.value-then-kind.ensures.value
    (row_means (g.F.RowFamily.rows c.args.ctx) b g.R.PayloadRow.NUMBER at
    (g.met.R.PayloadRow.row_is c.args.ctx) g.F.RowFamily.FAMILY g.F.RowFamily.other)
    c.requires.second

pub returns-then-kind : goal.returns-then-kind
returns-then-kind g c =
    let payload = g.R.Payload.LinkPayload in
    let a = c.args.a.now in
    let b = c.args.b.now in
    let types = sym c.kind.ensures ∙ c.if-kind.true ∙ c.kind-2.ensures in
    let one = c.value.ensures.value in
    let other = c.value-then-kind.ensures.value in
    let alike =
    row_compares (g.F.RowFamily.rows c.args.ctx) a g.R.PayloadRow.NUMBER c.requires.row
    (g.met.R.PayloadRow.row_is c.args.ctx) b in
    record {
      same =
          c.same.ensures.same
          ∙ (λ i. payload.alike (one i) (other i))
          ∙ same_type (payload.alike a.value b.value) _ (masked a.kind) (masked b.kind) alike types;
      counted =
          on_true c.same.result (λ t counted.
          omega (arith, counted, ap payload.headers one, ap payload.headers other))
          c.same.ensures.counted;
      rises = c.same.ensures.rises;
      quarter = omega (arith, c.same.ensures.quarter, ap length one, ap length other);
    }

pub returns-else-kind : goal.returns-else-kind
returns-else-kind g c =
    let payload = g.R.Payload.LinkPayload in
    let a = c.args.a.now in
    let b = c.args.b.now in
    let alike =
    row_compares (g.F.RowFamily.rows c.args.ctx) a g.R.PayloadRow.NUMBER c.requires.row
    (g.met.R.PayloadRow.row_is c.args.ctx) b in
    record {
      same =
          other_type (payload.alike a.value b.value) _ (masked a.kind) (masked b.kind) alike
          (λ e. c.if-kind.false (c.kind.ensures ∙ e ∙ sym c.kind-2.ensures));
      counted = tt;
      rises = omega arith;
      quarter = omega arith;
    }
