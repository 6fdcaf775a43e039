-- Equivalent attributes have one type, so the list that has the row of one has that of the other,
-- and the headers inside both are counted by the same list.
use Rattle.std.specs.Prelude.{false, true}
use Rattle.std.proofs.Common.{ap, arith, sym, ◌∙◌, ◌≡◌}
use Rattle.std.proofs.lemmas.Bool.{cond-false, cond-true}
use Rattle.nla_frame.specs.Attribute.{masked}
use Rattle.linkinfo_table.proofs.RowPayloads.{alike_types, on_true}
use Rattle.linkinfo_table.proofs.both_rows.BothCustomRows.same.Goals as goal

pub returns-then-owns : goal.returns-then-owns
returns-then-owns g c =
    let a = c.args.a.now in
    let b = c.args.b.now in
    let owned = g.A.CustomRows.owned in
    let at : owned (masked a.kind) ≡ true =
    ap owned (sym c.kind.ensures) ∙ sym c.owns.ensures ∙ c.if-owns.true in
    let same = c.same.ensures.same in
    record {
      same = same;
      counted =
          on_true c.same.result (λ t counted.
          let types = alike_types (g.F.RowFamily.rows c.args.ctx) a b (sym same ∙ t) in
          omega (
            arith,
            counted,
            cond-true (owned (masked a.kind)) (g.A.CustomRows.headers a)
                (g.B.CustomRows.headers a) at,
            cond-true (owned (masked b.kind)) (g.A.CustomRows.headers b)
                (g.B.CustomRows.headers b) (ap owned types ∙ at),
          )) c.same.ensures.counted;
      rises = c.same.ensures.rises;
      quarter = c.same.ensures.quarter;
    }

pub returns-else-owns : goal.returns-else-owns
returns-else-owns g c =
    let a = c.args.a.now in
    let b = c.args.b.now in
    let owned = g.A.CustomRows.owned in
    let other : owned (masked a.kind) ≡ false =
    ap owned (sym c.kind.ensures) ∙ sym c.owns.ensures ∙ c.if-owns.false in
    let step = c.same-else-owns in
    let same = step.ensures.same in
    record {
      same = same;
      counted =
          on_true step.result (λ t counted.
          let types = alike_types (g.F.RowFamily.rows c.args.ctx) a b (sym same ∙ t) in
          omega (
            arith,
            counted,
            cond-false (owned (masked a.kind)) (g.A.CustomRows.headers a)
                (g.B.CustomRows.headers a) other,
            cond-false (owned (masked b.kind)) (g.A.CustomRows.headers b)
                (g.B.CustomRows.headers b) (ap owned types ∙ other),
          )) step.ensures.counted;
      rises = step.ensures.rises;
      quarter = step.ensures.quarter;
    }
