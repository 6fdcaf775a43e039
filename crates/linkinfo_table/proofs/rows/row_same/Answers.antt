use Rattle.std.proofs.Common.{◌∙◌, sym}
use Rattle.nla_frame.specs.Attribute.{masked}
use Rattle.linkinfo_table.proofs.RowAnswers.{
  flat_at,
  accepted_at,
  alike_at,
  alike_typed,
  alike_refused,
  alike_kept,
}
use Rattle.linkinfo_table.proofs.rows.row_same.Goals as goal

pub typed_same-requires-clause-first : goal.typed_same-requires-clause-first
typed_same-requires-clause-first g c =
    let rows = g.F.RowFamily.rows c.args.ctx in
    let a = c.args.a.now in
    let k = c.kind.result in
    let at = c.kind.ensures in
    let flat = flat_at rows k (masked a.kind) at c.requires.flat in
    let is = sym c.shape.ensures ∙ c.in-Is.is in
    accepted_at g.F.RowFamily.FAMILY g.F.RowFamily.other rows a k c.in-Is.shape
    at flat is c.requires.first

pub typed_same-requires-clause-second : goal.typed_same-requires-clause-second
typed_same-requires-clause-second g c = λ same.
    let rows = g.F.RowFamily.rows c.args.ctx in
    let a = c.args.a.now in
    let k = c.kind.result in
    let at = c.kind.ensures in
    let flat = flat_at rows k (masked a.kind) at c.requires.flat in
    let is = sym c.shape.ensures ∙ c.in-Is.is in
    accepted_at g.F.RowFamily.FAMILY g.F.RowFamily.other rows c.args.b.now k c.in-Is.shape
    (at ∙ sym same) flat is c.requires.second

pub returns-in-Is : goal.returns-in-Is
returns-in-Is g c =
    let rows = g.F.RowFamily.rows c.args.ctx in
    let a = c.args.a.now in
    let k = c.kind.result in
    let at = c.kind.ensures in
    let flat = flat_at rows k (masked a.kind) at c.requires.flat in
    let is = sym c.shape.ensures ∙ c.in-Is.is in
    alike_at rows a c.args.b.now k _
    at (c.typed_same.ensures ∙ alike_typed (rows k) a c.args.b.now c.in-Is.shape flat is)

pub returns-in-Refused : goal.returns-in-Refused
returns-in-Refused g c =
    let rows = g.F.RowFamily.rows c.args.ctx in
    let a = c.args.a.now in
    let k = c.kind.result in
    let at = c.kind.ensures in
    alike_at rows a c.args.b.now k _
    at (alike_refused (rows k) a c.args.b.now c.in-Refused.field-0
    (sym c.shape.ensures ∙ c.in-Refused.is))

pub returns-in-Unknown : goal.returns-in-Unknown
returns-in-Unknown g c =
    let rows = g.F.RowFamily.rows c.args.ctx in
    let a = c.args.a.now in
    let k = c.kind.result in
    let at = c.kind.ensures in
    alike_at rows a c.args.b.now k _
    at (c.kept_same.ensures
    ∙ alike_kept (rows k) a c.args.b.now (sym c.shape.ensures ∙ c.in-Unknown.is))
