use Rattle.std.proofs.Common.{ap, refl, ◌∙◌, Bool}
use Rattle.nla_frame.specs.Attribute.{masked}
use Rattle.nla_frame.specs.declared.error.Family.{Family}
use Rattle.linkinfo_table.specs.Difference.{payload_difference}
use Rattle.linkinfo_table.specs.TypedRows.{row_compares, row_means}
use Rattle.linkinfo_table.proofs.RowPayloads.{accepted, same_type}
use Rattle.linkinfo_table.proofs.payload_calls.payload_difference.Goals as goal

pub difference-requires-clause-first : goal.difference-requires-clause-first
difference-requires-clause-first g c =
    let a = c.args.a.now.nla in
    accepted g.R.PayloadRow.label g.R.Payload.LinkPayload.means g.F.RowFamily.FAMILY (masked a.kind)
    a.value a.value _ refl
    (row_means (g.F.RowFamily.rows c.args.ctx) a g.R.PayloadRow.NUMBER c.requires.row
    (g.met.R.PayloadRow.row_is c.args.ctx) g.F.RowFamily.FAMILY g.F.RowFamily.other)
    c.requires.first

pub difference-requires-clause-second : goal.difference-requires-clause-second
difference-requires-clause-second g c =
    let b = c.args.b.now.nla in
    accepted g.R.PayloadRow.label g.R.Payload.LinkPayload.means g.F.RowFamily.FAMILY (masked b.kind)
    b.value b.value _ refl
    (row_means (g.F.RowFamily.rows c.args.ctx) b g.R.PayloadRow.NUMBER
    (c.requires.same_type ∙ c.requires.row)
    (g.met.R.PayloadRow.row_is c.args.ctx) g.F.RowFamily.FAMILY g.F.RowFamily.other)
    c.requires.second

pub returns-clause-difference : goal.returns-clause-difference
returns-clause-difference g c =
    let payload = g.R.Payload.LinkPayload in
    let p = c.args.a.now in
    let q = c.args.b.now in
    let alike = payload.alike p.nla.value q.nla.value in
    let same =
    same_type alike _ (masked p.nla.kind) (masked q.nla.kind)
    (row_compares (g.F.RowFamily.rows c.args.ctx) p.nla g.R.PayloadRow.NUMBER c.requires.row
    (g.met.R.PayloadRow.row_is c.args.ctx) q.nla) c.requires.same_type in
    c.difference.ensures.difference
    ∙ ap (λ (f : Family). payload_difference payload.contents f alike p q) c.FAMILY.ensures
    ∙ ap (λ (r : Bool). payload_difference payload.contents g.F.RowFamily.FAMILY r p q) same
