use Rattle.std.proofs.Common.{ap, refl, sym, ◌∙◌, ◌||◌, Bool}
use Rattle.std.specs.Str.{bytes_eq}
use Rattle.nla_frame.specs.Attribute.{masked}
use Rattle.nla_frame.specs.declared.error.Family.{Family}
use Rattle.linkinfo_table.specs.TypedRows.{row_compares, row_means}
use Rattle.linkinfo_table.specs.Unmets.{first_at, payload_unmets}
use Rattle.linkinfo_table.proofs.RowPayloads.{accepted, same_type}
use Rattle.linkinfo_table.proofs.payload_calls.payload_unmet.Goals as goal

pub unmet-requires-clause-have : goal.unmet-requires-clause-have
unmet-requires-clause-have g c =
    let a = c.args.have.now.nla in
    accepted g.R.PayloadRow.label g.R.Payload.LinkPayload.means g.F.RowFamily.FAMILY (masked a.kind)
    a.value a.value _ refl
    (row_means (g.F.RowFamily.rows c.args.ctx) a g.R.PayloadRow.NUMBER
    (c.requires.same_type ∙ c.requires.row)
    (g.met.R.PayloadRow.row_is c.args.ctx) g.F.RowFamily.FAMILY g.F.RowFamily.other)
    c.requires.have

pub unmet-requires-clause-want : goal.unmet-requires-clause-want
unmet-requires-clause-want g c =
    let a = c.args.want.now.nla in
    accepted g.R.PayloadRow.label g.R.Payload.LinkPayload.means g.F.RowFamily.FAMILY (masked a.kind)
    a.value a.value _ refl
    (row_means (g.F.RowFamily.rows c.args.ctx) a g.R.PayloadRow.NUMBER c.requires.row
    (g.met.R.PayloadRow.row_is c.args.ctx) g.F.RowFamily.FAMILY g.F.RowFamily.other)
    c.requires.want

pub returns-clause-unmet : goal.returns-clause-unmet
returns-clause-unmet g c =
    let payload = g.R.Payload.LinkPayload in
    let have = c.args.have.now in
    let want = c.args.want.now in
    let equal = bytes_eq have.nla.value want.nla.value in
    let alike = payload.alike have.nla.value want.nla.value in
    let same =
    same_type alike _ (masked have.nla.kind) (masked want.nla.kind)
    (row_compares (g.F.RowFamily.rows c.args.ctx) have.nla g.R.PayloadRow.NUMBER
    (c.requires.same_type ∙ c.requires.row) (g.met.R.PayloadRow.row_is c.args.ctx) want.nla)
    (sym c.requires.same_type) in
    c.unmet.ensures.unmet
    ∙ ap (λ (f : Family).
    first_at c.args.from (payload_unmets payload.contents f (equal || alike) have want))
    c.FAMILY.ensures
    ∙ ap (λ (r : Bool).
    first_at c.args.from
    (payload_unmets payload.contents g.F.RowFamily.FAMILY (equal || r) have want))
    same
