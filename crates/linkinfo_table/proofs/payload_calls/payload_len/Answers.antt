use Rattle.std.proofs.Common.{length, sym, subst}
use Rattle.std.specs.Prelude.{SomeIff}
use Rattle.nla_frame.specs.Attribute.{Attribute, Fits, masked}
use Rattle.linkinfo_table.specs.Rows.{written_kind}
use Rattle.linkinfo_table.specs.TypedRows.{row_means}
use Rattle.linkinfo_table.proofs.RowPayloads.{accepted, attribute_is}
use Rattle.linkinfo_table.proofs.payload_calls.payload_len.Goals as goal

pub canonical_len-requires : goal.canonical_len-requires
canonical_len-requires g c =
    let a = c.args.nla.now in
    accepted g.R.PayloadRow.label g.R.Payload.LinkPayload.means g.F.RowFamily.FAMILY (masked a.kind)
    c.value.result.now a.value _ c.value.ensures.value
    (row_means (g.F.RowFamily.rows c.args.ctx) a g.R.PayloadRow.NUMBER c.requires.row
    (g.met.R.PayloadRow.row_is c.args.ctx) g.F.RowFamily.FAMILY g.F.RowFamily.other)
    c.requires.accepted

pub returns : goal.returns
returns g c =
    let a = c.args.nla.now in
    let is =
    attribute_is g.R.PayloadRow.label g.F.RowFamily.canonical g.R.Payload.LinkPayload.canon
    (written_kind g.R.PayloadRow.NESTED g.R.PayloadRow.NUMBER) g.met.R.PayloadRow.written
    g.R.Payload.LinkPayload.means g.F.RowFamily.FAMILY (masked a.kind) c.value.result.now a.value _
    c.value.ensures.value
    (row_means (g.F.RowFamily.rows c.args.ctx) a g.R.PayloadRow.NUMBER c.requires.row
    (g.met.R.PayloadRow.row_is c.args.ctx) g.F.RowFamily.FAMILY g.F.RowFamily.other)
    c.requires.accepted in
    subst (λ (z : Attribute). SomeIff c.canonical_len.result (Fits z) (length z.value)) (sym is)
    c.canonical_len.ensures
