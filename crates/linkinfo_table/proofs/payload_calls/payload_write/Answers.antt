use Rattle.std.proofs.Common.{◌≤◌, length, refl, sym, subst}
use Rattle.nla_frame.specs.Attribute.{Attribute, Fits, buffer_len_of, masked}
use Rattle.nla_frame.specs.Writing.{WritesAttribute}
use Rattle.linkinfo_table.specs.Rows.{written_kind}
use Rattle.linkinfo_table.specs.TypedRows.{row_means}
use Rattle.linkinfo_table.proofs.RowPayloads.{accepted, attribute_is}
use Rattle.linkinfo_table.proofs.payload_calls.payload_write.Goals as goal

pub write_framed-requires-clause-accepted : goal.write_framed-requires-clause-accepted
write_framed-requires-clause-accepted g c =
    let a = c.args.nla.now in
    accepted g.R.PayloadRow.label g.R.Payload.LinkPayload.means g.F.RowFamily.FAMILY (masked a.kind)
    a.value a.value _ refl
    (row_means (g.F.RowFamily.rows c.args.ctx) a g.R.PayloadRow.NUMBER c.requires.row
    (g.met.R.PayloadRow.row_is c.args.ctx) g.F.RowFamily.FAMILY g.F.RowFamily.other)
    c.requires.accepted

pub write_framed-requires-clause-fits : goal.write_framed-requires-clause-fits
write_framed-requires-clause-fits g c =
    let a = c.args.nla.now in
    let is =
    attribute_is g.R.PayloadRow.label g.F.RowFamily.canonical g.R.Payload.LinkPayload.canon
    (written_kind g.R.PayloadRow.NESTED g.R.PayloadRow.NUMBER) g.met.R.PayloadRow.written
    g.R.Payload.LinkPayload.means g.F.RowFamily.FAMILY (masked a.kind) a.value a.value _ refl
    (row_means (g.F.RowFamily.rows c.args.ctx) a g.R.PayloadRow.NUMBER c.requires.row
    (g.met.R.PayloadRow.row_is c.args.ctx) g.F.RowFamily.FAMILY g.F.RowFamily.other)
    c.requires.accepted in
    subst Fits is c.requires.fits

pub write_framed-requires-clause-room : goal.write_framed-requires-clause-room
write_framed-requires-clause-room g c =
    let a = c.args.nla.now in
    let is =
    attribute_is g.R.PayloadRow.label g.F.RowFamily.canonical g.R.Payload.LinkPayload.canon
    (written_kind g.R.PayloadRow.NESTED g.R.PayloadRow.NUMBER) g.met.R.PayloadRow.written
    g.R.Payload.LinkPayload.means g.F.RowFamily.FAMILY (masked a.kind) a.value a.value _ refl
    (row_means (g.F.RowFamily.rows c.args.ctx) a g.R.PayloadRow.NUMBER c.requires.row
    (g.met.R.PayloadRow.row_is c.args.ctx) g.F.RowFamily.FAMILY g.F.RowFamily.other)
    c.requires.accepted in
    subst (λ (z : Attribute). buffer_len_of z ≤ length c.args.buffer.now) is c.requires.room

pub returns : goal.returns
returns g c =
    let a = c.args.nla.now in
    let is =
    attribute_is g.R.PayloadRow.label g.F.RowFamily.canonical g.R.Payload.LinkPayload.canon
    (written_kind g.R.PayloadRow.NESTED g.R.PayloadRow.NUMBER) g.met.R.PayloadRow.written
    g.R.Payload.LinkPayload.means g.F.RowFamily.FAMILY (masked a.kind) a.value a.value _ refl
    (row_means (g.F.RowFamily.rows c.args.ctx) a g.R.PayloadRow.NUMBER c.requires.row
    (g.met.R.PayloadRow.row_is c.args.ctx) g.F.RowFamily.FAMILY g.F.RowFamily.other)
    c.requires.accepted in
    subst (λ (z : Attribute).
    WritesAttribute z c.args.buffer.now c.write_framed.new.buffer c.write_framed.result)
    (sym is) c.write_framed.ensures
