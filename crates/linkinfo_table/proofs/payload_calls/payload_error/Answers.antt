use Rattle.std.proofs.Common.{ap, sym, ◌∙◌, is_ok, Bool, List, ℕ}
use Rattle.linkinfo_table.specs.Difference.{payload_error}
use Rattle.linkinfo_table.specs.TypedRows.{row_accepts}
use Rattle.linkinfo_table.proofs.payload_calls.payload_error.Goals as goal

pub returns-clause-error : goal.returns-clause-error
returns-clause-error g c =
    let payload = g.R.Payload.LinkPayload in
    let a = c.args.nla.now in
    let accepts =
    row_accepts (g.F.RowFamily.rows c.args.ctx) a g.R.PayloadRow.NUMBER c.requires.row
    (g.met.R.PayloadRow.row_is c.args.ctx) g.F.RowFamily.FAMILY g.F.RowFamily.other in
    c.error_offset.ensures.error
    ∙ ap (λ (p : List ℕ). payload_error payload.contents (is_ok (payload.means p)) p)
    c.value.ensures.value
    ∙ ap (λ (ok : Bool). payload_error payload.contents ok a.value) (sym accepts)
