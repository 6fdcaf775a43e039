use Rattle.std.proofs.Common.{◌∙◌, sym, refl}
use Rattle.nla_frame.specs.Attribute.{masked}
use Rattle.nla_frame.specs.Kept.{kept}
use Rattle.linkinfo_table.proofs.RowAnswers.{
  flat_at,
  meaning_at,
  check_row,
  means_error,
  refuse_row,
  refused_row,
  kept_row,
  verdict_at,
  verdict_err,
  verdict_ok,
}
use Rattle.linkinfo_table.proofs.rows.row_check.Goals as goal

pub returns-in-Ok : goal.returns-in-Ok
returns-in-Ok g c =
    let f = g.F.RowFamily.FAMILY in
    let other = g.F.RowFamily.other in
    let rows = g.F.RowFamily.rows c.args.ctx in
    let a = c.args.nla.now in
    let k = c.kind-kind.result in
    let at = c.kind-kind.ensures in
    let flat = flat_at rows k (masked a.kind) at c.requires in
    let is = sym c.shape.ensures ∙ c.in-Is.is in
    verdict_at f other rows a k _
    at (check_row f other (rows k) a c.in-Is.shape c.value.result.now flat is c.value.ensures.value
    c.in-Ok.ensures)

pub returns-in-Err : goal.returns-in-Err
returns-in-Err g c =
    let f = g.F.RowFamily.FAMILY in
    let other = g.F.RowFamily.other in
    let rows = g.F.RowFamily.rows c.args.ctx in
    let a = c.args.nla.now in
    let k = c.kind-kind.result in
    let at = c.kind-kind.ensures in
    let flat = flat_at rows k (masked a.kind) at c.requires in
    let is = sym c.shape.ensures ∙ c.in-Is.is in
    let fails =
    means_error f other c.in-Is.shape c.value.result.now c.in-Err.cause c.in-Err.ensures in
    let error = c.error.result in
    verdict_err f other _ error (meaning_at f other rows a k _ at
    (refuse_row f other (rows k) a c.in-Is.shape c.value.result.now c.in-Err.cause c.FAMILY.result k
    error flat is c.value.ensures.value fails
    c.error.ensures c.FAMILY.ensures at))

pub returns-in-Refused : goal.returns-in-Refused
returns-in-Refused g c =
    let f = g.F.RowFamily.FAMILY in
    let other = g.F.RowFamily.other in
    let rows = g.F.RowFamily.rows c.args.ctx in
    let a = c.args.nla.now in
    let k = c.kind-kind.result in
    let at = c.kind-kind.ensures in
    let is = sym c.shape.ensures ∙ c.in-Refused.is in
    let error = c.error-in-Refused.result in
    verdict_err f other _ error (meaning_at f other rows a k _ at
    (refused_row f other (rows k) a c.in-Refused.cause c.FAMILY-in-Refused.result k error is
    c.error-in-Refused.ensures c.FAMILY-in-Refused.ensures at))

pub returns-in-Unknown : goal.returns-in-Unknown
returns-in-Unknown g c =
    let f = g.F.RowFamily.FAMILY in
    let other = g.F.RowFamily.other in
    let rows = g.F.RowFamily.rows c.args.ctx in
    let a = c.args.nla.now in
    let k = c.kind-kind.result in
    let at = c.kind-kind.ensures in
    let is = sym c.shape.ensures ∙ c.in-Unknown.is in
    verdict_ok f other _ (other (kept a))
    (meaning_at f other rows a k _ at (kept_row f other (rows k) a (kept a) _ is refl refl))
