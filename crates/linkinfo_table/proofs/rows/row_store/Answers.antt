use Rattle.std.proofs.Common.{◌∙◌, sym, ap, ◌≡◌, true, subst, Result, Ok, refl}
use Rattle.std.specs.Prelude.{is_ok}
use Rattle.nla_frame.specs.Attribute.{masked}
use Rattle.nla_frame.specs.Answers.{verdict}
use Rattle.nla_frame.specs.declared.error.DecodeError.{DecodeError}
use Rattle.linkinfo_shapes.specs.DataLaws.{read_fails}
use Rattle.linkinfo_table.specs.FamilyRows.{row_of}
use Rattle.linkinfo_table.specs.Rows.{memory_in, meaning_in, row_meaning}
use Rattle.linkinfo_table.proofs.RowAnswers.{
  flat_at,
  suits_row,
  meaning_at,
  refuse_row,
  refused_row,
  kept_same,
  needs_at,
  needs_kept,
  needs_row,
  no_error,
  store_row,
  store_kept_row,
  write_at,
  store_verdict,
  row_ok,
  read_stores,
  needs_stores,
  verdict_err,
}
use Rattle.linkinfo_table.proofs.rows.row_store.Goals as goal

pub store_decoded-requires : goal.store_decoded-requires
store_decoded-requires g c =
    let f = g.F.RowFamily.FAMILY in
    let other = g.F.RowFamily.other in
    let rows = g.F.RowFamily.rows c.args.ctx in
    let a = c.args.nla.now in
    let k = c.kind-kind.result in
    let at = c.kind-kind.ensures in
    let flat = flat_at rows k (masked a.kind) at c.requires in
    let is = sym c.shape.ensures ∙ c.in-Is.is in
    suits_row (rows k) c.in-Is.shape c.value.result.now c.in-Ok.datum flat is c.in-Ok.ensures

pub returns-in_err-store_decoded-in-Ok-clause-certain :
    goal.returns-in_err-store_decoded-in-Ok-clause-certain
returns-in_err-store_decoded-in-Ok-clause-certain g c = λ none.
    let f = g.F.RowFamily.FAMILY in
    let other = g.F.RowFamily.other in
    let rows = g.F.RowFamily.rows c.args.ctx in
    let a = c.args.nla.now in
    let k = c.kind-kind.result in
    let at = c.kind-kind.ensures in
    let flat = flat_at rows k (masked a.kind) at c.requires in
    let is = sym c.shape.ensures ∙ c.in-Is.is in
    let same = meaning_at f other rows a k (row_meaning f other (row_of (rows k)) a) at refl in
    let owns : g.P.Slot.is_certain ≡ true → (memory_in (λ n. row_of (rows n)) a) ≡ true = λ sure.
    needs_at rows a k
    at (needs_row (rows k) a c.in-Is.shape c.value.result.now c.in-Ok.datum flat is
    c.value.ensures.value c.in-Ok.ensures
    (λ no. no_error (c.in_err-store_decoded-in-Ok.ensures.certain sure no))) in
    let read : is_ok (meaning_in f other (λ n. row_of (rows n)) a) ≡ true =
    ap (λ (m : Result _ DecodeError). is_ok m) same
    ∙ row_ok f other (rows k) a c.in-Is.shape c.value.result.now c.in-Ok.datum flat is
    c.value.ensures.value c.in-Ok.ensures in
    absurd (read_stores f other g.P.Slot.is_certain (memory_in (λ n. row_of (rows n)) a)
    (meaning_in f other (λ n. row_of (rows n)) a) owns read none)

pub returns-in_err-kept-in-Unknown-clause-certain :
    goal.returns-in_err-kept-in-Unknown-clause-certain
returns-in_err-kept-in-Unknown-clause-certain g c = λ none.
    let f = g.F.RowFamily.FAMILY in
    let other = g.F.RowFamily.other in
    let rows = g.F.RowFamily.rows c.args.ctx in
    let a = c.args.nla.now in
    let k = c.kind-kind.result in
    let at = c.kind-kind.ensures in
    absurd (needs_stores f other g.P.Slot.is_certain (memory_in (λ n. row_of (rows n)) a)
    (meaning_in f other (λ n. row_of (rows n)) a)
    (needs_at rows a k at (needs_kept (rows k) a (sym c.shape.ensures ∙ c.in-Unknown.is))) none)

pub returns-in_err-store_decoded-in-Unknown-clause-certain :
    goal.returns-in_err-store_decoded-in-Unknown-clause-certain
returns-in_err-store_decoded-in-Unknown-clause-certain g c = λ none.
    let f = g.F.RowFamily.FAMILY in
    let other = g.F.RowFamily.other in
    let rows = g.F.RowFamily.rows c.args.ctx in
    let a = c.args.nla.now in
    let k = c.kind-kind.result in
    let at = c.kind-kind.ensures in
    absurd (needs_stores f other g.P.Slot.is_certain (memory_in (λ n. row_of (rows n)) a)
    (meaning_in f other (λ n. row_of (rows n)) a)
    (needs_at rows a k at (needs_kept (rows k) a (sym c.shape.ensures ∙ c.in-Unknown.is))) none)

pub returns-in_ok-store_decoded-in-Ok : goal.returns-in_ok-store_decoded-in-Ok
returns-in_ok-store_decoded-in-Ok g c =
    let f = g.F.RowFamily.FAMILY in
    let other = g.F.RowFamily.other in
    let rows = g.F.RowFamily.rows c.args.ctx in
    let a = c.args.nla.now in
    let k = c.kind-kind.result in
    let at = c.kind-kind.ensures in
    let flat = flat_at rows k (masked a.kind) at c.requires in
    let is = sym c.shape.ensures ∙ c.in-Is.is in
    let same = meaning_at f other rows a k (row_meaning f other (row_of (rows k)) a) at refl in
    let here =
    store_row f other (g.P.Slot.with c.args.slot.now) (rows k) a c.in-Is.shape c.value.result.now
    c.in-Ok.datum _ flat is c.value.ensures.value c.in-Ok.ensures
    c.in_ok-store_decoded-in-Ok.ensures.value in
    record {
      answer = write_at f other _ _ _ _ same here;
      unchanged = tt;
      certain = λ _.
          subst (λ (m : Result _ DecodeError). Ok tt ≡ verdict m) (sym same)
          (store_verdict f other _ _ _ here);
    }

pub returns-in-Err : goal.returns-in-Err
returns-in-Err g c =
    let f = g.F.RowFamily.FAMILY in
    let other = g.F.RowFamily.other in
    let rows = g.F.RowFamily.rows c.args.ctx in
    let a = c.args.nla.now in
    let k = c.kind-kind.result in
    let at = c.kind-kind.ensures in
    let flat = flat_at rows k (masked a.kind) at c.requires in
    let is = sym c.shape.ensures ∙ c.in-Is.is in
    let fails = read_fails c.in-Is.shape c.value.result.now c.in-Err.cause c.in-Err.ensures in
    let means = meaning_at f other rows a k _ at
    (refuse_row f other (rows k) a c.in-Is.shape c.value.result.now c.in-Err.cause c.FAMILY.result k
    c.error.result flat is c.value.ensures.value fails
    c.error.ensures c.FAMILY.ensures at) in
    record { answer = λ _. means; unchanged = refl; certain = λ _. verdict_err f other _ _ means }

pub returns-in-Refused : goal.returns-in-Refused
returns-in-Refused g c =
    let f = g.F.RowFamily.FAMILY in
    let other = g.F.RowFamily.other in
    let rows = g.F.RowFamily.rows c.args.ctx in
    let a = c.args.nla.now in
    let k = c.kind-kind.result in
    let at = c.kind-kind.ensures in
    let means = meaning_at f other rows a k _ at
    (refused_row f other (rows k) a c.in-Refused.cause c.FAMILY-in-Refused.result k
    c.error-in-Refused.result (sym c.shape.ensures ∙ c.in-Refused.is)
    c.error-in-Refused.ensures c.FAMILY-in-Refused.ensures at) in
    record { answer = λ _. means; unchanged = refl; certain = λ _. verdict_err f other _ _ means }

pub returns-in_ok-store_decoded-in-Unknown : goal.returns-in_ok-store_decoded-in-Unknown
returns-in_ok-store_decoded-in-Unknown g c =
    let f = g.F.RowFamily.FAMILY in
    let other = g.F.RowFamily.other in
    let rows = g.F.RowFamily.rows c.args.ctx in
    let a = c.args.nla.now in
    let k = c.kind-kind.result in
    let at = c.kind-kind.ensures in
    let same = meaning_at f other rows a k (row_meaning f other (row_of (rows k)) a) at refl in
    let here =
    store_kept_row f other (g.P.Slot.with c.args.slot.now) (rows k) a c.in_ok-kept-in-Unknown.kept _
    (sym c.shape.ensures ∙ c.in-Unknown.is) (kept_same a _ c.in_ok-kept-in-Unknown.ensures.answer)
    c.in_ok-store_decoded-in-Unknown.ensures.value in
    record {
      answer = write_at f other _ _ _ _ same here;
      unchanged = tt;
      certain = λ _.
          subst (λ (m : Result _ DecodeError). Ok tt ≡ verdict m) (sym same)
          (store_verdict f other _ _ _ here);
    }
