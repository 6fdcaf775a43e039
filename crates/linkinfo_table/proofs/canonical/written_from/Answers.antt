use Rattle.std.proofs.Common.{◌≡◌, ◌∙◌, List, ℕ, sym, ap, subst}
use Rattle.nla_frame.specs.Attribute.{masked}
use Rattle.linkinfo_shapes.specs.Shapes.{IsAccepted, canonical}
use Rattle.linkinfo_table.proofs.RowAnswers.{accepted_at, flat_at, flat_plain}
use Rattle.linkinfo_table.proofs.Writing.{typed_canonical, kept_canonical, not_refused}
use Rattle.linkinfo_table.proofs.canonical.written_from.Goals as goal

pub unreachable-requires : goal.unreachable-requires
unreachable-requires g c =
    not_refused g.F.RowFamily.FAMILY g.F.RowFamily.other g.F.RowFamily.canonical
    (g.F.RowFamily.rows c.args.ctx) c.args.nla.now c.kind-kind.result c.kind-kind.ensures
    c.in-Refused.field-0 (sym c.shape.ensures ∙ c.in-Refused.is) c.requires.accepted

pub returns-in-Is : goal.returns-in-Is
returns-in-Is g c =
    let f = g.F.RowFamily.FAMILY in
    let other = g.F.RowFamily.other in
    let rows = g.F.RowFamily.rows c.args.ctx in
    let a = c.args.nla.now in
    let k = c.kind-kind.result in
    let at = c.kind-kind.ensures in
    let is = sym c.shape.ensures ∙ c.in-Is.is in
    let flat = flat_at rows k (masked a.kind) at c.requires.flat in
    let value : a.value ≡ c.value.result.now = sym c.value.ensures.value in
    let written =
    typed_canonical f other g.F.RowFamily.canonical rows a k
    at c.in-Is.shape (g.met.F.RowFamily.owes c.args.ctx (masked a.kind)) c.requires.flat is
    c.requires.accepted in (
      written ∙ ap (λ (p : List ℕ). record { kind = k; value = canonical c.in-Is.shape p }) value,
      flat_plain (rows k) c.in-Is.shape flat is,
      subst (λ (p : List ℕ). IsAccepted c.in-Is.shape p) value
          (accepted_at f other rows a k c.in-Is.shape at flat is c.requires.accepted),
    )

pub returns-in-Unknown : goal.returns-in-Unknown
returns-in-Unknown g c =
    let a = c.args.nla.now in
    kept_canonical g.F.RowFamily.FAMILY g.F.RowFamily.other g.F.RowFamily.canonical
    (g.F.RowFamily.rows c.args.ctx) a c.kind-kind.result c.kind-kind.ensures
    g.met.F.RowFamily.keeps_other (sym c.shape.ensures ∙ c.in-Unknown.is)
    ∙ (λ i.
    record { kind = sym c.raw_kind.ensures i; value = sym c.value-in-Unknown.ensures.value i })
