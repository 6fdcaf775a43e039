use Rattle.std.proofs.Common.{[], ◌≡◌, ◌∙◌, sym, ap, Ok, Err, List, ℕ, Result}
use Rattle.nla_frame.specs.Attribute.{Attribute}
use Rattle.nla_frame.specs.declared.error.Cause.{Cause}
use Rattle.nla_frame.specs.declared.error.DecodeError.{DecodeError}
use Rattle.linkinfo_shapes.specs.declared.datum.Datum.{Datum}
use Rattle.linkinfo_shapes.specs.declared.shape.Shape.TheVariants.{Name}
use Rattle.linkinfo_shapes.specs.Shapes.{means}
use Rattle.linkinfo_shapes.specs.Data.{IsDatumOr, ReadsAs}
use Rattle.linkinfo_shapes.specs.DataLaws.{read_means, read_suits, read_fails}
use Rattle.linkinfo.specs.Roles.{item_own_error, name_meaning, name_or_error}
use Rattle.linkinfo.proofs.role.name_in.Goals as goal

named : (a : Attribute) (p : List ℕ) (d : Datum) (text : List ℕ) → p ≡ a.value →
    ReadsAs Name p (Ok d) → IsDatumOr Name [] d text → name_meaning a ≡ Ok text
unfolding name_meaning
named a p d text e read is =
    ap (λ (q : List ℕ). name_or_error a (means Name q)) (sym e)
    ∙ ap (λ (r : Result (List ℕ) Cause). name_or_error a r) (read_means Name p d read)
    ∙ ap (λ (t : List ℕ). let r : Result (List ℕ) DecodeError = Ok t in r)
    (sym (is.0 (read_suits Name p d read)))

unnamed : (a : Attribute) (p : List ℕ) (c : Cause) (error : DecodeError) → p ≡ a.value →
    ReadsAs Name p (Err c) → error ≡ item_own_error a c → name_meaning a ≡ Err error
unfolding name_meaning
unnamed a p c error e read is =
    ap (λ (q : List ℕ). name_or_error a (means Name q)) (sym e)
    ∙ ap (λ (r : Result (List ℕ) Cause). name_or_error a r) (read_fails Name p c read)
    ∙ ap (λ (f : DecodeError). let r : Result (List ℕ) DecodeError = Err f in r) (sym is)

pub returns-in-Ok : goal.returns-in-Ok
returns-in-Ok c = named _ _ _ _ c.value.ensures.value c.in-Ok.ensures c.text_or_empty.ensures

pub returns-in-Err : goal.returns-in-Err
returns-in-Err c = unnamed _ _ _ _ c.value.ensures.value c.in-Err.ensures c.error.ensures
