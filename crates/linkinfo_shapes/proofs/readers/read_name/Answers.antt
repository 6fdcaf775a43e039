use Rattle.std.proofs.Common.{◌≡◌, List, ℕ, true, false, Result, Ok, Err, sym, ap, ◌∙◌}
use Rattle.std.specs.Str.{is_utf8, IsUtf8}
use Rattle.std.proofs.lemmas.Str.{is_utf8-from_IsUtf8, IsUtf8-from_is_utf8}
use Rattle.std.proofs.lemmas.Bool.{cond-true, cond-false, false_from_ne_true}
use Rattle.nla_frame.specs.declared.error.Cause.{Cause}
use Rattle.nla_frame.specs.declared.error.Cause.TheVariants.{Utf8}
use Rattle.linkinfo_shapes.specs.declared.shape.Shape.TheVariants.{Name}
use Rattle.linkinfo_shapes.specs.Data.{ReadsAs, reads, wrapped, Suits, text, Value}
use Rattle.nla_frame.specs.Payload.{stripped}
use Rattle.linkinfo_shapes.proofs.readers.read_name.Goals as goal

reads_text : (p q s : List ℕ) → q ≡ stripped p → s ≡ q → IsUtf8 q → reads Name p ≡ Ok (text s)
unfolding reads
reads_text p q s e h u =
    let good : is_utf8 (stripped p) ≡ true = ap is_utf8 (sym e) ∙ is_utf8-from_IsUtf8 q u in
    ap (wrapped Name) (cond-true (is_utf8 (stripped p)) _ _ good)
    ∙ ap (λ (t : List ℕ). let r : Result Value Cause = Ok (text t) in r) (sym (h ∙ e))

reads_no_text : (p q : List ℕ) → q ≡ stripped p → (IsUtf8 q → ⊥) → reads Name p ≡ Err Utf8
unfolding reads
reads_no_text p q e n =
    let bad : is_utf8 (stripped p) ≡ false =
    false_from_ne_true _ (λ t. n (IsUtf8-from_is_utf8 q (ap is_utf8 e ∙ t))) in
    ap (wrapped Name) (cond-false (is_utf8 (stripped p)) _ _ bad)

pub returns-in-Ok : goal.returns-in-Ok
unfolding ReadsAs Suits
returns-in-Ok c = (
  reads_text _ _ _ c.without_nul.ensures c.in-Ok.ensures.cases.0 c.in-Ok.ensures.cases.1,
  tt,
)

pub returns-in-Err : goal.returns-in-Err
unfolding ReadsAs
returns-in-Err c = reads_no_text _ _ c.without_nul.ensures c.in-Err.ensures.cases.0
