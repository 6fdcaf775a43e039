use Rattle.std.proofs.Common.{
  ◌≡◌,
  ◌∙◌,
  ℕ,
  Bool,
  true,
  false,
  List,
  [],
  ◌∷◌,
  ◌++◌,
  Result,
  Ok,
  Err,
  sym,
  ap,
}
use Rattle.std.specs.Prelude.{if◌then◌else◌}
use Rattle.std.specs.Str.{is_utf8}
use Rattle.nla_frame.specs.Payload.{stripped}
use Rattle.nla_frame.specs.declared.error.Cause.{Cause}
use Rattle.nla_frame.specs.declared.error.Cause.TheVariants.{Utf8}
use Rattle.linkinfo_shapes.specs.DataLaws.{canonical_is}
use Rattle.linkinfo_shapes.specs.ShapeLaws.{datum_of}
use Rattle.linkinfo_shapes.specs.declared.shape.Shape.TheVariants.{Name}
use Rattle.linkinfo_shapes.proofs.canonical.name_in.Goals as goal

abbrev text_if : Bool → List ℕ → Result (List ℕ) Cause
text_if b s = if b then Ok s else Err Utf8

text_is : (b : Bool) (s x : List ℕ) → text_if b s ≡ Ok x → s ≡ x
text_is true s x e = cc
text_is false s x e = absurd cc

pub returns : goal.returns
returns c =
    let p = c.args.payload.now in
    let x = datum_of Name p c.requires in
    let name = c.without_nul.ensures ∙ text_is (is_utf8 (stripped p)) (stripped p) x.0 x.1 in
    canonical_is Name p x.0 x.1 ∙ ap (λ (s : List ℕ). s ++ 0 ∷ []) (sym name)
