-- A part more of an array is the first of those that follow.
use Rattle.std.proofs.Common.{
  ◌≡◌,
  ℕ,
  zero,
  suc,
  ◌*◌,
  ◌/◌,
  ◌%◌,
  ◌<◌,
  ◌≤◌,
  List,
  [],
  ◌∷◌,
  ap,
  arith,
  drop,
  length,
  refl,
  sym,
  take,
  ◌∙◌,
}
use Rattle.std.proofs.Math.Nat.{mul-div_cancel, mul-mod_left, zero-div}
use Rattle.std.proofs.lemmas.List.{length-drop}
use Rattle.std.proofs.lemmas.Nat.{div-add-mod'}
use Rattle.linkinfo_shapes.specs.declared.shape.Shape.{Shape}
use Rattle.serde_json.specs.Data.{Data}
use Rattle.linkinfo_view.specs.Values.{parts_data, plain_as}

-- all parts of a payload
abbrev pub parts_of : ℕ → Shape → List ℕ → List Data
parts_of width sh p = parts_data (length p / width) width sh p

pub record FirstPart (width : ℕ) (sh : Shape) (p : List ℕ) : Type 0 where
  pub within : width ≤ length p
  pub parts_are : parts_of width sh p
      ≡ plain_as sh (take width p) ∷ parts_of width sh (drop width p)
  pub rest : length (drop width p) % width ≡ 0

from_count : (width : ℕ) (sh : Shape) (p : List ℕ) → 0 < width → length p % width ≡ 0 →
    0 < length p → (n : ℕ) → length p / width ≡ n → FirstPart width sh p
unfolding parts_data
from_count width sh p positive h some zero e =
    absurd (omega (arith, h, div-add-mod' (length p) width, ap (λ (k : ℕ). k * width) e, some))
from_count width sh p positive h some (suc n) e =
    let whole : length p ≡ (length p / width) * width =
    omega (arith, h, div-add-mod' (length p) width) in
    let long : length p ≡ suc n * width = whole ∙ ap (λ (k : ℕ). k * width) e in
    let rest : length (drop width p) ≡ n * width = omega (arith, long, length-drop width p) in
    record {
      within = omega (arith, long);
      parts_are =
          ap (λ (k : ℕ). parts_data k width sh p) e
          ∙ ap (λ (k : ℕ). plain_as sh (take width p) ∷ parts_data k width sh (drop width p))
          (sym (ap (λ (k : ℕ). k / width) rest ∙ mul-div_cancel n positive));
      rest = ap (λ (k : ℕ). k % width) rest ∙ mul-mod_left n width;
    }

pub first_part : (width : ℕ) (sh : Shape) (p : List ℕ) → 0 < width → length p % width ≡ 0 →
    0 < length p → FirstPart width sh p
first_part width sh p positive h some =
    from_count width sh p positive h some (length p / width) refl

pub no_parts : (width : ℕ) (sh : Shape) (p : List ℕ) → length p ≡ 0 → parts_of width sh p ≡ []
unfolding parts_data
no_parts width sh p e =
    ap (λ (k : ℕ). parts_data k width sh p) (ap (λ (k : ℕ). k / width) e ∙ zero-div width)
