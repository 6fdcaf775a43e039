-- Arrays of values of one width: as many as the payload has.
use Rattle.std.specs.Prelude.{
  ◌≡◌,
  ℕ,
  zero,
  suc,
  ◌*◌,
  ◌/◌,
  ◌%◌,
  ◌<◌,
  ◌≤◌,
  ◌==◌,
  ◌&&◌,
  Bool,
  true,
  not,
  List,
  [],
  ◌∷◌,
  ◌++◌,
  length,
  take,
  drop,
  refl,
}
use Rattle.std.specs.List.{AllByRecursion, flat_map}
use Rattle.std.specs.Str.{bytes_eq}
use Rattle.std.proofs.Common.{arith, sym, ap, ◌∙◌}
use Rattle.std.proofs.Math.Nat.{mul-div_cancel, mul-mod_left, zero-div}
use Rattle.std.proofs.lemmas.Bool.{eq-eqb, eqb-true}
use Rattle.std.proofs.lemmas.List.{
  drop_at,
  length-append,
  length-drop,
  length-take-le,
  take-append-drop,
  take_at,
}
use Rattle.std.proofs.lemmas.Nat.{div-add-mod'}
use Rattle.nla_frame.specs.Attribute.{IsBytes}
use Rattle.nla_frame.proofs.ByteLists.{IsBytes-append, IsBytes-drop, IsBytes-nil, IsBytes-take}
use Rattle.linkinfo_shapes.specs.declared.shape.Shape.{Shape}
use Rattle.linkinfo_shapes.specs.declared.shape.Shape.TheVariants.{Le16s, Le32s}
use Rattle.linkinfo_table.specs.Codecs.{Codec}
use Rattle.linkinfo_table.specs.Payloads.{IsExact, IsPayload, codec_with, exact_length}
use Rattle.linkinfo_payloads.specs.Exact.{IsExactly, exact_means, exact_payload}
use Rattle.linkinfo_payloads.specs.Fixed.{IsFixed}
use Rattle.linkinfo_payloads.specs.Layouts.{Layout, le16, le32}

-- so many values, one after another
abbrev pub values_in : {X : Type 0} → ℕ → ℕ → (List ℕ → X) → List ℕ → List X
values_in zero width of p = []
values_in (suc n) width of p = of (take width p) ∷ values_in n width of (drop width p)

-- all values of a payload
abbrev pub array_of : {X : Type 0} → ℕ → (List ℕ → X) → List ℕ → List X
array_of width of p = values_in (length p / width) width of p

-- payloads whose length is a multiple of the width are accepted
abbrev pub is_multiple : ℕ → ℕ → Bool
is_multiple width n = (n % width) == 0

-- an array that has values needs memory
abbrev pub array_memory : ℕ → List ℕ → Bool
array_memory width p = is_multiple width (length p) && not (length p == 0)

module _ {X : Type 0} (width : ℕ) (of : List ℕ → X) (bytes : X → List ℕ) (holds : X → Type 0)
    (positive : 0 < width) (fixed : IsFixed width of bytes holds) where
  -- ---- as many values as a number says

  rest_long : (n : ℕ) (p : List ℕ) → length p ≡ suc n * width → length (drop width p) ≡ n * width
  rest_long n p e = omega (arith, e, length-drop width p)

  front_long : (n : ℕ) (p : List ℕ) → length p ≡ suc n * width → length (take width p) ≡ width
  front_long n p e = length-take-le width p (omega (arith, e))

  empty : (p : List ℕ) → length p ≡ 0 → [] ≡ p
  empty [] e = refl
  empty (b ∷ p) e = absurd (omega (arith, e))

  values_held : (n : ℕ) (p : List ℕ) → IsBytes p → length p ≡ n * width →
      AllByRecursion holds (values_in n width of p)
  values_held zero p b e = tt
  values_held (suc n) p b e = (
    fixed.held (take width p) (IsBytes-take width p b) (front_long n p e),
    values_held n (drop width p) (IsBytes-drop width p b) (rest_long n p e),
  )

  values_back : (n : ℕ) (p : List ℕ) → IsBytes p → length p ≡ n * width →
      flat_map bytes (values_in n width of p) ≡ p
  values_back zero p b e = empty p (omega (arith, e))
  values_back (suc n) p b e =
      ap (λ (z : List ℕ). z ++ flat_map bytes (values_in n width of (drop width p)))
      (fixed.back (take width p) (IsBytes-take width p b) (front_long n p e))
      ∙ ap (λ (z : List ℕ). take width p ++ z)
      (values_back n (drop width p) (IsBytes-drop width p b) (rest_long n p e))
      ∙ take-append-drop width p

  values_again : (xs : List X) → AllByRecursion holds xs →
      values_in (length xs) width of (flat_map bytes xs) ≡ xs
  values_again [] h = refl
  values_again (x ∷ xs) h =
      let long = fixed.long x h.0 in
      let rest = flat_map bytes xs in
      let first =
      ap of (take_at (bytes x) rest width long) ∙ fixed.again x h.0 in
      let others =
      ap (λ (z : List ℕ). values_in (length xs) width of z) (drop_at (bytes x) rest width long)
      ∙ values_again xs h.1 in
      λ i. first i ∷ others i

  values_long : (xs : List X) → AllByRecursion holds xs →
      length (flat_map bytes xs) ≡ length xs * width
  values_long [] h = omega arith
  values_long (x ∷ xs) h =
      omega (
        arith,
        length-append (bytes x) (flat_map bytes xs),
        fixed.long x h.0,
        values_long xs h.1,
      )

  values_bytes : (xs : List X) → AllByRecursion holds xs → IsBytes (flat_map bytes xs)
  values_bytes [] h = IsBytes-nil
  values_bytes (x ∷ xs) h =
      IsBytes-append (bytes x) (flat_map bytes xs) (fixed.byte_list x h.0) (values_bytes xs h.1)

  -- ---- all values of a payload

  multiple : (n : ℕ) → is_multiple width n ≡ true → n ≡ (n / width) * width
  multiple n h = omega (arith, eqb-true (n % width) 0 h, div-add-mod' n width)

  pub array_exactly : IsExactly (is_multiple width) (array_of width of)
      (λ (xs : List X). flat_map bytes xs) (λ xs. AllByRecursion holds xs) (array_memory width)
  array_exactly = record {
    held = λ p b h. values_held (length p / width) p b (multiple (length p) h);
    back = λ p b h. values_back (length p / width) p b (multiple (length p) h);
    again = λ xs h.
        ap (λ (n : ℕ). values_in n width of (flat_map bytes xs))
        (ap (λ (n : ℕ). n / width) (values_long xs h) ∙ mul-div_cancel (length xs) positive)
        ∙ values_again xs h;
    long = λ xs h.
        eq-eqb (length (flat_map bytes xs) % width) 0
        (ap (λ (n : ℕ). n % width) (values_long xs h) ∙ mul-mod_left (length xs) width);
    byte_list = λ xs h. values_bytes xs h;
    certain = λ p h. ap (λ (b : Bool). b && not (length p == 0)) h;
  }

pub two_positive : 0 < 2
two_positive = omega arith

pub four_positive : 0 < 4
four_positive = omega arith

-- a payload that is an array
abbrev pub array_codec : {X : Type 0} → Layout X → Codec
array_codec layout =
    codec_with (exact_means (is_multiple layout.width) (array_of layout.width layout.of))
    (λ xs. flat_map layout.bytes xs) (λ xs. AllByRecursion layout.Holds xs) bytes_eq (λ _. 0)
    (array_memory layout.width)

pub array_payload : {X : Type 0} (shape : Shape) → IsExact shape → (layout : Layout X) →
    0 < layout.width → ((len : ℕ) → is_multiple layout.width len ≡ exact_length shape len) →
    IsPayload shape [] (array_codec layout)
array_payload shape exact layout positive by_length =
    exact_payload (is_multiple layout.width) (array_of layout.width layout.of)
    (λ xs. flat_map layout.bytes xs) (λ xs. AllByRecursion layout.Holds xs)
    (array_memory layout.width)
    (array_exactly layout.width layout.of layout.bytes layout.Holds positive layout.fixed) shape
    exact by_length

abbrev pub le16s_codec : Codec
le16s_codec = array_codec le16

pub le16s_payload : IsPayload Le16s [] le16s_codec
le16s_payload = array_payload Le16s tt le16 two_positive (λ len. refl)

abbrev pub le32s_codec : Codec
le32s_codec = array_codec le32

pub le32s_payload : IsPayload Le32s [] le32s_codec
le32s_payload = array_payload Le32s tt le32 four_positive (λ len. refl)

-- ---- one value after another

module _ {X : Type 0} (width : ℕ) (of : List ℕ → X) (positive : 0 < width) where
  -- a first value, and the others
  pub record FirstOf (p : List ℕ) : Type 0 where
    pub within : width ≤ length p
    pub array_is : array_of width of p ≡ of (take width p) ∷ array_of width of (drop width p)
    pub rest : length (drop width p) % width ≡ 0

  pub first_of : (p : List ℕ) → length p % width ≡ 0 → 0 < length p → FirstOf p
  first_of p h some = go (length p / width) refl
    where
      whole : length p ≡ (length p / width) * width
      whole = omega (arith, h, div-add-mod' (length p) width)

      go : (n : ℕ) → length p / width ≡ n → FirstOf p
      go zero e = absurd (omega (arith, whole, ap (λ (k : ℕ). k * width) e, some))
      go (suc n) e =
          let long : length p ≡ suc n * width = whole ∙ ap (λ (k : ℕ). k * width) e in
          let rest : length (drop width p) ≡ n * width = omega (arith, long, length-drop width p) in
          record {
            within = omega (arith, long);
            array_is =
                ap (λ (k : ℕ). values_in k width of p) e
                ∙ ap (λ (k : ℕ). of (take width p) ∷ values_in k width of (drop width p))
                (sym (ap (λ (k : ℕ). k / width) rest ∙ mul-div_cancel n positive));
            rest = ap (λ (k : ℕ). k % width) rest ∙ mul-mod_left n width;
          }

  pub array_none : (p : List ℕ) → length p ≡ 0 → array_of width of p ≡ []
  array_none p e =
      ap (λ (k : ℕ). values_in k width of p)
      (ap (λ (k : ℕ). k / width) e ∙ zero-div width)

-- the bytes of an array whose values have one width each
pub array_long : {X : Type 0} (width : ℕ) (bytes : X → List ℕ) →
    ((x : X) → length (bytes x) ≡ width) → (xs : List X) →
    length (flat_map bytes xs) ≡ length xs * width
array_long width bytes long [] = omega arith
array_long width bytes long (x ∷ xs) =
    omega (
      arith,
      length-append (bytes x) (flat_map bytes xs),
      long x,
      array_long width bytes long xs,
    )
