-- A derived `==` decides `≡` if the `==` of the fields do. There is one entry per variant, so that
-- the cost is linear in the number of variants.
use Rattle.std.specs.Prelude.{◌≡◌, Bool, true, false, ◌&&◌, List, [], ◌∷◌, map, refl}
use Rattle.std.specs.Cmp.{first_so, second_so}
use Rattle.std.specs.Bool.{Decides}
use Rattle.std.specs.Cmp.Lexicographic.{pointwise}
use Rattle.std.proofs.Common.{sym, ap, ◌∙◌, inl, inr}
use denote.Enum.Compared.{by, Each}
use denote.Enum.Declared.{Choice, Record, right_or, left_or}
use denote.Struct.Field.{Field}
use denote.Struct.Values.{Values}

-- for each variant, that the comparison of its fields decides `≡`
abbrev pub EachDecides : (variants : List (List Field)) → Each Bool variants → Type 0
EachDecides [] tests = Unit {0}
EachDecides (fields ∷ variants) tests =
    ((x y : Values fields) → Decides (tests.0 x y) (x ≡ y)) × EachDecides variants tests.1

choice_decides : (variants : List (List Field)) (tests : Each Bool variants) →
    EachDecides variants tests → (c d : Choice variants) →
    Decides (by false false variants tests c d) (c ≡ d)
choice_decides [] tests h c d = absurd c
choice_decides (fields ∷ variants) tests h (inl x) (inl y) = (
  λ t. ap inl ((h.0 x y).0 t),
  λ p. (h.0 x y).1 (ap (left_or x) p),
)
choice_decides (fields ∷ variants) tests h (inl x) (inr d) = (λ t. cc, λ p. cc)
choice_decides (fields ∷ variants) tests h (inr c) (inl y) = (λ t. cc, λ p. cc)
choice_decides (fields ∷ variants) tests h (inr c) (inr d) =
    let rest = choice_decides variants tests.1 h.1 c d in
    (λ t. ap inr (rest.0 t), λ p. rest.1 (ap (right_or c) p))

-- an enum or a struct
pub derived_decides : (N : Record) (tests : Each Bool N.parts) → EachDecides N.parts tests →
    (x y : N.D) →
    Decides (by false false N.parts tests (N.as_values x) (N.as_values y)) (x ≡ y)
derived_decides N tests h x y =
    let d = choice_decides N.parts tests h (N.as_values x) (N.as_values y) in
    (λ t. sym (N.eta x) ∙ (ap N.make (d.0 t) ∙ N.eta y), λ p. d.1 (ap N.as_values p))

-- a variant without fields, and one with a single field
pub no_field : (x y : Unit {0}) → Decides true (x ≡ y)
no_field x y = (λ t i. tt, λ p. refl)

pub one_field : {A : Type 0} {E : A → A → Bool} → ((a b : A) → Decides (E a b) (a ≡ b)) →
    (x y : A × Unit {0}) → Decides (E x.0 y.0) (x ≡ y)
one_field d x y = (λ t i. ((d x.0 y.0).0 t i, tt), λ p. (d x.0 y.0).1 (ap (λ z. z.0) p))

-- a pair
pub two_fields : {A B : Type 0} {E : A → A → Bool} {F : B → B → Bool} →
    ((a b : A) → Decides (E a b) (a ≡ b)) →
    ((a b : B) → Decides (F a b) (a ≡ b)) → (x y : A × B) → Decides (E x.0 y.0 && F x.1 y.1) (x ≡ y)
two_fields {E = E} {F = F} d e x y = (
  λ t i. (
    (d x.0 y.0).0 (first_so (E x.0 y.0) (F x.1 y.1) t) i,
    (e x.1 y.1).0 (second_so (E x.0 y.0) (F x.1 y.1) t) i,
  ),
  λ p.
      let q = (d x.0 y.0).1 (ap (λ z. z.0) p) in
      let r = (e x.1 y.1).1 (ap (λ z. z.1) p) in
      rw (q, r),
)

-- a struct, compared by its fields
pub fields_decide : {X Y : Type 0} {E : Y → Y → Bool} (view : X → Y) (make : Y → X) →
    ((x : X) → make (view x) ≡ x) →
    ((a b : Y) → Decides (E a b) (a ≡ b)) → (x y : X) → Decides (E (view x) (view y)) (x ≡ y)
fields_decide view make back d x y = (
  λ t. sym (back x) ∙ (ap make ((d (view x) (view y)).0 t) ∙ back y),
  λ p. (d (view x) (view y)).1 (ap view p),
)

-- For a type that contains itself: that the comparison decides `≡` is known only for the parts of
-- one given value.
abbrev pub DecidesAt : (variants : List (List Field)) → Each Bool variants → Choice variants →
    Type 0
DecidesAt [] tests c = Unit {0}
DecidesAt (fields ∷ variants) tests (inl x) = (y : Values fields) → Decides (tests.0 x y) (x ≡ y)
DecidesAt (fields ∷ variants) tests (inr c) = DecidesAt variants tests.1 c

choice_decides_at : (variants : List (List Field)) (tests : Each Bool variants)
    (c : Choice variants) → DecidesAt variants tests c →
    (d : Choice variants) → Decides (by false false variants tests c d) (c ≡ d)
choice_decides_at [] tests c h d = absurd c
choice_decides_at (fields ∷ variants) tests (inl x) h (inl y) = (
  λ t. ap inl ((h y).0 t),
  λ p. (h y).1 (ap (left_or x) p),
)
choice_decides_at (fields ∷ variants) tests (inl x) h (inr d) = (λ t. cc, λ p. cc)
choice_decides_at (fields ∷ variants) tests (inr c) h (inl y) = (λ t. cc, λ p. cc)
choice_decides_at (fields ∷ variants) tests (inr c) h (inr d) =
    let rest = choice_decides_at variants tests.1 c h d in
    (λ t. ap inr (rest.0 t), λ p. rest.1 (ap (right_or c) p))

pub derived_decides_at : (N : Record) (tests : Each Bool N.parts) (c : Choice N.parts) →
    DecidesAt N.parts tests c → (y : N.D) →
    Decides (by false false N.parts tests (N.as_values (N.make c)) (N.as_values y)) (N.make c ≡ y)
derived_decides_at N tests c h y =
    let d = choice_decides_at N.parts tests c h (N.as_values y) in
    let same = ap (λ k. by false false N.parts tests k (N.as_values y)) (N.beta c) in (
      λ t. ap N.make (d.0 (sym same ∙ t)) ∙ N.eta y,
      λ p. same ∙ d.1 (sym (N.beta c) ∙ ap N.as_values p),
    )

-- a single field whose comparison decides `≡` at one value
pub one_field_at : {A : Type 0} {b : Bool} (x : A) (y : A × Unit {0}) → Decides b (x ≡ y.0) →
    Decides b ((x, tt) ≡ y)
one_field_at x y d = (λ t i. (d.0 t i, tt), λ p. d.1 (ap (λ z. z.0) p))

-- a list whose comparison decides `≡` at each element
pub pointwise_decides_at : {A : Type 0} (E : A → A → Bool)
    (xs : List ((x : A) × ((y : A) → Decides (E x y) (x ≡ y)))) (ys : List A) →
    Decides (pointwise E (map (λ e. e.0) xs) ys) (map (λ e. e.0) xs ≡ ys)
pointwise_decides_at E [] [] = (λ t. refl, λ p. refl)
pointwise_decides_at E [] (y ∷ ys) = (λ t. cc, λ p. cc)
pointwise_decides_at E (x ∷ xs) [] = (λ t. cc, λ p. cc)
pointwise_decides_at E (x ∷ xs) (y ∷ ys) =
    let rest = pointwise_decides_at E xs ys in
    let same = E x.0 y in
    let others = pointwise E (map (λ e. e.0) xs) ys in (
      λ t.
          let p = (x.1 y).0 (first_so same others t) in
          let q = rest.0 (second_so same others t) in
          λ i. p i ∷ q i,
      λ p.
          let h : x.0 ≡ y = cc in
          let k : map (λ e. e.0) xs ≡ ys = cc in
          let q = (x.1 y).1 h in
          let r = rest.1 k in
          rw (q, r),
    )
