-- The items of a byte string: the first, and those after it.
use Rattle.std.proofs.Common.{
  ◌≡◌,
  ℕ,
  zero,
  suc,
  ◌+◌,
  ◌*◌,
  ◌<◌,
  ◌≤◌,
  Bool,
  true,
  false,
  cond,
  List,
  [],
  ◌∷◌,
  length,
  drop,
  refl,
  ap,
  ◌∙◌,
  arith,
  Result,
  Ok,
  Err,
}
use Rattle.std.proofs.lemmas.List.{length-drop, drop-drop}
use Rattle.linkinfo_messages.specs.Reading.{Reader, followed, items_up_to, items}

-- each item takes 16 bytes at least, and no more than there are
abbrev pub TakesSome : {X E : Type 0} → Reader X E → Type 0
TakesSome {X} {E} read =
    (place : ℕ) → (s : List ℕ) → (x : X × ℕ) → read place s ≡ Ok x → (16 ≤ x.1) × (x.1 ≤ length s)

followed_same : {X E : Type 0} (r : Result (X × ℕ) E) (f g : ℕ → List (Result X E)) →
    ((x : X × ℕ) → r ≡ Ok x → f x.1 ≡ g x.1) → followed r f ≡ followed r g
followed_same (Ok x) f g h = ap (λ l. Ok x.0 ∷ l) (h x refl)
followed_same (Err e) f g h = refl

-- a higher limit on the number of items changes nothing
items_enough : {X E : Type 0} (read : Reader X E) → TakesSome read →
    (m n place : ℕ) (s : List ℕ) → length s ≤ m → length s ≤ n →
    items_up_to read m place s ≡ items_up_to read n place s
unfolding items_up_to
items_enough read takes zero zero place [] h i = refl
items_enough read takes zero (suc n) place [] h i = refl
items_enough read takes (suc m) zero place [] h i = refl
items_enough read takes (suc m) (suc n) place [] h i = refl
items_enough read takes zero n place (b ∷ s) h i = absurd (omega (arith, h))
items_enough read takes (suc m) zero place (b ∷ s) h i = absurd (omega (arith, i))
items_enough read takes (suc m) (suc n) place (b ∷ s) h i =
    followed_same (read place (b ∷ s)) _ _ (λ x e.
    let size = takes place (b ∷ s) x e in
    items_enough read takes m n (place + x.1) (drop x.1 (b ∷ s))
    (omega (arith, length-drop x.1 (b ∷ s), size.0, h))
    (omega (arith, length-drop x.1 (b ∷ s), size.0, i)))

-- no bytes have no items
pub items_nil : {X E : Type 0} (read : Reader X E) (place : ℕ) → items read place [] ≡ []
unfolding items items_up_to
items_nil read place = refl

-- the first item, and then those after it
pub items_first : {X E : Type 0} (read : Reader X E) → TakesSome read → (place : ℕ) (s : List ℕ) →
    0 < length s →
    items read place s
    ≡ followed (read place s) (λ k. items read (place + k) (drop k s))
unfolding items items_up_to
items_first read takes place [] some = absurd (omega (arith, some))
items_first read takes place (b ∷ s) some =
    followed_same (read place (b ∷ s)) _ _ (λ x e.
    let size = takes place (b ∷ s) x e in
    items_enough read takes (length s) (length (drop x.1 (b ∷ s))) (place + x.1)
    (drop x.1 (b ∷ s))
    (omega (arith, length-drop x.1 (b ∷ s), size.0)) (omega arith))

-- the same for the bytes from an offset on
pub items_at : {X E : Type 0} (read : Reader X E) → TakesSome read → (place : ℕ) (s : List ℕ) →
    place < length s →
    items read place (drop place s)
    ≡ followed (read place (drop place s)) (λ k. items read (place + k) (drop (place + k) s))
items_at read takes place s h =
    items_first read takes place (drop place s) (omega (arith, length-drop place s))
    ∙ followed_same (read place (drop place s)) _ _
    (λ x e. ap (λ u. items read (place + x.1) u) (drop-drop x.1 place s))

followed_bound : {X E : Type 0} (r : Result (X × ℕ) E) (f : ℕ → List (Result X E)) (n : ℕ) →
    0 < n → ((x : X × ℕ) → r ≡ Ok x → 16 + 16 * length (f x.1) ≤ n + 15) →
    16 * length (followed r f) ≤ n + 15
followed_bound (Ok x) f n some h = let g = h x refl in omega (arith, g)
followed_bound (Err e) f n some h = omega (arith, some)

items_up_to-bound : {X E : Type 0} (read : Reader X E) → TakesSome read →
    (n place : ℕ) (s : List ℕ) → 16 * length (items_up_to read n place s) ≤ length s + 15
unfolding items_up_to
items_up_to-bound read takes zero place s = omega arith
items_up_to-bound read takes (suc n) place [] = omega arith
items_up_to-bound read takes (suc n) place (b ∷ s) =
    followed_bound (read place (b ∷ s)) _ (length (b ∷ s)) (omega arith) (λ x e.
    let size = takes place (b ∷ s) x e in
    let rest = items_up_to-bound read takes n (place + x.1) (drop x.1 (b ∷ s)) in
    omega (arith, length-drop x.1 (b ∷ s), size.0, size.1, rest))

-- at most one item per sixteen bytes, and one more
pub items-bound : {X E : Type 0} (read : Reader X E) → TakesSome read → (place : ℕ)
    (s : List ℕ) → 16 * length (items read place s) ≤ length s + 15
unfolding items
items-bound read takes place s = items_up_to-bound read takes (length s) place s

-- what holds of both choices
pub of_choice : {A : Type 0} (P : A → Type 0) (b : Bool) (x y : A) → (b ≡ true → P x) →
    (b ≡ false → P y) → P (cond b x y)
of_choice P true x y h k = h refl
of_choice P false x y h k = k refl
