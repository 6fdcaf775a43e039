-- A byte string that is read item by item: each item has the offset of its first byte, and the next
-- one begins where it ends.
use Rattle.std.specs.Prelude.{
  ℕ,
  zero,
  suc,
  ◌+◌,
  List,
  [],
  ◌∷◌,
  length,
  drop,
  Result,
  Ok,
  Err,
}

-- what is read at an offset, from the bytes that begin there: an item and its length, or an error
abbrev pub Reader : Type 0 → Type 0 → Type 0
Reader X E = ℕ → List ℕ → Result (X × ℕ) E

-- an item, and then those after it; an error is the last
abbrev pub followed : {X E : Type 0} → Result (X × ℕ) E → (ℕ → List (Result X E)) →
    List (Result X E)
followed (Ok x) more = Ok x.0 ∷ more x.1
followed (Err e) more = Err e ∷ []

-- at most as many items as the first number
unfoldable pub items_up_to : {X E : Type 0} → Reader X E → ℕ → ℕ → List ℕ → List (Result X E)
items_up_to read zero place s = []
items_up_to read (suc n) place [] = []
items_up_to read (suc n) place (b ∷ s) =
    followed (read place (b ∷ s)) (λ k. items_up_to read n (place + k) (drop k (b ∷ s)))

-- the items of the bytes that begin at an offset; no item is empty, so they are no more than the
-- bytes
unfoldable pub items : {X E : Type 0} → Reader X E → ℕ → List ℕ → List (Result X E)
items read place s = items_up_to read (length s) place s

-- the items of a byte string and then those of the next one; an error is the last
abbrev pub joined : {X E : Type 0} → List (Result X E) → List (Result X E) → List (Result X E)
joined [] next = next
joined ((Ok x) ∷ more) next = Ok x ∷ joined more next
joined ((Err e) ∷ more) next = Err e ∷ []
