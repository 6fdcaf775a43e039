-- The first index that a search returns is the position.
use Rattle.std.proofs.Common.{
  ◌≡◌,
  ◌<◌,
  ℕ,
  Bool,
  true,
  false,
  cond,
  ltb,
  List,
  length,
  Option,
  Some,
  None,
  refl,
  arith,
}
use Rattle.std.specs.List.{position}
use Rattle.std.proofs.lemmas.Bool.Decides.{nat_tests}
use Rattle.std.proofs.lemmas.List.Sums.{position_or_len_is}
use Rattle.memchr.specs.Find.{IsFirstByte}

absent : (a b : ℕ) → a ≡ b → None ≡ cond (ltb a b) (Some a) None
absent a b h = grind (arith, nat_tests)

present : (a b i : ℕ) → a ≡ i → i < b → Some i ≡ cond (ltb a b) (Some a) None
present a b i e h = grind (arith, nat_tests)

not_true : (b : Bool) → ((b ≡ true) → ⊥) → b ≡ false
not_true true h = absurd (h refl)
not_true false h = refl

pub place_is : (p : ℕ → Bool) (xs : List ℕ) (r : Option ℕ) → IsFirstByte p xs r → r ≡ position p xs
place_is p xs None h =
    absent _ (length xs) (position_or_len_is p xs (length xs) 0 (omega arith)
    (λ k b. not_true _ (h k (omega arith) b)) (λ b. absurd (omega arith)))
place_is p xs (Some k) h =
    present _ (length xs) k (position_or_len_is p xs k 0 (omega (arith, h.0.high))
    (λ j b. not_true _ (h.0.before j (omega arith) b)) (λ b. h.1)) h.0.high
