use Rattle.std.proofs.Common.{
  ◌≡◌,
  ℕ,
  ◌==◌,
  Bool,
  true,
  false,
  List,
  length,
  Some,
  None,
  ap,
  refl,
  arith,
  subst,
  sym,
  take,
  ◌∙◌,
}
use Rattle.std.proofs.lemmas.List.{take_all}
use Rattle.std.proofs.lemmas.List.Sums.{position_or_len_is}
use Rattle.std.specs.List.{before_first}
use Rattle.memchr.specs.Find.{IsFirstByte}
use Rattle.linkinfo_view.proofs.value.before_nul.Goals as goal

not_true : (b : Bool) → ((b ≡ true) → ⊥) → b ≡ false
not_true true h = absurd (h refl)
not_true false h = refl

-- what is before the place that is found, and all where none is
found : (p : ℕ → Bool) (xs : List ℕ) (k : ℕ) → IsFirstByte p xs (Some k) →
    take k xs ≡ before_first p xs
found p xs k h =
    ap (λ i. take i xs) (sym (position_or_len_is p xs k 0 (omega (arith, h.0.high))
    (λ j b. not_true _ (h.0.before j (omega arith) b)) (λ b. h.1)))

absent : (p : ℕ → Bool) (xs : List ℕ) → IsFirstByte p xs None → xs ≡ before_first p xs
absent p xs h =
    sym (ap (λ i. take i xs) (position_or_len_is p xs (length xs) 0 (omega arith)
    (λ k b. not_true _ (h k (omega arith) b)) (λ b. absurd (omega arith)))
    ∙ take_all (length xs) xs (omega arith))

pub returns-in-Some : goal.returns-in-Some
returns-in-Some c =
    let bytes = c.args.bytes.now in
    found (λ b. b == 0) bytes c.in-Some.end
    (subst (λ r. IsFirstByte (λ b. b == 0) bytes r) c.in-Some.is c.memchr.ensures)

pub returns-in-None : goal.returns-in-None
returns-in-None c =
    let bytes = c.args.bytes.now in
    absent (λ b. b == 0) bytes
    (subst (λ r. IsFirstByte (λ b. b == 0) bytes r) c.in-None.is c.memchr.ensures)
