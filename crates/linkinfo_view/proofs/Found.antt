-- The row of a type in two lists of rows, one after the other.
use Rattle.std.proofs.Common.{
  ◌≡◌,
  ℕ,
  Bool,
  true,
  false,
  List,
  [],
  ◌∷◌,
  ◌++◌,
  Some,
  None,
  cond,
  eqb,
  refl,
}
use Rattle.linkinfo_view.specs.Lines.{Line}
use Rattle.linkinfo_view.specs.Table.{found}

-- a row that the first list has
pub found_first : (xs ys : List (ℕ × Line)) (n : ℕ) (line : Line) → found xs n ≡ Some line →
    found (xs ++ ys) n ≡ Some line
found_first [] ys n line e = absurd cc
found_first (x ∷ xs) ys n line e = by_test (eqb n x.0) e (λ d. found_first xs ys n line d)
  where
    by_test : (b : Bool) → cond b (Some x.1) (found xs n) ≡ Some line →
        (found xs n ≡ Some line → found (xs ++ ys) n ≡ Some line) →
        cond b (Some x.1) (found (xs ++ ys) n) ≡ Some line
    by_test true d later = d
    by_test false d later = later d

-- a row that the first list has not
pub found_second : (xs ys : List (ℕ × Line)) (n : ℕ) → found xs n ≡ None →
    found (xs ++ ys) n ≡ found ys n
found_second [] ys n e = refl
found_second (x ∷ xs) ys n e = by_test (eqb n x.0) e (λ d. found_second xs ys n d)
  where
    by_test : (b : Bool) → cond b (Some x.1) (found xs n) ≡ None →
        (found xs n ≡ None → found (xs ++ ys) n ≡ found ys n) →
        cond b (Some x.1) (found (xs ++ ys) n) ≡ found ys n
    by_test true d later = absurd cc
    by_test false d later = later d
