-- Each name has at most 47 bytes, by computing.
use Rattle.std.proofs.Common.{
  ◌≡◌,
  ℕ,
  ◌≤◌,
  Bool,
  true,
  false,
  List,
  [],
  ◌∷◌,
  Option,
  Some,
  None,
  cond,
  eqb,
  leb,
  length,
  refl,
  sym,
  subst,
}
use Rattle.std.proofs.lemmas.Bool.{and_parts, leb-true}
use Rattle.std.specs.Borrow.{Bor}
use Rattle.std.specs.List.{list_all}
use Rattle.std.specs.Option.{option_copied}
use Rattle.std.specs.Prelude.{IfSome}
use Rattle.nla_frame.specs.declared.error.Family.{Family}
use Rattle.nla_frame.specs.declared.error.Family.TheVariants as family
use Rattle.linkinfo_names.specs.Names.{attribute_name, named, names_of}

abbrev are_short : List (ℕ × List ℕ) → Bool
are_short entries = list_all (λ (row : ℕ × List ℕ). leb (length row.1) 47) entries

all_short : (f : Family) → are_short (names_of f) ≡ true
all_short family.LinkInfo = refl
all_short _ = refl

IsShort : Option (List ℕ) → Type 0
IsShort found = IfSome found (λ name. length name ≤ 47)

found_short : (entries : List (ℕ × List ℕ)) (n : ℕ) → are_short entries ≡ true →
    IsShort (named entries n)
unfolding IsShort
found_short [] n all = tt
found_short (x ∷ xs) n all =
    let parts = and_parts (leb (length x.1) 47) (are_short xs) all in
    by_test (eqb n x.0) (leb-true (length x.1) 47 parts.0) (found_short xs n parts.1)
  where
    by_test : (b : Bool) → length x.1 ≤ 47 → IsShort (named xs n) →
        IsShort (cond b (Some x.1) (named xs n))
    by_test true here later = here
    by_test false here later = later

behind : (r : Option (Bor (List ℕ))) → IsShort (option_copied r) →
    IfSome r (λ name. length name.now ≤ 47)
unfolding IsShort
behind None h = tt
behind (Some name) h = h

-- a reference to the name of a type
pub short_name : (f : Family) (n : ℕ) (r : Option (Bor (List ℕ))) →
    option_copied r ≡ attribute_name f n → IfSome r (λ name. length name.now ≤ 47)
short_name f n r e = behind r (subst IsShort (sym e) (found_short (names_of f) n (all_short f)))
