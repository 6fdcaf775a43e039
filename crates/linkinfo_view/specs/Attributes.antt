-- A list of attributes as people read it: its whole attributes, and what follows them.
use Rattle.std.specs.Prelude.{
  ◌≡◌,
  ℕ,
  ◌+◌,
  ◌<◌,
  ◌==◌,
  Bool,
  List,
  [],
  ◌∷◌,
  length,
  drop,
  Option,
  Some,
  None,
  Result,
  Ok,
  Err,
}
use Rattle.std.specs.List.{list_any}
use denote.Ref.{Bor}
use Rattle.nla_frame.specs.Attribute.{Attribute, aligned, masked}
use Rattle.nla_frame.specs.NlaItems.{nla_items}

-- the attributes before the first header that is not accepted
abbrev pub whole : List (Result Attribute ℕ) → List Attribute
whole [] = []
whole ((Ok a) ∷ more) = a ∷ whole more
whole ((Err n) ∷ more) = []

abbrev pub attributes : List ℕ → List Attribute
attributes s = whole (nla_items s)

-- what follows them
abbrev pub after_whole : List (Result Attribute ℕ) → List ℕ → List ℕ
after_whole [] s = s
after_whole ((Ok a) ∷ more) s = after_whole more (drop (aligned (4 + length a.value)) s)
after_whole ((Err n) ∷ more) s = s

abbrev pub rest_of : List ℕ → List ℕ
rest_of s = after_whole (nla_items s) s

-- whether a list has an attribute of a type
abbrev pub has_type : ℕ → List Attribute → Bool
has_type kind more = list_any (λ a. masked a.kind == kind) more

-- the first attribute and what follows it
pub record Begins (s : List ℕ) (a : Attribute) (next : List ℕ) : Type 0 where
  pub attributes_are : attributes s ≡ a ∷ attributes next
  pub rest_is : rest_of s ≡ rest_of next
  pub shorter : length next < length s

-- no attribute
pub record Ends (s : List ℕ) : Type 0 where
  pub attributes_are : attributes s ≡ []
  pub rest_is : rest_of s ≡ s

abbrev pub FirstOf : List ℕ → Option (Attribute × Bor (List ℕ)) → Type 0
FirstOf s None = Ends s
FirstOf s (Some x) = Begins s x.0 x.1.now
