-- The rows of two lists of rows: those of the first list, and those of the second for the types of
-- which the first has none.
use Rattle.std.specs.Prelude.{
  ◌≡◌,
  ◌||◌,
  ℕ,
  ◌*◌,
  ◌≤◌,
  Bool,
  true,
  false,
  if◌then◌else◌,
  List,
  ◌++◌,
  length,
  is_ok,
  refl,
}
use Rattle.nla_frame.specs.Attribute.{Attribute, masked}
use Rattle.nla_frame.specs.declared.error.Family.{Family}
use Rattle.linkinfo_table.specs.Contents.{Contents, IsContent}
use Rattle.linkinfo_table.specs.FamilyMeaning.{alike_by, meaning_by}
use Rattle.linkinfo_table.specs.FamilyRows.{FamilyRow}
use Rattle.linkinfo_table.specs.TypedRows.{IsTyped, inside_after, inside_before}
use Rattle.linkinfo_table.specs.declared.row_family.RowFamily as family

-- the headers inside an attribute
abbrev pub headers_of : (ℕ → Bool) → (Attribute → ℕ) → (Attribute → ℕ) → Attribute → ℕ
headers_of owned first second a = if owned (masked a.kind) then first a else second a

-- what attributes of a type contain
abbrev pub contents_of : (ℕ → Bool) → (ℕ → Contents) → (ℕ → Contents) → ℕ → Contents
contents_of owned first second n = if owned n then first n else second n

pub both_quarter : (owned : ℕ → Bool) (first second : Attribute → ℕ) →
    ((a : Attribute) → 4 * first a ≤ length a.value) →
    ((a : Attribute) → 4 * second a ≤ length a.value) →
    (a : Attribute) → 4 * headers_of owned first second a ≤ length a.value
both_quarter owned first second here there a = go (owned (masked a.kind))
  where
    go : (b : Bool) → 4 * (if b then first a else second a) ≤ length a.value
    go true = here a
    go false = there a

pub both_typed : {F : Type 0} (inside others : List Family) (owned owned_there : ℕ → Bool)
    (rows : ℕ → FamilyRow F) (n : ℕ) → (owned n ≡ true → IsTyped inside (rows n)) →
    (owned_there n ≡ true → IsTyped others (rows n)) → (owned n || owned_there n) ≡ true →
    IsTyped (inside ++ others) (rows n)
both_typed inside others owned owned_there rows n here there h = go (owned n) refl h
  where
    go : (b : Bool) → owned n ≡ b → (b || owned_there n) ≡ true →
        IsTyped (inside ++ others) (rows n)
    go true e k = inside_before inside others (rows n) (here e)
    go false e k = inside_after inside others (rows n) (there k)

module _ {F Context : Type 0} (own : family.Ghosts F Context) (c : Context) (n : ℕ)
    (owned : ℕ → Bool) (first second : ℕ → Contents) where
  pub both_contained :
      IsContent (first n) n (λ a. is_ok (meaning_by own c a)) (alike_by own c) →
      IsContent (second n) n (λ a. is_ok (meaning_by own c a)) (alike_by own c) →
      IsContent (contents_of owned first second n) n (λ a. is_ok (meaning_by own c a))
      (alike_by own c)
  both_contained here there = go (owned n)
    where
      go : (b : Bool) →
          IsContent (if b then first n else second n) n (λ a. is_ok (meaning_by own c a))
          (alike_by own c)
      go true = here
      go false = there
