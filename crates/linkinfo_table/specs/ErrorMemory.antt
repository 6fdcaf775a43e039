-- The error of an attribute that holds neither a list nor a peer needs no memory, whatever row of
-- the table its type has.
use Rattle.std.specs.Prelude.{
  ◌≡◌,
  ℕ,
  ◌||◌,
  Bool,
  false,
  List,
  [],
  ◌∷◌,
  is_ok,
  Result,
  Ok,
  Err,
  refl,
}
use Rattle.std.specs.Str.{is_utf8}
use Rattle.std.proofs.Common.{sym, ap, ◌∙◌, inl, inr}
use Rattle.std.proofs.lemmas.Bool.{cases_Bool, cond-true}
use Rattle.nla_frame.specs.Attribute.{Attribute, masked}
use Rattle.nla_frame.specs.Payload.{stripped}
use Rattle.nla_frame.specs.declared.default_nla.DefaultNla.{DefaultNla}
use Rattle.nla_frame.specs.declared.error.Cause.{Cause}
use Rattle.nla_frame.specs.declared.error.DecodeError.{DecodeError}
use Rattle.nla_frame.specs.declared.error.Family.{Family}
use Rattle.linkinfo_shapes.specs.declared.shape.Shape.{Shape}
use Rattle.linkinfo_shapes.specs.declared.shape.Shape.TheVariants.{Name, Raw}
use Rattle.linkinfo_shapes.specs.Shapes.{Carrier, means, needs_memory}
use Rattle.linkinfo_table.specs.declared.lookup.Lookup.{Lookup}
use Rattle.linkinfo_table.specs.FamilyRows.{
  FamilyRow,
  Plain,
  Custom,
  Refuses,
  Absent,
  lookup_of,
  own,
  row_of,
}
use Rattle.linkinfo_table.specs.Lists.{first_memory, memory_of}
use Rattle.linkinfo_table.specs.Codecs.{PayloadError}
use Rattle.linkinfo_table.specs.Lookups.{BeginsRejected, HoldsNone}
use Rattle.linkinfo_table.specs.Payloads.{IsSingle}
use Rattle.linkinfo_table.specs.Rows.{
  labelled,
  meaning_in,
  memory_in,
  row_meaning,
  row_needs_memory,
}
use Rattle.linkinfo_table.specs.TypedRows.{IsTyped, single_exact}

abbrev text : List ℕ → Result (List ℕ) Cause
text p = Ok p

text_no_error : (p : List ℕ) (c : Cause) → text p ≡ Err c → ⊥
text_no_error p c h = absurd cc

-- a payload with an error
shape_certain : (s : Shape) (p : List ℕ) (c : Cause) → means s p ≡ Err c → needs_memory s p ≡ false
shape_certain Name p c h =
    elim (cases_Bool (is_utf8 (stripped p))) [
      | inl utf8 ↦
          absurd
          (text_no_error (stripped p) c (sym (cond-true (is_utf8 (stripped p)) _ _ utf8) ∙ h))
      | inr other ↦ other
    ]
shape_certain Raw p c h = absurd cc
shape_certain _ p c h = refl

-- a payload that the family reads itself, and that contains neither attributes nor a peer, needs no
-- memory where it has an error
abbrev pub IsOwnCertain : {F : Type 0} → FamilyRow F → Type 0
IsOwnCertain (Custom shape nested codec label) =
    (p : List ℕ) (error : PayloadError) → IsSingle shape → codec.means p ≡ Err error →
    codec.needs_memory p ≡ false
IsOwnCertain _ = Unit {0}

pub typed_certain : {F : Type 0} (inside : List Family) (r : FamilyRow F) → IsTyped inside r →
    IsOwnCertain r
typed_certain inside (Plain shape label) h = tt
typed_certain inside (Custom shape nested codec label) h =
    λ p error single e. (h.0.exact (single_exact shape h.0.shaped single) p error e).1
typed_certain inside (Refuses cause) h = tt
typed_certain inside Absent h = tt

module _ {F : Type 0} (f : Family) (other : DefaultNla → F) where
  row_certain : (r : FamilyRow F) (a : Attribute) (e : DecodeError) → IsOwnCertain r →
      HoldsNone (lookup_of r) → row_meaning f other (row_of r) a ≡ Err e →
      row_needs_memory (row_of r) a ≡ false
  row_certain (Plain shape label) a e certain none h = go (means shape a.value) refl h
    where
      go : (m : Result (Carrier shape) Cause) → means shape a.value ≡ m →
          labelled f (masked a.kind) label (own m) ≡ Err e → needs_memory shape a.value ≡ false
      go (Ok u) k i = absurd cc
      go (Err c) k i = shape_certain shape a.value c k
  row_certain (Custom shape nested codec label) a e certain none h = go (codec.means a.value) refl h
    where
      go : (m : Result codec.Carrier PayloadError) → codec.means a.value ≡ m →
          labelled f (masked a.kind) label m ≡ Err e → codec.needs_memory a.value ≡ false
      go (Ok u) k i = absurd cc
      go (Err error) k i = certain a.value error none k
  row_certain (Refuses cause) a e certain none h = refl
  row_certain Absent a e certain none h = absurd cc

  pub rows_certain : (rows : ℕ → FamilyRow F) (a : Attribute) (e : DecodeError) →
      IsOwnCertain (rows (masked a.kind)) → HoldsNone (lookup_of (rows (masked a.kind))) →
      meaning_in f other (λ n. row_of (rows n)) a ≡ Err e →
      memory_in (λ n. row_of (rows n)) a ≡ false
  unfolding meaning_in memory_in
  rows_certain rows a e certain none h = row_certain (rows (masked a.kind)) a e certain none h

-- a list that begins with such an attribute, and such a first attribute
module _ {X : Type 0} (l : ℕ → Lookup) (m : Attribute → Result X DecodeError)
    (needs : Attribute → Bool)
    (certain : (a : Attribute) (e : DecodeError) → HoldsNone (l (masked a.kind)) → m a ≡ Err e →
    needs a ≡ false) where
  pub list_certain : (ps : List (Result Attribute ℕ)) (e : DecodeError) → BeginsRejected l m ps e →
      memory_of m needs ps ≡ false
  list_certain ((Ok a) ∷ more) e h =
      ap (λ (b : Bool). b || is_ok (m a)) (certain a e h.0 h.1)
      ∙ ap (λ (r : Result X DecodeError). is_ok r) h.1
  list_certain ((Err n) ∷ more) e h = absurd h
  list_certain [] e h = absurd h

  pub first_certain : (ps : List (Result Attribute ℕ)) (e : DecodeError) → BeginsRejected l m ps e →
      first_memory needs ps ≡ false
  first_certain ((Ok a) ∷ more) e h = certain a e h.0 h.1
  first_certain ((Err n) ∷ more) e h = absurd h
  first_certain [] e h = absurd h
