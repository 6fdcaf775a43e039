-- Families of which each row is read by the table of shapes, or has a payload of a type of its own:
-- what `LinkFamily` requires of them follows from their rows, whatever their name, and each error
-- has the name of the family or of a family inside.
use Rattle.std.specs.Prelude.{
  ◌≡◌,
  ℕ,
  ◌*◌,
  ◌≤◌,
  Bool,
  true,
  false,
  List,
  ◌∷◌,
  length,
  Result,
  Err,
  is_ok,
  refl,
}
use Rattle.nla_frame.specs.Attribute.{Attribute, masked}
use Rattle.nla_frame.specs.NlaItems.{nla_items}
use Rattle.nla_frame.specs.declared.default_nla.DefaultNla.{DefaultNla}
use Rattle.nla_frame.specs.declared.error.DecodeError.{DecodeError}
use Rattle.nla_frame.specs.declared.error.Family.{Family}
use Rattle.linkinfo_table.specs.ByRows.{members_written_by_rows, written_are_family}
use Rattle.linkinfo_table.specs.Contents.{Contents, IsContent}
use Rattle.linkinfo_table.specs.ErrorMemory.{rows_certain, typed_certain}
use Rattle.linkinfo_table.specs.ErrorNames.{names_first, names_list}
use Rattle.linkinfo_table.specs.FamilyRows.{FamilyRow, IsFlat, RowOwes, lookup_of}
use Rattle.linkinfo_table.specs.FamilyRows.{row_of}
use Rattle.linkinfo_table.specs.Lists.{first_meaning, values}
use Rattle.linkinfo_table.specs.LookupLaws.{rows_say}
use Rattle.linkinfo_table.specs.Lookups.{HoldsNone, LookupSays}
use Rattle.linkinfo_table.specs.Members.{IsFamily}
use Rattle.linkinfo_table.specs.Named.{EachNamed}
use Rattle.linkinfo_table.specs.Rows.{alike_in, meaning_in, memory_in}
use Rattle.linkinfo_table.specs.TypedRows.{IsTyped, flat_typed}

-- What `LinkFamily` requires of such a family, whatever its name: `attribute` is the canonical
-- attribute by its rows, and `emitted` the one that its `Nla` writes. `headers` are those inside an
-- attribute, and `inside` the families of the attributes inside.
pub record IsTableWritten {F : Type 0} (other : DefaultNla → F) (attribute emitted : F → Attribute)
    (rows : ℕ → FamilyRow F) (headers : Attribute → ℕ) (inside : List Family) : Type 1 where
  pub says : {C : Type 0} (f : Family) (under : C → Attribute → Result F DecodeError)
      (a : Attribute) →
      LookupSays f inside other emitted under a (lookup_of (rows (masked a.kind)))
      (meaning_in f other (λ n. row_of (rows n)) a)
  pub certain : (f : Family) (a : Attribute) (e : DecodeError) →
      HoldsNone (lookup_of (rows (masked a.kind))) →
      meaning_in f other (λ n. row_of (rows n)) a ≡ Err e →
      memory_in (λ n. row_of (rows n)) a ≡ false
  pub laws : (f : Family) (contents : ℕ → Contents) (is_set : Bool) →
      ((n : ℕ) →
      IsContent (contents n) n (λ a. is_ok (meaning_in f other (λ k. row_of (rows k)) a))
      (alike_in (λ k. row_of (rows k)))) →
      IsFamily
      (members_written_by_rows f other attribute rows emitted headers inside contents is_set)

abbrev pub IsTableFamily : {F : Type 0} → (DefaultNla → F) → (F → Attribute) → (ℕ → FamilyRow F) →
    (Attribute → ℕ) → List Family → Type 1
IsTableFamily other attribute rows headers inside =
    IsTableWritten other attribute attribute rows headers inside

-- rows that are not those of payloads of types of their own are read by the table
pub each_typed : {F : Type 0} (rows : ℕ → FamilyRow F) (inside : List Family) (owned : ℕ → Bool) →
    ((n : ℕ) → owned n ≡ true → IsTyped inside (rows n)) →
    ((n : ℕ) → owned n ≡ false → IsFlat (rows n)) → (n : ℕ) → IsTyped inside (rows n)
each_typed rows inside owned typed flat n = go (owned n) (typed n) (flat n)
  where
    go : (b : Bool) → (b ≡ true → IsTyped inside (rows n)) → (b ≡ false → IsFlat (rows n)) →
        IsTyped inside (rows n)
    go true here there = here refl
    go false here there = flat_typed inside (rows n) (there refl)

pub table_lawful : {F : Type 0} (other : DefaultNla → F) (attribute emitted : F → Attribute) →
    ((x : F) → emitted x ≡ attribute x) → (rows : ℕ → FamilyRow F) (headers : Attribute → ℕ)
    (inside : List Family) → ((n : ℕ) → IsTyped inside (rows n)) →
    ((n : ℕ) → RowOwes attribute n (row_of (rows n))) →
    ((d : DefaultNla) → attribute (other d) ≡ record { kind = d.kind; value = d.value }) →
    ((a : Attribute) → 4 * headers a ≤ length a.value) →
    IsTableWritten other attribute emitted rows headers inside
table_lawful other attribute emitted written rows headers inside typed owes keeps_other quarter =
    record {
      says = λ f under a.
          rows_say f inside other attribute emitted written under rows a (typed (masked a.kind))
          (owes (masked a.kind));
      certain = λ f a e.
          rows_certain f other rows a e
          (typed_certain inside (rows (masked a.kind)) (typed (masked a.kind)));
      laws = λ f contents is_set contained.
          written_are_family f other attribute rows emitted written owes keeps_other headers
          quarter inside contents is_set contained;
    }

-- each error of such a family has its name or that of a family inside, in lists and in first
-- attributes
module _ {F : Type 0} {other : DefaultNla → F} {attribute : F → Attribute} {rows : ℕ → FamilyRow F}
    {headers : Attribute → ℕ} {inside : List Family}
    (family : IsTableFamily other attribute rows headers inside) (f : Family) where
  abbrev means : Attribute → Result F DecodeError
  means a = meaning_in f other (λ n. row_of (rows n)) a

  pub list_named : (s : List ℕ) → EachNamed (f ∷ inside) (values means (nla_items s))
  list_named s =
      names_list f inside other attribute (λ _ n. lookup_of (rows n)) (λ _ a. means a)
      (λ _ a. family.says f (λ _ b. means b) a) (tt {0}) s

  pub first_named : (s : List ℕ) → EachNamed (f ∷ inside) (first_meaning means (nla_items s))
  first_named s =
      names_first f inside other attribute (λ _ n. lookup_of (rows n)) (λ _ a. means a)
      (λ _ a. family.says f (λ _ b. means b) a) (tt {0}) s
