-- The laws of a family in which each row has a shape, from what its rows owe.
use Rattle.std.specs.Prelude.{◌≡◌, ◌≢◌, ◌↔◌, ℕ, ◌*◌, ◌≤◌, true, length, Result, Ok, Err}
use Rattle.std.proofs.Common.{sym, ap, subst, ◌∙◌, arith}
use Rattle.nla_frame.specs.Attribute.{Attribute, IsAttribute, Fits, masked}
use Rattle.nla_frame.specs.Error.{memory_error}
use Rattle.nla_frame.specs.declared.error.Cause.TheVariants as cause
use Rattle.nla_frame.specs.declared.error.Family.{Family}
use Rattle.nla_frame.specs.declared.error.DecodeError.{DecodeError}
use Rattle.nla_frame.specs.declared.default_nla.DefaultNla.{DefaultNla}
use Rattle.linkinfo_table.specs.Codecs.{PayloadError, Own, Inside}
use Rattle.linkinfo_table.specs.Rows.{
  Entry,
  Row,
  Is,
  Refused,
  Unknown,
  error_at,
  labelled,
  row_meaning,
  meaning_in,
  alike_in,
  WellFormed,
  IsRow,
}
use Rattle.linkinfo_table.specs.RowLaws.{
  rows_alike_is,
  rows_read_well,
  rows_well_reads,
  rows_well_attribute,
}
use Rattle.linkinfo_table.specs.FamilyRows.{FamilyRow, row_of, RowOwes}
use Rattle.linkinfo_table.specs.FamilyRowLaws.{owed}

-- the payload of a shape contains no attributes
pub none_inside : (a : Attribute) → 4 * 0 ≤ length a.value
none_inside a = omega arith

-- no attribute means the memory error, whatever the rows
module _ {F : Type 0} (f : Family) (other : DefaultNla → F) (canonical : F → Attribute) where
  error_no_memory : (n : ℕ) (error : PayloadError) → error ≢ Own cause.Memory →
      error ≢ Inside memory_error → error_at f n error ≢ memory_error
  error_no_memory n (Own c) own inner h = own (ap Own (ap (λ (e : DecodeError). e.cause) h))
  error_no_memory n (Inside e) own inner h = inner (ap Inside h)

  abbrev bad : DecodeError → Result F DecodeError
  bad e = Err e

  bad_same : (d e : DecodeError) → bad d ≡ bad e → d ≡ e
  bad_same d e h = cc

  row_no_memory : (r : Row F) (a : Attribute) → RowOwes canonical (masked a.kind) r →
      row_meaning f other r a ≢ Err memory_error
  row_no_memory (Is e) a owes k =
      go (e.codec.means a.value) (owes.codec.no_own_memory a.value)
      (owes.codec.no_inner_memory a.value) k
    where
      go : (r : Result e.codec.Carrier PayloadError) → r ≢ Err (Own cause.Memory) →
          r ≢ Err (Inside memory_error) → labelled f (masked a.kind) e.label r ≢ Err memory_error
      go (Ok u) own inner k = absurd cc
      go (Err error) own inner k =
          error_no_memory (masked a.kind) error (λ i. own (ap (λ (z : PayloadError). Err z) i))
          (λ i. inner (ap (λ (z : PayloadError). Err z) i)) (bad_same _ _ k)
  row_no_memory (Refused c) a owes k = owes (ap (λ (e : DecodeError). e.cause) (bad_same _ _ k))
  row_no_memory Unknown a owes k = absurd cc

  pub rows_no_memory : (rows : ℕ → Row F) → ((n : ℕ) → RowOwes canonical n (rows n)) →
      (a : Attribute) → meaning_in f other rows a ≢ Err memory_error
  unfolding meaning_in
  rows_no_memory rows owes a k = row_no_memory (rows (masked a.kind)) a (owes (masked a.kind)) k

module _ {F : Type 0} (f : Family) (other : DefaultNla → F) (canonical : F → Attribute)
    (rows : ℕ → FamilyRow F)
    (owes : (n : ℕ) → RowOwes canonical n (row_of (rows n)))
    (keeps_other : (d : DefaultNla) →
    canonical (other d) ≡ record { kind = d.kind; value = d.value }) where
  abbrev at : ℕ → Row F
  at n = row_of (rows n)

  is_row : (n : ℕ) (e : Entry F) → at n ≡ Is e → IsRow canonical n e
  is_row n e h = owed canonical at owes n e h

  pub flat_alike_is : (a b : Attribute) (x y : F) → IsAttribute a → IsAttribute b →
      meaning_in f other at a ≡ Ok x → meaning_in f other at b ≡ Ok y →
      (alike_in at a b ≡ true) ↔ (x ≡ y)
  flat_alike_is a b x y i j h k =
      rows_alike_is f other canonical at is_row keeps_other a b x y i j h k

  pub flat_read_well : (a : Attribute) (x : F) → IsAttribute a → meaning_in f other at a ≡ Ok x →
      WellFormed other canonical at x
  flat_read_well a x i h = rows_read_well f other canonical at is_row keeps_other a x i h

  pub flat_no_memory : (a : Attribute) → meaning_in f other at a ≢ Err memory_error
  flat_no_memory a k = rows_no_memory f other canonical at owes a k

  -- what is written is the canonical attribute
  module _ (attribute : F → Attribute) (written : (x : F) → attribute x ≡ canonical x) where
    pub flat_well_reads : (x : F) → WellFormed other canonical at x → Fits (attribute x) →
        meaning_in f other at (attribute x) ≡ Ok x
    flat_well_reads x w fits =
        ap (λ (a : Attribute). meaning_in f other at a) (written x)
        ∙ rows_well_reads f other canonical at is_row keeps_other x w (subst Fits (written x) fits)

    pub flat_well_attribute : (x : F) → WellFormed other canonical at x → Fits (attribute x) →
        IsAttribute (attribute x)
    flat_well_attribute x w fits =
        subst IsAttribute (sym (written x))
        (rows_well_attribute f other canonical
        at is_row keeps_other x w (subst Fits (written x) fits))
