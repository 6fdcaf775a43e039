-- A family by its rows: what `LinkFamily` defines for its attributes under one context is lawful,
-- and each error has the family's name. Both follow from what the rows owe.
use Rattle.std.specs.Prelude.{
  ◌≡◌,
  ℕ,
  ◌*◌,
  ◌≤◌,
  Bool,
  false,
  List,
  [],
  length,
  Result,
  is_ok,
  refl,
}
use Rattle.nla_frame.specs.Attribute.{Attribute, masked}
use Rattle.nla_frame.specs.NlaItems.{nla_items}
use Rattle.nla_frame.specs.declared.default_nla.DefaultNla.{DefaultNla}
use Rattle.nla_frame.specs.declared.error.DecodeError.{DecodeError}
use Rattle.nla_frame.specs.declared.error.Family.{Family}
use Rattle.linkinfo_table.specs.FamilyRows.{EachKeeps, FamilyRow, IsFlat, PlainRow, RowOwes}
use Rattle.linkinfo_table.specs.FamilyRows.{lookup_of, row_of, table_row}
use Rattle.linkinfo_table.specs.FamilyRowLaws.{table_flat, table_owes}
use Rattle.linkinfo_table.specs.Contents.{Contents, IsContent, single_value}
use Rattle.linkinfo_table.specs.ErrorNames.{names_list}
use Rattle.linkinfo_table.specs.FlatLaws.{flat_alike_is, flat_no_memory, flat_read_well}
use Rattle.linkinfo_table.specs.FlatLaws.{flat_well_attribute, flat_well_reads, none_inside}
use Rattle.linkinfo_table.specs.LookupLaws.{rows_say}
use Rattle.linkinfo_table.specs.Lists.{values}
use Rattle.linkinfo_table.specs.Members.{IsFamily, Members}
use Rattle.linkinfo_table.specs.Named.{EachNames}
use Rattle.linkinfo_table.specs.OneType.{rows_type}
use Rattle.linkinfo_table.specs.Rows.{WellFormed, alike_in, meaning_in, memory_in}
use Rattle.linkinfo_table.specs.TypedRows.{flat_typed}

module _ {X : Type 0} (f : Family) (other : DefaultNla → X) (attribute : X → Attribute)
    (rows : ℕ → FamilyRow X) where
  abbrev means : Attribute → Result X DecodeError
  means a = meaning_in f other (λ n. row_of (rows n)) a

  -- what is written may be another function with the same attributes
  abbrev pub members_written_by_rows : (X → Attribute) → (Attribute → ℕ) → List Family →
      (ℕ → Contents) → Bool → Members X
  members_written_by_rows emitted headers inner contents is_set = record {
    family = f;
    inner = inner;
    meaning = means;
    headers = headers;
    alike = alike_in (λ n. row_of (rows n));
    needs_memory = memory_in (λ n. row_of (rows n));
    attribute = emitted;
    well = WellFormed other attribute (λ n. row_of (rows n));
    contents = contents;
    is_set = is_set;
  }

  -- a family with no attributes inside attributes, or with those of its own alone
  abbrev pub members_with : (Attribute → ℕ) → (ℕ → Contents) → Bool → Members X
  members_with headers contents is_set =
      members_written_by_rows attribute headers [] contents is_set

  abbrev pub members_by_rows : (Attribute → ℕ) → Members X
  members_by_rows headers = members_with headers (λ _. single_value) false

  pub written_are_family : (emitted : X → Attribute) → ((x : X) → emitted x ≡ attribute x) →
      ((n : ℕ) → RowOwes attribute n (row_of (rows n))) →
      ((d : DefaultNla) → attribute (other d) ≡ record { kind = d.kind; value = d.value }) →
      (headers : Attribute → ℕ) → ((a : Attribute) → 4 * headers a ≤ length a.value) →
      (inner : List Family) (contents : ℕ → Contents) (is_set : Bool) →
      ((n : ℕ) →
      IsContent (contents n) n (λ a. is_ok (means a)) (alike_in (λ k. row_of (rows k)))) →
      IsFamily (members_written_by_rows emitted headers inner contents is_set)
  written_are_family emitted written owes keeps headers quarter inner contents is_set contained =
      record {
        alike_is = flat_alike_is f other attribute rows owes keeps;
        quarter = quarter;
        no_memory = flat_no_memory f other attribute rows owes keeps;
        read_well = flat_read_well f other attribute rows owes keeps;
        well_reads = flat_well_reads f other attribute rows owes keeps emitted written;
        well_attribute = flat_well_attribute f other attribute rows owes keeps emitted written;
        one_type = rows_type (λ n. row_of (rows n));
        contained = contained;
      }

  module _ (owes : (n : ℕ) → RowOwes attribute n (row_of (rows n))) where
    pub rows_are_family :
        ((d : DefaultNla) → attribute (other d) ≡ record { kind = d.kind; value = d.value }) →
        (headers : Attribute → ℕ) → ((a : Attribute) → 4 * headers a ≤ length a.value) →
        (contents : ℕ → Contents) (is_set : Bool) →
        ((n : ℕ) →
        IsContent (contents n) n (λ a. is_ok (means a)) (alike_in (λ k. row_of (rows k)))) →
        IsFamily (members_with headers contents is_set)
    rows_are_family keeps headers quarter contents is_set contained =
        written_are_family attribute (λ _. refl) owes keeps headers quarter [] contents is_set
        contained

    module _ (flat : (n : ℕ) → IsFlat (rows n)) where
      pub rows_name : (s : List ℕ) → EachNames f (values means (nla_items s))
      rows_name s =
          names_list f [] other attribute (λ _ n. lookup_of (rows n)) (λ _ a. means a)
          (λ _ a. rows_say f [] other attribute attribute (λ _. refl) (λ _ b. means b) rows a
          (flat_typed [] (rows (masked a.kind)) (flat (masked a.kind))) (owes (masked a.kind)))
          (tt {0}) s

-- ---- a family of one table of plain rows

module _ {X : Type 0} (f : Family) (other : DefaultNla → X) (attribute : X → Attribute)
    (table : List (PlainRow X)) (keeps : EachKeeps attribute table) where
  pub table_is_family :
      ((d : DefaultNla) → attribute (other d) ≡ record { kind = d.kind; value = d.value }) →
      {is_set : Bool} →
      IsFamily (members_with f other attribute (λ n. table_row table n) (λ _. 0) (λ _. single_value)
      is_set)
  table_is_family keeps_other {is_set = is_set} =
      rows_are_family f other attribute (λ n. table_row table n) (table_owes attribute table keeps)
      keeps_other (λ _. 0) none_inside (λ _. single_value) is_set (λ _. tt)

  pub table_names : (s : List ℕ) →
      EachNames f (values (meaning_in f other (λ n. row_of (table_row table n))) (nla_items s))
  table_names s =
      rows_name f other attribute (λ n. table_row table n) (table_owes attribute table keeps)
      (λ n. table_flat attribute table keeps n) s
