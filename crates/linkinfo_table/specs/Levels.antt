-- Rows of a family with nested lists, by how many more lists may be nested inside: a list is a row
-- like any other, and it is rejected if no level is left.
use Rattle.std.specs.Prelude.{◌≡◌, ◌≢◌, ℕ, zero, suc, ◌<◌, ◌==◌, false, List}
use Rattle.nla_frame.specs.Attribute.{Attribute, list_string}
use Rattle.nla_frame.specs.declared.error.Cause.TheVariants as cause
use Rattle.nla_frame.specs.declared.error.Family.{Family}
use Rattle.nla_frame.specs.declared.default_nla.DefaultNla.{DefaultNla}
use Rattle.linkinfo_shapes.specs.declared.shape.Shape.TheVariants as shape
use Rattle.linkinfo_table.specs.Codecs.{Codec, IsCodec}
use Rattle.linkinfo_table.specs.Rows.{
  Entry,
  Row,
  Is,
  meaning_in,
  alike_in,
  headers_inside,
  memory_in,
  WellFormed,
  IsRow,
}
use Rattle.linkinfo_table.specs.RowLaws.{
  rows_alike_is,
  rows_read_well,
  rows_well_reads,
  rows_well_attribute,
  rows_quarter,
}
use Rattle.linkinfo_table.specs.FamilyRows.{FamilyRow, Custom, Refuses, row_of, row_if, RowOwes}
use Rattle.linkinfo_table.specs.FamilyRowLaws.{owed, row_if_owes}
use Rattle.linkinfo_table.specs.FlatLaws.{flat_no_memory}
use Rattle.linkinfo_table.specs.SelfList.{list_codec, list_is_codec}
use Rattle.std.specs.Prelude.{map}

module _ {X : Type 0} (f : Family) (other : DefaultNla → X) (attribute : X → Attribute) (number : ℕ)
    (label : List X → X) (flat : ℕ → FamilyRow X) where
  -- the codec of a list whose attributes are read by these rows
  abbrev pub inner_codec : (ℕ → Row X) → Codec
  inner_codec rows =
      list_codec (meaning_in f other rows) (headers_inside rows) (alike_in rows) (memory_in rows)
      attribute (WellFormed other attribute rows)

  abbrev pub level_rows : ℕ → ℕ → FamilyRow X
  level_rows zero n = row_if (n == number) (Refuses cause.Depth) (flat n)
  level_rows (suc levels) n =
      row_if (n == number)
      (Custom shape.SelfList false (inner_codec (λ k. row_of (level_rows levels k))) label)
      (flat n)

  module _ (low : number < 16384)
      (keeps : (xs : List X) →
      attribute (label xs) ≡ record { kind = number; value = list_string (map attribute xs) })
      (same : (xs ys : List X) → label xs ≡ label ys → xs ≡ ys)
      (keeps_other : (d : DefaultNla) →
      attribute (other d) ≡ record { kind = d.kind; value = d.value })
      (flat_owes : (n : ℕ) → RowOwes attribute n (row_of (flat n))) where
    inner_is_codec : (rows : ℕ → FamilyRow X) → ((n : ℕ) → RowOwes attribute n (row_of (rows n))) →
        IsCodec (inner_codec (λ k. row_of (rows k)))
    inner_is_codec rows owes =
        let at : ℕ → Row X = λ k. row_of (rows k) in
        let is_row : (n : ℕ) (e : Entry X) → at n ≡ Is e → IsRow attribute n e = λ n e h.
        owed attribute at owes n e h in
        list_is_codec (meaning_in f other at) (headers_inside at) (alike_in at) (memory_in at)
        attribute (WellFormed other attribute at)
        (λ a b x y i j h k. rows_alike_is f other attribute at is_row keeps_other a b x y i j h k)
        (λ a. rows_quarter f other attribute at is_row keeps_other a)
        (λ a. flat_no_memory f other attribute rows owes keeps_other a)
        (λ a x i h. rows_read_well f other attribute at is_row keeps_other a x i h)
        (λ x w fits. rows_well_reads f other attribute at is_row keeps_other x w fits)
        (λ x w fits. rows_well_attribute f other attribute at is_row keeps_other x w fits)

    no_memory : cause.Depth ≢ cause.Memory
    no_memory e = absurd cc

    pub level_owes : (levels n : ℕ) → RowOwes attribute n (row_of (level_rows levels n))
    level_owes zero n =
        row_if_owes attribute number n (Refuses cause.Depth) (flat n) no_memory (flat_owes n)
    level_owes (suc levels) n =
        row_if_owes attribute number n
        (Custom shape.SelfList false (inner_codec (λ k. row_of (level_rows levels k))) label)
        (flat n)
        (record {
          low = low;
          codec = inner_is_codec (level_rows levels) (level_owes levels);
          keeps = keeps;
          same = λ xs ys h g e. same xs ys e;
        }) (flat_owes n)
