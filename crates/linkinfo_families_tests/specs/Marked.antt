-- The rows of a family with lists of another family, one of them written with NLA_F_NESTED, given
-- what that family defines.
use Rattle.std.specs.Prelude.{◌≡◌, ◌==◌, ◌||◌, ℕ, Bool, true, false, List, [], ◌∷◌, map, refl}
use Rattle.std.proofs.Common.{lit<}
use Rattle.nla_frame.specs.Attribute.{Attribute, list_string}
use Rattle.nla_frame.specs.Kept.{attribute_of}
use Rattle.nla_frame.specs.Pairs.{◌&◌}
use Rattle.linkinfo_shapes.specs.declared.shape.Shape.TheVariants.{Le32, Nested}
use Rattle.linkinfo_table.specs.FamilyRowLaws.{table_flat, table_owes}
use Rattle.linkinfo_table.specs.FamilyRows.{
  EachKeeps,
  FamilyRow,
  IsFlat,
  PlainRow,
  RowOwes,
  row,
  row_of,
  table_row,
  typed,
}
use Rattle.linkinfo_table.specs.Labels.{each_keeps}
use Rattle.linkinfo_table.specs.Members.{IsFamily, Members, list_of, list_of_is_codec}
use Rattle.linkinfo_table.specs.TypedRows.{with_flat, with_owes, with_row}
use Rattle.linkinfo_families_tests.specs.declared.marked.InfoMarked.{InfoMarked}
use Rattle.linkinfo_families_tests.specs.declared.marked.InfoMarked.TheVariants as marked
use Rattle.linkinfo_families_tests.specs.declared.vlan.InfoVlanRow.{InfoVlanRow}

-- the rows of the table
abbrev pub marked_plain : List (PlainRow InfoMarked)
marked_plain = row 1 Le32 (λ n. marked.Delay n) ∷ []

-- values of each row with a payload of its own
abbrev pub is_flagged : InfoMarked → Bool
is_flagged (marked.Flagged xs) = true
is_flagged _ = false

abbrev pub is_listed : InfoMarked → Bool
is_listed (marked.Listed xs) = true
is_listed _ = false

abbrev pub marked_is_custom : InfoMarked → Bool
marked_is_custom x = is_flagged x || (is_listed x || false)

module _ (vlan : Members InfoVlanRow) where
  abbrev pub marked_attribute : InfoMarked → Attribute
  marked_attribute (marked.Delay n) = typed 1 Le32 n
  marked_attribute (marked.Flagged xs) =
      record { kind = 32784; value = list_string (map vlan.attribute xs) }
  marked_attribute (marked.Listed xs) =
      record { kind = 3; value = list_string (map vlan.attribute xs) }
  marked_attribute (marked.Other nla) = attribute_of nla

  pub marked_keeps : EachKeeps marked_attribute marked_plain
  marked_keeps = each_keeps marked_attribute marked_plain refl ((λ n. refl) & tt)

  abbrev pub marked_rows : ℕ → FamilyRow InfoMarked
  marked_rows n =
      with_row 16 (Nested vlan.family) true (list_of vlan) (λ xs. marked.Flagged xs)
      (with_row 3 (Nested vlan.family) false (list_of vlan) (λ xs. marked.Listed xs)
      (table_row marked_plain)) n

  pub marked_owes : IsFamily vlan → (n : ℕ) → RowOwes marked_attribute n (row_of (marked_rows n))
  marked_owes lawful n =
      with_owes 16 (Nested vlan.family) true (list_of vlan) (λ xs. marked.Flagged xs) _
      marked_attribute (lit< tt) (list_of_is_codec vlan lawful) (λ xs. refl) (λ x y e. cc)
      (with_owes 3 (Nested vlan.family) false (list_of vlan) (λ xs. marked.Listed xs) _
      marked_attribute (lit< tt) (list_of_is_codec vlan lawful) (λ xs. refl) (λ x y e. cc)
      (table_owes marked_attribute marked_plain marked_keeps)) n

  pub marked_flat : (n : ℕ) → ((n == 16) || ((n == 3) || false)) ≡ false → IsFlat (marked_rows n)
  marked_flat n h =
      with_flat 16 (Nested vlan.family) true (list_of vlan) (λ xs. marked.Flagged xs)
      (with_row 3 (Nested vlan.family) false (list_of vlan) (λ xs. marked.Listed xs)
      (table_row marked_plain)) ((n == 3) || false) n h
      (λ e. with_flat 3 (Nested vlan.family) false (list_of vlan) (λ xs. marked.Listed xs)
      (table_row marked_plain) false n e
      (λ _. table_flat marked_attribute marked_plain marked_keeps n))
