-- The rows of `vlan` links.
use Rattle.std.specs.Prelude.{List, [], ◌∷◌, refl}
use Rattle.std.proofs.Common.{lit<}
use Rattle.nla_frame.specs.Attribute.{Attribute}
use Rattle.nla_frame.specs.Kept.{attribute_of}
use Rattle.linkinfo_table.specs.ByRows.{members_by_rows, table_is_family}
use Rattle.linkinfo_table.specs.FamilyRows.{PlainRow, row, table_row, typed, EachKeeps}
use Rattle.linkinfo_table.specs.Members.{IsFamily, Members}
use Rattle.nla_frame.specs.declared.error.Family.TheVariants as family
use Rattle.linkinfo_shapes.specs.declared.shape.Shape.TheVariants.{Be16, FlagPair, Le16}
use Rattle.linkinfo_families_tests.specs.declared.vlan.InfoVlanRow.{InfoVlanRow}
use Rattle.linkinfo_families_tests.specs.declared.vlan.InfoVlanRow.TheVariants.{
  Id,
  Flags,
  Protocol,
  Other,
}

abbrev pub vlan_rows : List (PlainRow InfoVlanRow)
vlan_rows =
    row 1 Le16 (λ n. Id n) ∷
    row 2 FlagPair (λ pair. Flags pair) ∷
    row 5 Be16 (λ n. Protocol n) ∷
    []

abbrev pub vlan_attribute : InfoVlanRow → Attribute
vlan_attribute (Id n) = typed 1 Le16 n
vlan_attribute (Flags pair) = typed 2 FlagPair pair
vlan_attribute (Protocol n) = typed 5 Be16 n
vlan_attribute (Other nla) = attribute_of nla

pub vlan_keeps : EachKeeps vlan_attribute vlan_rows
vlan_keeps = (
  record { low = lit< tt; plain = tt; keeps = λ n. refl },
  (
    record { low = lit< tt; plain = tt; keeps = λ pair. refl },
    (record { low = lit< tt; plain = tt; keeps = λ n. refl }, tt),
  ),
)

-- what the family defines
abbrev pub vlan_members : Members InfoVlanRow
vlan_members =
    members_by_rows family.Vlan (λ d. Other d) vlan_attribute (λ n. table_row vlan_rows n) (λ _. 0)

pub vlan_lawful : IsFamily vlan_members
vlan_lawful =
    table_is_family family.Vlan (λ d. Other d) vlan_attribute vlan_rows vlan_keeps (λ _. refl)
