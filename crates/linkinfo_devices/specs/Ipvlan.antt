-- The rows of `ipvlan` and of `ipvtap` links. The number in the type is 1 for `ipvtap`, else 0.
use Rattle.std.specs.Prelude.{◌≡◌, ℕ, Bool, true, false, List, [], ◌∷◌, refl}
use Rattle.std.proofs.Common.{ap}
use Rattle.nla_frame.specs.Attribute.{Attribute}
use Rattle.nla_frame.specs.Kept.{attribute_of}
use Rattle.nla_frame.specs.declared.error.Family.{Family}
use Rattle.nla_frame.specs.declared.error.Family.TheVariants as family
use Rattle.linkinfo_table.specs.FamilyRows.{
  PlainRow,
  row,
  typed,
  table_row,
  lookup_of,
  lookup_in,
  EachKeeps,
}
use Rattle.linkinfo_table.specs.FamilyRowLaws.{table_lookup}
use Rattle.linkinfo_shapes.specs.Table.{shape_of}
use Rattle.linkinfo_shapes.specs.declared.shape.Shape.TheVariants.{Le16}
use Rattle.linkinfo_numbers.specs.Table.{key-value_of}
use Rattle.linkinfo_numbers.specs.Ipvlan.{
  ip_vlan_flags,
  ip_vlan_mode,
  ip_vlan_mode_number,
  ip_vlan_mode_table_holds,
}
use Rattle.linkinfo_table.specs.Labels.{each_keeps}
use Rattle.linkinfo_devices.specs.declared.ipvlan.InfoIpVlanOf.{InfoIpVlanOf}
use Rattle.linkinfo_devices.specs.declared.ipvlan.InfoIpVlanOf.TheVariants.{Mode, Flags, Other}

-- the family, by whether the links are TAP devices
abbrev pub ip_vlan_family : Bool → Family
ip_vlan_family true = family.IpVtap
ip_vlan_family false = family.IpVlan

abbrev pub ip_vlan_rows : {tap : ℕ} → List (PlainRow (InfoIpVlanOf tap))
ip_vlan_rows =
    row 1 Le16 (λ n. Mode (ip_vlan_mode n)) ∷
    row 2 Le16 (λ n. Flags (ip_vlan_flags n)) ∷
    []

abbrev pub ip_vlan_attribute : {tap : ℕ} → InfoIpVlanOf tap → Attribute
ip_vlan_attribute (Mode mode) = typed 1 Le16 (ip_vlan_mode_number mode)
ip_vlan_attribute (Flags flags) = typed 2 Le16 flags.0
ip_vlan_attribute (Other nla) = attribute_of nla

pub ip_vlan_keeps : (tap : ℕ) → EachKeeps (ip_vlan_attribute {tap = tap}) ip_vlan_rows
ip_vlan_keeps tap = each_keeps (ip_vlan_attribute {tap = tap}) ip_vlan_rows refl
    (λ n. ap (typed 1 Le16) (key-value_of ip_vlan_mode_table_holds n), (λ n. refl, tt))

-- these are the rows of both families in the table of all families
pub ip_vlan_lookup : (tap : ℕ) (is_tap : Bool) (number : ℕ) →
    lookup_of (table_row (ip_vlan_rows {tap = tap}) number)
    ≡ lookup_in (shape_of (ip_vlan_family is_tap) number)
ip_vlan_lookup tap true number = table_lookup (ip_vlan_rows {tap = tap}) number
ip_vlan_lookup tap false number = table_lookup (ip_vlan_rows {tap = tap}) number
