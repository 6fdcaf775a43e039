-- Written by tables/generate from tables/vlan.
-- The rows of `vlan` links.
use Rattle.std.specs.Prelude.{
  ◌≡◌,
  ◌==◌,
  ℕ,
  Bool,
  if◌then◌else◌,
  true,
  false,
  List,
  [],
  ◌∷◌,
  map,
  refl,
}
use Rattle.std.proofs.Common.{ap, lit<}
use Rattle.nla_frame.specs.Attribute.{Attribute, list_string}
use Rattle.nla_frame.specs.Kept.{attribute_of}
use Rattle.nla_frame.specs.declared.error.Family.TheVariants as family
use Rattle.linkinfo_table.specs.FamilyRowLaws.{table_flat, table_lookup, table_owes}
use Rattle.linkinfo_table.specs.FamilyRows.{
  FamilyRow,
  IsFlat,
  PlainRow,
  RowOwes,
  SuitsDecoded,
  lookup_in,
  lookup_of,
  row,
  row_of,
  table_row,
  typed,
  without_labels,
  EachKeeps,
}
use Rattle.linkinfo_table.specs.Members.{list_of, list_of_is_codec}
use Rattle.linkinfo_table.specs.TypedRows.{with_flat, with_lookup, with_owes, with_row}
use Rattle.linkinfo_table.specs.declared.decoded.Decoded.{Decoded}
use Rattle.linkinfo_typed.specs.NestedLists.{headers_in}
use Rattle.linkinfo_typed.specs.PayloadRows.{is_among, is_held, with_suits}
use Rattle.linkinfo_shapes.specs.Typed.{typed_shape_of}
use Rattle.linkinfo_shapes.specs.declared.shape.Shape.TheVariants.{Le16, FlagPair, Nested, Be16}
use Rattle.linkinfo_numbers.specs.Table.{key-value_of}
use Rattle.linkinfo_numbers.specs.Vlan.{
  vlan_protocol,
  vlan_protocol_number,
  vlan_protocol_table_holds,
  vlan_flags,
}
use Rattle.linkinfo_numbers.specs.declared.vlan.VlanFlags.{VlanFlags}
use Rattle.linkinfo_table.specs.Labels.{each_keeps}
use Rattle.linkinfo_typed.specs.Qos.{
  vlan_qos_mapping_attribute,
  vlan_qos_mapping_lawful,
  vlan_qos_mapping_members,
}
use Rattle.linkinfo_typed.specs.declared.vlan.InfoVlan.{InfoVlan}
use Rattle.linkinfo_typed.specs.declared.vlan.InfoVlan.TheVariants.{
  Id,
  Flags,
  EgressQos,
  IngressQos,
  Protocol,
  Other,
}

-- both sets of their numbers
abbrev pub both_sets : ℕ × ℕ → VlanFlags × VlanFlags
both_sets pair = (vlan_flags pair.0, vlan_flags pair.1)

-- the rows with a shape of the table
abbrev pub vlan_plain : List (PlainRow InfoVlan)
vlan_plain =
    row 1 Le16 (λ n. Id n) ∷
    row 2 FlagPair (λ pair. Flags (both_sets pair)) ∷
    row 5 Be16 (λ n. Protocol (vlan_protocol n)) ∷
    []

abbrev pub vlan_attribute : InfoVlan → Attribute
vlan_attribute (Id n) = typed 1 Le16 n
vlan_attribute (Flags x) = typed 2 FlagPair (x.0.0, x.1.0)
vlan_attribute (EgressQos xs) =
    record { kind = 3; value = list_string (map vlan_qos_mapping_attribute xs) }
vlan_attribute (IngressQos xs) =
    record { kind = 4; value = list_string (map vlan_qos_mapping_attribute xs) }
vlan_attribute (Protocol protocol) = typed 5 Be16 (vlan_protocol_number protocol)
vlan_attribute (Other nla) = attribute_of nla

pub vlan_keeps : EachKeeps vlan_attribute vlan_plain
vlan_keeps = each_keeps vlan_attribute vlan_plain refl (
  λ n. refl,
  (λ pair. refl, (λ n. ap (typed 5 Be16) (key-value_of vlan_protocol_table_holds n), tt)),
)

-- rows with payloads of types of their own, each before the others, and those of the table
abbrev pub vlan_from_ingress_qos : ℕ → FamilyRow InfoVlan
vlan_from_ingress_qos n =
    with_row 4 (Nested family.VlanQosMapping) false (list_of vlan_qos_mapping_members)
    (λ x. IngressQos x) (table_row vlan_plain) n

abbrev pub vlan_from_egress_qos : ℕ → FamilyRow InfoVlan
vlan_from_egress_qos n =
    with_row 3 (Nested family.VlanQosMapping) false (list_of vlan_qos_mapping_members)
    (λ x. EgressQos x) vlan_from_ingress_qos n

abbrev pub vlan_rows : ℕ → FamilyRow InfoVlan
vlan_rows n = vlan_from_egress_qos n

pub vlan_owes : (n : ℕ) → RowOwes vlan_attribute n (row_of (vlan_rows n))
vlan_owes n =
    with_owes 3 (Nested family.VlanQosMapping) false (list_of vlan_qos_mapping_members)
    (λ x. EgressQos x) vlan_from_ingress_qos vlan_attribute (lit< tt)
    (list_of_is_codec vlan_qos_mapping_members vlan_qos_mapping_lawful) (λ _. refl) (λ x y e. cc) (
    with_owes 4 (Nested family.VlanQosMapping) false (list_of vlan_qos_mapping_members)
    (λ x. IngressQos x) (table_row vlan_plain) vlan_attribute (lit< tt)
    (list_of_is_codec vlan_qos_mapping_members vlan_qos_mapping_lawful) (λ _. refl) (λ x y e. cc) (
    table_owes vlan_attribute vlan_plain vlan_keeps)) n

pub vlan_flat : (n : ℕ) → is_among (3 ∷ 4 ∷ []) n ≡ false → IsFlat (vlan_rows n)
vlan_flat n h =
    with_flat 3 (Nested family.VlanQosMapping) false (list_of vlan_qos_mapping_members)
    (λ x. EgressQos x) vlan_from_ingress_qos (is_among (4 ∷ []) n) n h (λ e.
    with_flat 4 (Nested family.VlanQosMapping) false (list_of vlan_qos_mapping_members)
    (λ x. IngressQos x) (table_row vlan_plain) false n e (λ _.
    table_flat vlan_attribute vlan_plain vlan_keeps n))

-- the headers in a payload of each type
abbrev pub vlan_headers : ℕ → List ℕ → ℕ
vlan_headers n p =
    if n == 3 then headers_in vlan_qos_mapping_members p else
    if n == 4 then headers_in vlan_qos_mapping_members p else
    0

-- the table of the typed layer has the same rows
pub vlan_lookup : (n : ℕ) → lookup_of (vlan_rows n) ≡ lookup_in (typed_shape_of family.Vlan n)
vlan_lookup n =
    with_lookup 3 (Nested family.VlanQosMapping) false (list_of vlan_qos_mapping_members)
    (λ x. EgressQos x) vlan_from_ingress_qos
    ((4, Nested family.VlanQosMapping) ∷ without_labels vlan_plain) n (
    with_lookup 4 (Nested family.VlanQosMapping) false (list_of vlan_qos_mapping_members)
    (λ x. IngressQos x) (table_row vlan_plain) (without_labels vlan_plain) n (
    table_lookup vlan_plain n))

-- a decoded datum belongs to a row with a shape of the table
pub vlan_suits : (read : Decoded) → SuitsDecoded vlan_rows read →
    SuitsDecoded (λ n. table_row vlan_plain n) read
vlan_suits read h =
    with_suits 3 (Nested family.VlanQosMapping) false (list_of vlan_qos_mapping_members)
    (λ x. EgressQos x) vlan_from_ingress_qos read h (λ e.
    with_suits 4 (Nested family.VlanQosMapping) false (list_of vlan_qos_mapping_members)
    (λ x. IngressQos x) (table_row vlan_plain) read e (λ e.
    e))

-- the family writes such payloads itself
abbrev pub vlan_is_custom : InfoVlan → Bool
vlan_is_custom (EgressQos x) = true
vlan_is_custom (IngressQos x) = true
vlan_is_custom _ = false

abbrev pub is_egress_qos : InfoVlan → Bool
is_egress_qos (EgressQos x) = true
is_egress_qos _ = false

abbrev pub is_ingress_qos : InfoVlan → Bool
is_ingress_qos (IngressQos x) = true
is_ingress_qos _ = false

pub vlan_elsewhere : (x : InfoVlan) → is_held (is_egress_qos ∷ is_ingress_qos ∷ []) x ≡ false →
    vlan_is_custom x ≡ false
vlan_elsewhere (EgressQos x) h = h
vlan_elsewhere (IngressQos x) h = h
vlan_elsewhere _ h = refl
