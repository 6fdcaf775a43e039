-- Written by tables/generate from tables/vlanqosmapping.
-- The rows of `IFLA_VLAN_EGRESS_QOS` and `IFLA_VLAN_INGRESS_QOS` of a `vlan` link.
use Rattle.std.specs.Prelude.{true, List, [], ◌∷◌, refl}
use Rattle.nla_frame.specs.Attribute.{Attribute}
use Rattle.nla_frame.specs.Kept.{attribute_of}
use Rattle.nla_frame.specs.declared.error.Family.TheVariants as family
use Rattle.linkinfo_table.specs.ByRows.{members_with, table_is_family}
use Rattle.linkinfo_table.specs.Contents.{single_value}
use Rattle.linkinfo_table.specs.FamilyRows.{PlainRow, row, table_row, typed, EachKeeps}
use Rattle.linkinfo_table.specs.Members.{IsFamily, Members}
use Rattle.linkinfo_shapes.specs.declared.shape.Shape.TheVariants.{FlagPair}
use Rattle.linkinfo_table.specs.Labels.{each_keeps}
use Rattle.linkinfo_typed.specs.declared.qos.VlanQosMapping.{VlanQosMapping}
use Rattle.linkinfo_typed.specs.declared.qos.VlanQosMapping.TheVariants.{Mapping, Other}

abbrev pub vlan_qos_mapping_rows : List (PlainRow VlanQosMapping)
vlan_qos_mapping_rows =
    row 1 FlagPair (λ pair. Mapping pair) ∷
    []

abbrev pub vlan_qos_mapping_attribute : VlanQosMapping → Attribute
vlan_qos_mapping_attribute (Mapping pair) = typed 1 FlagPair pair
vlan_qos_mapping_attribute (Other nla) = attribute_of nla

pub vlan_qos_mapping_keeps : EachKeeps vlan_qos_mapping_attribute vlan_qos_mapping_rows
vlan_qos_mapping_keeps = each_keeps vlan_qos_mapping_attribute vlan_qos_mapping_rows refl
    (λ pair. refl, tt)

-- what the family defines, and that it is lawful
abbrev pub vlan_qos_mapping_members : Members VlanQosMapping
vlan_qos_mapping_members =
    members_with family.VlanQosMapping (λ d. Other d) vlan_qos_mapping_attribute
    (λ n. table_row vlan_qos_mapping_rows n) (λ _. 0) (λ _. single_value) true

pub vlan_qos_mapping_lawful : IsFamily vlan_qos_mapping_members
vlan_qos_mapping_lawful =
    table_is_family family.VlanQosMapping (λ d. Other d) vlan_qos_mapping_attribute
    vlan_qos_mapping_rows vlan_qos_mapping_keeps (λ _. refl)
