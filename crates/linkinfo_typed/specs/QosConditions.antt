-- Written by tables/generate from tables/vlanqosmapping.
-- Which attributes are well formed, by the variant of each, inside
-- `IFLA_VLAN_EGRESS_QOS` and `IFLA_VLAN_INGRESS_QOS` of a `vlan` link.
use Rattle.std.specs.Prelude.{◌↔◌, ◌<◌, ◌^◌, Bool, true, false, refl}
use Rattle.std.proofs.Common.{subst}
use Rattle.linkinfo_table.specs.Conditions.{IsUnknown, are_typed, unknown_label}
use Rattle.linkinfo_table.specs.FamilyRows.{row_of, table_row}
use Rattle.linkinfo_table.specs.Rows.{WellFormed}
use Rattle.linkinfo_typed.specs.Qos.{vlan_qos_mapping_attribute, vlan_qos_mapping_rows}
use Rattle.linkinfo_typed.specs.declared.qos.VlanQosMapping.{VlanQosMapping}
use Rattle.linkinfo_typed.specs.declared.qos.VlanQosMapping.TheVariants as vlan_qos_mapping

abbrev pub vlan_qos_mapping_conditions : VlanQosMapping → Type 0
vlan_qos_mapping_conditions (vlan_qos_mapping.Mapping pair) = (pair.0 < 2 ^ 32) × (pair.1 < 2 ^ 32)
vlan_qos_mapping_conditions (vlan_qos_mapping.Other d) = IsUnknown vlan_qos_mapping_rows d

abbrev vlan_qos_mapping_is_other : VlanQosMapping → Bool
vlan_qos_mapping_is_other (vlan_qos_mapping.Other d) = true
vlan_qos_mapping_is_other _ = false

pub vlan_qos_mapping_stated : (x : VlanQosMapping) →
    WellFormed (λ d. vlan_qos_mapping.Other d) vlan_qos_mapping_attribute
    (λ n. row_of (table_row vlan_qos_mapping_rows n)) x ↔ vlan_qos_mapping_conditions x
unfolding WellFormed
vlan_qos_mapping_stated = elim [
  | vlan_qos_mapping.Other d ↦ unknown_label
      (λ z. vlan_qos_mapping.Other z) vlan_qos_mapping_attribute
      vlan_qos_mapping_rows vlan_qos_mapping_is_other (λ _. refl) (λ _. refl)
      (are_typed vlan_qos_mapping_is_other vlan_qos_mapping_rows refl) d
  | _ ↦ (λ w. subst vlan_qos_mapping_conditions w.2 w.1, λ h. (_, h, refl))
]
