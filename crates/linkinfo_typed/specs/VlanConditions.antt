-- Written by tables/generate from tables/vlan.
-- Which attributes are well formed, by the variant of each, in the data of
-- `vlan` links.
use Rattle.std.specs.Prelude.{◌≡◌, ◌↔◌, ◌<◌, ◌^◌, Bool, true, false, [], ◌∷◌, refl}
use Rattle.std.specs.List.{AllByRecursion}
use Rattle.std.proofs.Common.{subst}
use Rattle.nla_frame.specs.Attribute.{masked}
use Rattle.linkinfo_numbers.specs.Table.{IsNumber, number_label}
use Rattle.linkinfo_table.specs.Conditions.{
  IsUnknown,
  are_typed,
  each_stated,
  plain_label,
  unknown_after,
  unknown_label,
}
use Rattle.linkinfo_table.specs.FamilyRows.{row_of, table_row}
use Rattle.linkinfo_table.specs.Lists.{AllWell}
use Rattle.linkinfo_table.specs.Rows.{WellFormed}
use Rattle.linkinfo_typed.specs.PayloadRows.{IsBeside}
use Rattle.linkinfo_numbers.specs.Vlan.{vlan_protocol_table, vlan_protocol_table_holds}
use Rattle.linkinfo_typed.specs.QosConditions.{vlan_qos_mapping_conditions, vlan_qos_mapping_stated}
use Rattle.linkinfo_typed.specs.Vlan.{vlan_attribute, vlan_plain, vlan_rows, vlan_from_ingress_qos}
use Rattle.linkinfo_typed.specs.declared.vlan.InfoVlan.{InfoVlan}
use Rattle.linkinfo_typed.specs.declared.vlan.InfoVlan.TheVariants as vlan

abbrev pub vlan_conditions : InfoVlan → Type 0
vlan_conditions (vlan.Id n) = n < 2 ^ 16
vlan_conditions (vlan.Flags x) = (x.0.0 < 2 ^ 32) × (x.1.0 < 2 ^ 32)
vlan_conditions (vlan.EgressQos xs) = AllByRecursion vlan_qos_mapping_conditions xs
vlan_conditions (vlan.IngressQos xs) = AllByRecursion vlan_qos_mapping_conditions xs
vlan_conditions (vlan.Protocol x) = IsNumber vlan_protocol_table (2 ^ 16) x
vlan_conditions (vlan.Other d) = IsBeside (3 ∷ 4 ∷ []) (masked d.kind) (IsUnknown vlan_plain d)

abbrev vlan_is_other : InfoVlan → Bool
vlan_is_other (vlan.Other d) = true
vlan_is_other _ = false

pub vlan_stated : (x : InfoVlan) → WellFormed (λ d. vlan.Other d) vlan_attribute
    (λ n. row_of (vlan_rows n)) x ↔ vlan_conditions x
unfolding WellFormed
vlan_stated = elim [
  | vlan.Flags x ↦
      (λ w. subst vlan_conditions w.2 w.1, λ h. ((x.0.0, x.1.0), h, refl))
  | vlan.EgressQos xs ↦
      plain_label (AllWell _) (λ z. vlan.EgressQos z) vlan_conditions
      (λ u. (each_stated _ _ vlan_qos_mapping_stated u).0)
      (λ u. (each_stated _ _ vlan_qos_mapping_stated u).1) xs
  | vlan.IngressQos xs ↦
      plain_label (AllWell _) (λ z. vlan.IngressQos z) vlan_conditions
      (λ u. (each_stated _ _ vlan_qos_mapping_stated u).0)
      (λ u. (each_stated _ _ vlan_qos_mapping_stated u).1) xs
  | vlan.Protocol x ↦ number_label vlan_protocol_table_holds (2 ^ 16)
      (λ y. vlan.Protocol y) vlan_conditions (λ _ is. is) (λ _ is. is) x
  | vlan.Other d ↦ unknown_after (λ z. vlan.Other z) 3 (masked d.kind)
      (vlan_rows 3) (vlan_from_ingress_qos (masked d.kind)) d (IsBeside (4 ∷ []) (masked d.kind)
      (IsUnknown vlan_plain d))
      (λ w. let no : vlan.EgressQos w.0 ≡ vlan.Other d = w.2 in cc) (
      unknown_after (λ z. vlan.Other z) 4 (masked d.kind)
      (vlan_rows 4) ((table_row vlan_plain) (masked d.kind)) d (IsUnknown vlan_plain d)
      (λ w. let no : vlan.IngressQos w.0 ≡ vlan.Other d = w.2 in cc) (
      unknown_label (λ z. vlan.Other z) vlan_attribute vlan_plain vlan_is_other
      (λ _. refl) (λ _. refl) (are_typed vlan_is_other vlan_plain refl) d))
  | _ ↦ (λ w. subst vlan_conditions w.2 w.1, λ h. (_, h, refl))
]
