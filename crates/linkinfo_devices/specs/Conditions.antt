-- Which attributes of device links are well formed, by the variant of each: the conditions on a
-- number, an address or an opaque attribute.
use Rattle.std.specs.Prelude.{◌↔◌, ℕ, ◌-◌, ◌<◌, ◌≤◌, ◌^◌, Bool, true, false, refl}
use Rattle.std.proofs.Common.{subst}
use Rattle.nla_frame.specs.declared.error.Family.TheVariants as family
use Rattle.linkinfo_numbers.specs.Table.{IsNumber, number_label}
use Rattle.linkinfo_numbers.specs.Ipvlan.{ip_vlan_mode_table, ip_vlan_mode_table_holds}
use Rattle.linkinfo_table.specs.Conditions.{IsUnknown, are_typed, unknown_label}
use Rattle.linkinfo_table.specs.FamilyRows.{row_of, table_row}
use Rattle.linkinfo_table.specs.Rows.{WellFormed}
use Rattle.linkinfo_devices.specs.MacConditions.{mac_conditions, mac_depth_stated, mac_stated}
use Rattle.linkinfo_devices.specs.MacConditions.{mac_values, view_depth}
use Rattle.linkinfo_devices.specs.Ipvlan.{ip_vlan_attribute, ip_vlan_rows}
use Rattle.linkinfo_devices.specs.declared.ipvlan.InfoIpVlanOf.{InfoIpVlanOf}
use Rattle.linkinfo_devices.specs.declared.ipvlan.InfoIpVlanOf.TheVariants as ip_vlan
use Rattle.linkinfo_devices.specs.Macvlan.{mac_vlan_attribute, mac_vlan_fold, mac_vlan_folded}
use Rattle.linkinfo_devices.specs.Macvlan.{mac_vlan_is_view, mac_vlan_keep, mac_vlan_labels}
use Rattle.linkinfo_devices.specs.Macvlan.{mac_vlan_rows, mac_vlan_view}
use Rattle.linkinfo_devices.specs.declared.macvlan.InfoMacVlan.{InfoMacVlan}
use Rattle.linkinfo_devices.specs.declared.macvlan.InfoMacVlan as macvlan
use Rattle.linkinfo_devices.specs.Macvtap.{mac_vtap_attribute, mac_vtap_fold, mac_vtap_folded}
use Rattle.linkinfo_devices.specs.Macvtap.{mac_vtap_is_view, mac_vtap_keep, mac_vtap_labels}
use Rattle.linkinfo_devices.specs.Macvtap.{mac_vtap_rows, mac_vtap_view}
use Rattle.linkinfo_devices.specs.declared.macvtap.InfoMacVtap.{InfoMacVtap}
use Rattle.linkinfo_devices.specs.declared.macvtap.InfoMacVtap as macvtap
-- Begin: written by tables/generate from tables/families.
pub use Rattle.linkinfo_devices.specs.IpoibConditions.{ipoib_conditions, ipoib_stated}
pub use Rattle.linkinfo_devices.specs.MacsecConditions.{mac_sec_conditions, mac_sec_stated}
pub use Rattle.linkinfo_devices.specs.RmnetConditions.{rm_net_conditions, rm_net_stated}
pub use Rattle.linkinfo_devices.specs.VrfConditions.{vrf_conditions, vrf_stated}
pub use Rattle.linkinfo_devices.specs.XfrmConditions.{xfrm_conditions, xfrm_stated}

-- End: written by tables/generate.

-- ---- `ipvlan` and `ipvtap` links

abbrev pub ip_vlan_conditions : {tap : ℕ} → InfoIpVlanOf tap → Type 0
ip_vlan_conditions (ip_vlan.Mode mode) = IsNumber ip_vlan_mode_table (2 ^ 16) mode
ip_vlan_conditions (ip_vlan.Flags flags) = flags.0 < 2 ^ 16
ip_vlan_conditions {tap = tap} (ip_vlan.Other d) = IsUnknown (ip_vlan_rows {tap = tap}) d

abbrev ip_vlan_is_other : {tap : ℕ} → InfoIpVlanOf tap → Bool
ip_vlan_is_other (ip_vlan.Other d) = true
ip_vlan_is_other _ = false

pub ip_vlan_stated : {tap : ℕ} (x : InfoIpVlanOf tap) →
    WellFormed (λ d. ip_vlan.Other d) ip_vlan_attribute
    (λ n. row_of (table_row ip_vlan_rows n)) x ↔ ip_vlan_conditions x
unfolding WellFormed
ip_vlan_stated {tap = tap} = elim [
  | ip_vlan.Mode x ↦ number_label ip_vlan_mode_table_holds (2 ^ 16)
      (λ y. ip_vlan.Mode y) ip_vlan_conditions (λ _ is. is) (λ _ is. is) x
  | ip_vlan.Other d ↦ unknown_label
      (λ z. ip_vlan.Other z) ip_vlan_attribute ip_vlan_rows (ip_vlan_is_other {tap = tap})
      (λ _. refl) (λ _. refl)
      (are_typed (ip_vlan_is_other {tap = tap}) ip_vlan_rows refl) d
  | _ ↦ (λ w. subst ip_vlan_conditions w.2 w.1, λ h. (_, h, refl))
]

-- ---- `macvlan` links

-- the conditions on an attribute inside this many lists, at most 128
abbrev pub mac_vlan_conditions : ℕ → InfoMacVlan → Type 0
mac_vlan_conditions around x = mac_conditions mac_vlan_labels mac_vlan_view (128 - around) x

pub mac_vlan_stated : (around : ℕ) (x : InfoMacVlan) →
    WellFormed (λ d. macvlan.Other d) mac_vlan_attribute (λ n. row_of (mac_vlan_rows around n)) x ↔
    mac_vlan_conditions around x
mac_vlan_stated around x =
    mac_stated family.MacVlan mac_vlan_attribute mac_vlan_labels mac_vlan_keep mac_vlan_view
    mac_vlan_is_view (128 - around) x

-- the number of levels of nested lists in a value
abbrev pub mac_vlan_depth : InfoMacVlan → ℕ
mac_vlan_depth x = mac_vlan_fold view_depth x

abbrev pub mac_vlan_values : InfoMacVlan → Type 0
mac_vlan_values x = mac_values mac_vlan_labels mac_vlan_view x

pub mac_vlan_depth_stated : (around : ℕ) (x : InfoMacVlan) → mac_vlan_conditions around x ↔
    (mac_vlan_values x × (mac_vlan_depth x ≤ 128 - around))
mac_vlan_depth_stated around x =
    mac_depth_stated mac_vlan_labels mac_vlan_view mac_vlan_depth (mac_vlan_folded view_depth)
    (128 - around) x

-- ---- `macvtap` links

-- the conditions on an attribute inside this many lists, at most 128
abbrev pub mac_vtap_conditions : ℕ → InfoMacVtap → Type 0
mac_vtap_conditions around x = mac_conditions mac_vtap_labels mac_vtap_view (128 - around) x

pub mac_vtap_stated : (around : ℕ) (x : InfoMacVtap) →
    WellFormed (λ d. macvtap.Other d) mac_vtap_attribute (λ n. row_of (mac_vtap_rows around n)) x ↔
    mac_vtap_conditions around x
mac_vtap_stated around x =
    mac_stated family.MacVtap mac_vtap_attribute mac_vtap_labels mac_vtap_keep mac_vtap_view
    mac_vtap_is_view (128 - around) x

-- the number of levels of nested lists in a value
abbrev pub mac_vtap_depth : InfoMacVtap → ℕ
mac_vtap_depth x = mac_vtap_fold view_depth x

abbrev pub mac_vtap_values : InfoMacVtap → Type 0
mac_vtap_values x = mac_values mac_vtap_labels mac_vtap_view x

pub mac_vtap_depth_stated : (around : ℕ) (x : InfoMacVtap) → mac_vtap_conditions around x ↔
    (mac_vtap_values x × (mac_vtap_depth x ≤ 128 - around))
mac_vtap_depth_stated around x =
    mac_depth_stated mac_vtap_labels mac_vtap_view mac_vtap_depth (mac_vtap_folded view_depth)
    (128 - around) x
