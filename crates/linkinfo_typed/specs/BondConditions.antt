-- Written by tables/generate from tables/bond.
-- Which attributes are well formed, by the variant of each, in the data of
-- `bond` links.
use Rattle.std.specs.Prelude.{◌≡◌, ◌↔◌, ◌<◌, ◌^◌, Bool, true, false, [], ◌∷◌, length, refl}
use Rattle.std.specs.List.{AllByRecursion}
use Rattle.std.proofs.Common.{subst}
use Rattle.nla_frame.specs.Attribute.{IsBytes, masked}
use Rattle.linkinfo_shapes.specs.Shapes.{IsIpv4, IsIpv6}
use Rattle.linkinfo_numbers.specs.Table.{IsNumber, number_label}
use Rattle.linkinfo_table.specs.Conditions.{
  IsUnknown,
  are_typed,
  each_stated,
  plain_label,
  unknown_after,
  unknown_label,
}
use Rattle.linkinfo_table.specs.FamilyRows.{row_of, table_row}
use Rattle.linkinfo_table.specs.Lists.{AllWell}
use Rattle.linkinfo_table.specs.Rows.{WellFormed}
use Rattle.linkinfo_typed.specs.PayloadRows.{IsBeside}
use Rattle.linkinfo_numbers.specs.Bond.{
  bond_mode_table,
  bond_mode_table_holds,
  on_off_table,
  on_off_table_holds,
  bond_arp_validate_table,
  bond_arp_validate_table_holds,
  bond_arp_all_targets_table,
  bond_arp_all_targets_table_holds,
  bond_primary_reselect_table,
  bond_primary_reselect_table_holds,
  bond_fail_over_mac_table,
  bond_fail_over_mac_table_holds,
  bond_xmit_hash_policy_table,
  bond_xmit_hash_policy_table_holds,
  bond_all_port_active_table,
  bond_all_port_active_table_holds,
  bond_lacp_rate_table,
  bond_lacp_rate_table_holds,
  bond_ad_select_table,
  bond_ad_select_table_holds,
}
use Rattle.linkinfo_typed.specs.BondAdInfoConditions.{bond_ad_info_conditions, bond_ad_info_stated}
use Rattle.linkinfo_typed.specs.Bond.{
  bond_attribute,
  bond_plain,
  bond_rows,
  bond_from_ad_info,
  bond_from_ns_ip6_target,
}
use Rattle.linkinfo_typed.specs.declared.bond.InfoBond.{InfoBond}
use Rattle.linkinfo_typed.specs.declared.bond.InfoBond.TheVariants as bond

abbrev pub bond_conditions : InfoBond → Type 0
bond_conditions (bond.Mode x) = IsNumber bond_mode_table 256 x
bond_conditions (bond.ActivePort n) = n < 2 ^ 32
bond_conditions (bond.MiiMon n) = n < 2 ^ 32
bond_conditions (bond.UpDelay n) = n < 2 ^ 32
bond_conditions (bond.DownDelay n) = n < 2 ^ 32
bond_conditions (bond.UseCarrier x) = IsNumber on_off_table 256 x
bond_conditions (bond.ArpInterval n) = n < 2 ^ 32
bond_conditions (bond.ArpIpTarget xs) = AllWell IsIpv4 xs
bond_conditions (bond.ArpValidate x) = IsNumber bond_arp_validate_table (2 ^ 32) x
bond_conditions (bond.ArpAllTargets x) = IsNumber bond_arp_all_targets_table (2 ^ 32) x
bond_conditions (bond.Primary n) = n < 2 ^ 32
bond_conditions (bond.PrimaryReselect x) = IsNumber bond_primary_reselect_table 256 x
bond_conditions (bond.FailOverMac x) = IsNumber bond_fail_over_mac_table 256 x
bond_conditions (bond.XmitHashPolicy x) = IsNumber bond_xmit_hash_policy_table 256 x
bond_conditions (bond.ResendIgmp n) = n < 2 ^ 32
bond_conditions (bond.NumPeerNotif n) = n < 256
bond_conditions (bond.AllPortsActive x) = IsNumber bond_all_port_active_table 256 x
bond_conditions (bond.MinLinks n) = n < 2 ^ 32
bond_conditions (bond.LpInterval n) = n < 2 ^ 32
bond_conditions (bond.PacketsPerPort n) = n < 2 ^ 32
bond_conditions (bond.AdLacpRate x) = IsNumber bond_lacp_rate_table 256 x
bond_conditions (bond.AdSelect x) = IsNumber bond_ad_select_table 256 x
bond_conditions (bond.AdInfo xs) = AllByRecursion bond_ad_info_conditions xs
bond_conditions (bond.AdActorSysPrio n) = n < 2 ^ 16
bond_conditions (bond.AdUserPortKey n) = n < 2 ^ 16
bond_conditions (bond.AdActorSystem a) = (length a ≡ 6) × IsBytes a
bond_conditions (bond.TlbDynamicLb x) = IsNumber on_off_table 256 x
bond_conditions (bond.PeerNotifDelay n) = n < 2 ^ 32
bond_conditions (bond.AdLacpActive x) = IsNumber on_off_table 256 x
bond_conditions (bond.MissedMax n) = n < 256
bond_conditions (bond.NsIp6Target xs) = AllWell IsIpv6 xs
bond_conditions (bond.CoupledControl x) = IsNumber on_off_table 256 x
bond_conditions (bond.BroadcastNeigh x) = IsNumber on_off_table 256 x
bond_conditions (bond.LacpStrict x) = IsNumber on_off_table 256 x
bond_conditions (bond.Other d) = IsBeside (8 ∷ 23 ∷ 31 ∷ []) (masked d.kind)
    (IsUnknown bond_plain d)

abbrev bond_is_other : InfoBond → Bool
bond_is_other (bond.Other d) = true
bond_is_other _ = false

pub bond_stated : (x : InfoBond) → WellFormed (λ d. bond.Other d) bond_attribute
    (λ n. row_of (bond_rows n)) x ↔ bond_conditions x
unfolding WellFormed
bond_stated = elim [
  | bond.Mode x ↦ number_label bond_mode_table_holds 256
      (λ y. bond.Mode y) bond_conditions (λ _ is. is) (λ _ is. is) x
  | bond.UseCarrier x ↦ number_label on_off_table_holds 256
      (λ y. bond.UseCarrier y) bond_conditions (λ _ is. is) (λ _ is. is) x
  | bond.ArpValidate x ↦ number_label bond_arp_validate_table_holds (2 ^ 32)
      (λ y. bond.ArpValidate y) bond_conditions (λ _ is. is) (λ _ is. is) x
  | bond.ArpAllTargets x ↦ number_label bond_arp_all_targets_table_holds (2 ^ 32)
      (λ y. bond.ArpAllTargets y) bond_conditions (λ _ is. is) (λ _ is. is) x
  | bond.PrimaryReselect x ↦ number_label bond_primary_reselect_table_holds 256
      (λ y. bond.PrimaryReselect y) bond_conditions (λ _ is. is) (λ _ is. is) x
  | bond.FailOverMac x ↦ number_label bond_fail_over_mac_table_holds 256
      (λ y. bond.FailOverMac y) bond_conditions (λ _ is. is) (λ _ is. is) x
  | bond.XmitHashPolicy x ↦ number_label bond_xmit_hash_policy_table_holds 256
      (λ y. bond.XmitHashPolicy y) bond_conditions (λ _ is. is) (λ _ is. is) x
  | bond.AllPortsActive x ↦ number_label bond_all_port_active_table_holds 256
      (λ y. bond.AllPortsActive y) bond_conditions (λ _ is. is) (λ _ is. is) x
  | bond.AdLacpRate x ↦ number_label bond_lacp_rate_table_holds 256
      (λ y. bond.AdLacpRate y) bond_conditions (λ _ is. is) (λ _ is. is) x
  | bond.AdSelect x ↦ number_label bond_ad_select_table_holds 256
      (λ y. bond.AdSelect y) bond_conditions (λ _ is. is) (λ _ is. is) x
  | bond.AdInfo xs ↦
      plain_label (AllWell _) (λ z. bond.AdInfo z) bond_conditions
      (λ u. (each_stated _ _ bond_ad_info_stated u).0)
      (λ u. (each_stated _ _ bond_ad_info_stated u).1) xs
  | bond.TlbDynamicLb x ↦ number_label on_off_table_holds 256
      (λ y. bond.TlbDynamicLb y) bond_conditions (λ _ is. is) (λ _ is. is) x
  | bond.AdLacpActive x ↦ number_label on_off_table_holds 256
      (λ y. bond.AdLacpActive y) bond_conditions (λ _ is. is) (λ _ is. is) x
  | bond.CoupledControl x ↦ number_label on_off_table_holds 256
      (λ y. bond.CoupledControl y) bond_conditions (λ _ is. is) (λ _ is. is) x
  | bond.BroadcastNeigh x ↦ number_label on_off_table_holds 256
      (λ y. bond.BroadcastNeigh y) bond_conditions (λ _ is. is) (λ _ is. is) x
  | bond.LacpStrict x ↦ number_label on_off_table_holds 256
      (λ y. bond.LacpStrict y) bond_conditions (λ _ is. is) (λ _ is. is) x
  | bond.Other d ↦ unknown_after (λ z. bond.Other z) 8 (masked d.kind)
      (bond_rows 8) (bond_from_ad_info (masked d.kind)) d (IsBeside (23 ∷ 31 ∷ []) (masked d.kind)
      (IsUnknown bond_plain d))
      (λ w. let no : bond.ArpIpTarget w.0 ≡ bond.Other d = w.2 in cc) (
      unknown_after (λ z. bond.Other z) 23 (masked d.kind)
      (bond_rows 23) (bond_from_ns_ip6_target (masked d.kind)) d (IsBeside (31 ∷ []) (masked d.kind)
      (IsUnknown bond_plain d))
      (λ w. let no : bond.AdInfo w.0 ≡ bond.Other d = w.2 in cc) (
      unknown_after (λ z. bond.Other z) 31 (masked d.kind)
      (bond_rows 31) ((table_row bond_plain) (masked d.kind)) d (IsUnknown bond_plain d)
      (λ w. let no : bond.NsIp6Target w.0 ≡ bond.Other d = w.2 in cc) (
      unknown_label (λ z. bond.Other z) bond_attribute bond_plain bond_is_other
      (λ _. refl) (λ _. refl) (are_typed bond_is_other bond_plain refl) d)))
  | _ ↦ (λ w. subst bond_conditions w.2 w.1, λ h. (_, h, refl))
]
