-- Written by tables/generate from tables/bridge.
-- Which attributes are well formed, by the variant of each, in the data of
-- `bridge` links.
use Rattle.std.specs.Prelude.{◌≡◌, ◌↔◌, ◌<◌, ◌^◌, Bool, true, false, [], ◌∷◌, length, refl}
use Rattle.std.specs.List.{AllByRecursion}
use Rattle.std.proofs.Common.{subst}
use Rattle.nla_frame.specs.Attribute.{IsBytes, masked}
use Rattle.linkinfo_numbers.specs.Table.{IsNumber, number_label}
use Rattle.linkinfo_table.specs.Conditions.{
  IsUnknown,
  are_typed,
  each_stated,
  plain_label,
  unknown_after,
  unknown_label,
}
use Rattle.linkinfo_table.specs.FamilyRows.{row_of, table_row}
use Rattle.linkinfo_table.specs.Lists.{AllWell}
use Rattle.linkinfo_table.specs.Rows.{WellFormed}
use Rattle.linkinfo_payloads.specs.Payloads.{bridge_id_codec}
use Rattle.linkinfo_typed.specs.PayloadRows.{IsBeside}
use Rattle.linkinfo_numbers.specs.Bridge.{
  bridge_stp_state_table,
  bridge_stp_state_table_holds,
  bridge_multicast_router_type_table,
  bridge_multicast_router_type_table_holds,
  bridge_stp_mode_table,
  bridge_stp_mode_table_holds,
}
use Rattle.linkinfo_numbers.specs.Vlan.{vlan_protocol_table, vlan_protocol_table_holds}
use Rattle.linkinfo_numbers.specs.Bond.{on_off_table, on_off_table_holds}
use Rattle.linkinfo_typed.specs.BridgeQuerierStateConditions.{
  bridge_querier_state_conditions,
  bridge_querier_state_stated,
}
use Rattle.linkinfo_typed.specs.Bridge.{
  bridge_attribute,
  bridge_plain,
  bridge_rows,
  bridge_from_bridge_id,
  bridge_from_multicast_querier_state,
}
use Rattle.linkinfo_typed.specs.declared.bridge.InfoBridge.{InfoBridge}
use Rattle.linkinfo_typed.specs.declared.bridge.InfoBridge.TheVariants as bridge

abbrev pub bridge_conditions : InfoBridge → Type 0
bridge_conditions (bridge.ForwardDelay n) = n < 2 ^ 32
bridge_conditions (bridge.HelloTime n) = n < 2 ^ 32
bridge_conditions (bridge.MaxAge n) = n < 2 ^ 32
bridge_conditions (bridge.AgeingTime n) = n < 2 ^ 32
bridge_conditions (bridge.StpState x) = IsNumber bridge_stp_state_table (2 ^ 32) x
bridge_conditions (bridge.Priority n) = n < 2 ^ 16
bridge_conditions (bridge.VlanProtocol x) = IsNumber vlan_protocol_table (2 ^ 16) x
bridge_conditions (bridge.GroupFwdMask n) = n < 2 ^ 16
bridge_conditions (bridge.RootId x) = bridge_id_codec.Holds x
bridge_conditions (bridge.BridgeId x) = bridge_id_codec.Holds x
bridge_conditions (bridge.RootPort n) = n < 2 ^ 16
bridge_conditions (bridge.RootPathCost n) = n < 2 ^ 32
bridge_conditions (bridge.TopologyChange n) = n < 256
bridge_conditions (bridge.TopologyChangeDetected n) = n < 256
bridge_conditions (bridge.HelloTimer n) = n < 2 ^ 64
bridge_conditions (bridge.TcnTimer n) = n < 2 ^ 64
bridge_conditions (bridge.TopologyChangeTimer n) = n < 2 ^ 64
bridge_conditions (bridge.GcTimer n) = n < 2 ^ 64
bridge_conditions (bridge.GroupAddr a) = (length a ≡ 6) × IsBytes a
bridge_conditions (bridge.MulticastRouter x) = IsNumber bridge_multicast_router_type_table 256 x
bridge_conditions (bridge.MulticastHashElasticity n) = n < 2 ^ 32
bridge_conditions (bridge.MulticastHashMax n) = n < 2 ^ 32
bridge_conditions (bridge.MulticastLastMemberCount n) = n < 2 ^ 32
bridge_conditions (bridge.MulticastStartupQueryCount n) = n < 2 ^ 32
bridge_conditions (bridge.MulticastLastMemberInterval n) = n < 2 ^ 64
bridge_conditions (bridge.MulticastMembershipInterval n) = n < 2 ^ 64
bridge_conditions (bridge.MulticastQuerierInterval n) = n < 2 ^ 64
bridge_conditions (bridge.MulticastQueryInterval n) = n < 2 ^ 64
bridge_conditions (bridge.MulticastQueryResponseInterval n) = n < 2 ^ 64
bridge_conditions (bridge.MulticastStartupQueryInterval n) = n < 2 ^ 64
bridge_conditions (bridge.VlanDefaultPvid n) = n < 2 ^ 16
bridge_conditions (bridge.VlanStatsEnabled x) = IsNumber on_off_table 256 x
bridge_conditions (bridge.MulticastIgmpVersion n) = n < 256
bridge_conditions (bridge.MulticastMldVersion n) = n < 256
bridge_conditions (bridge.VlanStatsPerPort x) = IsNumber on_off_table 256 x
bridge_conditions (bridge.MultiBoolOpt x) = (x.value.0 < 2 ^ 32) × (x.mask.0 < 2 ^ 32)
bridge_conditions (bridge.MulticastQuerierState xs) =
    AllByRecursion bridge_querier_state_conditions xs
bridge_conditions (bridge.FdbNLearned n) = n < 2 ^ 32
bridge_conditions (bridge.FdbMaxLearned n) = n < 2 ^ 32
bridge_conditions (bridge.StpMode x) = IsNumber bridge_stp_mode_table (2 ^ 32) x
bridge_conditions (bridge.Other d) = IsBeside (10 ∷ 11 ∷ 47 ∷ []) (masked d.kind)
    (IsUnknown bridge_plain d)
bridge_conditions _ = Unit {0}

abbrev bridge_is_other : InfoBridge → Bool
bridge_is_other (bridge.Other d) = true
bridge_is_other _ = false

pub bridge_stated : (x : InfoBridge) → WellFormed (λ d. bridge.Other d) bridge_attribute
    (λ n. row_of (bridge_rows n)) x ↔ bridge_conditions x
unfolding WellFormed
bridge_stated = elim [
  | bridge.StpState x ↦ number_label bridge_stp_state_table_holds (2 ^ 32)
      (λ y. bridge.StpState y) bridge_conditions (λ _ is. is) (λ _ is. is) x
  | bridge.VlanProtocol x ↦ number_label vlan_protocol_table_holds (2 ^ 16)
      (λ y. bridge.VlanProtocol y) bridge_conditions (λ _ is. is) (λ _ is. is) x
  | bridge.MulticastRouter x ↦ number_label bridge_multicast_router_type_table_holds 256
      (λ y. bridge.MulticastRouter y) bridge_conditions (λ _ is. is) (λ _ is. is) x
  | bridge.VlanStatsEnabled x ↦ number_label on_off_table_holds 256
      (λ y. bridge.VlanStatsEnabled y) bridge_conditions (λ _ is. is) (λ _ is. is) x
  | bridge.VlanStatsPerPort x ↦ number_label on_off_table_holds 256
      (λ y. bridge.VlanStatsPerPort y) bridge_conditions (λ _ is. is) (λ _ is. is) x
  | bridge.MultiBoolOpt x ↦
      (λ w. subst bridge_conditions w.2 w.1, λ h. ((x.value.0, x.mask.0), h, refl))
  | bridge.MulticastQuerierState xs ↦
      plain_label (AllWell _) (λ z. bridge.MulticastQuerierState z) bridge_conditions
      (λ u. (each_stated _ _ bridge_querier_state_stated u).0)
      (λ u. (each_stated _ _ bridge_querier_state_stated u).1) xs
  | bridge.StpMode x ↦ number_label bridge_stp_mode_table_holds (2 ^ 32)
      (λ y. bridge.StpMode y) bridge_conditions (λ _ is. is) (λ _ is. is) x
  | bridge.Other d ↦ unknown_after (λ z. bridge.Other z) 10 (masked d.kind)
      (bridge_rows 10) (bridge_from_bridge_id (masked d.kind)) d
      (IsBeside (11 ∷ 47 ∷ []) (masked d.kind) (IsUnknown bridge_plain d))
      (λ w. let no : bridge.RootId w.0 ≡ bridge.Other d = w.2 in cc) (
      unknown_after (λ z. bridge.Other z) 11 (masked d.kind)
      (bridge_rows 11) (bridge_from_multicast_querier_state (masked d.kind)) d
      (IsBeside (47 ∷ []) (masked d.kind) (IsUnknown bridge_plain d))
      (λ w. let no : bridge.BridgeId w.0 ≡ bridge.Other d = w.2 in cc) (
      unknown_after (λ z. bridge.Other z) 47 (masked d.kind)
      (bridge_rows 47) ((table_row bridge_plain) (masked d.kind)) d (IsUnknown bridge_plain d)
      (λ w. let no : bridge.MulticastQuerierState w.0 ≡ bridge.Other d = w.2 in cc) (
      unknown_label (λ z. bridge.Other z) bridge_attribute bridge_plain bridge_is_other
      (λ _. refl) (λ _. refl) (are_typed bridge_is_other bridge_plain refl) d)))
  | _ ↦ (λ w. subst bridge_conditions w.2 w.1, λ h. (_, h, refl))
]
