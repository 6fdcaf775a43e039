-- Written by tables/generate from tables/bridgeport.
-- Which attributes are well formed, by the variant of each, in the data of
-- ports of bridges.
use Rattle.std.specs.Prelude.{◌≡◌, ◌↔◌, ◌<◌, ◌^◌, Bool, true, false, [], ◌∷◌, refl}
use Rattle.std.proofs.Common.{subst}
use Rattle.nla_frame.specs.Attribute.{masked}
use Rattle.linkinfo_numbers.specs.Table.{IsNumber, number_label}
use Rattle.linkinfo_table.specs.Conditions.{IsUnknown, are_typed, unknown_after, unknown_label}
use Rattle.linkinfo_table.specs.FamilyRows.{row_of, table_row}
use Rattle.linkinfo_table.specs.Rows.{WellFormed}
use Rattle.linkinfo_payloads.specs.Payloads.{bridge_id_codec}
use Rattle.linkinfo_typed.specs.PayloadRows.{IsBeside}
use Rattle.linkinfo_numbers.specs.Bridge.{
  bridge_port_state_table,
  bridge_port_state_table_holds,
  bridge_multicast_router_type_table,
  bridge_multicast_router_type_table_holds,
}
use Rattle.linkinfo_numbers.specs.Bond.{on_off_table, on_off_table_holds}
use Rattle.linkinfo_typed.specs.BridgePort.{
  bridge_port_attribute,
  bridge_port_plain,
  bridge_port_rows,
  bridge_port_from_bridge_id,
}
use Rattle.linkinfo_typed.specs.declared.bridge_port.InfoBridgePort.{InfoBridgePort}
use Rattle.linkinfo_typed.specs.declared.bridge_port.InfoBridgePort.TheVariants as bridge_port

abbrev pub bridge_port_conditions : InfoBridgePort → Type 0
bridge_port_conditions (bridge_port.State x) = IsNumber bridge_port_state_table 256 x
bridge_port_conditions (bridge_port.Priority n) = n < 2 ^ 16
bridge_port_conditions (bridge_port.Cost n) = n < 2 ^ 32
bridge_port_conditions (bridge_port.RootId x) = bridge_id_codec.Holds x
bridge_port_conditions (bridge_port.BridgeId x) = bridge_id_codec.Holds x
bridge_port_conditions (bridge_port.DesignatedPort n) = n < 2 ^ 16
bridge_port_conditions (bridge_port.DesignatedCost n) = n < 2 ^ 16
bridge_port_conditions (bridge_port.PortId n) = n < 2 ^ 16
bridge_port_conditions (bridge_port.PortNumber n) = n < 2 ^ 16
bridge_port_conditions (bridge_port.MessageAgeTimer n) = n < 2 ^ 64
bridge_port_conditions (bridge_port.ForwardDelayTimer n) = n < 2 ^ 64
bridge_port_conditions (bridge_port.HoldTimer n) = n < 2 ^ 64
bridge_port_conditions (bridge_port.MulticastRouter x) =
    IsNumber bridge_multicast_router_type_table 256 x
bridge_port_conditions (bridge_port.GroupFwdMask n) = n < 2 ^ 16
bridge_port_conditions (bridge_port.BackupPort n) = n < 2 ^ 32
bridge_port_conditions (bridge_port.MulticastEhtHostsLimit n) = n < 2 ^ 32
bridge_port_conditions (bridge_port.MulticastEhtHostsCnt n) = n < 2 ^ 32
bridge_port_conditions (bridge_port.MulticastNGroups n) = n < 2 ^ 32
bridge_port_conditions (bridge_port.MulticastMaxGroups n) = n < 2 ^ 32
bridge_port_conditions (bridge_port.NeighVlanSupress x) = IsNumber on_off_table 256 x
bridge_port_conditions (bridge_port.BackupNextHopId n) = n < 2 ^ 32
bridge_port_conditions (bridge_port.NeighForwardGrat x) = IsNumber on_off_table 256 x
bridge_port_conditions (bridge_port.Other d) = IsBeside (13 ∷ 14 ∷ []) (masked d.kind)
    (IsUnknown bridge_port_plain d)
bridge_port_conditions _ = Unit {0}

abbrev bridge_port_is_other : InfoBridgePort → Bool
bridge_port_is_other (bridge_port.Other d) = true
bridge_port_is_other _ = false

pub bridge_port_stated : (x : InfoBridgePort) →
    WellFormed (λ d. bridge_port.Other d) bridge_port_attribute
    (λ n. row_of (bridge_port_rows n)) x ↔ bridge_port_conditions x
unfolding WellFormed
bridge_port_stated = elim [
  | bridge_port.State x ↦ number_label bridge_port_state_table_holds 256
      (λ y. bridge_port.State y) bridge_port_conditions (λ _ is. is) (λ _ is. is) x
  | bridge_port.MulticastRouter x ↦ number_label bridge_multicast_router_type_table_holds 256
      (λ y. bridge_port.MulticastRouter y) bridge_port_conditions (λ _ is. is) (λ _ is. is) x
  | bridge_port.NeighVlanSupress x ↦ number_label on_off_table_holds 256
      (λ y. bridge_port.NeighVlanSupress y) bridge_port_conditions (λ _ is. is) (λ _ is. is) x
  | bridge_port.NeighForwardGrat x ↦ number_label on_off_table_holds 256
      (λ y. bridge_port.NeighForwardGrat y) bridge_port_conditions (λ _ is. is) (λ _ is. is) x
  | bridge_port.Other d ↦ unknown_after (λ z. bridge_port.Other z) 13 (masked d.kind)
      (bridge_port_rows 13) (bridge_port_from_bridge_id (masked d.kind)) d
      (IsBeside (14 ∷ []) (masked d.kind) (IsUnknown bridge_port_plain d))
      (λ w. let no : bridge_port.RootId w.0 ≡ bridge_port.Other d = w.2 in cc) (
      unknown_after (λ z. bridge_port.Other z) 14 (masked d.kind)
      (bridge_port_rows 14) ((table_row bridge_port_plain) (masked d.kind)) d
      (IsUnknown bridge_port_plain d)
      (λ w. let no : bridge_port.BridgeId w.0 ≡ bridge_port.Other d = w.2 in cc) (
      unknown_label (λ z. bridge_port.Other z) bridge_port_attribute
      bridge_port_plain bridge_port_is_other (λ _. refl) (λ _. refl)
      (are_typed bridge_port_is_other bridge_port_plain refl) d))
  | _ ↦ (λ w. subst bridge_port_conditions w.2 w.1, λ h. (_, h, refl))
]
