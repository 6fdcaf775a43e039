-- Written by tables/generate from tables/bridgequerierstate.
-- Which attributes are well formed, by the variant of each, inside
-- `IFLA_BR_MCAST_QUERIER_STATE` of a `bridge` link.
use Rattle.std.specs.Prelude.{◌↔◌, ◌<◌, ◌^◌, Bool, true, false, refl}
use Rattle.std.proofs.Common.{subst}
use Rattle.linkinfo_shapes.specs.Shapes.{IsIpv4, IsIpv6}
use Rattle.linkinfo_table.specs.Conditions.{IsUnknown, are_typed, unknown_label}
use Rattle.linkinfo_table.specs.FamilyRows.{row_of, table_row}
use Rattle.linkinfo_table.specs.Rows.{WellFormed}
use Rattle.linkinfo_typed.specs.BridgeQuerierState.{
  bridge_querier_state_attribute,
  bridge_querier_state_rows,
}
use Rattle.linkinfo_typed.specs.declared.bridge_querier_state.BridgeQuerierState.{
  BridgeQuerierState,
}
use Rattle.linkinfo_typed.specs.declared.bridge_querier_state.BridgeQuerierState.TheVariants as bridge_querier_state

abbrev pub bridge_querier_state_conditions : BridgeQuerierState → Type 0
bridge_querier_state_conditions (bridge_querier_state.Ipv4Address a) = IsIpv4 a
bridge_querier_state_conditions (bridge_querier_state.Ipv4Port n) = n < 2 ^ 32
bridge_querier_state_conditions (bridge_querier_state.Ipv4OtherTimer n) = n < 2 ^ 64
bridge_querier_state_conditions (bridge_querier_state.Ipv6Address a) = IsIpv6 a
bridge_querier_state_conditions (bridge_querier_state.Ipv6Port n) = n < 2 ^ 32
bridge_querier_state_conditions (bridge_querier_state.Ipv6OtherTimer n) = n < 2 ^ 64
bridge_querier_state_conditions (bridge_querier_state.Other d) =
    IsUnknown bridge_querier_state_rows d

abbrev bridge_querier_state_is_other : BridgeQuerierState → Bool
bridge_querier_state_is_other (bridge_querier_state.Other d) = true
bridge_querier_state_is_other _ = false

pub bridge_querier_state_stated : (x : BridgeQuerierState) →
    WellFormed (λ d. bridge_querier_state.Other d) bridge_querier_state_attribute
    (λ n. row_of (table_row bridge_querier_state_rows n)) x ↔ bridge_querier_state_conditions x
unfolding WellFormed
bridge_querier_state_stated = elim [
  | bridge_querier_state.Other d ↦ unknown_label
      (λ z. bridge_querier_state.Other z) bridge_querier_state_attribute
      bridge_querier_state_rows bridge_querier_state_is_other (λ _. refl) (λ _. refl)
      (are_typed bridge_querier_state_is_other bridge_querier_state_rows refl) d
  | _ ↦ (λ w. subst bridge_querier_state_conditions w.2 w.1, λ h. (_, h, refl))
]
