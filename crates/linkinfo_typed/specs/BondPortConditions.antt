-- Written by tables/generate from tables/bondport.
-- Which attributes are well formed, by the variant of each, in the data of
-- ports of bonds.
use Rattle.std.specs.Prelude.{◌↔◌, ◌<◌, ◌^◌, Bool, true, false, FitsSigned, refl}
use Rattle.std.specs.Int.{w32}
use Rattle.std.proofs.Common.{subst}
use Rattle.nla_frame.specs.Attribute.{IsBytes}
use Rattle.linkinfo_numbers.specs.Table.{IsNumber, number_label}
use Rattle.linkinfo_table.specs.Conditions.{IsUnknown, are_typed, unknown_label}
use Rattle.linkinfo_table.specs.FamilyRows.{row_of, table_row}
use Rattle.linkinfo_table.specs.Rows.{WellFormed}
use Rattle.linkinfo_numbers.specs.Bond.{
  bond_port_state_table,
  bond_port_state_table_holds,
  mii_status_table,
  mii_status_table_holds,
  churn_state_table,
  churn_state_table_holds,
}
use Rattle.linkinfo_typed.specs.BondPort.{bond_port_attribute, bond_port_rows}
use Rattle.linkinfo_typed.specs.declared.bond_port.InfoBondPort.{InfoBondPort}
use Rattle.linkinfo_typed.specs.declared.bond_port.InfoBondPort.TheVariants as bond_port

abbrev pub bond_port_conditions : InfoBondPort → Type 0
bond_port_conditions (bond_port.BondPortState x) = IsNumber bond_port_state_table 256 x
bond_port_conditions (bond_port.MiiStatus x) = IsNumber mii_status_table 256 x
bond_port_conditions (bond_port.LinkFailureCount n) = n < 2 ^ 32
bond_port_conditions (bond_port.PermHwaddr bytes) = IsBytes bytes
bond_port_conditions (bond_port.QueueId n) = n < 2 ^ 16
bond_port_conditions (bond_port.AdAggregatorId n) = n < 2 ^ 16
bond_port_conditions (bond_port.AdActorOperPortState x) = x.0 < 2 ^ 8
bond_port_conditions (bond_port.AdPartnerOperPortState x) = x.0 < 2 ^ 16
bond_port_conditions (bond_port.Prio z) = FitsSigned w32 z
bond_port_conditions (bond_port.ActorPortPrio n) = n < 2 ^ 16
bond_port_conditions (bond_port.AdChurnActorState x) = IsNumber churn_state_table 256 x
bond_port_conditions (bond_port.AdChurnPartnerState x) = IsNumber churn_state_table 256 x
bond_port_conditions (bond_port.Other d) = IsUnknown bond_port_rows d

abbrev bond_port_is_other : InfoBondPort → Bool
bond_port_is_other (bond_port.Other d) = true
bond_port_is_other _ = false

pub bond_port_stated : (x : InfoBondPort) → WellFormed (λ d. bond_port.Other d) bond_port_attribute
    (λ n. row_of (table_row bond_port_rows n)) x ↔ bond_port_conditions x
unfolding WellFormed
bond_port_stated = elim [
  | bond_port.BondPortState x ↦ number_label bond_port_state_table_holds 256
      (λ y. bond_port.BondPortState y) bond_port_conditions (λ _ is. is) (λ _ is. is) x
  | bond_port.MiiStatus x ↦ number_label mii_status_table_holds 256
      (λ y. bond_port.MiiStatus y) bond_port_conditions (λ _ is. is) (λ _ is. is) x
  | bond_port.AdChurnActorState x ↦ number_label churn_state_table_holds 256
      (λ y. bond_port.AdChurnActorState y) bond_port_conditions (λ _ is. is) (λ _ is. is) x
  | bond_port.AdChurnPartnerState x ↦ number_label churn_state_table_holds 256
      (λ y. bond_port.AdChurnPartnerState y) bond_port_conditions (λ _ is. is) (λ _ is. is) x
  | bond_port.Other d ↦ unknown_label (λ z. bond_port.Other z) bond_port_attribute
      bond_port_rows bond_port_is_other (λ _. refl) (λ _. refl)
      (are_typed bond_port_is_other bond_port_rows refl) d
  | _ ↦ (λ w. subst bond_port_conditions w.2 w.1, λ h. (_, h, refl))
]
