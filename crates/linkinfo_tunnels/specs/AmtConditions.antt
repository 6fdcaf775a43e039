-- Written by tables/generate from tables/amt.
-- Which attributes are well formed, by the variant of each, in the data of
-- `amt` links.
use Rattle.std.specs.Prelude.{◌↔◌, ◌<◌, ◌^◌, Bool, true, false, refl}
use Rattle.std.proofs.Common.{subst}
use Rattle.linkinfo_shapes.specs.Shapes.{IsIp}
use Rattle.linkinfo_numbers.specs.Table.{IsNumber, number_label}
use Rattle.linkinfo_table.specs.Conditions.{IsUnknown, are_typed, unknown_label}
use Rattle.linkinfo_table.specs.FamilyRows.{row_of, table_row}
use Rattle.linkinfo_table.specs.Rows.{WellFormed}
use Rattle.linkinfo_numbers.specs.Amt.{amt_mode_table, amt_mode_table_holds}
use Rattle.linkinfo_tunnels.specs.Amt.{amt_attribute, amt_rows}
use Rattle.linkinfo_tunnels.specs.declared.amt.InfoAmt.{InfoAmt}
use Rattle.linkinfo_tunnels.specs.declared.amt.InfoAmt.TheVariants as amt

abbrev pub amt_conditions : InfoAmt → Type 0
amt_conditions (amt.Mode x) = IsNumber amt_mode_table (2 ^ 32) x
amt_conditions (amt.RelayPort n) = n < 2 ^ 16
amt_conditions (amt.GatewayPort n) = n < 2 ^ 16
amt_conditions (amt.Link n) = n < 2 ^ 32
amt_conditions (amt.LocalIp a) = IsIp a
amt_conditions (amt.RemoteIp a) = IsIp a
amt_conditions (amt.DiscoveryIp a) = IsIp a
amt_conditions (amt.MaxTunnels n) = n < 2 ^ 32
amt_conditions (amt.Other d) = IsUnknown amt_rows d

abbrev amt_is_other : InfoAmt → Bool
amt_is_other (amt.Other d) = true
amt_is_other _ = false

pub amt_stated : (x : InfoAmt) → WellFormed (λ d. amt.Other d) amt_attribute
    (λ n. row_of (table_row amt_rows n)) x ↔ amt_conditions x
unfolding WellFormed
amt_stated = elim [
  | amt.Mode x ↦ number_label amt_mode_table_holds (2 ^ 32)
      (λ y. amt.Mode y) amt_conditions (λ _ is. is) (λ _ is. is) x
  | amt.Other d ↦ unknown_label (λ z. amt.Other z) amt_attribute amt_rows amt_is_other
      (λ _. refl) (λ _. refl) (are_typed amt_is_other amt_rows refl) d
  | _ ↦ (λ w. subst amt_conditions w.2 w.1, λ h. (_, h, refl))
]
