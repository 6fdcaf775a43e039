-- Written by tables/generate from tables/rmnet.
-- Which attributes are well formed, by the variant of each, in the data of
-- `rmnet` links.
use Rattle.std.specs.Prelude.{◌↔◌, ◌<◌, ◌^◌, Bool, true, false, refl}
use Rattle.std.proofs.Common.{subst}
use Rattle.linkinfo_table.specs.Conditions.{IsUnknown, are_typed, unknown_label}
use Rattle.linkinfo_table.specs.FamilyRows.{row_of, table_row}
use Rattle.linkinfo_table.specs.Rows.{WellFormed}
use Rattle.linkinfo_devices.specs.Rmnet.{rm_net_attribute, rm_net_rows}
use Rattle.linkinfo_devices.specs.declared.rmnet.InfoRmNet.{InfoRmNet}
use Rattle.linkinfo_devices.specs.declared.rmnet.InfoRmNet.TheVariants as rm_net

abbrev pub rm_net_conditions : InfoRmNet → Type 0
rm_net_conditions (rm_net.MuxId n) = n < 2 ^ 16
rm_net_conditions (rm_net.Flags x) = (x.flags.0 < 2 ^ 32) × (x.mask.0 < 2 ^ 32)
rm_net_conditions (rm_net.Other d) = IsUnknown rm_net_rows d

abbrev rm_net_is_other : InfoRmNet → Bool
rm_net_is_other (rm_net.Other d) = true
rm_net_is_other _ = false

pub rm_net_stated : (x : InfoRmNet) → WellFormed (λ d. rm_net.Other d) rm_net_attribute
    (λ n. row_of (table_row rm_net_rows n)) x ↔ rm_net_conditions x
unfolding WellFormed
rm_net_stated = elim [
  | rm_net.Flags x ↦
      (λ w. subst rm_net_conditions w.2 w.1, λ h. ((x.flags.0, x.mask.0), h, refl))
  | rm_net.Other d ↦ unknown_label (λ z. rm_net.Other z) rm_net_attribute
      rm_net_rows rm_net_is_other (λ _. refl) (λ _. refl)
      (are_typed rm_net_is_other rm_net_rows refl) d
  | _ ↦ (λ w. subst rm_net_conditions w.2 w.1, λ h. (_, h, refl))
]
