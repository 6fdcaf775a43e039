-- Written by tables/generate from tables/tun.
-- Which attributes are well formed, by the variant of each, in the data of
-- `tun` links.
use Rattle.std.specs.Prelude.{◌↔◌, ◌<◌, ◌^◌, Bool, true, false, refl}
use Rattle.std.proofs.Common.{subst}
use Rattle.linkinfo_numbers.specs.Table.{IsNumber, number_label}
use Rattle.linkinfo_table.specs.Conditions.{IsUnknown, are_typed, unknown_label}
use Rattle.linkinfo_table.specs.FamilyRows.{row_of, table_row}
use Rattle.linkinfo_table.specs.Rows.{WellFormed}
use Rattle.linkinfo_numbers.specs.Tun.{tun_type_table, tun_type_table_holds}
use Rattle.linkinfo_typed.specs.Tun.{tun_attribute, tun_rows}
use Rattle.linkinfo_typed.specs.declared.tun.InfoTun.{InfoTun}
use Rattle.linkinfo_typed.specs.declared.tun.InfoTun.TheVariants as tun

abbrev pub tun_conditions : InfoTun → Type 0
tun_conditions (tun.Owner n) = n < 2 ^ 32
tun_conditions (tun.Group n) = n < 2 ^ 32
tun_conditions (tun.«Type» x) = IsNumber tun_type_table 256 x
tun_conditions (tun.NumQueues n) = n < 2 ^ 32
tun_conditions (tun.NumDisabledQueues n) = n < 2 ^ 32
tun_conditions (tun.Other d) = IsUnknown tun_rows d
tun_conditions _ = Unit {0}

abbrev tun_is_other : InfoTun → Bool
tun_is_other (tun.Other d) = true
tun_is_other _ = false

pub tun_stated : (x : InfoTun) → WellFormed (λ d. tun.Other d) tun_attribute
    (λ n. row_of (table_row tun_rows n)) x ↔ tun_conditions x
unfolding WellFormed
tun_stated = elim [
  | tun.«Type» x ↦ number_label tun_type_table_holds 256
      (λ y. tun.«Type» y) tun_conditions (λ _ is. is) (λ _ is. is) x
  | tun.Other d ↦ unknown_label (λ z. tun.Other z) tun_attribute tun_rows tun_is_other
      (λ _. refl) (λ _. refl) (are_typed tun_is_other tun_rows refl) d
  | _ ↦ (λ w. subst tun_conditions w.2 w.1, λ h. (_, h, refl))
]
