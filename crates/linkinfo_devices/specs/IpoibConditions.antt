-- Written by tables/generate from tables/ipoib.
-- Which attributes are well formed, by the variant of each, in the data of
-- `ipoib` links.
use Rattle.std.specs.Prelude.{◌↔◌, ◌<◌, ◌^◌, Bool, true, false, refl}
use Rattle.std.proofs.Common.{subst}
use Rattle.linkinfo_numbers.specs.Table.{IsNumber, number_label}
use Rattle.linkinfo_table.specs.Conditions.{IsUnknown, are_typed, unknown_label}
use Rattle.linkinfo_table.specs.FamilyRows.{row_of, table_row}
use Rattle.linkinfo_table.specs.Rows.{WellFormed}
use Rattle.linkinfo_numbers.specs.Ipoib.{ipoib_mode_table, ipoib_mode_table_holds}
use Rattle.linkinfo_devices.specs.Ipoib.{ipoib_attribute, ipoib_rows}
use Rattle.linkinfo_devices.specs.declared.ipoib.InfoIpoib.{InfoIpoib}
use Rattle.linkinfo_devices.specs.declared.ipoib.InfoIpoib.TheVariants as ipoib

abbrev pub ipoib_conditions : InfoIpoib → Type 0
ipoib_conditions (ipoib.Pkey n) = n < 2 ^ 16
ipoib_conditions (ipoib.Mode x) = IsNumber ipoib_mode_table (2 ^ 16) x
ipoib_conditions (ipoib.UmCast n) = n < 2 ^ 16
ipoib_conditions (ipoib.Other d) = IsUnknown ipoib_rows d

abbrev ipoib_is_other : InfoIpoib → Bool
ipoib_is_other (ipoib.Other d) = true
ipoib_is_other _ = false

pub ipoib_stated : (x : InfoIpoib) → WellFormed (λ d. ipoib.Other d) ipoib_attribute
    (λ n. row_of (table_row ipoib_rows n)) x ↔ ipoib_conditions x
unfolding WellFormed
ipoib_stated = elim [
  | ipoib.Mode x ↦ number_label ipoib_mode_table_holds (2 ^ 16)
      (λ y. ipoib.Mode y) ipoib_conditions (λ _ is. is) (λ _ is. is) x
  | ipoib.Other d ↦ unknown_label (λ z. ipoib.Other z) ipoib_attribute ipoib_rows ipoib_is_other
      (λ _. refl) (λ _. refl) (are_typed ipoib_is_other ipoib_rows refl) d
  | _ ↦ (λ w. subst ipoib_conditions w.2 w.1, λ h. (_, h, refl))
]
