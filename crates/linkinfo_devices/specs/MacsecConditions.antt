-- Written by tables/generate from tables/macsec.
-- Which attributes are well formed, by the variant of each, in the data of
-- `macsec` links.
use Rattle.std.specs.Prelude.{◌↔◌, ◌<◌, ◌^◌, Bool, true, false, refl}
use Rattle.std.proofs.Common.{subst}
use Rattle.linkinfo_numbers.specs.Table.{IsNumber, number_label}
use Rattle.linkinfo_table.specs.Conditions.{IsUnknown, are_typed, unknown_label}
use Rattle.linkinfo_table.specs.FamilyRows.{row_of, table_row}
use Rattle.linkinfo_table.specs.Rows.{WellFormed}
use Rattle.linkinfo_numbers.specs.Macsec.{
  mac_sec_cipher_id_table,
  mac_sec_cipher_id_table_holds,
  mac_sec_validate_table,
  mac_sec_validate_table_holds,
  mac_sec_offload_table,
  mac_sec_offload_table_holds,
}
use Rattle.linkinfo_devices.specs.Macsec.{mac_sec_attribute, mac_sec_rows}
use Rattle.linkinfo_devices.specs.declared.macsec.InfoMacSec.{InfoMacSec}
use Rattle.linkinfo_devices.specs.declared.macsec.InfoMacSec.TheVariants as mac_sec

abbrev pub mac_sec_conditions : InfoMacSec → Type 0
mac_sec_conditions (mac_sec.Sci n) = n < 2 ^ 64
mac_sec_conditions (mac_sec.Port n) = n < 2 ^ 16
mac_sec_conditions (mac_sec.IcvLen n) = n < 256
mac_sec_conditions (mac_sec.CipherSuite x) = IsNumber mac_sec_cipher_id_table (2 ^ 64) x
mac_sec_conditions (mac_sec.Window n) = n < 2 ^ 32
mac_sec_conditions (mac_sec.EncodingSa n) = n < 256
mac_sec_conditions (mac_sec.Encrypt n) = n < 256
mac_sec_conditions (mac_sec.Protect n) = n < 256
mac_sec_conditions (mac_sec.IncSci n) = n < 256
mac_sec_conditions (mac_sec.Es n) = n < 256
mac_sec_conditions (mac_sec.Scb n) = n < 256
mac_sec_conditions (mac_sec.ReplayProtect n) = n < 256
mac_sec_conditions (mac_sec.Validation x) = IsNumber mac_sec_validate_table 256 x
mac_sec_conditions (mac_sec.Offload x) = IsNumber mac_sec_offload_table 256 x
mac_sec_conditions (mac_sec.Other d) = IsUnknown mac_sec_rows d

abbrev mac_sec_is_other : InfoMacSec → Bool
mac_sec_is_other (mac_sec.Other d) = true
mac_sec_is_other _ = false

pub mac_sec_stated : (x : InfoMacSec) → WellFormed (λ d. mac_sec.Other d) mac_sec_attribute
    (λ n. row_of (table_row mac_sec_rows n)) x ↔ mac_sec_conditions x
unfolding WellFormed
mac_sec_stated = elim [
  | mac_sec.CipherSuite x ↦ number_label mac_sec_cipher_id_table_holds (2 ^ 64)
      (λ y. mac_sec.CipherSuite y) mac_sec_conditions (λ _ is. is) (λ _ is. is) x
  | mac_sec.Validation x ↦ number_label mac_sec_validate_table_holds 256
      (λ y. mac_sec.Validation y) mac_sec_conditions (λ _ is. is) (λ _ is. is) x
  | mac_sec.Offload x ↦ number_label mac_sec_offload_table_holds 256
      (λ y. mac_sec.Offload y) mac_sec_conditions (λ _ is. is) (λ _ is. is) x
  | mac_sec.Other d ↦ unknown_label (λ z. mac_sec.Other z) mac_sec_attribute
      mac_sec_rows mac_sec_is_other (λ _. refl) (λ _. refl)
      (are_typed mac_sec_is_other mac_sec_rows refl) d
  | _ ↦ (λ w. subst mac_sec_conditions w.2 w.1, λ h. (_, h, refl))
]
