-- Written by tables/generate from tables/vrf.
-- Which attributes are well formed, by the variant of each, in the data of
-- `vrf` links.
use Rattle.std.specs.Prelude.{◌↔◌, ◌<◌, ◌^◌, Bool, true, false, refl}
use Rattle.std.proofs.Common.{subst}
use Rattle.linkinfo_table.specs.Conditions.{IsUnknown, are_typed, unknown_label}
use Rattle.linkinfo_table.specs.FamilyRows.{row_of, table_row}
use Rattle.linkinfo_table.specs.Rows.{WellFormed}
use Rattle.linkinfo_devices.specs.Vrf.{vrf_attribute, vrf_rows}
use Rattle.linkinfo_devices.specs.declared.vrf.InfoVrf.{InfoVrf}
use Rattle.linkinfo_devices.specs.declared.vrf.InfoVrf.TheVariants as vrf

abbrev pub vrf_conditions : InfoVrf → Type 0
vrf_conditions (vrf.TableId n) = n < 2 ^ 32
vrf_conditions (vrf.Other d) = IsUnknown vrf_rows d

abbrev vrf_is_other : InfoVrf → Bool
vrf_is_other (vrf.Other d) = true
vrf_is_other _ = false

pub vrf_stated : (x : InfoVrf) → WellFormed (λ d. vrf.Other d) vrf_attribute
    (λ n. row_of (table_row vrf_rows n)) x ↔ vrf_conditions x
unfolding WellFormed
vrf_stated = elim [
  | vrf.Other d ↦ unknown_label (λ z. vrf.Other z) vrf_attribute vrf_rows vrf_is_other
      (λ _. refl) (λ _. refl) (are_typed vrf_is_other vrf_rows refl) d
  | _ ↦ (λ w. subst vrf_conditions w.2 w.1, λ h. (_, h, refl))
]
