-- Written by tables/generate from tables/xfrm.
-- Which attributes are well formed, by the variant of each, in the data of
-- `xfrm` links.
use Rattle.std.specs.Prelude.{◌↔◌, ◌<◌, ◌^◌, Bool, true, false, refl}
use Rattle.std.proofs.Common.{subst}
use Rattle.linkinfo_table.specs.Conditions.{IsUnknown, are_typed, unknown_label}
use Rattle.linkinfo_table.specs.FamilyRows.{row_of, table_row}
use Rattle.linkinfo_table.specs.Rows.{WellFormed}
use Rattle.linkinfo_devices.specs.Xfrm.{xfrm_attribute, xfrm_rows}
use Rattle.linkinfo_devices.specs.declared.xfrm.InfoXfrm.{InfoXfrm}
use Rattle.linkinfo_devices.specs.declared.xfrm.InfoXfrm.TheVariants as xfrm

abbrev pub xfrm_conditions : InfoXfrm → Type 0
xfrm_conditions (xfrm.Link n) = n < 2 ^ 32
xfrm_conditions (xfrm.IfId n) = n < 2 ^ 32
xfrm_conditions (xfrm.Other d) = IsUnknown xfrm_rows d

abbrev xfrm_is_other : InfoXfrm → Bool
xfrm_is_other (xfrm.Other d) = true
xfrm_is_other _ = false

pub xfrm_stated : (x : InfoXfrm) → WellFormed (λ d. xfrm.Other d) xfrm_attribute
    (λ n. row_of (table_row xfrm_rows n)) x ↔ xfrm_conditions x
unfolding WellFormed
xfrm_stated = elim [
  | xfrm.Other d ↦ unknown_label (λ z. xfrm.Other z) xfrm_attribute xfrm_rows xfrm_is_other
      (λ _. refl) (λ _. refl) (are_typed xfrm_is_other xfrm_rows refl) d
  | _ ↦ (λ w. subst xfrm_conditions w.2 w.1, λ h. (_, h, refl))
]
