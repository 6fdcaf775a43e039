-- Written by tables/generate from tables/cantdc.
-- Which attributes are well formed, by the variant of each, inside
-- `IFLA_CAN_TDC` and `IFLA_CAN_XL_TDC` of a `can` link.
use Rattle.std.specs.Prelude.{◌↔◌, ◌<◌, ◌^◌, Bool, true, false, refl}
use Rattle.std.proofs.Common.{subst}
use Rattle.linkinfo_table.specs.Conditions.{IsUnknown, are_typed, unknown_label}
use Rattle.linkinfo_table.specs.FamilyRows.{row_of, table_row}
use Rattle.linkinfo_table.specs.Rows.{WellFormed}
use Rattle.linkinfo_typed.specs.CanTdc.{can_tdc_attribute, can_tdc_rows}
use Rattle.linkinfo_typed.specs.declared.can_tdc.CanTdc.{CanTdc}
use Rattle.linkinfo_typed.specs.declared.can_tdc.CanTdc.TheVariants as can_tdc

abbrev pub can_tdc_conditions : CanTdc → Type 0
can_tdc_conditions (can_tdc.TdcvMin n) = n < 2 ^ 32
can_tdc_conditions (can_tdc.TdcvMax n) = n < 2 ^ 32
can_tdc_conditions (can_tdc.TdcoMin n) = n < 2 ^ 32
can_tdc_conditions (can_tdc.TdcoMax n) = n < 2 ^ 32
can_tdc_conditions (can_tdc.TdcfMin n) = n < 2 ^ 32
can_tdc_conditions (can_tdc.TdcfMax n) = n < 2 ^ 32
can_tdc_conditions (can_tdc.Tdcv n) = n < 2 ^ 32
can_tdc_conditions (can_tdc.Tdco n) = n < 2 ^ 32
can_tdc_conditions (can_tdc.Tdcf n) = n < 2 ^ 32
can_tdc_conditions (can_tdc.Other d) = IsUnknown can_tdc_rows d

abbrev can_tdc_is_other : CanTdc → Bool
can_tdc_is_other (can_tdc.Other d) = true
can_tdc_is_other _ = false

pub can_tdc_stated : (x : CanTdc) → WellFormed (λ d. can_tdc.Other d) can_tdc_attribute
    (λ n. row_of (table_row can_tdc_rows n)) x ↔ can_tdc_conditions x
unfolding WellFormed
can_tdc_stated = elim [
  | can_tdc.Other d ↦ unknown_label (λ z. can_tdc.Other z) can_tdc_attribute
      can_tdc_rows can_tdc_is_other (λ _. refl) (λ _. refl)
      (are_typed can_tdc_is_other can_tdc_rows refl) d
  | _ ↦ (λ w. subst can_tdc_conditions w.2 w.1, λ h. (_, h, refl))
]
