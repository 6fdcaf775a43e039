-- Written by tables/generate from tables/canctrlmodeext.
-- Which attributes are well formed, by the variant of each, inside
-- `IFLA_CAN_CTRLMODE_EXT` of a `can` link.
use Rattle.std.specs.Prelude.{◌↔◌, ◌<◌, ◌^◌, Bool, true, false, refl}
use Rattle.std.proofs.Common.{subst}
use Rattle.linkinfo_table.specs.Conditions.{IsUnknown, are_typed, unknown_label}
use Rattle.linkinfo_table.specs.FamilyRows.{row_of, table_row}
use Rattle.linkinfo_table.specs.Rows.{WellFormed}
use Rattle.linkinfo_typed.specs.CanCtrlModeExt.{can_ctrl_mode_ext_attribute, can_ctrl_mode_ext_rows}
use Rattle.linkinfo_typed.specs.declared.can_ctrl_mode_ext.CanCtrlModeExt.{CanCtrlModeExt}
use Rattle.linkinfo_typed.specs.declared.can_ctrl_mode_ext.CanCtrlModeExt.TheVariants as can_ctrl_mode_ext

abbrev pub can_ctrl_mode_ext_conditions : CanCtrlModeExt → Type 0
can_ctrl_mode_ext_conditions (can_ctrl_mode_ext.Supported x) = x.0 < 2 ^ 32
can_ctrl_mode_ext_conditions (can_ctrl_mode_ext.Other d) = IsUnknown can_ctrl_mode_ext_rows d

abbrev can_ctrl_mode_ext_is_other : CanCtrlModeExt → Bool
can_ctrl_mode_ext_is_other (can_ctrl_mode_ext.Other d) = true
can_ctrl_mode_ext_is_other _ = false

pub can_ctrl_mode_ext_stated : (x : CanCtrlModeExt) →
    WellFormed (λ d. can_ctrl_mode_ext.Other d) can_ctrl_mode_ext_attribute
    (λ n. row_of (table_row can_ctrl_mode_ext_rows n)) x ↔ can_ctrl_mode_ext_conditions x
unfolding WellFormed
can_ctrl_mode_ext_stated = elim [
  | can_ctrl_mode_ext.Other d ↦ unknown_label
      (λ z. can_ctrl_mode_ext.Other z) can_ctrl_mode_ext_attribute
      can_ctrl_mode_ext_rows can_ctrl_mode_ext_is_other (λ _. refl) (λ _. refl)
      (are_typed can_ctrl_mode_ext_is_other can_ctrl_mode_ext_rows refl) d
  | _ ↦ (λ w. subst can_ctrl_mode_ext_conditions w.2 w.1, λ h. (_, h, refl))
]
