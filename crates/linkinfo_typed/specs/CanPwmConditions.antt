-- Written by tables/generate from tables/canpwm.
-- Which attributes are well formed, by the variant of each, inside
-- `IFLA_CAN_XL_PWM` of a `can` link.
use Rattle.std.specs.Prelude.{◌↔◌, ◌<◌, ◌^◌, Bool, true, false, refl}
use Rattle.std.proofs.Common.{subst}
use Rattle.linkinfo_table.specs.Conditions.{IsUnknown, are_typed, unknown_label}
use Rattle.linkinfo_table.specs.FamilyRows.{row_of, table_row}
use Rattle.linkinfo_table.specs.Rows.{WellFormed}
use Rattle.linkinfo_typed.specs.CanPwm.{can_pwm_attribute, can_pwm_rows}
use Rattle.linkinfo_typed.specs.declared.can_pwm.CanPwm.{CanPwm}
use Rattle.linkinfo_typed.specs.declared.can_pwm.CanPwm.TheVariants as can_pwm

abbrev pub can_pwm_conditions : CanPwm → Type 0
can_pwm_conditions (can_pwm.PwmsMin n) = n < 2 ^ 32
can_pwm_conditions (can_pwm.PwmsMax n) = n < 2 ^ 32
can_pwm_conditions (can_pwm.PwmlMin n) = n < 2 ^ 32
can_pwm_conditions (can_pwm.PwmlMax n) = n < 2 ^ 32
can_pwm_conditions (can_pwm.PwmoMin n) = n < 2 ^ 32
can_pwm_conditions (can_pwm.PwmoMax n) = n < 2 ^ 32
can_pwm_conditions (can_pwm.Pwms n) = n < 2 ^ 32
can_pwm_conditions (can_pwm.Pwml n) = n < 2 ^ 32
can_pwm_conditions (can_pwm.Pwmo n) = n < 2 ^ 32
can_pwm_conditions (can_pwm.Other d) = IsUnknown can_pwm_rows d

abbrev can_pwm_is_other : CanPwm → Bool
can_pwm_is_other (can_pwm.Other d) = true
can_pwm_is_other _ = false

pub can_pwm_stated : (x : CanPwm) → WellFormed (λ d. can_pwm.Other d) can_pwm_attribute
    (λ n. row_of (table_row can_pwm_rows n)) x ↔ can_pwm_conditions x
unfolding WellFormed
can_pwm_stated = elim [
  | can_pwm.Other d ↦ unknown_label (λ z. can_pwm.Other z) can_pwm_attribute
      can_pwm_rows can_pwm_is_other (λ _. refl) (λ _. refl)
      (are_typed can_pwm_is_other can_pwm_rows refl) d
  | _ ↦ (λ w. subst can_pwm_conditions w.2 w.1, λ h. (_, h, refl))
]
