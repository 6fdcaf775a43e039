-- Written by tables/generate from tables/can.
-- Which attributes are well formed, by the variant of each, in the data of
-- `can` links.
use Rattle.std.specs.Prelude.{◌≡◌, ◌↔◌, ◌<◌, ◌^◌, Bool, true, false, [], ◌∷◌, refl}
use Rattle.std.specs.List.{AllByRecursion}
use Rattle.std.proofs.Common.{subst}
use Rattle.nla_frame.specs.Attribute.{masked}
use Rattle.linkinfo_numbers.specs.Table.{IsNumber, number_label}
use Rattle.linkinfo_table.specs.Conditions.{
  IsUnknown,
  are_typed,
  each_stated,
  plain_label,
  unknown_after,
  unknown_label,
}
use Rattle.linkinfo_table.specs.FamilyRows.{row_of, table_row}
use Rattle.linkinfo_table.specs.Lists.{AllWell}
use Rattle.linkinfo_table.specs.Rows.{WellFormed}
use Rattle.linkinfo_payloads.specs.Payloads.{
  can_berr_counter_codec,
  can_bit_timing_codec,
  can_bit_timing_const_codec,
}
use Rattle.linkinfo_typed.specs.PayloadRows.{IsBeside}
use Rattle.linkinfo_numbers.specs.Can.{can_state_table, can_state_table_holds}
use Rattle.linkinfo_typed.specs.CanTdcConditions.{can_tdc_conditions, can_tdc_stated}
use Rattle.linkinfo_typed.specs.CanCtrlModeExtConditions.{
  can_ctrl_mode_ext_conditions,
  can_ctrl_mode_ext_stated,
}
use Rattle.linkinfo_typed.specs.CanPwmConditions.{can_pwm_conditions, can_pwm_stated}
use Rattle.linkinfo_typed.specs.Can.{
  can_attribute,
  can_plain,
  can_rows,
  can_from_bit_timing_const,
  can_from_berr_counter,
  can_from_data_bit_timing,
  can_from_data_bit_timing_const,
  can_from_termination_const,
  can_from_bit_rate_const,
  can_from_data_bit_rate_const,
  can_from_tdc,
  can_from_ctrl_mode_ext,
  can_from_xl_data_bit_timing,
  can_from_xl_data_bit_timing_const,
  can_from_xl_data_bit_rate_const,
  can_from_xl_tdc,
  can_from_xl_pwm,
}
use Rattle.linkinfo_typed.specs.declared.can.InfoCan.{InfoCan}
use Rattle.linkinfo_typed.specs.declared.can.InfoCan.TheVariants as can

abbrev pub can_conditions : InfoCan → Type 0
can_conditions (can.BitTiming x) = can_bit_timing_codec.Holds x
can_conditions (can.BitTimingConst x) = can_bit_timing_const_codec.Holds x
can_conditions (can.Clock x) = x.freq < 2 ^ 32
can_conditions (can.State x) = IsNumber can_state_table (2 ^ 32) x
can_conditions (can.CtrlMode x) = (x.mask.0 < 2 ^ 32) × (x.flags.0 < 2 ^ 32)
can_conditions (can.RestartMs n) = n < 2 ^ 32
can_conditions (can.Restart n) = n < 2 ^ 32
can_conditions (can.BerrCounter x) = can_berr_counter_codec.Holds x
can_conditions (can.DataBitTiming x) = can_bit_timing_codec.Holds x
can_conditions (can.DataBitTimingConst x) = can_bit_timing_const_codec.Holds x
can_conditions (can.Termination n) = n < 2 ^ 16
can_conditions (can.TerminationConst xs) = AllByRecursion (λ n. n < 2 ^ 16) xs
can_conditions (can.BitRateConst xs) = AllByRecursion (λ n. n < 2 ^ 32) xs
can_conditions (can.DataBitRateConst xs) = AllByRecursion (λ n. n < 2 ^ 32) xs
can_conditions (can.BitRateMax n) = n < 2 ^ 32
can_conditions (can.Tdc xs) = AllByRecursion can_tdc_conditions xs
can_conditions (can.CtrlModeExt xs) = AllByRecursion can_ctrl_mode_ext_conditions xs
can_conditions (can.XlDataBitTiming x) = can_bit_timing_codec.Holds x
can_conditions (can.XlDataBitTimingConst x) = can_bit_timing_const_codec.Holds x
can_conditions (can.XlDataBitRateConst xs) = AllByRecursion (λ n. n < 2 ^ 32) xs
can_conditions (can.XlTdc xs) = AllByRecursion can_tdc_conditions xs
can_conditions (can.XlPwm xs) = AllByRecursion can_pwm_conditions xs
can_conditions (can.Other d) =
    IsBeside (1 ∷ 2 ∷ 8 ∷ 9 ∷ 10 ∷ 12 ∷ 13 ∷ 14 ∷ 16 ∷ 17 ∷ 18 ∷ 19 ∷ 20 ∷ 21 ∷ 22 ∷ []) (masked
    d.kind)
    (IsUnknown can_plain d)

abbrev can_is_other : InfoCan → Bool
can_is_other (can.Other d) = true
can_is_other _ = false

pub can_stated : (x : InfoCan) → WellFormed (λ d. can.Other d) can_attribute
    (λ n. row_of (can_rows n)) x ↔ can_conditions x
unfolding WellFormed
can_stated = elim [
  | can.State x ↦ number_label can_state_table_holds (2 ^ 32)
      (λ y. can.State y) can_conditions (λ _ is. is) (λ _ is. is) x
  | can.CtrlMode x ↦
      (λ w. subst can_conditions w.2 w.1, λ h. ((x.mask.0, x.flags.0), h, refl))
  | can.Tdc xs ↦
      plain_label (AllWell _) (λ z. can.Tdc z) can_conditions
      (λ u. (each_stated _ _ can_tdc_stated u).0)
      (λ u. (each_stated _ _ can_tdc_stated u).1) xs
  | can.CtrlModeExt xs ↦
      plain_label (AllWell _) (λ z. can.CtrlModeExt z) can_conditions
      (λ u. (each_stated _ _ can_ctrl_mode_ext_stated u).0)
      (λ u. (each_stated _ _ can_ctrl_mode_ext_stated u).1) xs
  | can.XlTdc xs ↦
      plain_label (AllWell _) (λ z. can.XlTdc z) can_conditions
      (λ u. (each_stated _ _ can_tdc_stated u).0)
      (λ u. (each_stated _ _ can_tdc_stated u).1) xs
  | can.XlPwm xs ↦
      plain_label (AllWell _) (λ z. can.XlPwm z) can_conditions
      (λ u. (each_stated _ _ can_pwm_stated u).0)
      (λ u. (each_stated _ _ can_pwm_stated u).1) xs
  | can.Other d ↦ unknown_after (λ z. can.Other z) 1 (masked d.kind)
      (can_rows 1) (can_from_bit_timing_const (masked d.kind)) d
      (IsBeside (2 ∷ 8 ∷ 9 ∷ 10 ∷ 12 ∷ 13 ∷ 14 ∷ 16 ∷ 17 ∷ 18 ∷ 19 ∷ 20 ∷ 21 ∷ 22 ∷ []) (masked
      d.kind)
      (IsUnknown can_plain d))
      (λ w. let no : can.BitTiming w.0 ≡ can.Other d = w.2 in cc) (
      unknown_after (λ z. can.Other z) 2 (masked d.kind)
      (can_rows 2) (can_from_berr_counter (masked d.kind)) d
      (IsBeside (8 ∷ 9 ∷ 10 ∷ 12 ∷ 13 ∷ 14 ∷ 16 ∷ 17 ∷ 18 ∷ 19 ∷ 20 ∷ 21 ∷ 22 ∷ []) (masked d.kind)
      (IsUnknown can_plain d))
      (λ w. let no : can.BitTimingConst w.0 ≡ can.Other d = w.2 in cc) (
      unknown_after (λ z. can.Other z) 8 (masked d.kind)
      (can_rows 8) (can_from_data_bit_timing (masked d.kind)) d
      (IsBeside (9 ∷ 10 ∷ 12 ∷ 13 ∷ 14 ∷ 16 ∷ 17 ∷ 18 ∷ 19 ∷ 20 ∷ 21 ∷ 22 ∷ []) (masked d.kind)
      (IsUnknown can_plain d))
      (λ w. let no : can.BerrCounter w.0 ≡ can.Other d = w.2 in cc) (
      unknown_after (λ z. can.Other z) 9 (masked d.kind)
      (can_rows 9) (can_from_data_bit_timing_const (masked d.kind)) d
      (IsBeside (10 ∷ 12 ∷ 13 ∷ 14 ∷ 16 ∷ 17 ∷ 18 ∷ 19 ∷ 20 ∷ 21 ∷ 22 ∷ []) (masked d.kind)
      (IsUnknown can_plain d))
      (λ w. let no : can.DataBitTiming w.0 ≡ can.Other d = w.2 in cc) (
      unknown_after (λ z. can.Other z) 10 (masked d.kind)
      (can_rows 10) (can_from_termination_const (masked d.kind)) d
      (IsBeside (12 ∷ 13 ∷ 14 ∷ 16 ∷ 17 ∷ 18 ∷ 19 ∷ 20 ∷ 21 ∷ 22 ∷ []) (masked d.kind)
      (IsUnknown can_plain d))
      (λ w. let no : can.DataBitTimingConst w.0 ≡ can.Other d = w.2 in cc) (
      unknown_after (λ z. can.Other z) 12 (masked d.kind)
      (can_rows 12) (can_from_bit_rate_const (masked d.kind)) d
      (IsBeside (13 ∷ 14 ∷ 16 ∷ 17 ∷ 18 ∷ 19 ∷ 20 ∷ 21 ∷ 22 ∷ []) (masked d.kind)
      (IsUnknown can_plain d))
      (λ w. let no : can.TerminationConst w.0 ≡ can.Other d = w.2 in cc) (
      unknown_after (λ z. can.Other z) 13 (masked d.kind)
      (can_rows 13) (can_from_data_bit_rate_const (masked d.kind)) d
      (IsBeside (14 ∷ 16 ∷ 17 ∷ 18 ∷ 19 ∷ 20 ∷ 21 ∷ 22 ∷ []) (masked d.kind)
      (IsUnknown can_plain d))
      (λ w. let no : can.BitRateConst w.0 ≡ can.Other d = w.2 in cc) (
      unknown_after (λ z. can.Other z) 14 (masked d.kind)
      (can_rows 14) (can_from_tdc (masked d.kind)) d
      (IsBeside (16 ∷ 17 ∷ 18 ∷ 19 ∷ 20 ∷ 21 ∷ 22 ∷ []) (masked d.kind) (IsUnknown can_plain d))
      (λ w. let no : can.DataBitRateConst w.0 ≡ can.Other d = w.2 in cc) (
      unknown_after (λ z. can.Other z) 16 (masked d.kind)
      (can_rows 16) (can_from_ctrl_mode_ext (masked d.kind)) d
      (IsBeside (17 ∷ 18 ∷ 19 ∷ 20 ∷ 21 ∷ 22 ∷ []) (masked d.kind) (IsUnknown can_plain d))
      (λ w. let no : can.Tdc w.0 ≡ can.Other d = w.2 in cc) (
      unknown_after (λ z. can.Other z) 17 (masked d.kind)
      (can_rows 17) (can_from_xl_data_bit_timing (masked d.kind)) d
      (IsBeside (18 ∷ 19 ∷ 20 ∷ 21 ∷ 22 ∷ []) (masked d.kind) (IsUnknown can_plain d))
      (λ w. let no : can.CtrlModeExt w.0 ≡ can.Other d = w.2 in cc) (
      unknown_after (λ z. can.Other z) 18 (masked d.kind)
      (can_rows 18) (can_from_xl_data_bit_timing_const (masked d.kind)) d
      (IsBeside (19 ∷ 20 ∷ 21 ∷ 22 ∷ []) (masked d.kind) (IsUnknown can_plain d))
      (λ w. let no : can.XlDataBitTiming w.0 ≡ can.Other d = w.2 in cc) (
      unknown_after (λ z. can.Other z) 19 (masked d.kind)
      (can_rows 19) (can_from_xl_data_bit_rate_const (masked d.kind)) d
      (IsBeside (20 ∷ 21 ∷ 22 ∷ []) (masked d.kind) (IsUnknown can_plain d))
      (λ w. let no : can.XlDataBitTimingConst w.0 ≡ can.Other d = w.2 in cc) (
      unknown_after (λ z. can.Other z) 20 (masked d.kind)
      (can_rows 20) (can_from_xl_tdc (masked d.kind)) d (IsBeside (21 ∷ 22 ∷ []) (masked d.kind)
      (IsUnknown can_plain d))
      (λ w. let no : can.XlDataBitRateConst w.0 ≡ can.Other d = w.2 in cc) (
      unknown_after (λ z. can.Other z) 21 (masked d.kind)
      (can_rows 21) (can_from_xl_pwm (masked d.kind)) d (IsBeside (22 ∷ []) (masked d.kind)
      (IsUnknown can_plain d))
      (λ w. let no : can.XlTdc w.0 ≡ can.Other d = w.2 in cc) (
      unknown_after (λ z. can.Other z) 22 (masked d.kind)
      (can_rows 22) ((table_row can_plain) (masked d.kind)) d (IsUnknown can_plain d)
      (λ w. let no : can.XlPwm w.0 ≡ can.Other d = w.2 in cc) (
      unknown_label (λ z. can.Other z) can_attribute can_plain can_is_other (λ _. refl) (λ _. refl)
      (are_typed can_is_other can_plain refl) d)))))))))))))))
  | _ ↦ (λ w. subst can_conditions w.2 w.1, λ h. (_, h, refl))
]
