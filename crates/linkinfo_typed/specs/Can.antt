-- Written by tables/generate from tables/can.
-- The rows of `can` links.
use Rattle.std.specs.Prelude.{
  ◌≡◌,
  ◌==◌,
  ◌||◌,
  ℕ,
  Bool,
  if◌then◌else◌,
  true,
  false,
  List,
  [],
  ◌∷◌,
  map,
  refl,
}
use Rattle.std.proofs.Common.{ap, lit<}
use Rattle.nla_frame.specs.Attribute.{Attribute, list_string}
use Rattle.nla_frame.specs.Kept.{attribute_of}
use Rattle.nla_frame.specs.declared.error.Family.TheVariants as family
use Rattle.linkinfo_table.specs.FamilyRowLaws.{table_flat, table_lookup, table_owes}
use Rattle.linkinfo_table.specs.FamilyRows.{
  FamilyRow,
  IsFlat,
  PlainRow,
  RowOwes,
  SuitsDecoded,
  lookup_in,
  lookup_of,
  row,
  row_of,
  table_row,
  typed,
  without_labels,
  EachKeeps,
}
use Rattle.linkinfo_table.specs.Members.{list_of, list_of_is_codec}
use Rattle.linkinfo_table.specs.Rows.{written_kind}
use Rattle.linkinfo_table.specs.TypedRows.{with_flat, with_lookup, with_owes, with_row}
use Rattle.linkinfo_table.specs.declared.decoded.Decoded.{Decoded}
use Rattle.linkinfo_typed.specs.NestedLists.{headers_in}
use Rattle.linkinfo_typed.specs.PayloadRows.{is_among, is_held, of_none, with_suits}
use Rattle.linkinfo_shapes.specs.Typed.{typed_shape_of}
use Rattle.linkinfo_shapes.specs.declared.shape.Shape.TheVariants.{
  Le32x8,
  CanBitTimingConst,
  Le32,
  FlagPair,
  LePair16,
  Le16,
  Le16s,
  Le32s,
  Nested,
}
use Rattle.linkinfo_numbers.specs.Table.{key-value_of}
use Rattle.linkinfo_numbers.specs.Can.{
  can_clock,
  can_state,
  can_state_number,
  can_state_table_holds,
  can_ctrl_mode_flags,
}
use Rattle.linkinfo_numbers.specs.declared.can.CanCtrlMode.{CanCtrlMode}
use Rattle.linkinfo_table.specs.Labels.{each_keeps}
use Rattle.linkinfo_payloads.specs.Payloads.{
  can_berr_counter_codec,
  can_berr_counter_payload,
  can_bit_timing_codec,
  can_bit_timing_payload,
  can_bit_timing_const_codec,
  can_bit_timing_const_payload,
  le16s_codec,
  le16s_payload,
  le32s_codec,
  le32s_payload,
}
use Rattle.linkinfo_typed.specs.CanTdc.{can_tdc_attribute, can_tdc_lawful, can_tdc_members}
use Rattle.linkinfo_typed.specs.CanCtrlModeExt.{
  can_ctrl_mode_ext_attribute,
  can_ctrl_mode_ext_lawful,
  can_ctrl_mode_ext_members,
}
use Rattle.linkinfo_typed.specs.CanPwm.{can_pwm_attribute, can_pwm_lawful, can_pwm_members}
use Rattle.linkinfo_typed.specs.declared.can.InfoCan.{InfoCan}
use Rattle.linkinfo_typed.specs.declared.can.InfoCan.TheVariants.{
  BitTiming,
  BitTimingConst,
  Clock,
  State,
  CtrlMode,
  RestartMs,
  Restart,
  BerrCounter,
  DataBitTiming,
  DataBitTimingConst,
  Termination,
  TerminationConst,
  BitRateConst,
  DataBitRateConst,
  BitRateMax,
  Tdc,
  CtrlModeExt,
  XlDataBitTiming,
  XlDataBitTimingConst,
  XlDataBitRateConst,
  XlTdc,
  XlPwm,
  Other,
}

-- both sets of their numbers
abbrev pub both_sets : ℕ × ℕ → CanCtrlMode
both_sets pair = record { mask = can_ctrl_mode_flags pair.0; flags = can_ctrl_mode_flags pair.1 }

-- the rows with a shape of the table
abbrev pub can_plain : List (PlainRow InfoCan)
can_plain =
    row 3 Le32 (λ n. Clock (can_clock n)) ∷
    row 4 Le32 (λ n. State (can_state n)) ∷
    row 5 FlagPair (λ pair. CtrlMode (both_sets pair)) ∷
    row 6 Le32 (λ n. RestartMs n) ∷
    row 7 Le32 (λ n. Restart n) ∷
    row 11 Le16 (λ n. Termination n) ∷
    row 15 Le32 (λ n. BitRateMax n) ∷
    []

abbrev pub can_attribute : InfoCan → Attribute
can_attribute (BitTiming x) = record { kind = 1; value = can_bit_timing_codec.canon x }
can_attribute (BitTimingConst x) = record { kind = 2; value = can_bit_timing_const_codec.canon x }
can_attribute (Clock x) = typed 3 Le32 x.freq
can_attribute (State state) = typed 4 Le32 (can_state_number state)
can_attribute (CtrlMode x) = typed 5 FlagPair (x.mask.0, x.flags.0)
can_attribute (RestartMs n) = typed 6 Le32 n
can_attribute (Restart n) = typed 7 Le32 n
can_attribute (BerrCounter x) = record { kind = 8; value = can_berr_counter_codec.canon x }
can_attribute (DataBitTiming x) = record { kind = 9; value = can_bit_timing_codec.canon x }
can_attribute (DataBitTimingConst x) =
    record { kind = 10; value = can_bit_timing_const_codec.canon x }
can_attribute (Termination n) = typed 11 Le16 n
can_attribute (TerminationConst x) = record { kind = 12; value = le16s_codec.canon x }
can_attribute (BitRateConst x) = record { kind = 13; value = le32s_codec.canon x }
can_attribute (DataBitRateConst x) = record { kind = 14; value = le32s_codec.canon x }
can_attribute (BitRateMax n) = typed 15 Le32 n
can_attribute (Tdc xs) =
    record { kind = written_kind true 16; value = list_string (map can_tdc_attribute xs) }
can_attribute (CtrlModeExt xs) =
    record { kind = written_kind true 17; value = list_string (map can_ctrl_mode_ext_attribute xs) }
can_attribute (XlDataBitTiming x) = record { kind = 18; value = can_bit_timing_codec.canon x }
can_attribute (XlDataBitTimingConst x) =
    record { kind = 19; value = can_bit_timing_const_codec.canon x }
can_attribute (XlDataBitRateConst x) = record { kind = 20; value = le32s_codec.canon x }
can_attribute (XlTdc xs) =
    record { kind = written_kind true 21; value = list_string (map can_tdc_attribute xs) }
can_attribute (XlPwm xs) =
    record { kind = written_kind true 22; value = list_string (map can_pwm_attribute xs) }
can_attribute (Other nla) = attribute_of nla

pub can_keeps : EachKeeps can_attribute can_plain
can_keeps = each_keeps can_attribute can_plain refl (
  λ n. refl,
  (
    λ n. ap (typed 4 Le32) (key-value_of can_state_table_holds n),
    (λ pair. refl, (λ n. refl, (λ n. refl, (λ n. refl, (λ n. refl, tt))))),
  ),
)

-- rows with payloads of types of their own, each before the others, and those of the table
abbrev pub can_from_xl_pwm : ℕ → FamilyRow InfoCan
can_from_xl_pwm n =
    with_row 22 (Nested family.CanPwm) true (list_of can_pwm_members)
    (λ x. XlPwm x) (table_row can_plain) n

abbrev pub can_from_xl_tdc : ℕ → FamilyRow InfoCan
can_from_xl_tdc n =
    with_row 21 (Nested family.CanTdc) true (list_of can_tdc_members)
    (λ x. XlTdc x) can_from_xl_pwm n

abbrev pub can_from_xl_data_bit_rate_const : ℕ → FamilyRow InfoCan
can_from_xl_data_bit_rate_const n =
    with_row 20 Le32s false le32s_codec
    (λ x. XlDataBitRateConst x) can_from_xl_tdc n

abbrev pub can_from_xl_data_bit_timing_const : ℕ → FamilyRow InfoCan
can_from_xl_data_bit_timing_const n =
    with_row 19 CanBitTimingConst false can_bit_timing_const_codec
    (λ x. XlDataBitTimingConst x) can_from_xl_data_bit_rate_const n

abbrev pub can_from_xl_data_bit_timing : ℕ → FamilyRow InfoCan
can_from_xl_data_bit_timing n =
    with_row 18 Le32x8 false can_bit_timing_codec
    (λ x. XlDataBitTiming x) can_from_xl_data_bit_timing_const n

abbrev pub can_from_ctrl_mode_ext : ℕ → FamilyRow InfoCan
can_from_ctrl_mode_ext n =
    with_row 17 (Nested family.CanCtrlModeExt) true (list_of can_ctrl_mode_ext_members)
    (λ x. CtrlModeExt x) can_from_xl_data_bit_timing n

abbrev pub can_from_tdc : ℕ → FamilyRow InfoCan
can_from_tdc n =
    with_row 16 (Nested family.CanTdc) true (list_of can_tdc_members)
    (λ x. Tdc x) can_from_ctrl_mode_ext n

abbrev pub can_from_data_bit_rate_const : ℕ → FamilyRow InfoCan
can_from_data_bit_rate_const n =
    with_row 14 Le32s false le32s_codec
    (λ x. DataBitRateConst x) can_from_tdc n

abbrev pub can_from_bit_rate_const : ℕ → FamilyRow InfoCan
can_from_bit_rate_const n =
    with_row 13 Le32s false le32s_codec
    (λ x. BitRateConst x) can_from_data_bit_rate_const n

abbrev pub can_from_termination_const : ℕ → FamilyRow InfoCan
can_from_termination_const n =
    with_row 12 Le16s false le16s_codec
    (λ x. TerminationConst x) can_from_bit_rate_const n

abbrev pub can_from_data_bit_timing_const : ℕ → FamilyRow InfoCan
can_from_data_bit_timing_const n =
    with_row 10 CanBitTimingConst false can_bit_timing_const_codec
    (λ x. DataBitTimingConst x) can_from_termination_const n

abbrev pub can_from_data_bit_timing : ℕ → FamilyRow InfoCan
can_from_data_bit_timing n =
    with_row 9 Le32x8 false can_bit_timing_codec
    (λ x. DataBitTiming x) can_from_data_bit_timing_const n

abbrev pub can_from_berr_counter : ℕ → FamilyRow InfoCan
can_from_berr_counter n =
    with_row 8 LePair16 false can_berr_counter_codec
    (λ x. BerrCounter x) can_from_data_bit_timing n

abbrev pub can_from_bit_timing_const : ℕ → FamilyRow InfoCan
can_from_bit_timing_const n =
    with_row 2 CanBitTimingConst false can_bit_timing_const_codec
    (λ x. BitTimingConst x) can_from_berr_counter n

abbrev pub can_from_bit_timing : ℕ → FamilyRow InfoCan
can_from_bit_timing n =
    with_row 1 Le32x8 false can_bit_timing_codec
    (λ x. BitTiming x) can_from_bit_timing_const n

abbrev pub can_rows : ℕ → FamilyRow InfoCan
can_rows n = can_from_bit_timing n

pub can_owes : (n : ℕ) → RowOwes can_attribute n (row_of (can_rows n))
can_owes n =
    with_owes 1 Le32x8 false can_bit_timing_codec
    (λ x. BitTiming x) can_from_bit_timing_const can_attribute (lit< tt)
    can_bit_timing_payload.codec (λ _. refl) (λ x y e. cc) (
    with_owes 2 CanBitTimingConst false can_bit_timing_const_codec
    (λ x. BitTimingConst x) can_from_berr_counter can_attribute (lit< tt)
    can_bit_timing_const_payload.codec (λ _. refl) (λ x y e. cc) (
    with_owes 8 LePair16 false can_berr_counter_codec
    (λ x. BerrCounter x) can_from_data_bit_timing can_attribute (lit< tt)
    can_berr_counter_payload.codec (λ _. refl) (λ x y e. cc) (
    with_owes 9 Le32x8 false can_bit_timing_codec
    (λ x. DataBitTiming x) can_from_data_bit_timing_const can_attribute (lit< tt)
    can_bit_timing_payload.codec (λ _. refl) (λ x y e. cc) (
    with_owes 10 CanBitTimingConst false can_bit_timing_const_codec
    (λ x. DataBitTimingConst x) can_from_termination_const can_attribute (lit< tt)
    can_bit_timing_const_payload.codec (λ _. refl) (λ x y e. cc) (
    with_owes 12 Le16s false le16s_codec
    (λ x. TerminationConst x) can_from_bit_rate_const can_attribute (lit< tt)
    le16s_payload.codec (λ _. refl) (λ x y e. cc) (
    with_owes 13 Le32s false le32s_codec
    (λ x. BitRateConst x) can_from_data_bit_rate_const can_attribute (lit< tt)
    le32s_payload.codec (λ _. refl) (λ x y e. cc) (
    with_owes 14 Le32s false le32s_codec
    (λ x. DataBitRateConst x) can_from_tdc can_attribute (lit< tt)
    le32s_payload.codec (λ _. refl) (λ x y e. cc) (
    with_owes 16 (Nested family.CanTdc) true (list_of can_tdc_members)
    (λ x. Tdc x) can_from_ctrl_mode_ext can_attribute (lit< tt)
    (list_of_is_codec can_tdc_members can_tdc_lawful) (λ _. refl) (λ x y e. cc) (
    with_owes 17 (Nested family.CanCtrlModeExt) true (list_of can_ctrl_mode_ext_members)
    (λ x. CtrlModeExt x) can_from_xl_data_bit_timing can_attribute (lit< tt)
    (list_of_is_codec can_ctrl_mode_ext_members can_ctrl_mode_ext_lawful) (λ _. refl) (λ x y e. cc)
    (
    with_owes 18 Le32x8 false can_bit_timing_codec
    (λ x. XlDataBitTiming x) can_from_xl_data_bit_timing_const can_attribute (lit< tt)
    can_bit_timing_payload.codec (λ _. refl) (λ x y e. cc) (
    with_owes 19 CanBitTimingConst false can_bit_timing_const_codec
    (λ x. XlDataBitTimingConst x) can_from_xl_data_bit_rate_const can_attribute (lit< tt)
    can_bit_timing_const_payload.codec (λ _. refl) (λ x y e. cc) (
    with_owes 20 Le32s false le32s_codec
    (λ x. XlDataBitRateConst x) can_from_xl_tdc can_attribute (lit< tt)
    le32s_payload.codec (λ _. refl) (λ x y e. cc) (
    with_owes 21 (Nested family.CanTdc) true (list_of can_tdc_members)
    (λ x. XlTdc x) can_from_xl_pwm can_attribute (lit< tt)
    (list_of_is_codec can_tdc_members can_tdc_lawful) (λ _. refl) (λ x y e. cc) (
    with_owes 22 (Nested family.CanPwm) true (list_of can_pwm_members)
    (λ x. XlPwm x) (table_row can_plain) can_attribute (lit< tt)
    (list_of_is_codec can_pwm_members can_pwm_lawful) (λ _. refl) (λ x y e. cc) (
    table_owes can_attribute can_plain can_keeps))))))))))))))) n

pub can_flat : (n : ℕ) → is_among (1 ∷ 2 ∷ 8 ∷ 9 ∷ 10 ∷ 12 ∷ 13 ∷ 14 ∷ 16 ∷ 17 ∷ 18 ∷ 19 ∷ 20 ∷
    21 ∷ 22 ∷ []) n ≡ false →
    IsFlat (can_rows n)
can_flat n h =
    with_flat 1 Le32x8 false can_bit_timing_codec (λ x. BitTiming x) can_from_bit_timing_const
    (is_among (2 ∷ 8 ∷ 9 ∷ 10 ∷ 12 ∷ 13 ∷ 14 ∷ 16 ∷ 17 ∷ 18 ∷ 19 ∷ 20 ∷ 21 ∷ 22 ∷ []) n) n h (λ e.
    with_flat 2 CanBitTimingConst false can_bit_timing_const_codec
    (λ x. BitTimingConst x) can_from_berr_counter
    (is_among (8 ∷ 9 ∷ 10 ∷ 12 ∷ 13 ∷ 14 ∷ 16 ∷ 17 ∷ 18 ∷ 19 ∷ 20 ∷ 21 ∷ 22 ∷ []) n) n e (λ e.
    with_flat 8 LePair16 false can_berr_counter_codec (λ x. BerrCounter x) can_from_data_bit_timing
    (is_among (9 ∷ 10 ∷ 12 ∷ 13 ∷ 14 ∷ 16 ∷ 17 ∷ 18 ∷ 19 ∷ 20 ∷ 21 ∷ 22 ∷ []) n) n e (λ e.
    with_flat 9 Le32x8 false can_bit_timing_codec
    (λ x. DataBitTiming x) can_from_data_bit_timing_const
    (is_among (10 ∷ 12 ∷ 13 ∷ 14 ∷ 16 ∷ 17 ∷ 18 ∷ 19 ∷ 20 ∷ 21 ∷ 22 ∷ []) n) n e (λ e.
    with_flat 10 CanBitTimingConst false can_bit_timing_const_codec
    (λ x. DataBitTimingConst x) can_from_termination_const
    (is_among (12 ∷ 13 ∷ 14 ∷ 16 ∷ 17 ∷ 18 ∷ 19 ∷ 20 ∷ 21 ∷ 22 ∷ []) n) n e (λ e.
    with_flat 12 Le16s false le16s_codec (λ x. TerminationConst x) can_from_bit_rate_const
    (is_among (13 ∷ 14 ∷ 16 ∷ 17 ∷ 18 ∷ 19 ∷ 20 ∷ 21 ∷ 22 ∷ []) n) n e (λ e.
    with_flat 13 Le32s false le32s_codec (λ x. BitRateConst x) can_from_data_bit_rate_const
    (is_among (14 ∷ 16 ∷ 17 ∷ 18 ∷ 19 ∷ 20 ∷ 21 ∷ 22 ∷ []) n) n e (λ e.
    with_flat 14 Le32s false le32s_codec (λ x. DataBitRateConst x) can_from_tdc
    (is_among (16 ∷ 17 ∷ 18 ∷ 19 ∷ 20 ∷ 21 ∷ 22 ∷ []) n) n e (λ e.
    with_flat 16 (Nested family.CanTdc) true (list_of can_tdc_members)
    (λ x. Tdc x) can_from_ctrl_mode_ext (is_among (17 ∷ 18 ∷ 19 ∷ 20 ∷ 21 ∷ 22 ∷ []) n) n e (λ e.
    with_flat 17 (Nested family.CanCtrlModeExt) true (list_of can_ctrl_mode_ext_members)
    (λ x. CtrlModeExt x) can_from_xl_data_bit_timing
    (is_among (18 ∷ 19 ∷ 20 ∷ 21 ∷ 22 ∷ []) n) n e (λ e.
    with_flat 18 Le32x8 false can_bit_timing_codec
    (λ x. XlDataBitTiming x) can_from_xl_data_bit_timing_const
    (is_among (19 ∷ 20 ∷ 21 ∷ 22 ∷ []) n) n e (λ e.
    with_flat 19 CanBitTimingConst false can_bit_timing_const_codec
    (λ x. XlDataBitTimingConst x) can_from_xl_data_bit_rate_const
    (is_among (20 ∷ 21 ∷ 22 ∷ []) n) n e (λ e.
    with_flat 20 Le32s false le32s_codec (λ x. XlDataBitRateConst x) can_from_xl_tdc
    (is_among (21 ∷ 22 ∷ []) n) n e (λ e.
    with_flat 21 (Nested family.CanTdc) true (list_of can_tdc_members)
    (λ x. XlTdc x) can_from_xl_pwm (is_among (22 ∷ []) n) n e (λ e.
    with_flat 22 (Nested family.CanPwm) true (list_of can_pwm_members)
    (λ x. XlPwm x) (table_row can_plain) false n e (λ _.
    table_flat can_attribute can_plain can_keeps n)))))))))))))))

-- the headers in a payload of each type
abbrev pub can_headers : ℕ → List ℕ → ℕ
can_headers n p =
    if ((is_among (1 ∷ []) n ||
    is_among (2 ∷ 8 ∷ []) n) ||
    (is_among (9 ∷ 10 ∷ []) n ||
    is_among (12 ∷ 13 ∷ []) n)) then (
    if (is_among (1 ∷ []) n ||
    is_among (2 ∷ 8 ∷ []) n) then (
    if is_among (1 ∷ []) n then (
    if n == 1 then can_bit_timing_codec.headers p else
    0) else (
    if n == 2 then can_bit_timing_const_codec.headers p else
    if n == 8 then can_berr_counter_codec.headers p else
    0)) else (
    if is_among (9 ∷ 10 ∷ []) n then (
    if n == 9 then can_bit_timing_codec.headers p else
    if n == 10 then can_bit_timing_const_codec.headers p else
    0) else (
    if n == 12 then le16s_codec.headers p else
    if n == 13 then le32s_codec.headers p else
    0))) else (
    if (is_among (14 ∷ 16 ∷ []) n ||
    is_among (17 ∷ 18 ∷ []) n) then (
    if is_among (14 ∷ 16 ∷ []) n then (
    if n == 14 then le32s_codec.headers p else
    if n == 16 then headers_in can_tdc_members p else
    0) else (
    if n == 17 then headers_in can_ctrl_mode_ext_members p else
    if n == 18 then can_bit_timing_codec.headers p else
    0)) else (
    if is_among (19 ∷ 20 ∷ []) n then (
    if n == 19 then can_bit_timing_const_codec.headers p else
    if n == 20 then le32s_codec.headers p else
    0) else (
    if n == 21 then headers_in can_tdc_members p else
    if n == 22 then headers_in can_pwm_members p else
    0)))

pub can_flat_elsewhere : (n : ℕ) → (((is_among (1 ∷ []) n ||
    is_among (2 ∷ 8 ∷ []) n) ||
    (is_among (9 ∷ 10 ∷ []) n ||
    is_among (12 ∷ 13 ∷ []) n)) ||
    ((is_among (14 ∷ 16 ∷ []) n ||
    is_among (17 ∷ 18 ∷ []) n) ||
    (is_among (19 ∷ 20 ∷ []) n ||
    is_among (21 ∷ 22 ∷ []) n))) ≡ false → IsFlat (can_rows n)
can_flat_elsewhere n h =
    can_flat n ((of_none (1 ∷ 2 ∷ 8 ∷ 9 ∷ 10 ∷ 12 ∷ 13 ∷ []) (14 ∷ 16 ∷ 17 ∷ 18 ∷ 19 ∷ 20 ∷ 21 ∷ 22
    ∷ []) n
    (of_none (1 ∷ 2 ∷ 8 ∷ []) (9 ∷ 10 ∷ 12 ∷ 13 ∷ []) n
    (of_none (1 ∷ []) (2 ∷ 8 ∷ []) n
    (λ h. h) (λ h. h)) (of_none (9 ∷ 10 ∷ []) (12 ∷ 13 ∷ []) n
    (λ h. h) (λ h. h))) (of_none (14 ∷ 16 ∷ 17 ∷ 18 ∷ []) (19 ∷ 20 ∷ 21 ∷ 22 ∷ []) n
    (of_none (14 ∷ 16 ∷ []) (17 ∷ 18 ∷ []) n
    (λ h. h) (λ h. h)) (of_none (19 ∷ 20 ∷ []) (21 ∷ 22 ∷ []) n
    (λ h. h) (λ h. h)))) h)

-- the table of the typed layer has the same rows
pub can_lookup : (n : ℕ) → lookup_of (can_rows n) ≡ lookup_in (typed_shape_of family.Can n)
can_lookup n =
    with_lookup 1 Le32x8 false can_bit_timing_codec (λ x. BitTiming x) can_from_bit_timing_const
    ((2, CanBitTimingConst) ∷ (8, LePair16) ∷ (9, Le32x8) ∷ (10, CanBitTimingConst) ∷
    (12, Le16s) ∷ (13, Le32s) ∷ (14, Le32s) ∷ (16, Nested family.CanTdc) ∷
    (17, Nested family.CanCtrlModeExt) ∷ (18, Le32x8) ∷ (19, CanBitTimingConst) ∷ (20, Le32s) ∷
    (21, Nested family.CanTdc) ∷ (22, Nested family.CanPwm) ∷ without_labels can_plain) n (
    with_lookup 2 CanBitTimingConst false can_bit_timing_const_codec
    (λ x. BitTimingConst x) can_from_berr_counter
    ((8, LePair16) ∷ (9, Le32x8) ∷ (10, CanBitTimingConst) ∷ (12, Le16s) ∷ (13, Le32s) ∷
    (14, Le32s) ∷ (16, Nested family.CanTdc) ∷ (17, Nested family.CanCtrlModeExt) ∷
    (18, Le32x8) ∷ (19, CanBitTimingConst) ∷ (20, Le32s) ∷ (21, Nested family.CanTdc) ∷
    (22, Nested family.CanPwm) ∷ without_labels can_plain) n (
    with_lookup 8 LePair16 false can_berr_counter_codec
    (λ x. BerrCounter x) can_from_data_bit_timing
    ((9, Le32x8) ∷ (10, CanBitTimingConst) ∷ (12, Le16s) ∷ (13, Le32s) ∷ (14, Le32s) ∷
    (16, Nested family.CanTdc) ∷ (17, Nested family.CanCtrlModeExt) ∷ (18, Le32x8) ∷
    (19, CanBitTimingConst) ∷ (20, Le32s) ∷ (21, Nested family.CanTdc) ∷
    (22, Nested family.CanPwm) ∷ without_labels can_plain) n (
    with_lookup 9 Le32x8 false can_bit_timing_codec
    (λ x. DataBitTiming x) can_from_data_bit_timing_const
    ((10, CanBitTimingConst) ∷ (12, Le16s) ∷ (13, Le32s) ∷ (14, Le32s) ∷
    (16, Nested family.CanTdc) ∷ (17, Nested family.CanCtrlModeExt) ∷ (18, Le32x8) ∷
    (19, CanBitTimingConst) ∷ (20, Le32s) ∷ (21, Nested family.CanTdc) ∷
    (22, Nested family.CanPwm) ∷ without_labels can_plain) n (
    with_lookup 10 CanBitTimingConst false can_bit_timing_const_codec
    (λ x. DataBitTimingConst x) can_from_termination_const
    ((12, Le16s) ∷ (13, Le32s) ∷ (14, Le32s) ∷ (16, Nested family.CanTdc) ∷
    (17, Nested family.CanCtrlModeExt) ∷ (18, Le32x8) ∷ (19, CanBitTimingConst) ∷ (20, Le32s) ∷
    (21, Nested family.CanTdc) ∷ (22, Nested family.CanPwm) ∷ without_labels can_plain) n (
    with_lookup 12 Le16s false le16s_codec (λ x. TerminationConst x) can_from_bit_rate_const
    ((13, Le32s) ∷ (14, Le32s) ∷ (16, Nested family.CanTdc) ∷
    (17, Nested family.CanCtrlModeExt) ∷ (18, Le32x8) ∷ (19, CanBitTimingConst) ∷ (20, Le32s) ∷
    (21, Nested family.CanTdc) ∷ (22, Nested family.CanPwm) ∷ without_labels can_plain) n (
    with_lookup 13 Le32s false le32s_codec (λ x. BitRateConst x) can_from_data_bit_rate_const
    ((14, Le32s) ∷ (16, Nested family.CanTdc) ∷ (17, Nested family.CanCtrlModeExt) ∷
    (18, Le32x8) ∷ (19, CanBitTimingConst) ∷ (20, Le32s) ∷ (21, Nested family.CanTdc) ∷
    (22, Nested family.CanPwm) ∷ without_labels can_plain) n (
    with_lookup 14 Le32s false le32s_codec (λ x. DataBitRateConst x) can_from_tdc
    ((16, Nested family.CanTdc) ∷ (17, Nested family.CanCtrlModeExt) ∷ (18, Le32x8) ∷
    (19, CanBitTimingConst) ∷ (20, Le32s) ∷ (21, Nested family.CanTdc) ∷
    (22, Nested family.CanPwm) ∷ without_labels can_plain) n (
    with_lookup 16 (Nested family.CanTdc) true (list_of can_tdc_members)
    (λ x. Tdc x) can_from_ctrl_mode_ext
    ((17, Nested family.CanCtrlModeExt) ∷ (18, Le32x8) ∷ (19, CanBitTimingConst) ∷ (20, Le32s) ∷
    (21, Nested family.CanTdc) ∷ (22, Nested family.CanPwm) ∷ without_labels can_plain) n (
    with_lookup 17 (Nested family.CanCtrlModeExt) true (list_of can_ctrl_mode_ext_members)
    (λ x. CtrlModeExt x) can_from_xl_data_bit_timing
    ((18, Le32x8) ∷ (19, CanBitTimingConst) ∷ (20, Le32s) ∷ (21, Nested family.CanTdc) ∷
    (22, Nested family.CanPwm) ∷ without_labels can_plain) n (
    with_lookup 18 Le32x8 false can_bit_timing_codec
    (λ x. XlDataBitTiming x) can_from_xl_data_bit_timing_const
    ((19, CanBitTimingConst) ∷ (20, Le32s) ∷ (21, Nested family.CanTdc) ∷
    (22, Nested family.CanPwm) ∷ without_labels can_plain) n (
    with_lookup 19 CanBitTimingConst false can_bit_timing_const_codec
    (λ x. XlDataBitTimingConst x) can_from_xl_data_bit_rate_const
    ((20, Le32s) ∷ (21, Nested family.CanTdc) ∷ (22, Nested family.CanPwm) ∷
    without_labels can_plain) n (
    with_lookup 20 Le32s false le32s_codec (λ x. XlDataBitRateConst x) can_from_xl_tdc
    ((21, Nested family.CanTdc) ∷ (22, Nested family.CanPwm) ∷ without_labels can_plain) n (
    with_lookup 21 (Nested family.CanTdc) true (list_of can_tdc_members)
    (λ x. XlTdc x) can_from_xl_pwm ((22, Nested family.CanPwm) ∷ without_labels can_plain) n (
    with_lookup 22 (Nested family.CanPwm) true (list_of can_pwm_members)
    (λ x. XlPwm x) (table_row can_plain) (without_labels can_plain) n (
    table_lookup can_plain n)))))))))))))))

-- a decoded datum belongs to a row with a shape of the table
pub can_suits : (read : Decoded) → SuitsDecoded can_rows read →
    SuitsDecoded (λ n. table_row can_plain n) read
can_suits read h =
    with_suits 1 Le32x8 false can_bit_timing_codec (λ x. BitTiming x) can_from_bit_timing_const read
    h (λ e.
    with_suits 2 CanBitTimingConst false can_bit_timing_const_codec
    (λ x. BitTimingConst x) can_from_berr_counter read e (λ e.
    with_suits 8 LePair16 false can_berr_counter_codec
    (λ x. BerrCounter x) can_from_data_bit_timing read e (λ e.
    with_suits 9 Le32x8 false can_bit_timing_codec
    (λ x. DataBitTiming x) can_from_data_bit_timing_const read e (λ e.
    with_suits 10 CanBitTimingConst false can_bit_timing_const_codec
    (λ x. DataBitTimingConst x) can_from_termination_const read e (λ e.
    with_suits 12 Le16s false le16s_codec (λ x. TerminationConst x) can_from_bit_rate_const read
    e (λ e.
    with_suits 13 Le32s false le32s_codec (λ x. BitRateConst x) can_from_data_bit_rate_const read
    e (λ e.
    with_suits 14 Le32s false le32s_codec (λ x. DataBitRateConst x) can_from_tdc read e (λ e.
    with_suits 16 (Nested family.CanTdc) true (list_of can_tdc_members)
    (λ x. Tdc x) can_from_ctrl_mode_ext read e (λ e.
    with_suits 17 (Nested family.CanCtrlModeExt) true (list_of can_ctrl_mode_ext_members)
    (λ x. CtrlModeExt x) can_from_xl_data_bit_timing read e (λ e.
    with_suits 18 Le32x8 false can_bit_timing_codec
    (λ x. XlDataBitTiming x) can_from_xl_data_bit_timing_const read e (λ e.
    with_suits 19 CanBitTimingConst false can_bit_timing_const_codec
    (λ x. XlDataBitTimingConst x) can_from_xl_data_bit_rate_const read e (λ e.
    with_suits 20 Le32s false le32s_codec (λ x. XlDataBitRateConst x) can_from_xl_tdc read e (λ e.
    with_suits 21 (Nested family.CanTdc) true (list_of can_tdc_members)
    (λ x. XlTdc x) can_from_xl_pwm read e (λ e.
    with_suits 22 (Nested family.CanPwm) true (list_of can_pwm_members)
    (λ x. XlPwm x) (table_row can_plain) read e (λ e.
    e)))))))))))))))

-- the family writes such payloads itself
abbrev pub can_is_custom : InfoCan → Bool
can_is_custom (BitTiming x) = true
can_is_custom (BitTimingConst x) = true
can_is_custom (BerrCounter x) = true
can_is_custom (DataBitTiming x) = true
can_is_custom (DataBitTimingConst x) = true
can_is_custom (TerminationConst x) = true
can_is_custom (BitRateConst x) = true
can_is_custom (DataBitRateConst x) = true
can_is_custom (Tdc x) = true
can_is_custom (CtrlModeExt x) = true
can_is_custom (XlDataBitTiming x) = true
can_is_custom (XlDataBitTimingConst x) = true
can_is_custom (XlDataBitRateConst x) = true
can_is_custom (XlTdc x) = true
can_is_custom (XlPwm x) = true
can_is_custom _ = false

abbrev pub is_bit_timing : InfoCan → Bool
is_bit_timing (BitTiming x) = true
is_bit_timing _ = false

abbrev pub is_bit_timing_const : InfoCan → Bool
is_bit_timing_const (BitTimingConst x) = true
is_bit_timing_const _ = false

abbrev pub is_berr_counter : InfoCan → Bool
is_berr_counter (BerrCounter x) = true
is_berr_counter _ = false

abbrev pub is_data_bit_timing : InfoCan → Bool
is_data_bit_timing (DataBitTiming x) = true
is_data_bit_timing _ = false

abbrev pub is_data_bit_timing_const : InfoCan → Bool
is_data_bit_timing_const (DataBitTimingConst x) = true
is_data_bit_timing_const _ = false

abbrev pub is_termination_const : InfoCan → Bool
is_termination_const (TerminationConst x) = true
is_termination_const _ = false

abbrev pub is_bit_rate_const : InfoCan → Bool
is_bit_rate_const (BitRateConst x) = true
is_bit_rate_const _ = false

abbrev pub is_data_bit_rate_const : InfoCan → Bool
is_data_bit_rate_const (DataBitRateConst x) = true
is_data_bit_rate_const _ = false

abbrev pub is_tdc : InfoCan → Bool
is_tdc (Tdc x) = true
is_tdc _ = false

abbrev pub is_ctrl_mode_ext : InfoCan → Bool
is_ctrl_mode_ext (CtrlModeExt x) = true
is_ctrl_mode_ext _ = false

abbrev pub is_xl_data_bit_timing : InfoCan → Bool
is_xl_data_bit_timing (XlDataBitTiming x) = true
is_xl_data_bit_timing _ = false

abbrev pub is_xl_data_bit_timing_const : InfoCan → Bool
is_xl_data_bit_timing_const (XlDataBitTimingConst x) = true
is_xl_data_bit_timing_const _ = false

abbrev pub is_xl_data_bit_rate_const : InfoCan → Bool
is_xl_data_bit_rate_const (XlDataBitRateConst x) = true
is_xl_data_bit_rate_const _ = false

abbrev pub is_xl_tdc : InfoCan → Bool
is_xl_tdc (XlTdc x) = true
is_xl_tdc _ = false

abbrev pub is_xl_pwm : InfoCan → Bool
is_xl_pwm (XlPwm x) = true
is_xl_pwm _ = false

pub can_elsewhere : (x : InfoCan) → (((is_held (is_bit_timing ∷ []) x ||
    is_held (is_bit_timing_const ∷ is_berr_counter ∷ []) x) ||
    (is_held (is_data_bit_timing ∷ is_data_bit_timing_const ∷ []) x ||
    is_held (is_termination_const ∷ is_bit_rate_const ∷ []) x)) ||
    ((is_held (is_data_bit_rate_const ∷ is_tdc ∷ []) x ||
    is_held (is_ctrl_mode_ext ∷ is_xl_data_bit_timing ∷ []) x) ||
    (is_held (is_xl_data_bit_timing_const ∷ is_xl_data_bit_rate_const ∷ []) x ||
    is_held (is_xl_tdc ∷ is_xl_pwm ∷ []) x))) ≡ false → can_is_custom x ≡ false
can_elsewhere (BitTiming x) h = h
can_elsewhere (BitTimingConst x) h = h
can_elsewhere (BerrCounter x) h = h
can_elsewhere (DataBitTiming x) h = h
can_elsewhere (DataBitTimingConst x) h = h
can_elsewhere (TerminationConst x) h = h
can_elsewhere (BitRateConst x) h = h
can_elsewhere (DataBitRateConst x) h = h
can_elsewhere (Tdc x) h = h
can_elsewhere (CtrlModeExt x) h = h
can_elsewhere (XlDataBitTiming x) h = h
can_elsewhere (XlDataBitTimingConst x) h = h
can_elsewhere (XlDataBitRateConst x) h = h
can_elsewhere (XlTdc x) h = h
can_elsewhere (XlPwm x) h = h
can_elsewhere _ h = refl
