-- Written by tables/generate from tables/cantdc.
-- The rows of `IFLA_CAN_TDC` and `IFLA_CAN_XL_TDC` of a `can` link.
use Rattle.std.specs.Prelude.{false, List, [], ◌∷◌, refl}
use Rattle.nla_frame.specs.Attribute.{Attribute}
use Rattle.nla_frame.specs.Kept.{attribute_of}
use Rattle.nla_frame.specs.Pairs.{◌&◌}
use Rattle.nla_frame.specs.declared.error.Family.TheVariants as family
use Rattle.linkinfo_table.specs.ByRows.{members_with, table_is_family}
use Rattle.linkinfo_table.specs.Contents.{single_value}
use Rattle.linkinfo_table.specs.FamilyRows.{PlainRow, row, table_row, typed, EachKeeps}
use Rattle.linkinfo_table.specs.Members.{IsFamily, Members}
use Rattle.linkinfo_shapes.specs.declared.shape.Shape.TheVariants.{Le32}
use Rattle.linkinfo_table.specs.Labels.{each_keeps}
use Rattle.linkinfo_typed.specs.declared.can_tdc.CanTdc.{CanTdc}
use Rattle.linkinfo_typed.specs.declared.can_tdc.CanTdc.TheVariants.{
  TdcvMin,
  TdcvMax,
  TdcoMin,
  TdcoMax,
  TdcfMin,
  TdcfMax,
  Tdcv,
  Tdco,
  Tdcf,
  Other,
}

abbrev pub can_tdc_rows : List (PlainRow CanTdc)
can_tdc_rows =
    row 1 Le32 (λ n. TdcvMin n) ∷
    row 2 Le32 (λ n. TdcvMax n) ∷
    row 3 Le32 (λ n. TdcoMin n) ∷
    row 4 Le32 (λ n. TdcoMax n) ∷
    row 5 Le32 (λ n. TdcfMin n) ∷
    row 6 Le32 (λ n. TdcfMax n) ∷
    row 7 Le32 (λ n. Tdcv n) ∷
    row 8 Le32 (λ n. Tdco n) ∷
    row 9 Le32 (λ n. Tdcf n) ∷
    []

abbrev pub can_tdc_attribute : CanTdc → Attribute
can_tdc_attribute (TdcvMin n) = typed 1 Le32 n
can_tdc_attribute (TdcvMax n) = typed 2 Le32 n
can_tdc_attribute (TdcoMin n) = typed 3 Le32 n
can_tdc_attribute (TdcoMax n) = typed 4 Le32 n
can_tdc_attribute (TdcfMin n) = typed 5 Le32 n
can_tdc_attribute (TdcfMax n) = typed 6 Le32 n
can_tdc_attribute (Tdcv n) = typed 7 Le32 n
can_tdc_attribute (Tdco n) = typed 8 Le32 n
can_tdc_attribute (Tdcf n) = typed 9 Le32 n
can_tdc_attribute (Other nla) = attribute_of nla

pub can_tdc_keeps : EachKeeps can_tdc_attribute can_tdc_rows
can_tdc_keeps = each_keeps can_tdc_attribute can_tdc_rows refl
    ((λ n. refl)
    & (λ n. refl)
    & (λ n. refl)
    & (λ n. refl)
    & (λ n. refl)
    & (λ n. refl)
    & (λ n. refl)
    & (λ n. refl)
    & (λ n. refl)
    & tt)

-- what the family defines, and that it is lawful
abbrev pub can_tdc_members : Members CanTdc
can_tdc_members =
    members_with family.CanTdc (λ d. Other d) can_tdc_attribute
    (λ n. table_row can_tdc_rows n) (λ _. 0) (λ _. single_value) false

pub can_tdc_lawful : IsFamily can_tdc_members
can_tdc_lawful =
    table_is_family family.CanTdc (λ d. Other d) can_tdc_attribute
    can_tdc_rows can_tdc_keeps (λ _. refl)
