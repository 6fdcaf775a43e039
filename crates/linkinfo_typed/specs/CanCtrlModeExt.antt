-- Written by tables/generate from tables/canctrlmodeext.
-- The rows of `IFLA_CAN_CTRLMODE_EXT` of a `can` link.
use Rattle.std.specs.Prelude.{false, List, [], ◌∷◌, refl}
use Rattle.nla_frame.specs.Attribute.{Attribute}
use Rattle.nla_frame.specs.Kept.{attribute_of}
use Rattle.nla_frame.specs.declared.error.Family.TheVariants as family
use Rattle.linkinfo_table.specs.ByRows.{members_with, table_is_family}
use Rattle.linkinfo_table.specs.Contents.{single_value}
use Rattle.linkinfo_table.specs.FamilyRows.{PlainRow, row, table_row, typed, EachKeeps}
use Rattle.linkinfo_table.specs.Members.{IsFamily, Members}
use Rattle.linkinfo_shapes.specs.declared.shape.Shape.TheVariants.{Le32}
use Rattle.linkinfo_numbers.specs.Can.{can_ctrl_mode_flags}
use Rattle.linkinfo_table.specs.Labels.{each_keeps}
use Rattle.linkinfo_typed.specs.declared.can_ctrl_mode_ext.CanCtrlModeExt.{CanCtrlModeExt}
use Rattle.linkinfo_typed.specs.declared.can_ctrl_mode_ext.CanCtrlModeExt.TheVariants.{
  Supported,
  Other,
}

abbrev pub can_ctrl_mode_ext_rows : List (PlainRow CanCtrlModeExt)
can_ctrl_mode_ext_rows =
    row 1 Le32 (λ n. Supported (can_ctrl_mode_flags n)) ∷
    []

abbrev pub can_ctrl_mode_ext_attribute : CanCtrlModeExt → Attribute
can_ctrl_mode_ext_attribute (Supported x) = typed 1 Le32 x.0
can_ctrl_mode_ext_attribute (Other nla) = attribute_of nla

pub can_ctrl_mode_ext_keeps : EachKeeps can_ctrl_mode_ext_attribute can_ctrl_mode_ext_rows
can_ctrl_mode_ext_keeps = each_keeps can_ctrl_mode_ext_attribute can_ctrl_mode_ext_rows refl
    (λ n. refl, tt)

-- what the family defines, and that it is lawful
abbrev pub can_ctrl_mode_ext_members : Members CanCtrlModeExt
can_ctrl_mode_ext_members =
    members_with family.CanCtrlModeExt (λ d. Other d) can_ctrl_mode_ext_attribute
    (λ n. table_row can_ctrl_mode_ext_rows n) (λ _. 0) (λ _. single_value) false

pub can_ctrl_mode_ext_lawful : IsFamily can_ctrl_mode_ext_members
can_ctrl_mode_ext_lawful =
    table_is_family family.CanCtrlModeExt (λ d. Other d) can_ctrl_mode_ext_attribute
    can_ctrl_mode_ext_rows can_ctrl_mode_ext_keeps (λ _. refl)
