-- Written by tables/generate from tables/ovpn.
-- The rows of `ovpn` links.
use Rattle.std.specs.Prelude.{List, [], ◌∷◌, refl}
use Rattle.std.proofs.Common.{ap}
use Rattle.nla_frame.specs.Attribute.{Attribute}
use Rattle.nla_frame.specs.Kept.{attribute_of}
use Rattle.linkinfo_table.specs.FamilyRows.{PlainRow, row, typed, EachKeeps}
use Rattle.linkinfo_shapes.specs.declared.shape.Shape.TheVariants.{U8}
use Rattle.linkinfo_numbers.specs.Table.{key-value_of}
use Rattle.linkinfo_numbers.specs.Ovpn.{ovpn_mode, ovpn_mode_number, ovpn_mode_table_holds}
use Rattle.linkinfo_table.specs.Labels.{each_keeps}
use Rattle.linkinfo_typed.specs.declared.ovpn.InfoOvpn.{InfoOvpn}
use Rattle.linkinfo_typed.specs.declared.ovpn.InfoOvpn.TheVariants.{Mode, Other}

abbrev pub ovpn_rows : List (PlainRow InfoOvpn)
ovpn_rows =
    row 1 U8 (λ n. Mode (ovpn_mode n)) ∷
    []

abbrev pub ovpn_attribute : InfoOvpn → Attribute
ovpn_attribute (Mode mode) = typed 1 U8 (ovpn_mode_number mode)
ovpn_attribute (Other nla) = attribute_of nla

pub ovpn_keeps : EachKeeps ovpn_attribute ovpn_rows
ovpn_keeps = each_keeps ovpn_attribute ovpn_rows refl
    (λ n. ap (typed 1 U8) (key-value_of ovpn_mode_table_holds n), tt)
