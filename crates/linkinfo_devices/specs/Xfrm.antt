-- Written by tables/generate from tables/xfrm.
-- The rows of `xfrm` links.
use Rattle.std.specs.Prelude.{List, [], ◌∷◌, refl}
use Rattle.nla_frame.specs.Attribute.{Attribute}
use Rattle.nla_frame.specs.Kept.{attribute_of}
use Rattle.linkinfo_table.specs.FamilyRows.{PlainRow, row, typed, EachKeeps}
use Rattle.linkinfo_shapes.specs.declared.shape.Shape.TheVariants.{Le32}
use Rattle.linkinfo_table.specs.Labels.{each_keeps}
use Rattle.linkinfo_devices.specs.declared.xfrm.InfoXfrm.{InfoXfrm}
use Rattle.linkinfo_devices.specs.declared.xfrm.InfoXfrm.TheVariants.{Link, IfId, Other}

abbrev pub xfrm_rows : List (PlainRow InfoXfrm)
xfrm_rows =
    row 1 Le32 (λ n. Link n) ∷
    row 2 Le32 (λ n. IfId n) ∷
    []

abbrev pub xfrm_attribute : InfoXfrm → Attribute
xfrm_attribute (Link n) = typed 1 Le32 n
xfrm_attribute (IfId n) = typed 2 Le32 n
xfrm_attribute (Other nla) = attribute_of nla

pub xfrm_keeps : EachKeeps xfrm_attribute xfrm_rows
xfrm_keeps = each_keeps xfrm_attribute xfrm_rows refl
    (λ n. refl, (λ n. refl, tt))
