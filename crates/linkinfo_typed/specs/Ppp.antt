-- Written by tables/generate from tables/ppp.
-- The rows of `ppp` links.
use Rattle.std.specs.Prelude.{List, [], ◌∷◌, refl}
use Rattle.nla_frame.specs.Attribute.{Attribute}
use Rattle.nla_frame.specs.Kept.{attribute_of}
use Rattle.linkinfo_table.specs.FamilyRows.{PlainRow, row, typed, EachKeeps}
use Rattle.linkinfo_shapes.specs.declared.shape.Shape.TheVariants.{I32}
use Rattle.linkinfo_table.specs.Labels.{each_keeps}
use Rattle.linkinfo_typed.specs.declared.ppp.InfoPpp.{InfoPpp}
use Rattle.linkinfo_typed.specs.declared.ppp.InfoPpp.TheVariants.{DevFd, Other}

abbrev pub ppp_rows : List (PlainRow InfoPpp)
ppp_rows =
    row 1 I32 (λ z. DevFd z) ∷
    []

abbrev pub ppp_attribute : InfoPpp → Attribute
ppp_attribute (DevFd z) = typed 1 I32 z
ppp_attribute (Other nla) = attribute_of nla

pub ppp_keeps : EachKeeps ppp_attribute ppp_rows
ppp_keeps = each_keeps ppp_attribute ppp_rows refl
    (λ z. refl, tt)
