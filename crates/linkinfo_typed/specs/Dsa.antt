-- Written by tables/generate from tables/dsa.
-- The rows of `dsa` links.
use Rattle.std.specs.Prelude.{List, [], ◌∷◌, refl}
use Rattle.nla_frame.specs.Attribute.{Attribute}
use Rattle.nla_frame.specs.Kept.{attribute_of}
use Rattle.linkinfo_table.specs.FamilyRows.{PlainRow, row, typed, EachKeeps}
use Rattle.linkinfo_shapes.specs.declared.shape.Shape.TheVariants.{Le32}
use Rattle.linkinfo_table.specs.Labels.{each_keeps}
use Rattle.linkinfo_typed.specs.declared.dsa.InfoDsa.{InfoDsa}
use Rattle.linkinfo_typed.specs.declared.dsa.InfoDsa.TheVariants.{Conduit, Other}

abbrev pub dsa_rows : List (PlainRow InfoDsa)
dsa_rows =
    row 1 Le32 (λ n. Conduit n) ∷
    []

abbrev pub dsa_attribute : InfoDsa → Attribute
dsa_attribute (Conduit n) = typed 1 Le32 n
dsa_attribute (Other nla) = attribute_of nla

pub dsa_keeps : EachKeeps dsa_attribute dsa_rows
dsa_keeps = each_keeps dsa_attribute dsa_rows refl
    (λ n. refl, tt)
