-- Written by tables/generate from tables/vrf.
-- The rows of `vrf` links.
use Rattle.std.specs.Prelude.{List, [], ◌∷◌, refl}
use Rattle.nla_frame.specs.Attribute.{Attribute}
use Rattle.nla_frame.specs.Kept.{attribute_of}
use Rattle.linkinfo_table.specs.FamilyRows.{PlainRow, row, typed, EachKeeps}
use Rattle.linkinfo_shapes.specs.declared.shape.Shape.TheVariants.{Le32}
use Rattle.linkinfo_table.specs.Labels.{each_keeps}
use Rattle.linkinfo_devices.specs.declared.vrf.InfoVrf.{InfoVrf}
use Rattle.linkinfo_devices.specs.declared.vrf.InfoVrf.TheVariants.{TableId, Other}

abbrev pub vrf_rows : List (PlainRow InfoVrf)
vrf_rows =
    row 1 Le32 (λ n. TableId n) ∷
    []

abbrev pub vrf_attribute : InfoVrf → Attribute
vrf_attribute (TableId n) = typed 1 Le32 n
vrf_attribute (Other nla) = attribute_of nla

pub vrf_keeps : EachKeeps vrf_attribute vrf_rows
vrf_keeps = each_keeps vrf_attribute vrf_rows refl
    (λ n. refl, tt)
