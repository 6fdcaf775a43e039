-- Written by tables/generate from tables/wwan.
-- The rows of `wwan` links.
use Rattle.std.specs.Prelude.{List, [], ◌∷◌, refl}
use Rattle.nla_frame.specs.Attribute.{Attribute}
use Rattle.nla_frame.specs.Kept.{attribute_of}
use Rattle.linkinfo_table.specs.FamilyRows.{PlainRow, row, typed, EachKeeps}
use Rattle.linkinfo_shapes.specs.declared.shape.Shape.TheVariants.{Le32}
use Rattle.linkinfo_table.specs.Labels.{each_keeps}
use Rattle.linkinfo_peers.specs.declared.wwan.InfoWwan.{InfoWwan}
use Rattle.linkinfo_peers.specs.declared.wwan.InfoWwan.TheVariants.{LinkId, Other}

abbrev pub wwan_rows : List (PlainRow InfoWwan)
wwan_rows =
    row 1 Le32 (λ n. LinkId n) ∷
    []

abbrev pub wwan_attribute : InfoWwan → Attribute
wwan_attribute (LinkId n) = typed 1 Le32 n
wwan_attribute (Other nla) = attribute_of nla

pub wwan_keeps : EachKeeps wwan_attribute wwan_rows
wwan_keeps = each_keeps wwan_attribute wwan_rows refl
    (λ n. refl, tt)
