-- Written by tables/generate from tables/batadv.
-- The rows of `batadv` links.
use Rattle.std.specs.Prelude.{List, [], ◌∷◌, refl}
use Rattle.nla_frame.specs.Attribute.{Attribute}
use Rattle.nla_frame.specs.Kept.{attribute_of}
use Rattle.linkinfo_table.specs.FamilyRows.{PlainRow, row, typed, EachKeeps}
use Rattle.linkinfo_shapes.specs.declared.shape.Shape.TheVariants.{Name}
use Rattle.linkinfo_table.specs.Labels.{each_keeps}
use Rattle.linkinfo_peers.specs.declared.batadv.InfoBatAdv.{InfoBatAdv}
use Rattle.linkinfo_peers.specs.declared.batadv.InfoBatAdv.TheVariants.{AlgoName, Other}

abbrev pub bat_adv_rows : List (PlainRow InfoBatAdv)
bat_adv_rows =
    row 1 Name (λ text. AlgoName text) ∷
    []

abbrev pub bat_adv_attribute : InfoBatAdv → Attribute
bat_adv_attribute (AlgoName text) = typed 1 Name text
bat_adv_attribute (Other nla) = attribute_of nla

pub bat_adv_keeps : EachKeeps bat_adv_attribute bat_adv_rows
bat_adv_keeps = each_keeps bat_adv_attribute bat_adv_rows refl
    (λ text. refl, tt)
