-- Written by tables/generate from tables/vti.
-- The rows of `vti` and `vti6` links.
use Rattle.std.specs.Prelude.{List, [], ◌∷◌, refl}
use Rattle.nla_frame.specs.Attribute.{Attribute}
use Rattle.nla_frame.specs.Kept.{attribute_of}
use Rattle.linkinfo_table.specs.FamilyRows.{PlainRow, row, typed, EachKeeps}
use Rattle.linkinfo_shapes.specs.declared.shape.Shape.TheVariants.{Le32, Be32, Ip}
use Rattle.linkinfo_table.specs.Labels.{each_keeps}
use Rattle.linkinfo_tunnels.specs.declared.vti.InfoVti.{InfoVti}
use Rattle.linkinfo_tunnels.specs.declared.vti.InfoVti.TheVariants.{
  Link,
  IKey,
  OKey,
  Local,
  Remote,
  FwMark,
  Other,
}

abbrev pub vti_rows : List (PlainRow InfoVti)
vti_rows =
    row 1 Le32 (λ n. Link n) ∷
    row 2 Be32 (λ n. IKey n) ∷
    row 3 Be32 (λ n. OKey n) ∷
    row 4 Ip (λ a. Local a) ∷
    row 5 Ip (λ a. Remote a) ∷
    row 6 Le32 (λ n. FwMark n) ∷
    []

abbrev pub vti_attribute : InfoVti → Attribute
vti_attribute (Link n) = typed 1 Le32 n
vti_attribute (IKey n) = typed 2 Be32 n
vti_attribute (OKey n) = typed 3 Be32 n
vti_attribute (Local a) = typed 4 Ip a
vti_attribute (Remote a) = typed 5 Ip a
vti_attribute (FwMark n) = typed 6 Le32 n
vti_attribute (Other nla) = attribute_of nla

pub vti_keeps : EachKeeps vti_attribute vti_rows
vti_keeps = each_keeps vti_attribute vti_rows refl
    (λ n. refl, (λ n. refl, (λ n. refl, (λ a. refl, (λ a. refl, (λ n. refl, tt))))))
