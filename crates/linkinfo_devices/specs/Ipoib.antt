-- Written by tables/generate from tables/ipoib.
-- The rows of `ipoib` links.
use Rattle.std.specs.Prelude.{List, [], ◌∷◌, refl}
use Rattle.std.proofs.Common.{ap}
use Rattle.nla_frame.specs.Attribute.{Attribute}
use Rattle.nla_frame.specs.Kept.{attribute_of}
use Rattle.linkinfo_table.specs.FamilyRows.{PlainRow, row, typed, EachKeeps}
use Rattle.linkinfo_shapes.specs.declared.shape.Shape.TheVariants.{Le16}
use Rattle.linkinfo_numbers.specs.Table.{key-value_of}
use Rattle.linkinfo_numbers.specs.Ipoib.{ipoib_mode, ipoib_mode_number, ipoib_mode_table_holds}
use Rattle.linkinfo_table.specs.Labels.{each_keeps}
use Rattle.linkinfo_devices.specs.declared.ipoib.InfoIpoib.{InfoIpoib}
use Rattle.linkinfo_devices.specs.declared.ipoib.InfoIpoib.TheVariants.{Pkey, Mode, UmCast, Other}

abbrev pub ipoib_rows : List (PlainRow InfoIpoib)
ipoib_rows =
    row 1 Le16 (λ n. Pkey n) ∷
    row 2 Le16 (λ n. Mode (ipoib_mode n)) ∷
    row 3 Le16 (λ n. UmCast n) ∷
    []

abbrev pub ipoib_attribute : InfoIpoib → Attribute
ipoib_attribute (Pkey n) = typed 1 Le16 n
ipoib_attribute (Mode mode) = typed 2 Le16 (ipoib_mode_number mode)
ipoib_attribute (UmCast n) = typed 3 Le16 n
ipoib_attribute (Other nla) = attribute_of nla

pub ipoib_keeps : EachKeeps ipoib_attribute ipoib_rows
ipoib_keeps = each_keeps ipoib_attribute ipoib_rows refl
    (λ n. refl, (λ n. ap (typed 2 Le16) (key-value_of ipoib_mode_table_holds n), (λ n. refl, tt)))
