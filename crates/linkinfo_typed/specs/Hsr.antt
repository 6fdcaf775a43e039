-- Written by tables/generate from tables/hsr.
-- The rows of `hsr` links.
use Rattle.std.specs.Prelude.{List, [], ◌∷◌, refl}
use Rattle.std.proofs.Common.{ap}
use Rattle.nla_frame.specs.Attribute.{Attribute}
use Rattle.nla_frame.specs.Kept.{attribute_of}
use Rattle.nla_frame.specs.Pairs.{◌&◌}
use Rattle.linkinfo_table.specs.FamilyRows.{PlainRow, row, typed, EachKeeps}
use Rattle.linkinfo_shapes.specs.declared.shape.Shape.TheVariants.{Le32, U8, Mac, Le16}
use Rattle.linkinfo_numbers.specs.Table.{key-value_of}
use Rattle.linkinfo_numbers.specs.Hsr.{hsr_protocol, hsr_protocol_number, hsr_protocol_table_holds}
use Rattle.linkinfo_table.specs.Labels.{each_keeps}
use Rattle.linkinfo_typed.specs.declared.hsr.InfoHsr.{InfoHsr}
use Rattle.linkinfo_typed.specs.declared.hsr.InfoHsr.TheVariants.{
  Port1,
  Port2,
  MulticastSpec,
  SupervisionAddr,
  SeqNr,
  Version,
  Protocol,
  Interlink,
  Other,
}

abbrev pub hsr_rows : List (PlainRow InfoHsr)
hsr_rows =
    row 1 Le32 (λ n. Port1 n) ∷
    row 2 Le32 (λ n. Port2 n) ∷
    row 3 U8 (λ n. MulticastSpec n) ∷
    row 4 Mac (λ a. SupervisionAddr a) ∷
    row 5 Le16 (λ n. SeqNr n) ∷
    row 6 U8 (λ n. Version n) ∷
    row 7 U8 (λ n. Protocol (hsr_protocol n)) ∷
    row 8 Le32 (λ n. Interlink n) ∷
    []

abbrev pub hsr_attribute : InfoHsr → Attribute
hsr_attribute (Port1 n) = typed 1 Le32 n
hsr_attribute (Port2 n) = typed 2 Le32 n
hsr_attribute (MulticastSpec n) = typed 3 U8 n
hsr_attribute (SupervisionAddr a) = typed 4 Mac a
hsr_attribute (SeqNr n) = typed 5 Le16 n
hsr_attribute (Version n) = typed 6 U8 n
hsr_attribute (Protocol protocol) = typed 7 U8 (hsr_protocol_number protocol)
hsr_attribute (Interlink n) = typed 8 Le32 n
hsr_attribute (Other nla) = attribute_of nla

pub hsr_keeps : EachKeeps hsr_attribute hsr_rows
hsr_keeps = each_keeps hsr_attribute hsr_rows refl
    ((λ n. refl)
    & (λ n. refl)
    & (λ n. refl)
    & (λ a. refl)
    & (λ n. refl)
    & (λ n. refl)
    & (λ n. ap (typed 7 U8) (key-value_of hsr_protocol_table_holds n))
    & (λ n. refl)
    & tt)
