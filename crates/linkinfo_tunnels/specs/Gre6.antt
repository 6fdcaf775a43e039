-- Written by tables/generate from tables/gre6.
-- The rows of `ip6gre`, `ip6gretap` and `ip6erspan` links.
use Rattle.std.specs.Prelude.{List, [], ◌∷◌, refl}
use Rattle.std.proofs.Common.{ap}
use Rattle.nla_frame.specs.Attribute.{Attribute}
use Rattle.nla_frame.specs.Kept.{attribute_of}
use Rattle.nla_frame.specs.Pairs.{◌&◌}
use Rattle.linkinfo_table.specs.FamilyRows.{PlainRow, row, typed, EachKeeps}
use Rattle.linkinfo_shapes.specs.declared.shape.Shape.TheVariants.{
  Le32,
  Be16,
  Be32,
  V6,
  U8,
  Le16,
  Mark,
}
use Rattle.linkinfo_numbers.specs.Table.{key-value_of}
use Rattle.linkinfo_numbers.specs.Gre.{
  gre_encap_type,
  gre_encap_type_number,
  gre_encap_type_table_holds,
  er_span_dir,
  er_span_dir_number,
  er_span_dir_table_holds,
  gre_io_flags,
  gre_encap_flags,
}
use Rattle.linkinfo_table.specs.Labels.{each_keeps}
use Rattle.linkinfo_tunnels.specs.declared.gre6.InfoGre6.{InfoGre6}
use Rattle.linkinfo_tunnels.specs.declared.gre6.InfoGre6.TheVariants.{
  Link,
  IFlags,
  OFlags,
  IKey,
  OKey,
  Local,
  Remote,
  Ttl,
  Tos,
  EncapLimit,
  FlowLabel,
  EncapType,
  EncapFlags,
  SourcePort,
  DestinationPort,
  CollectMetadata,
  FwMask,
  ErSpanIndex,
  ErSpanVer,
  ErSpanDir,
  ErSpanHwId,
  Other,
}

abbrev pub gre6_rows : List (PlainRow InfoGre6)
gre6_rows =
    row 1 Le32 (λ n. Link n) ∷
    row 2 Be16 (λ n. IFlags (gre_io_flags n)) ∷
    row 3 Be16 (λ n. OFlags (gre_io_flags n)) ∷
    row 4 Be32 (λ n. IKey n) ∷
    row 5 Be32 (λ n. OKey n) ∷
    row 6 V6 (λ a. Local a) ∷
    row 7 V6 (λ a. Remote a) ∷
    row 8 U8 (λ n. Ttl n) ∷
    row 9 U8 (λ n. Tos n) ∷
    row 11 U8 (λ n. EncapLimit n) ∷
    row 12 Be32 (λ n. FlowLabel n) ∷
    row 14 Le16 (λ n. EncapType (gre_encap_type n)) ∷
    row 15 Le16 (λ n. EncapFlags (gre_encap_flags n)) ∷
    row 16 Be16 (λ n. SourcePort n) ∷
    row 17 Be16 (λ n. DestinationPort n) ∷
    row 18 Mark (λ _. CollectMetadata) ∷
    row 20 Le32 (λ n. FwMask n) ∷
    row 21 Le32 (λ n. ErSpanIndex n) ∷
    row 22 U8 (λ n. ErSpanVer n) ∷
    row 23 U8 (λ n. ErSpanDir (er_span_dir n)) ∷
    row 24 Le16 (λ n. ErSpanHwId n) ∷
    []

abbrev pub gre6_attribute : InfoGre6 → Attribute
gre6_attribute (Link n) = typed 1 Le32 n
gre6_attribute (IFlags x) = typed 2 Be16 x.0
gre6_attribute (OFlags x) = typed 3 Be16 x.0
gre6_attribute (IKey n) = typed 4 Be32 n
gre6_attribute (OKey n) = typed 5 Be32 n
gre6_attribute (Local a) = typed 6 V6 a
gre6_attribute (Remote a) = typed 7 V6 a
gre6_attribute (Ttl n) = typed 8 U8 n
gre6_attribute (Tos n) = typed 9 U8 n
gre6_attribute (EncapLimit n) = typed 11 U8 n
gre6_attribute (FlowLabel n) = typed 12 Be32 n
gre6_attribute (EncapType encapsulation) = typed 14 Le16 (gre_encap_type_number encapsulation)
gre6_attribute (EncapFlags x) = typed 15 Le16 x.0
gre6_attribute (SourcePort n) = typed 16 Be16 n
gre6_attribute (DestinationPort n) = typed 17 Be16 n
gre6_attribute CollectMetadata = typed 18 Mark tt
gre6_attribute (FwMask n) = typed 20 Le32 n
gre6_attribute (ErSpanIndex n) = typed 21 Le32 n
gre6_attribute (ErSpanVer n) = typed 22 U8 n
gre6_attribute (ErSpanDir direction) = typed 23 U8 (er_span_dir_number direction)
gre6_attribute (ErSpanHwId n) = typed 24 Le16 n
gre6_attribute (Other nla) = attribute_of nla

pub gre6_keeps : EachKeeps gre6_attribute gre6_rows
gre6_keeps = each_keeps gre6_attribute gre6_rows refl
    ((λ n. refl)
    & (λ n. refl)
    & (λ n. refl)
    & (λ n. refl)
    & (λ n. refl)
    & (λ a. refl)
    & (λ a. refl)
    & (λ n. refl)
    & (λ n. refl)
    & (λ n. refl)
    & (λ n. refl)
    & (λ n. ap (typed 14 Le16) (key-value_of gre_encap_type_table_holds n))
    & (λ n. refl)
    & (λ n. refl)
    & (λ n. refl)
    & (λ _. refl)
    & (λ n. refl)
    & (λ n. refl)
    & (λ n. refl)
    & (λ n. ap (typed 23 U8) (key-value_of er_span_dir_table_holds n))
    & (λ n. refl)
    & tt)
