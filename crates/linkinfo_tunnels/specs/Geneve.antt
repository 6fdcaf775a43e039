-- Written by tables/generate from tables/geneve.
-- The rows of `geneve` links.
use Rattle.std.specs.Prelude.{List, [], ◌∷◌, refl}
use Rattle.std.proofs.Common.{ap}
use Rattle.nla_frame.specs.Attribute.{Attribute}
use Rattle.nla_frame.specs.Kept.{attribute_of}
use Rattle.nla_frame.specs.Pairs.{◌&◌}
use Rattle.linkinfo_table.specs.FamilyRows.{PlainRow, row, typed, EachKeeps}
use Rattle.linkinfo_shapes.specs.declared.shape.Shape.TheVariants.{
  Le32,
  GeneveV4,
  U8,
  Be16,
  Mark,
  GeneveV6,
  Truth,
  Be32,
}
use Rattle.linkinfo_numbers.specs.Table.{key-value_of}
use Rattle.linkinfo_numbers.specs.Geneve.{geneve_df, geneve_df_number, geneve_df_table_holds}
use Rattle.linkinfo_table.specs.Labels.{each_keeps}
use Rattle.linkinfo_tunnels.specs.declared.geneve.InfoGeneve.{InfoGeneve}
use Rattle.linkinfo_tunnels.specs.declared.geneve.InfoGeneve.TheVariants.{
  Id,
  Remote,
  Ttl,
  Tos,
  Port,
  CollectMetadata,
  Remote6,
  UdpCsum,
  UdpZeroCsum6Tx,
  UdpZeroCsum6Rx,
  Label,
  TtlInherit,
  Df,
  InnerProtoInherit,
  Local,
  Local6,
  Other,
}

abbrev pub geneve_rows : List (PlainRow InfoGeneve)
geneve_rows =
    row 1 Le32 (λ n. Id n) ∷
    row 2 GeneveV4 (λ a. Remote a) ∷
    row 3 U8 (λ n. Ttl n) ∷
    row 4 U8 (λ n. Tos n) ∷
    row 5 Be16 (λ n. Port n) ∷
    row 6 Mark (λ _. CollectMetadata) ∷
    row 7 GeneveV6 (λ a. Remote6 a) ∷
    row 8 Truth (λ b. UdpCsum b) ∷
    row 9 Truth (λ b. UdpZeroCsum6Tx b) ∷
    row 10 Truth (λ b. UdpZeroCsum6Rx b) ∷
    row 11 Be32 (λ n. Label n) ∷
    row 12 Truth (λ b. TtlInherit b) ∷
    row 13 U8 (λ n. Df (geneve_df n)) ∷
    row 14 Mark (λ _. InnerProtoInherit) ∷
    row 17 GeneveV4 (λ a. Local a) ∷
    row 18 GeneveV6 (λ a. Local6 a) ∷
    []

abbrev pub geneve_attribute : InfoGeneve → Attribute
geneve_attribute (Id n) = typed 1 Le32 n
geneve_attribute (Remote a) = typed 2 GeneveV4 a
geneve_attribute (Ttl n) = typed 3 U8 n
geneve_attribute (Tos n) = typed 4 U8 n
geneve_attribute (Port n) = typed 5 Be16 n
geneve_attribute CollectMetadata = typed 6 Mark tt
geneve_attribute (Remote6 a) = typed 7 GeneveV6 a
geneve_attribute (UdpCsum b) = typed 8 Truth b
geneve_attribute (UdpZeroCsum6Tx b) = typed 9 Truth b
geneve_attribute (UdpZeroCsum6Rx b) = typed 10 Truth b
geneve_attribute (Label n) = typed 11 Be32 n
geneve_attribute (TtlInherit b) = typed 12 Truth b
geneve_attribute (Df df) = typed 13 U8 (geneve_df_number df)
geneve_attribute InnerProtoInherit = typed 14 Mark tt
geneve_attribute (Local a) = typed 17 GeneveV4 a
geneve_attribute (Local6 a) = typed 18 GeneveV6 a
geneve_attribute (Other nla) = attribute_of nla

pub geneve_keeps : EachKeeps geneve_attribute geneve_rows
geneve_keeps = each_keeps geneve_attribute geneve_rows refl
    ((λ n. refl)
    & (λ a. refl)
    & (λ n. refl)
    & (λ n. refl)
    & (λ n. refl)
    & (λ _. refl)
    & (λ a. refl)
    & (λ b. refl)
    & (λ b. refl)
    & (λ b. refl)
    & (λ n. refl)
    & (λ b. refl)
    & (λ n. ap (typed 13 U8) (key-value_of geneve_df_table_holds n))
    & (λ _. refl)
    & (λ a. refl)
    & (λ a. refl)
    & tt)
