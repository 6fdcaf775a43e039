-- Written by tables/generate from tables/vxlan.
-- The rows of `vxlan` links.
use Rattle.std.specs.Prelude.{◌≡◌, ℕ, List, [], ◌∷◌, Option, Some, None, refl}
use Rattle.std.proofs.Common.{ap}
use Rattle.nla_frame.specs.Attribute.{Attribute}
use Rattle.nla_frame.specs.Kept.{attribute_of}
use Rattle.nla_frame.specs.Pairs.{◌&◌}
use Rattle.linkinfo_table.specs.FamilyRows.{PlainRow, row, typed, EachKeeps}
use Rattle.linkinfo_shapes.specs.declared.shape.Shape.TheVariants.{
  Le32,
  V4,
  U8,
  Truth,
  BePair,
  Be16,
  V6,
  Mark,
  Be32,
  EmptyOrByte,
  Be64,
}
use Rattle.linkinfo_numbers.specs.Table.{key-value_of}
use Rattle.linkinfo_numbers.specs.Vxlan.{vxlan_df, vxlan_df_number, vxlan_df_table_holds}
use Rattle.linkinfo_table.specs.Labels.{each_keeps}
use Rattle.linkinfo_tunnels.specs.declared.vxlan.InfoVxlan.{InfoVxlan}
use Rattle.linkinfo_tunnels.specs.declared.vxlan.InfoVxlan.TheVariants.{
  Id,
  Group,
  Link,
  Local,
  Ttl,
  Tos,
  Learning,
  Ageing,
  Limit,
  PortRange,
  Proxy,
  Rsc,
  L2Miss,
  L3Miss,
  Port,
  Group6,
  Local6,
  UDPCsum,
  UDPZeroCsumTX,
  UDPZeroCsumRX,
  RemCsumTX,
  RemCsumRX,
  Gbp,
  RemCsumNoPartial,
  CollectMetadata,
  Label,
  Gpe,
  TtlInheritFlag,
  TtlInherit,
  Df,
  Vnifilter,
  Localbypass,
  LabelPolicy,
  ReservedBits,
  McRoute,
  Other,
}

-- the variant without a byte, or the one with the byte
abbrev pub ttl_inherit : Option ℕ → InfoVxlan
ttl_inherit None = TtlInheritFlag
ttl_inherit (Some n) = TtlInherit n

abbrev pub vxlan_rows : List (PlainRow InfoVxlan)
vxlan_rows =
    row 1 Le32 (λ n. Id n) ∷
    row 2 V4 (λ a. Group a) ∷
    row 3 Le32 (λ n. Link n) ∷
    row 4 V4 (λ a. Local a) ∷
    row 5 U8 (λ n. Ttl n) ∷
    row 6 U8 (λ n. Tos n) ∷
    row 7 Truth (λ b. Learning b) ∷
    row 8 Le32 (λ n. Ageing n) ∷
    row 9 Le32 (λ n. Limit n) ∷
    row 10 BePair (λ x. PortRange x) ∷
    row 11 Truth (λ b. Proxy b) ∷
    row 12 Truth (λ b. Rsc b) ∷
    row 13 Truth (λ b. L2Miss b) ∷
    row 14 Truth (λ b. L3Miss b) ∷
    row 15 Be16 (λ n. Port n) ∷
    row 16 V6 (λ a. Group6 a) ∷
    row 17 V6 (λ a. Local6 a) ∷
    row 18 Truth (λ b. UDPCsum b) ∷
    row 19 Truth (λ b. UDPZeroCsumTX b) ∷
    row 20 Truth (λ b. UDPZeroCsumRX b) ∷
    row 21 Truth (λ b. RemCsumTX b) ∷
    row 22 Truth (λ b. RemCsumRX b) ∷
    row 23 Mark (λ _. Gbp) ∷
    row 24 Mark (λ _. RemCsumNoPartial) ∷
    row 25 Truth (λ b. CollectMetadata b) ∷
    row 26 Be32 (λ n. Label n) ∷
    row 27 Mark (λ _. Gpe) ∷
    row 28 EmptyOrByte (λ x. ttl_inherit x) ∷
    row 29 U8 (λ n. Df (vxlan_df n)) ∷
    row 30 Truth (λ b. Vnifilter b) ∷
    row 31 Truth (λ b. Localbypass b) ∷
    row 32 Le32 (λ n. LabelPolicy n) ∷
    row 33 Be64 (λ n. ReservedBits n) ∷
    row 34 Truth (λ b. McRoute b) ∷
    []

abbrev pub vxlan_attribute : InfoVxlan → Attribute
vxlan_attribute (Id n) = typed 1 Le32 n
vxlan_attribute (Group a) = typed 2 V4 a
vxlan_attribute (Link n) = typed 3 Le32 n
vxlan_attribute (Local a) = typed 4 V4 a
vxlan_attribute (Ttl n) = typed 5 U8 n
vxlan_attribute (Tos n) = typed 6 U8 n
vxlan_attribute (Learning b) = typed 7 Truth b
vxlan_attribute (Ageing n) = typed 8 Le32 n
vxlan_attribute (Limit n) = typed 9 Le32 n
vxlan_attribute (PortRange x) = typed 10 BePair x
vxlan_attribute (Proxy b) = typed 11 Truth b
vxlan_attribute (Rsc b) = typed 12 Truth b
vxlan_attribute (L2Miss b) = typed 13 Truth b
vxlan_attribute (L3Miss b) = typed 14 Truth b
vxlan_attribute (Port n) = typed 15 Be16 n
vxlan_attribute (Group6 a) = typed 16 V6 a
vxlan_attribute (Local6 a) = typed 17 V6 a
vxlan_attribute (UDPCsum b) = typed 18 Truth b
vxlan_attribute (UDPZeroCsumTX b) = typed 19 Truth b
vxlan_attribute (UDPZeroCsumRX b) = typed 20 Truth b
vxlan_attribute (RemCsumTX b) = typed 21 Truth b
vxlan_attribute (RemCsumRX b) = typed 22 Truth b
vxlan_attribute Gbp = typed 23 Mark tt
vxlan_attribute RemCsumNoPartial = typed 24 Mark tt
vxlan_attribute (CollectMetadata b) = typed 25 Truth b
vxlan_attribute (Label n) = typed 26 Be32 n
vxlan_attribute Gpe = typed 27 Mark tt
vxlan_attribute TtlInheritFlag = typed 28 EmptyOrByte None
vxlan_attribute (TtlInherit n) = typed 28 EmptyOrByte (Some n)
vxlan_attribute (Df df) = typed 29 U8 (vxlan_df_number df)
vxlan_attribute (Vnifilter b) = typed 30 Truth b
vxlan_attribute (Localbypass b) = typed 31 Truth b
vxlan_attribute (LabelPolicy n) = typed 32 Le32 n
vxlan_attribute (ReservedBits n) = typed 33 Be64 n
vxlan_attribute (McRoute b) = typed 34 Truth b
vxlan_attribute (Other nla) = attribute_of nla

ttl_inherit_keeps : (x : Option ℕ) → vxlan_attribute (ttl_inherit x) ≡ typed 28 EmptyOrByte x
ttl_inherit_keeps None = refl
ttl_inherit_keeps (Some n) = refl

pub vxlan_keeps : EachKeeps vxlan_attribute vxlan_rows
vxlan_keeps = each_keeps vxlan_attribute vxlan_rows refl
    ((λ n. refl)
    & (λ a. refl)
    & (λ n. refl)
    & (λ a. refl)
    & (λ n. refl)
    & (λ n. refl)
    & (λ b. refl)
    & (λ n. refl)
    & (λ n. refl)
    & (λ x. refl)
    & (λ b. refl)
    & (λ b. refl)
    & (λ b. refl)
    & (λ b. refl)
    & (λ n. refl)
    & (λ a. refl)
    & (λ a. refl)
    & (λ b. refl)
    & (λ b. refl)
    & (λ b. refl)
    & (λ b. refl)
    & (λ b. refl)
    & (λ _. refl)
    & (λ _. refl)
    & (λ b. refl)
    & (λ n. refl)
    & (λ _. refl)
    & ttl_inherit_keeps
    & (λ n. ap (typed 29 U8) (key-value_of vxlan_df_table_holds n))
    & (λ b. refl)
    & (λ b. refl)
    & (λ n. refl)
    & (λ n. refl)
    & (λ b. refl)
    & tt)
