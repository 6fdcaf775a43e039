-- The rows of IP tunnels.
use Rattle.std.specs.Prelude.{◌≡◌, ◌≢◌, ◌==◌, ℕ, Bool, true, false, List, [], ◌∷◌, refl}
use Rattle.std.proofs.Common.{ap, lit<, ◌∙◌}
use Rattle.std.proofs.lemmas.Bool.{eqb-true, false_from_ne_true}
use Rattle.nla_frame.specs.Attribute.{Attribute}
use Rattle.nla_frame.specs.Kept.{attribute_of}
use Rattle.nla_frame.specs.declared.error.Family.TheVariants as family
use Rattle.nla_frame.specs.declared.error.Cause.TheVariants as cause
use Rattle.nla_frame.specs.Pairs.{◌&◌}
use Rattle.linkinfo_table.specs.FamilyRows.{
  FamilyRow,
  Plain,
  Refuses,
  PlainRow,
  row,
  row_if,
  row_of,
  typed,
  table_row,
  lookup_of,
  lookup_in,
  EachKeeps,
  IsFlat,
  RowOwes,
}
use Rattle.linkinfo_table.specs.FamilyRowLaws.{
  plain_is_row,
  row_if_owes,
  table_flat,
  table_lookup,
  table_owes,
}
use Rattle.linkinfo_shapes.specs.Shapes.{Carrier, IsPlain}
use Rattle.linkinfo_shapes.specs.declared.shape.Shape.{Shape}
use Rattle.linkinfo_shapes.specs.Table.{shape_of}
use Rattle.linkinfo_shapes.specs.declared.shape.Shape.TheVariants.{
  Le32,
  Ip,
  U8,
  Be32,
  Truth,
  V6,
  V4,
  Le16,
  Be16,
  Mark,
}
use Rattle.linkinfo_numbers.specs.Table.{key-value_of}
use Rattle.linkinfo_numbers.specs.Ip.{ip_protocol, ip_protocol_number, ip_protocol_table_holds}
use Rattle.linkinfo_numbers.specs.Tunnel.{
  tunnel_encap_type,
  tunnel_encap_type_number,
  tunnel_encap_type_table_holds,
  tunnel_encap_flags,
  ip6_tunnel_flags,
}
use Rattle.linkinfo_numbers.specs.declared.tags.KindTag.{KindTag}
use Rattle.linkinfo_numbers.specs.declared.tags.KindTag.TheVariants as tag
use Rattle.linkinfo_table.specs.Labels.{each_keeps}
use Rattle.linkinfo_tunnels.specs.declared.ip_tunnel.InfoIpTunnel.{InfoIpTunnel}
use Rattle.linkinfo_tunnels.specs.declared.ip_tunnel.InfoIpTunnel.TheVariants.{
  Link,
  Local,
  Remote,
  Ttl,
  Tos,
  EncapLimit,
  FlowInfo,
  Ipv4Flags,
  Ipv6SitFlags,
  Ipv6Flags,
  Protocol,
  PMtuDisc,
  Ipv6RdPrefix,
  Ipv6RdRelayPrefix,
  Ipv6RdPrefixLen,
  Ipv6RdRelayPrefixLen,
  EncapType,
  EncapFlags,
  EncapSPort,
  EncapDPort,
  CollectMetadata,
  FwMark,
  Other,
}

abbrev pub ip_tunnel_rows : List (PlainRow InfoIpTunnel)
ip_tunnel_rows =
    row 1 Le32 (λ n. Link n) ∷
    row 2 Ip (λ a. Local a) ∷
    row 3 Ip (λ a. Remote a) ∷
    row 4 U8 (λ n. Ttl n) ∷
    row 5 U8 (λ n. Tos n) ∷
    row 6 U8 (λ n. EncapLimit n) ∷
    row 7 Be32 (λ n. FlowInfo n) ∷
    row 9 U8 (λ n. Protocol (ip_protocol n)) ∷
    row 10 Truth (λ b. PMtuDisc b) ∷
    row 11 V6 (λ a. Ipv6RdPrefix a) ∷
    row 12 V4 (λ a. Ipv6RdRelayPrefix a) ∷
    row 13 Le16 (λ n. Ipv6RdPrefixLen n) ∷
    row 14 Le16 (λ n. Ipv6RdRelayPrefixLen n) ∷
    row 15 Le16 (λ n. EncapType (tunnel_encap_type n)) ∷
    row 16 Le16 (λ n. EncapFlags (tunnel_encap_flags n)) ∷
    row 17 Be16 (λ n. EncapSPort n) ∷
    row 18 Be16 (λ n. EncapDPort n) ∷
    row 19 Mark (λ _. CollectMetadata) ∷
    row 20 Le32 (λ n. FwMark n) ∷
    []

abbrev pub ip_tunnel_attribute : InfoIpTunnel → Attribute
ip_tunnel_attribute (Link n) = typed 1 Le32 n
ip_tunnel_attribute (Local a) = typed 2 Ip a
ip_tunnel_attribute (Remote a) = typed 3 Ip a
ip_tunnel_attribute (Ttl n) = typed 4 U8 n
ip_tunnel_attribute (Tos n) = typed 5 U8 n
ip_tunnel_attribute (EncapLimit n) = typed 6 U8 n
ip_tunnel_attribute (FlowInfo n) = typed 7 Be32 n
ip_tunnel_attribute (Ipv4Flags n) = typed 8 Be16 n
ip_tunnel_attribute (Ipv6SitFlags n) = typed 8 Be16 n
ip_tunnel_attribute (Ipv6Flags flags) = typed 8 Le32 flags.0
ip_tunnel_attribute (Protocol protocol) = typed 9 U8 (ip_protocol_number protocol)
ip_tunnel_attribute (PMtuDisc b) = typed 10 Truth b
ip_tunnel_attribute (Ipv6RdPrefix a) = typed 11 V6 a
ip_tunnel_attribute (Ipv6RdRelayPrefix a) = typed 12 V4 a
ip_tunnel_attribute (Ipv6RdPrefixLen n) = typed 13 Le16 n
ip_tunnel_attribute (Ipv6RdRelayPrefixLen n) = typed 14 Le16 n
ip_tunnel_attribute (EncapType encapsulation) =
    typed 15 Le16 (tunnel_encap_type_number encapsulation)
ip_tunnel_attribute (EncapFlags flags) = typed 16 Le16 flags.0
ip_tunnel_attribute (EncapSPort n) = typed 17 Be16 n
ip_tunnel_attribute (EncapDPort n) = typed 18 Be16 n
ip_tunnel_attribute CollectMetadata = typed 19 Mark tt
ip_tunnel_attribute (FwMark n) = typed 20 Le32 n
ip_tunnel_attribute (Other nla) = attribute_of nla

pub ip_tunnel_keeps : EachKeeps ip_tunnel_attribute ip_tunnel_rows
ip_tunnel_keeps = each_keeps ip_tunnel_attribute ip_tunnel_rows refl
    ((λ n. refl)
    & (λ a. refl)
    & (λ a. refl)
    & (λ n. refl)
    & (λ n. refl)
    & (λ n. refl)
    & (λ n. refl)
    & (λ n. ap (typed 9 U8) (key-value_of ip_protocol_table_holds n))
    & (λ b. refl)
    & (λ a. refl)
    & (λ a. refl)
    & (λ n. refl)
    & (λ n. refl)
    & (λ n. ap (typed 15 Le16) (key-value_of tunnel_encap_type_table_holds n))
    & (λ n. refl)
    & (λ n. refl)
    & (λ n. refl)
    & (λ _. refl)
    & (λ n. refl)
    & tt)

-- the row of type 8 under each kind
abbrev pub flags_row : KindTag → FamilyRow InfoIpTunnel
flags_row tag.IpIp = Plain Be16 (λ n. Ipv4Flags n)
flags_row tag.SitTun = Plain Be16 (λ n. Ipv6SitFlags n)
flags_row tag.Ip6Tnl = Plain Le32 (λ n. Ipv6Flags (ip6_tunnel_flags n))
flags_row _ = Refuses cause.Kind

-- the row of a masked type under a kind
abbrev pub ip_tunnel_row : KindTag → ℕ → FamilyRow InfoIpTunnel
ip_tunnel_row kind number = row_if (number == 8) (flags_row kind) (table_row ip_tunnel_rows number)

flags_keep : (shape : Shape) (label : Carrier shape → InfoIpTunnel) → IsPlain shape →
    ((x : Carrier shape) → ip_tunnel_attribute (label x) ≡ typed 8 shape x) →
    RowOwes ip_tunnel_attribute 8 (row_of (Plain shape label))
flags_keep shape label plain keeps =
    plain_is_row ip_tunnel_attribute (row 8 shape label)
    (record { low = lit< tt; plain = plain; keeps = keeps })

flags_owe : (kind : KindTag) → RowOwes ip_tunnel_attribute 8 (row_of (flags_row kind))
flags_owe tag.IpIp = flags_keep Be16 (λ n. Ipv4Flags n) tt (λ n. refl)
flags_owe tag.SitTun = flags_keep Be16 (λ n. Ipv6SitFlags n) tt (λ n. refl)
flags_owe tag.Ip6Tnl = flags_keep Le32 (λ n. Ipv6Flags (ip6_tunnel_flags n)) tt (λ n. refl)
flags_owe _ = λ same. absurd cc

flags_are_flat : (kind : KindTag) → IsFlat (flags_row kind)
flags_are_flat tag.IpIp = tt
flags_are_flat tag.SitTun = tt
flags_are_flat tag.Ip6Tnl = tt
flags_are_flat _ = tt

pub ip_tunnel_owes : (kind : KindTag) (n : ℕ) →
    RowOwes ip_tunnel_attribute n (row_of (ip_tunnel_row kind n))
ip_tunnel_owes kind n =
    row_if_owes ip_tunnel_attribute 8 n (flags_row kind) (table_row ip_tunnel_rows n)
    (flags_owe kind)
    (table_owes ip_tunnel_attribute ip_tunnel_rows ip_tunnel_keeps n)

row_if_flat : (b : Bool) (first rest : FamilyRow InfoIpTunnel) → IsFlat first → IsFlat rest →
    IsFlat (row_if b first rest)
row_if_flat true first rest one other = one
row_if_flat false first rest one other = other

pub ip_tunnel_flat : (kind : KindTag) (n : ℕ) → IsFlat (ip_tunnel_row kind n)
ip_tunnel_flat kind n =
    row_if_flat (n == 8) (flags_row kind) (table_row ip_tunnel_rows n) (flags_are_flat kind)
    (table_flat ip_tunnel_attribute ip_tunnel_rows ip_tunnel_keeps n)

-- every other type has the row of the table of all families
pub ip_tunnel_lookup : (kind : KindTag) (n : ℕ) → n ≢ 8 →
    lookup_of (ip_tunnel_row kind n) ≡ lookup_in (shape_of family.IpTunnel n)
ip_tunnel_lookup kind n other =
    ap (λ b. lookup_of (row_if b (flags_row kind) (table_row ip_tunnel_rows n)))
    (false_from_ne_true (n == 8) (λ same. other (eqb-true n 8 same)))
    ∙ table_lookup ip_tunnel_rows n
