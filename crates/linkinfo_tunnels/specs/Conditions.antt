-- Which attributes of tunnels are well formed, by the variant of each: the conditions on a number,
-- an address or an opaque attribute.
use Rattle.std.specs.Prelude.{◌≡◌, ◌↔◌, ℕ, ◌<◌, ◌^◌, Bool, true, false}
use Rattle.std.specs.Prelude.{refl}
use Rattle.std.proofs.Common.{subst}
use Rattle.nla_frame.specs.declared.default_nla.DefaultNla.{DefaultNla}
use Rattle.linkinfo_shapes.specs.Shapes.{IsIp, IsIpv4, IsIpv6}
use Rattle.linkinfo_numbers.specs.Table.{IsNumber, number_label}
use Rattle.linkinfo_numbers.specs.Ip.{ip_protocol_table, ip_protocol_table_holds}
use Rattle.linkinfo_numbers.specs.Tunnel.{ip6_tunnel_flags, tunnel_encap_type_table}
use Rattle.linkinfo_numbers.specs.Tunnel.{tunnel_encap_type_table_holds}
use Rattle.linkinfo_numbers.specs.declared.tags.KindTag.{KindTag}
use Rattle.linkinfo_numbers.specs.declared.tags.KindTag.TheVariants as kind
use Rattle.linkinfo_numbers.specs.declared.tunnel.Ip6TunnelFlags.{Ip6TunnelFlags}
use Rattle.linkinfo_table.specs.Conditions.{IsUnknownBeside, are_typed}
use Rattle.linkinfo_table.specs.Conditions.{unknown_beside, unknown_label}
use Rattle.linkinfo_table.specs.FamilyRows.{row_of}
use Rattle.linkinfo_table.specs.Rows.{WellAt, WellFormed}
use Rattle.linkinfo_tunnels.specs.IpTunnel.{flags_row, ip_tunnel_attribute, ip_tunnel_row}
use Rattle.linkinfo_tunnels.specs.IpTunnel.{ip_tunnel_rows}
use Rattle.linkinfo_tunnels.specs.declared.ip_tunnel.InfoIpTunnel.{InfoIpTunnel}
use Rattle.linkinfo_tunnels.specs.declared.ip_tunnel.InfoIpTunnel.TheVariants as ip_tunnel
-- Begin: written by tables/generate from tables/families.
pub use Rattle.linkinfo_tunnels.specs.AmtConditions.{amt_conditions, amt_stated}
pub use Rattle.linkinfo_tunnels.specs.BareUdpConditions.{bare_udp_conditions, bare_udp_stated}
pub use Rattle.linkinfo_tunnels.specs.GeneveConditions.{geneve_conditions, geneve_stated}
pub use Rattle.linkinfo_tunnels.specs.GreConditions.{gre_conditions, gre_stated}
pub use Rattle.linkinfo_tunnels.specs.Gre6Conditions.{gre6_conditions, gre6_stated}
pub use Rattle.linkinfo_tunnels.specs.GtpConditions.{gtp_conditions, gtp_stated}
pub use Rattle.linkinfo_tunnels.specs.VtiConditions.{vti_conditions, vti_stated}
pub use Rattle.linkinfo_tunnels.specs.VxlanConditions.{vxlan_conditions, vxlan_stated}

-- End: written by tables/generate.

-- ---- `ipip`, `sit` and `ip6tnl` links

abbrev pub ip_tunnel_conditions : KindTag → InfoIpTunnel → Type 0
ip_tunnel_conditions tag (ip_tunnel.Link n) = n < 2 ^ 32
ip_tunnel_conditions tag (ip_tunnel.Local a) = IsIp a
ip_tunnel_conditions tag (ip_tunnel.Remote a) = IsIp a
ip_tunnel_conditions tag (ip_tunnel.Ttl n) = n < 256
ip_tunnel_conditions tag (ip_tunnel.Tos n) = n < 256
ip_tunnel_conditions tag (ip_tunnel.EncapLimit n) = n < 256
ip_tunnel_conditions tag (ip_tunnel.FlowInfo n) = n < 2 ^ 32
ip_tunnel_conditions tag (ip_tunnel.Protocol x) = IsNumber ip_protocol_table 256 x
ip_tunnel_conditions tag (ip_tunnel.Ipv6RdPrefix a) = IsIpv6 a
ip_tunnel_conditions tag (ip_tunnel.Ipv6RdRelayPrefix a) = IsIpv4 a
ip_tunnel_conditions tag (ip_tunnel.Ipv6RdPrefixLen n) = n < 2 ^ 16
ip_tunnel_conditions tag (ip_tunnel.Ipv6RdRelayPrefixLen n) = n < 2 ^ 16
ip_tunnel_conditions tag (ip_tunnel.EncapType x) = IsNumber tunnel_encap_type_table (2 ^ 16) x
ip_tunnel_conditions tag (ip_tunnel.EncapFlags flags) = flags.0 < 2 ^ 16
ip_tunnel_conditions tag (ip_tunnel.EncapSPort n) = n < 2 ^ 16
ip_tunnel_conditions tag (ip_tunnel.EncapDPort n) = n < 2 ^ 16
ip_tunnel_conditions tag (ip_tunnel.FwMark n) = n < 2 ^ 32
ip_tunnel_conditions tag (ip_tunnel.Ipv4Flags n) = (tag ≡ kind.IpIp) × (n < 2 ^ 16)
ip_tunnel_conditions tag (ip_tunnel.Ipv6SitFlags n) = (tag ≡ kind.SitTun) × (n < 2 ^ 16)
ip_tunnel_conditions tag (ip_tunnel.Ipv6Flags flags) = (tag ≡ kind.Ip6Tnl) × (flags.0 < 2 ^ 32)
ip_tunnel_conditions tag (ip_tunnel.Other d) = IsUnknownBeside 8 ip_tunnel_rows d
ip_tunnel_conditions tag _ = Unit {0}

abbrev ip_tunnel_is_other : InfoIpTunnel → Bool
ip_tunnel_is_other (ip_tunnel.Other d) = true
ip_tunnel_is_other _ = false

flags_elsewhere : (tag : KindTag) (d : DefaultNla) →
    ¬ WellAt (λ z. ip_tunnel.Other z) (row_of (flags_row tag)) (ip_tunnel.Other d)
flags_elsewhere kind.IpIp d w = let no : ip_tunnel.Ipv4Flags w.0 ≡ ip_tunnel.Other d = w.2 in cc
flags_elsewhere kind.SitTun d w = let no : ip_tunnel.Ipv6SitFlags w.0 ≡ ip_tunnel.Other d = w.2 in
    cc
flags_elsewhere kind.Ip6Tnl d w = let no : ip_tunnel.Ipv6Flags
    (ip6_tunnel_flags w.0) ≡ ip_tunnel.Other d = w.2 in cc
flags_elsewhere _ d w = w

abbrev FlagsStated : KindTag → InfoIpTunnel → Type 0
FlagsStated tag x = WellAt (λ d. ip_tunnel.Other d) (row_of (flags_row tag)) x ↔
    ip_tunnel_conditions tag x

-- type 8 of `ipip`
ipv4_stated : (tag : KindTag) (n : ℕ) → FlagsStated tag (ip_tunnel.Ipv4Flags n)
ipv4_stated kind.IpIp n =
    (λ w. subst (λ x. ip_tunnel_conditions kind.IpIp x) w.2 (refl, w.1), λ h. (n, h.1, refl))
ipv4_stated kind.SitTun n = (
  λ w. let no : ip_tunnel.Ipv6SitFlags w.0 ≡ ip_tunnel.Ipv4Flags n = w.2 in
      absurd cc,
  λ h. let no = h.0 in absurd cc,
)
ipv4_stated kind.Ip6Tnl n = (
  λ w. let no : ip_tunnel.Ipv6Flags (ip6_tunnel_flags w.0) ≡ ip_tunnel.Ipv4Flags n = w.2 in
      absurd cc,
  λ h. let no = h.0 in absurd cc,
)
ipv4_stated _ n = (λ w. absurd w, λ h. let no = h.0 in absurd cc)

-- type 8 of `sit`
sit_stated : (tag : KindTag) (n : ℕ) → FlagsStated tag (ip_tunnel.Ipv6SitFlags n)
sit_stated kind.IpIp n = (
  λ w. let no : ip_tunnel.Ipv4Flags w.0 ≡ ip_tunnel.Ipv6SitFlags n = w.2 in
      absurd cc,
  λ h. let no = h.0 in absurd cc,
)
sit_stated kind.SitTun n =
    (λ w. subst (λ x. ip_tunnel_conditions kind.SitTun x) w.2 (refl, w.1), λ h. (n, h.1, refl))
sit_stated kind.Ip6Tnl n = (
  λ w. let no : ip_tunnel.Ipv6Flags (ip6_tunnel_flags w.0) ≡ ip_tunnel.Ipv6SitFlags n = w.2 in
      absurd cc,
  λ h. let no = h.0 in absurd cc,
)
sit_stated _ n = (λ w. absurd w, λ h. let no = h.0 in absurd cc)

-- type 8 of `ip6tnl`
ip6tnl_stated : (tag : KindTag) (flags : Ip6TunnelFlags) →
    FlagsStated tag (ip_tunnel.Ipv6Flags flags)
ip6tnl_stated kind.IpIp flags = (
  λ w. let no : ip_tunnel.Ipv4Flags w.0 ≡ ip_tunnel.Ipv6Flags flags = w.2 in
      absurd cc,
  λ h. let no = h.0 in absurd cc,
)
ip6tnl_stated kind.SitTun flags = (
  λ w. let no : ip_tunnel.Ipv6SitFlags w.0 ≡ ip_tunnel.Ipv6Flags flags = w.2 in
      absurd cc,
  λ h. let no = h.0 in absurd cc,
)
ip6tnl_stated kind.Ip6Tnl flags = (
  λ w. subst (λ x. ip_tunnel_conditions kind.Ip6Tnl x) w.2 (refl, w.1),
  λ h. (flags.0, h.1, refl),
)
ip6tnl_stated _ flags = (λ w. absurd w, λ h. let no = h.0 in absurd cc)

pub ip_tunnel_stated : (tag : KindTag) (x : InfoIpTunnel) →
    WellFormed (λ d. ip_tunnel.Other d) ip_tunnel_attribute (λ n. row_of (ip_tunnel_row tag n)) x ↔
    ip_tunnel_conditions tag x
unfolding WellFormed
ip_tunnel_stated tag = elim [
  | ip_tunnel.Ipv4Flags n ↦ ipv4_stated tag n
  | ip_tunnel.Ipv6SitFlags n ↦ sit_stated tag n
  | ip_tunnel.Ipv6Flags flags ↦ ip6tnl_stated tag flags
  | ip_tunnel.Protocol x ↦ number_label ip_protocol_table_holds 256 (λ y. ip_tunnel.Protocol y)
      (ip_tunnel_conditions tag) (λ _ is. is) (λ _ is. is) x
  | ip_tunnel.EncapType x ↦ number_label tunnel_encap_type_table_holds (2 ^ 16)
      (λ y. ip_tunnel.EncapType y) (ip_tunnel_conditions tag) (λ _ is. is) (λ _ is. is) x
  | ip_tunnel.Other d ↦
      unknown_beside (λ z. ip_tunnel.Other z) 8 (flags_row tag) ip_tunnel_rows d
      (flags_elsewhere tag d)
      (unknown_label (λ z. ip_tunnel.Other z) ip_tunnel_attribute ip_tunnel_rows ip_tunnel_is_other
      (λ _. refl) (λ _. refl) (are_typed ip_tunnel_is_other ip_tunnel_rows refl) d)
  | _ ↦ (λ w. subst (ip_tunnel_conditions tag) w.2 w.1, λ h. (_, h, refl))
]
