-- Written by tables/generate from tables/families.
-- The shape of each attribute, by family and type without flag bits: one table for all families.
use Rattle.std.specs.Prelude.{ℕ, ◌==◌, if◌then◌else◌, List, [], ◌∷◌, Option, Some, None}
use Rattle.nla_frame.specs.declared.error.Family.{Family}
use Rattle.nla_frame.specs.declared.error.Family.TheVariants as family
use Rattle.linkinfo_shapes.specs.declared.shape.Shape.{Shape}
use Rattle.linkinfo_shapes.specs.declared.shape.Shape.TheVariants.{
  U8,
  Le16,
  Le32,
  Le64,
  Be16,
  Be32,
  Be64,
  I32,
  Truth,
  TruthOne,
  Mark,
  Name,
  V4,
  V6,
  GeneveV4,
  GeneveV6,
  Ip,
  Mac,
  BePair,
  FlagPair,
  EmptyOrByte,
  Scrub,
  SelfList,
  Peer,
}

-- Amt
abbrev pub amt_rows : List (ℕ × Shape)
amt_rows =
    (1, Le32) ∷  -- Mode
    (2, Be16) ∷  -- RelayPort
    (3, Be16) ∷  -- GatewayPort
    (4, Le32) ∷  -- Link
    (5, Ip) ∷  -- LocalIp
    (6, Ip) ∷  -- RemoteIp
    (7, Ip) ∷  -- DiscoveryIp
    (8, Le32) ∷  -- MaxTunnels
    []

-- BareUdp
abbrev pub bare_udp_rows : List (ℕ × Shape)
bare_udp_rows =
    (1, Be16) ∷  -- Port
    (2, Be16) ∷  -- Ethertype
    (3, Le16) ∷  -- SrcPortMin
    (4, Mark) ∷  -- MultiprotoMode
    []

-- BatAdv
abbrev pub bat_adv_rows : List (ℕ × Shape)
bat_adv_rows =
    (1, Name) ∷  -- AlgoName
    []

-- Geneve
abbrev pub geneve_rows : List (ℕ × Shape)
geneve_rows =
    (1, Le32) ∷  -- Id
    (2, GeneveV4) ∷  -- Remote
    (3, U8) ∷  -- Ttl
    (4, U8) ∷  -- Tos
    (5, Be16) ∷  -- Port
    (6, Mark) ∷  -- CollectMetadata
    (7, GeneveV6) ∷  -- Remote6
    (8, Truth) ∷  -- UdpCsum
    (9, Truth) ∷  -- UdpZeroCsum6Tx
    (10, Truth) ∷  -- UdpZeroCsum6Rx
    (11, Be32) ∷  -- Label
    (12, Truth) ∷  -- TtlInherit
    (13, U8) ∷  -- Df
    (14, Mark) ∷  -- InnerProtoInherit
    (17, GeneveV4) ∷  -- Local
    (18, GeneveV6) ∷  -- Local6
    []

-- Gre
abbrev pub gre_rows : List (ℕ × Shape)
gre_rows =
    (1, Le32) ∷  -- Link
    (2, Be16) ∷  -- IFlags
    (3, Be16) ∷  -- OFlags
    (4, Be32) ∷  -- IKey
    (5, Be32) ∷  -- OKey
    (6, V4) ∷  -- Local
    (7, V4) ∷  -- Remote
    (8, U8) ∷  -- Ttl
    (9, U8) ∷  -- Tos
    (10, TruthOne) ∷  -- PathMTUDiscovery
    (14, Le16) ∷  -- EncapType
    (15, Le16) ∷  -- EncapFlags
    (16, Be16) ∷  -- SourcePort
    (17, Be16) ∷  -- DestinationPort
    (18, Mark) ∷  -- CollectMetadata
    (20, Le32) ∷  -- FwMask
    (21, Le32) ∷  -- ErSpanIndex
    (22, U8) ∷  -- ErSpanVer
    (23, U8) ∷  -- ErSpanDir
    (24, Le16) ∷  -- ErSpanHwId
    []

-- Gre6
abbrev pub gre6_rows : List (ℕ × Shape)
gre6_rows =
    (1, Le32) ∷  -- Link
    (2, Be16) ∷  -- IFlags
    (3, Be16) ∷  -- OFlags
    (4, Be32) ∷  -- IKey
    (5, Be32) ∷  -- OKey
    (6, V6) ∷  -- Local
    (7, V6) ∷  -- Remote
    (8, U8) ∷  -- Ttl
    (9, U8) ∷  -- Tos
    (11, U8) ∷  -- EncapLimit
    (12, Be32) ∷  -- FlowLabel
    (14, Le16) ∷  -- EncapType
    (15, Le16) ∷  -- EncapFlags
    (16, Be16) ∷  -- SourcePort
    (17, Be16) ∷  -- DestinationPort
    (18, Mark) ∷  -- CollectMetadata
    (20, Le32) ∷  -- FwMask
    (21, Le32) ∷  -- ErSpanIndex
    (22, U8) ∷  -- ErSpanVer
    (23, U8) ∷  -- ErSpanDir
    (24, Le16) ∷  -- ErSpanHwId
    []

-- Gtp
abbrev pub gtp_rows : List (ℕ × Shape)
gtp_rows =
    (1, Le32) ∷  -- Fd0
    (2, Le32) ∷  -- Fd1
    (3, Le32) ∷  -- PdpHashsize
    (4, Le32) ∷  -- Role
    (5, Truth) ∷  -- CreateSockets
    (6, U8) ∷  -- RestartCount
    (7, V4) ∷  -- Local
    (8, V6) ∷  -- Local6
    []

-- Ipoib
abbrev pub ipoib_rows : List (ℕ × Shape)
ipoib_rows =
    (1, Le16) ∷  -- Pkey
    (2, Le16) ∷  -- Mode
    (3, Le16) ∷  -- UmCast
    []

-- IpTunnel; its type 8 has no row, since its shape depends on the kind of the link
abbrev pub ip_tunnel_rows : List (ℕ × Shape)
ip_tunnel_rows =
    (1, Le32) ∷  -- Link
    (2, Ip) ∷  -- Local
    (3, Ip) ∷  -- Remote
    (4, U8) ∷  -- Ttl
    (5, U8) ∷  -- Tos
    (6, U8) ∷  -- EncapLimit
    (7, Be32) ∷  -- FlowInfo
    (9, U8) ∷  -- Protocol
    (10, Truth) ∷  -- PMtuDisc
    (11, V6) ∷  -- Ipv6RdPrefix
    (12, V4) ∷  -- Ipv6RdRelayPrefix
    (13, Le16) ∷  -- Ipv6RdPrefixLen
    (14, Le16) ∷  -- Ipv6RdRelayPrefixLen
    (15, Le16) ∷  -- EncapType
    (16, Le16) ∷  -- EncapFlags
    (17, Be16) ∷  -- EncapSPort
    (18, Be16) ∷  -- EncapDPort
    (19, Mark) ∷  -- CollectMetadata
    (20, Le32) ∷  -- FwMark
    []

-- IpVlan and IpVtap
abbrev pub ip_vlan_rows : List (ℕ × Shape)
ip_vlan_rows =
    (1, Le16) ∷  -- Mode
    (2, Le16) ∷  -- Flags
    []

-- MacVlan and MacVtap
abbrev pub mac_vlan_rows : List (ℕ × Shape)
mac_vlan_rows =
    (1, Le32) ∷  -- Mode
    (2, Le16) ∷  -- Flags
    (3, Le32) ∷  -- MacAddrMode
    (4, Mac) ∷  -- MacAddr
    (5, SelfList) ∷  -- MacAddrData
    (6, Le32) ∷  -- MacAddrCount
    (7, Le32) ∷  -- BcQueueLen
    (8, Le32) ∷  -- BcQueueLenUsed
    (9, I32) ∷  -- BcCutoff
    []

-- MacSec
abbrev pub mac_sec_rows : List (ℕ × Shape)
mac_sec_rows =
    (1, Le64) ∷  -- Sci
    (2, Be16) ∷  -- Port
    (3, U8) ∷  -- IcvLen
    (4, Le64) ∷  -- CipherSuite
    (5, Le32) ∷  -- Window
    (6, U8) ∷  -- EncodingSa
    (7, U8) ∷  -- Encrypt
    (8, U8) ∷  -- Protect
    (9, U8) ∷  -- IncSci
    (10, U8) ∷  -- Es
    (11, U8) ∷  -- Scb
    (12, U8) ∷  -- ReplayProtect
    (13, U8) ∷  -- Validation
    (15, U8) ∷  -- Offload
    []

-- Netkit
abbrev pub netkit_rows : List (ℕ × Shape)
netkit_rows =
    (1, Peer) ∷  -- Peer
    (2, Truth) ∷  -- Primary
    (3, Le32) ∷  -- Policy
    (4, Le32) ∷  -- PeerPolicy
    (5, Le32) ∷  -- Mode
    (6, Scrub) ∷  -- Scrub
    (7, Scrub) ∷  -- PeerScrub
    (8, Le16) ∷  -- Headroom
    (9, Le16) ∷  -- Tailroom
    []

-- RmNet
abbrev pub rm_net_rows : List (ℕ × Shape)
rm_net_rows =
    (1, Le16) ∷  -- MuxId
    (2, FlagPair) ∷  -- Flags
    []

-- Veth and Vxcan
abbrev pub veth_rows : List (ℕ × Shape)
veth_rows =
    (1, Peer) ∷  -- Peer
    []

-- Vrf
abbrev pub vrf_rows : List (ℕ × Shape)
vrf_rows =
    (1, Le32) ∷  -- TableId
    []

-- Wwan
abbrev pub wwan_rows : List (ℕ × Shape)
wwan_rows =
    (1, Le32) ∷  -- LinkId
    []

-- Xfrm
abbrev pub xfrm_rows : List (ℕ × Shape)
xfrm_rows =
    (1, Le32) ∷  -- Link
    (2, Le32) ∷  -- IfId
    []

-- Vti
abbrev pub vti_rows : List (ℕ × Shape)
vti_rows =
    (1, Le32) ∷  -- Link
    (2, Be32) ∷  -- IKey
    (3, Be32) ∷  -- OKey
    (4, Ip) ∷  -- Local
    (5, Ip) ∷  -- Remote
    (6, Le32) ∷  -- FwMark
    []

-- Vxlan
abbrev pub vxlan_rows : List (ℕ × Shape)
vxlan_rows =
    (1, Le32) ∷  -- Id
    (2, V4) ∷  -- Group
    (3, Le32) ∷  -- Link
    (4, V4) ∷  -- Local
    (5, U8) ∷  -- Ttl
    (6, U8) ∷  -- Tos
    (7, Truth) ∷  -- Learning
    (8, Le32) ∷  -- Ageing
    (9, Le32) ∷  -- Limit
    (10, BePair) ∷  -- PortRange
    (11, Truth) ∷  -- Proxy
    (12, Truth) ∷  -- Rsc
    (13, Truth) ∷  -- L2Miss
    (14, Truth) ∷  -- L3Miss
    (15, Be16) ∷  -- Port
    (16, V6) ∷  -- Group6
    (17, V6) ∷  -- Local6
    (18, Truth) ∷  -- UDPCsum
    (19, Truth) ∷  -- UDPZeroCsumTX
    (20, Truth) ∷  -- UDPZeroCsumRX
    (21, Truth) ∷  -- RemCsumTX
    (22, Truth) ∷  -- RemCsumRX
    (23, Mark) ∷  -- Gbp
    (24, Mark) ∷  -- RemCsumNoPartial
    (25, Truth) ∷  -- CollectMetadata
    (26, Be32) ∷  -- Label
    (27, Mark) ∷  -- Gpe
    (28, EmptyOrByte) ∷  -- TtlInheritFlag, TtlInherit
    (29, U8) ∷  -- Df
    (30, Truth) ∷  -- Vnifilter
    (31, Truth) ∷  -- Localbypass
    (32, Le32) ∷  -- LabelPolicy
    (33, Be64) ∷  -- ReservedBits
    (34, Truth) ∷  -- McRoute
    []

-- the rows of a family, by type
abbrev pub rows_of : Family → List (ℕ × Shape)
rows_of family.Amt = amt_rows
rows_of family.BareUdp = bare_udp_rows
rows_of family.BatAdv = bat_adv_rows
rows_of family.Geneve = geneve_rows
rows_of family.Gre = gre_rows
rows_of family.Gre6 = gre6_rows
rows_of family.Gtp = gtp_rows
rows_of family.Ipoib = ipoib_rows
rows_of family.IpTunnel = ip_tunnel_rows
rows_of family.IpVlan = ip_vlan_rows
rows_of family.IpVtap = ip_vlan_rows
rows_of family.MacVlan = mac_vlan_rows
rows_of family.MacVtap = mac_vlan_rows
rows_of family.MacSec = mac_sec_rows
rows_of family.Netkit = netkit_rows
rows_of family.RmNet = rm_net_rows
rows_of family.Veth = veth_rows
rows_of family.Vxcan = veth_rows
rows_of family.Vrf = vrf_rows
rows_of family.Wwan = wwan_rows
rows_of family.Xfrm = xfrm_rows
rows_of family.Vti = vti_rows
rows_of family.Vxlan = vxlan_rows
rows_of _ = []

-- the shape in the row of a type, if there is one
abbrev pub found : List (ℕ × Shape) → ℕ → Option Shape
found [] number = None
found (row ∷ rows) number = if number == row.0 then Some row.1 else found rows number

abbrev pub shape_of : Family → ℕ → Option Shape
shape_of f number = found (rows_of f) number
