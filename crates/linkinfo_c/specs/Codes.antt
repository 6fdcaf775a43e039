-- The numbers by which C knows families, causes, kinds, port kinds, lists in data and shapes. A
-- number never changes once it is given: new ones are added at the end.
use Rattle.std.specs.Prelude.{ℕ, ◌==◌, if◌then◌else◌, List, [], ◌∷◌, Option, Some, None}
use Rattle.nla_frame.specs.Error.{cause_number}
use Rattle.nla_frame.specs.declared.error.Cause.{Cause}
use Rattle.nla_frame.specs.declared.error.Cause.TheVariants as cause
use Rattle.nla_frame.specs.declared.error.Family.{Family}
use Rattle.nla_frame.specs.declared.error.Family.TheVariants as family
use Rattle.linkinfo_shapes.specs.Data.{
  Value,
  number,
  signed,
  truth,
  empty,
  text,
  v4,
  v6,
  mac,
  pair,
  bytes,
}
use Rattle.linkinfo_shapes.specs.declared.shape.Shape.{Shape}
use Rattle.linkinfo_shapes.specs.declared.shape.Shape.TheVariants as shape
use Rattle.linkinfo_numbers.specs.declared.tags.KindTag.{KindTag}
use Rattle.linkinfo_numbers.specs.declared.tags.KindTag.TheVariants as kind
use Rattle.linkinfo_numbers.specs.declared.tags.PortTag.{PortTag}
use Rattle.linkinfo_numbers.specs.declared.tags.PortTag.TheVariants as port

-- the first of these values that has the code
abbrev pub of_code : {A : Type 0} → (A → ℕ) → List A → ℕ → Option A
of_code code_of [] code = None
of_code code_of (x ∷ more) code = if code == code_of x then Some x else of_code code_of more code

-- the codes of families; 0 is none
abbrev pub family_code : Family → ℕ
-- Begin: written by tables/generate from tables/families (codes).
family_code family.Frame = 1
family_code family.LinkInfo = 2
family_code family.Amt = 3
family_code family.BareUdp = 4
family_code family.BatAdv = 5
family_code family.Bond = 6
family_code family.BondPort = 7
family_code family.Bridge = 8
family_code family.BridgePort = 9
family_code family.Can = 10
family_code family.Dsa = 11
family_code family.Geneve = 12
family_code family.Gre = 13
family_code family.Gre6 = 14
family_code family.Gtp = 15
family_code family.Hsr = 16
family_code family.IpTunnel = 17
family_code family.IpVlan = 18
family_code family.IpVtap = 19
family_code family.Ipoib = 20
family_code family.MacSec = 21
family_code family.MacVlan = 22
family_code family.MacVtap = 23
family_code family.Netkit = 24
family_code family.Pfcp = 25
family_code family.RmNet = 26
family_code family.TeamPort = 27
family_code family.Tun = 28
family_code family.Veth = 29
family_code family.Vlan = 30
family_code family.Vrf = 31
family_code family.Vti = 32
family_code family.Vxcan = 33
family_code family.Vxlan = 34
family_code family.Wireguard = 35
family_code family.Wwan = 36
family_code family.Xfrm = 37
family_code family.VlanQosMapping = 38
family_code family.BondAdInfo = 39
family_code family.BridgeQuerierState = 40
family_code family.CanTdc = 41
family_code family.CanCtrlModeExt = 42
family_code family.CanPwm = 43
family_code family.Ovpn = 44
family_code family.Ppp = 45

-- End: written by tables/generate.

abbrev pub peer : List Family
peer =
    -- Begin: written by tables/generate from tables/families (list).
    family.Frame ∷
    family.LinkInfo ∷
    family.Amt ∷
    family.BareUdp ∷
    family.BatAdv ∷
    family.Bond ∷
    family.BondPort ∷
    family.Bridge ∷
    family.BridgePort ∷
    family.Can ∷
    family.Dsa ∷
    family.Geneve ∷
    family.Gre ∷
    family.Gre6 ∷
    family.Gtp ∷
    family.Hsr ∷
    family.IpTunnel ∷
    family.IpVlan ∷
    family.IpVtap ∷
    family.Ipoib ∷
    family.MacSec ∷
    family.MacVlan ∷
    family.MacVtap ∷
    family.Netkit ∷
    family.Pfcp ∷
    family.RmNet ∷
    family.TeamPort ∷
    family.Tun ∷
    family.Veth ∷
    family.Vlan ∷
    family.Vrf ∷
    family.Vti ∷
    family.Vxcan ∷
    family.Vxlan ∷
    family.Wireguard ∷
    family.Wwan ∷
    family.Xfrm ∷
    family.VlanQosMapping ∷
    family.BondAdInfo ∷
    family.BridgeQuerierState ∷
    family.CanTdc ∷
    family.CanCtrlModeExt ∷
    family.CanPwm ∷
    family.Ovpn ∷
    family.Ppp ∷
    -- End: written by tables/generate.
    []

abbrev pub family_of_code : ℕ → Option Family
family_of_code code = of_code family_code peer code

-- causes, which have the numbers of `Cause::number`; 0 is none
abbrev pub causes : List Cause
causes =
    cause.Header ∷
    cause.Length ∷
    cause.Utf8 ∷
    cause.Order ∷
    cause.AddressKind ∷
    cause.Word ∷
    cause.WrongType ∷
    cause.Kind ∷
    cause.Depth ∷
    cause.Memory ∷
    cause.Peer ∷
    []

abbrev pub cause_of_code : ℕ → Option Cause
cause_of_code code = of_code cause_number causes code

-- the codes of kinds; 0 is none
abbrev pub kind_code : KindTag → ℕ
kind_code kind.Other = 1
-- Begin: written by tables/generate from tables/kinds (codes).
kind_code kind.Dummy = 2
kind_code kind.Ifb = 3
kind_code kind.Bridge = 4
kind_code kind.Tun = 5
kind_code kind.Nlmon = 6
kind_code kind.Vlan = 7
kind_code kind.Veth = 8
kind_code kind.Vxlan = 9
kind_code kind.Bond = 10
kind_code kind.IpVlan = 11
kind_code kind.IpVtap = 12
kind_code kind.MacVlan = 13
kind_code kind.MacVtap = 14
kind_code kind.GreTap = 15
kind_code kind.GreTap6 = 16
kind_code kind.IpIp = 17
kind_code kind.Ip6Tnl = 18
kind_code kind.SitTun = 19
kind_code kind.GreTun = 20
kind_code kind.GreTun6 = 21
kind_code kind.Vti = 22
kind_code kind.Vti6 = 23
kind_code kind.Vrf = 24
kind_code kind.Gtp = 25
kind_code kind.Ipoib = 26
kind_code kind.Wireguard = 27
kind_code kind.Xfrm = 28
kind_code kind.MacSec = 29
kind_code kind.Hsr = 30
kind_code kind.Geneve = 31
kind_code kind.Netkit = 32
kind_code kind.Vcan = 33
kind_code kind.Vxcan = 34
kind_code kind.Amt = 35
kind_code kind.BatAdv = 36
kind_code kind.BareUdp = 37
kind_code kind.Netdevsim = 38
kind_code kind.VirtWifi = 39
kind_code kind.Wwan = 40
kind_code kind.Can = 41
kind_code kind.Dsa = 42
kind_code kind.Team = 43
kind_code kind.ErSpan = 44
kind_code kind.Ip6ErSpan = 45
kind_code kind.Pfcp = 46
kind_code kind.RmNet = 47

-- End: written by tables/generate.

abbrev pub kinds : List KindTag
kinds =
    kind.Other ∷
    -- Begin: written by tables/generate from tables/kinds (list).
    kind.Dummy ∷
    kind.Ifb ∷
    kind.Bridge ∷
    kind.Tun ∷
    kind.Nlmon ∷
    kind.Vlan ∷
    kind.Veth ∷
    kind.Vxlan ∷
    kind.Bond ∷
    kind.IpVlan ∷
    kind.IpVtap ∷
    kind.MacVlan ∷
    kind.MacVtap ∷
    kind.GreTap ∷
    kind.GreTap6 ∷
    kind.IpIp ∷
    kind.Ip6Tnl ∷
    kind.SitTun ∷
    kind.GreTun ∷
    kind.GreTun6 ∷
    kind.Vti ∷
    kind.Vti6 ∷
    kind.Vrf ∷
    kind.Gtp ∷
    kind.Ipoib ∷
    kind.Wireguard ∷
    kind.Xfrm ∷
    kind.MacSec ∷
    kind.Hsr ∷
    kind.Geneve ∷
    kind.Netkit ∷
    kind.Vcan ∷
    kind.Vxcan ∷
    kind.Amt ∷
    kind.BatAdv ∷
    kind.BareUdp ∷
    kind.Netdevsim ∷
    kind.VirtWifi ∷
    kind.Wwan ∷
    kind.Can ∷
    kind.Dsa ∷
    kind.Team ∷
    kind.ErSpan ∷
    kind.Ip6ErSpan ∷
    kind.Pfcp ∷
    kind.RmNet ∷
    -- End: written by tables/generate.
    []

abbrev pub kind_of_code : ℕ → Option KindTag
kind_of_code code = of_code kind_code kinds code

-- the codes of port kinds, none of which is that of a kind
abbrev pub port_kind_code : PortTag → ℕ
port_kind_code port.Other = 256
-- Begin: written by tables/generate from tables/ports (codes).
port_kind_code port.Bond = 257
port_kind_code port.Bridge = 258
port_kind_code port.Vrf = 259
port_kind_code port.Team = 260

-- End: written by tables/generate.

abbrev pub port_kinds : List PortTag
port_kinds =
    port.Other ∷
    -- Begin: written by tables/generate from tables/ports (list).
    port.Bond ∷
    port.Bridge ∷
    port.Vrf ∷
    port.Team ∷
    -- End: written by tables/generate.
    []

abbrev pub port_kind_of_code : ℕ → Option PortTag
port_kind_of_code code = of_code port_kind_code port_kinds code

-- the codes of lists in data, none of which is that of a kind or of a port kind: of lists of
-- addresses, and of those of attributes of a family, 0 of a family of which no other one has lists

abbrev pub list_v4 : ℕ
list_v4 = 512

abbrev pub list_v6 : ℕ
list_v6 = 513

abbrev pub list_code : Family → ℕ
-- Begin: written by tables/generate from tables/families (codes of lists).
list_code family.VlanQosMapping = 550
list_code family.BondAdInfo = 551
list_code family.BridgeQuerierState = 552
list_code family.CanTdc = 553
list_code family.CanCtrlModeExt = 554
list_code family.CanPwm = 555
-- End: written by tables/generate.
list_code _ = 0

abbrev pub list_families : List Family
list_families =
    -- Begin: written by tables/generate from tables/families (lists).
    family.VlanQosMapping ∷
    family.BondAdInfo ∷
    family.BridgeQuerierState ∷
    family.CanTdc ∷
    family.CanCtrlModeExt ∷
    family.CanPwm ∷
    -- End: written by tables/generate.
    []

abbrev pub family_of_list : ℕ → Option Family
family_of_list code = of_code list_code list_families code

-- the codes of shapes; 0 is none
abbrev pub shape_code : Shape → ℕ
shape_code shape.U8 = 1
shape_code shape.Le16 = 2
shape_code shape.Le32 = 3
shape_code shape.Le64 = 4
shape_code shape.Be16 = 5
shape_code shape.Be32 = 6
shape_code shape.Be64 = 7
shape_code shape.I32 = 8
shape_code shape.Truth = 9
shape_code shape.TruthOne = 10
shape_code shape.Mark = 11
shape_code shape.Name = 12
shape_code shape.V4 = 13
shape_code shape.V6 = 14
shape_code shape.GeneveV4 = 15
shape_code shape.GeneveV6 = 16
shape_code shape.Ip = 17
shape_code shape.Mac = 18
shape_code shape.BePair = 19
shape_code shape.FlagPair = 20
shape_code shape.EmptyOrByte = 21
shape_code shape.Scrub = 22
shape_code shape.Raw = 23
shape_code shape.SelfList = 24
shape_code shape.Peer = 25
shape_code (shape.Nested family) = 26
shape_code shape.BridgeId = 27
shape_code shape.LePair16 = 28
shape_code shape.Le32x8 = 29
shape_code shape.CanBitTimingConst = 30
shape_code shape.Le16s = 31
shape_code shape.Le32s = 32
shape_code shape.V4List = 33
shape_code shape.V6List = 34

-- the outcomes of a canonical encoding, `enum linkinfo_canon_status`

abbrev pub canon_written : ℕ
canon_written = 0

abbrev pub canon_refused : ℕ
canon_refused = 1

abbrev pub canon_unfit : ℕ
canon_unfit = 2

abbrev pub canon_short : ℕ
canon_short = 3

-- the types of values, `enum linkinfo_value_type`

abbrev pub value_none : ℕ
value_none = 0

abbrev pub value_code : Value → ℕ
value_code (number n) = 1
value_code (signed z) = 2
value_code (truth b) = 3
value_code empty = 4
value_code (text s) = 5
value_code (v4 a) = 6
value_code (v6 a) = 7
value_code (mac s) = 8
value_code (pair m n) = 9
value_code (bytes s) = 11

abbrev pub value_list : ℕ
value_list = 10
