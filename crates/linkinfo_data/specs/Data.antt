-- Data of links: what a payload means under the kind of the link.
use Rattle.std.specs.Prelude.{◌≡◌, Bool, true, false, refl}
use Rattle.linkinfo_numbers.specs.declared.tags.KindTag.{KindTag}
use Rattle.linkinfo_numbers.specs.declared.tags.KindTag.TheVariants as tag
use Rattle.linkinfo_data.specs.declared.data.DataFamily.{DataFamily}
use Rattle.linkinfo_data.specs.declared.data.DataFamily.TheVariants as of
use Rattle.linkinfo_data.specs.declared.devices.DeviceFamily.TheVariants as device
use Rattle.linkinfo_data.specs.declared.lower.LowerFamily.TheVariants as lower
use Rattle.linkinfo_data.specs.declared.peers.PeeredFamily.TheVariants as peered
use Rattle.linkinfo_data.specs.declared.tunnels.TunnelFamily.TheVariants as tunnel
use Rattle.linkinfo_data.specs.Layered.{DataOf, types_of}
use Rattle.linkinfo_data.specs.declared.info_data.InfoDataOf.TheVariants as info
use Rattle.linkinfo_data.specs.DeviceData.{devices_data_of, devices_known, devices_equal}
use Rattle.linkinfo_table.specs.Layers.{Families, IsLayer, Types}
use Rattle.linkinfo_data.specs.Known.{IsKnown}
use Rattle.linkinfo_data.specs.LowerData.{lower_data_of, lower_known, lower_refined}
use Rattle.linkinfo_data.specs.Payloads.{Payload, as_bytes}
use Rattle.linkinfo_data.specs.PeerData.{peers_data_of, peers_known, peers_equal}
use Rattle.linkinfo_data.specs.PeerFamilies.{peer_families}
use Rattle.linkinfo_data.specs.Refined.{AreEqual, Refines, bytes_equal, equal_refines}
use Rattle.linkinfo_data.specs.TunnelData.{tunnels_data_of, tunnels_known, tunnels_equal}

-- the family of a kind's data
abbrev pub family_of : KindTag → DataFamily
-- Begin: written by tables/generate from tables/kinds.
family_of tag.Bridge = of.Lower lower.Bridge
family_of tag.Tun = of.Lower lower.Tun
family_of tag.Vlan = of.Lower lower.Vlan
family_of tag.Veth = of.Peered peered.Veth
family_of tag.Vxlan = of.Tunnel tunnel.Vxlan
family_of tag.Bond = of.Lower lower.Bond
family_of tag.IpVlan = of.Device device.IpVlan
family_of tag.IpVtap = of.Device device.IpVtap
family_of tag.MacVlan = of.Device (device.MacVlan 0)
family_of tag.MacVtap = of.Device (device.MacVtap 0)
family_of tag.GreTap = of.Tunnel tunnel.GreTap
family_of tag.GreTap6 = of.Tunnel tunnel.GreTap6
family_of tag.IpIp = of.Tunnel (tunnel.IpTunnel tag.IpIp)
family_of tag.Ip6Tnl = of.Tunnel (tunnel.IpTunnel tag.Ip6Tnl)
family_of tag.SitTun = of.Tunnel (tunnel.IpTunnel tag.SitTun)
family_of tag.GreTun = of.Tunnel tunnel.GreTun
family_of tag.GreTun6 = of.Tunnel tunnel.GreTun6
family_of tag.Vti = of.Tunnel tunnel.Vti
family_of tag.Vti6 = of.Tunnel tunnel.Vti
family_of tag.Vrf = of.Device device.Vrf
family_of tag.Gtp = of.Tunnel tunnel.Gtp
family_of tag.Ipoib = of.Device device.Ipoib
family_of tag.Wireguard = of.Peered peered.Wireguard
family_of tag.Xfrm = of.Device device.Xfrm
family_of tag.MacSec = of.Device device.MacSec
family_of tag.Hsr = of.Lower lower.Hsr
family_of tag.Geneve = of.Tunnel tunnel.Geneve
family_of tag.Netkit = of.Peered peered.Netkit
family_of tag.Vxcan = of.Peered peered.Vxcan
family_of tag.Amt = of.Tunnel tunnel.Amt
family_of tag.BatAdv = of.Peered peered.BatAdv
family_of tag.BareUdp = of.Tunnel tunnel.BareUdp
family_of tag.Wwan = of.Peered peered.Wwan
family_of tag.Can = of.Lower lower.Can
family_of tag.Dsa = of.Lower lower.Dsa
family_of tag.ErSpan = of.Tunnel tunnel.ErSpan
family_of tag.Ip6ErSpan = of.Tunnel tunnel.Ip6ErSpan
family_of tag.Pfcp = of.Peered peered.Pfcp
family_of tag.RmNet = of.Device device.RmNet
-- End: written by tables/generate.
family_of _ = of.Raw

-- what payloads mean as data of a family, and the variant that holds it
abbrev pub data_of : {t : Types} → Families t → DataFamily → Payload (DataOf t)
data_of layer (of.Lower f) = lower_data_of layer f
data_of layer (of.Device f) = devices_data_of (types_of layer) f
data_of layer (of.Tunnel f) = tunnels_data_of (types_of layer) f
data_of layer (of.Peered f) = peers_data_of (types_of layer) layer.peer f
data_of layer of.Raw = as_bytes (λ bytes. info.Other bytes)

pub data_known : {t : Types} (layer : Families t) (f : DataFamily) →
    IsKnown (data_of layer f)
data_known layer (of.Lower f) = lower_known layer f
data_known layer (of.Device f) = devices_known (types_of layer) f
data_known layer (of.Tunnel f) = tunnels_known (types_of layer) f
data_known layer (of.Peered f) = peers_known (types_of layer) layer.peer f
data_known layer of.Raw = λ p. refl

-- ---- beside the layer of the same peer, whose families keep each attribute

-- a layer supplies the family
abbrev pub is_supplied : DataFamily → Bool
is_supplied (of.Lower f) = true
is_supplied _ = false

-- every other family has the same answers
pub data_equal : {t : Types} (layer : Families t) (f : DataFamily) → is_supplied f ≡ false →
    AreEqual (data_of layer f) (data_of (peer_families layer.peer) f)
data_equal layer (of.Lower f) e = absurd cc
data_equal layer (of.Device f) e = devices_equal (types_of layer) f
data_equal layer (of.Tunnel f) e = tunnels_equal (types_of layer) f
data_equal layer (of.Peered f) e = peers_equal (types_of layer) layer.peer f
data_equal layer of.Raw e = bytes_equal _ _

equal_refined : {t : Types} (layer : Families t) (f : DataFamily) → is_supplied f ≡ false →
    Refines (data_of layer f) (data_of (peer_families layer.peer) f)
equal_refined layer f e =
    equal_refines (data_of layer f) (data_of (peer_families layer.peer) f) (data_known layer f)
    (data_known (peer_families layer.peer) f) (data_equal layer f e)

pub data_refined : {t : Types} (layer : Families t) → IsLayer layer → (f : DataFamily) →
    Refines (data_of layer f) (data_of (peer_families layer.peer) f)
data_refined layer is (of.Lower f) = lower_refined layer is f
data_refined layer is (of.Device f) = equal_refined layer (of.Device f) refl
data_refined layer is (of.Tunnel f) = equal_refined layer (of.Tunnel f) refl
data_refined layer is (of.Peered f) = equal_refined layer (of.Peered f) refl
data_refined layer is of.Raw = equal_refined layer of.Raw refl
