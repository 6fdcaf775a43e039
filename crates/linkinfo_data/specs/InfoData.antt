-- The canonical payload of data. The encoding of an attribute of ipip, sit and ip6tnl does not
-- depend on the kind, so the tag of any of the three is used for all.
use Rattle.std.specs.Prelude.{ℕ, List, map}
use Rattle.nla_frame.specs.Attribute.{Attribute, canonical_string, list_string}
use Rattle.linkinfo_numbers.specs.declared.tags.KindTag.TheVariants as tag
use Rattle.linkinfo_peers.specs.PeerMembers.{netkit_members, veth_members, vxcan_members}
use Rattle.linkinfo_data.specs.Layered.{DataOf}
use Rattle.linkinfo_data.specs.declared.info_data.InfoDataOf.TheVariants as info
use Rattle.linkinfo_table.specs.Layers.{Families, Types}
use Rattle.linkinfo_data.specs.Plain.{plain}

-- Opaque, so that proofs about data do not unfold the rows of all families.
unfoldable pub data_payload : {t : Types} → Families t → DataOf t → List ℕ
-- Begin: written by tables/generate from tables/kinds.
data_payload layer (info.Bridge xs) = list_string (map layer.bridge.attribute xs)
data_payload layer (info.Tun xs) = list_string (map layer.tun.attribute xs)
data_payload layer (info.Vlan xs) = list_string (map layer.vlan.attribute xs)
data_payload layer (info.Veth x) = canonical_string ((veth_members layer.peer).attribute x)
data_payload layer (info.Vxlan xs) = list_string (map plain.vxlan.attribute xs)
data_payload layer (info.Bond xs) = list_string (map layer.bond.attribute xs)
data_payload layer (info.IpVlan xs) = list_string (map plain.ip_vlan.attribute xs)
data_payload layer (info.IpVtap xs) = list_string (map plain.ip_vtap.attribute xs)
data_payload layer (info.MacVlan xs) = list_string (map (plain.mac_vlan 0).attribute xs)
data_payload layer (info.MacVtap xs) = list_string (map (plain.mac_vtap 0).attribute xs)
data_payload layer (info.GreTap xs) = list_string (map plain.gre.attribute xs)
data_payload layer (info.GreTap6 xs) = list_string (map plain.gre6.attribute xs)
data_payload layer (info.IpTunnel xs) = list_string (map (plain.ip_tunnel tag.IpIp).attribute xs)
data_payload layer (info.GreTun xs) = list_string (map plain.gre.attribute xs)
data_payload layer (info.GreTun6 xs) = list_string (map plain.gre6.attribute xs)
data_payload layer (info.Vti xs) = list_string (map plain.vti.attribute xs)
data_payload layer (info.Vrf xs) = list_string (map plain.vrf.attribute xs)
data_payload layer (info.Gtp xs) = list_string (map plain.gtp.attribute xs)
data_payload layer (info.Ipoib xs) = list_string (map plain.ipoib.attribute xs)
data_payload layer (info.Wireguard xs) = list_string (map plain.wireguard.attribute xs)
data_payload layer (info.Xfrm xs) = list_string (map plain.xfrm.attribute xs)
data_payload layer (info.MacSec xs) = list_string (map plain.mac_sec.attribute xs)
data_payload layer (info.Hsr xs) = list_string (map layer.hsr.attribute xs)
data_payload layer (info.Geneve xs) = list_string (map plain.geneve.attribute xs)
data_payload layer (info.Netkit xs) = list_string (map (netkit_members layer.peer).attribute xs)
data_payload layer (info.Vxcan x) = canonical_string ((vxcan_members layer.peer).attribute x)
data_payload layer (info.Amt xs) = list_string (map plain.amt.attribute xs)
data_payload layer (info.BatAdv xs) = list_string (map plain.bat_adv.attribute xs)
data_payload layer (info.BareUdp xs) = list_string (map plain.bare_udp.attribute xs)
data_payload layer (info.Wwan xs) = list_string (map plain.wwan.attribute xs)
data_payload layer (info.Can xs) = list_string (map layer.can.attribute xs)
data_payload layer (info.Dsa xs) = list_string (map layer.dsa.attribute xs)
data_payload layer (info.ErSpan xs) = list_string (map plain.gre.attribute xs)
data_payload layer (info.Ip6ErSpan xs) = list_string (map plain.gre6.attribute xs)
data_payload layer (info.Pfcp xs) = list_string (map plain.pfcp.attribute xs)
data_payload layer (info.RmNet xs) = list_string (map plain.rm_net.attribute xs)
-- End: written by tables/generate.
data_payload layer (info.Other bytes) = bytes

-- the canonical attribute of data
abbrev pub data_attribute : {t : Types} → Families t → DataOf t → Attribute
data_attribute layer d = record { kind = 2; value = data_payload layer d }
