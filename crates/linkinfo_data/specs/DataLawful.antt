-- Data and port data of each family are lawful, if the layer is.
use Rattle.std.specs.Prelude.{false, refl}
use Rattle.nla_frame.specs.declared.error.Family.TheVariants as family
use Rattle.linkinfo_devices.specs.Macvlan.{mac_vlan_is}
use Rattle.linkinfo_devices.specs.Macvtap.{mac_vtap_is}
use Rattle.linkinfo_peers.specs.Netkit.{netkit_lawful}
use Rattle.linkinfo_peers.specs.Veth.{veth_lawful}
use Rattle.linkinfo_peers.specs.Vxcan.{vxcan_lawful}
use Rattle.linkinfo_peers.specs.PeerRows.{peer_contained, peer_contents}
use Rattle.linkinfo_peers.specs.PeerMembers.{netkit_members, veth_members, vxcan_members}
use Rattle.linkinfo_data.specs.FamiliesLawful.{ip_tunnel_is, ip_vlan_is, opaque_is}
-- Begin: written by tables/generate from tables/kinds (imports).
use Rattle.linkinfo_data.specs.FamiliesLawful.{vrf_is}
use Rattle.linkinfo_data.specs.FamiliesLawful.{ipoib_is}
use Rattle.linkinfo_data.specs.FamiliesLawful.{xfrm_is}
use Rattle.linkinfo_data.specs.FamiliesLawful.{mac_sec_is}
use Rattle.linkinfo_data.specs.FamiliesLawful.{rm_net_is}
use Rattle.linkinfo_data.specs.FamiliesLawful.{vxlan_is}
use Rattle.linkinfo_data.specs.FamiliesLawful.{gre_is}
use Rattle.linkinfo_data.specs.FamiliesLawful.{gre6_is}
use Rattle.linkinfo_data.specs.FamiliesLawful.{vti_is}
use Rattle.linkinfo_data.specs.FamiliesLawful.{gtp_is}
use Rattle.linkinfo_data.specs.FamiliesLawful.{geneve_is}
use Rattle.linkinfo_data.specs.FamiliesLawful.{amt_is}
use Rattle.linkinfo_data.specs.FamiliesLawful.{bare_udp_is}
use Rattle.linkinfo_data.specs.FamiliesLawful.{bat_adv_is}
use Rattle.linkinfo_data.specs.FamiliesLawful.{wwan_is}
-- End: written by tables/generate.
use Rattle.linkinfo_table.specs.Layers.{Families, IsLayer, Types}
use Rattle.linkinfo_data.specs.Layered.{types_of}
use Rattle.linkinfo_data.specs.DataFamilies.{data_families}
use Rattle.linkinfo_data.specs.DeviceData.{devices_data_of}
use Rattle.linkinfo_data.specs.InfoData.{data_payload}
use Rattle.linkinfo_data.specs.Lawful.{AreLawful}
use Rattle.linkinfo_data.specs.LowerData.{lower_data_of}
use Rattle.linkinfo_data.specs.Payloads.{IsLawful, as_bytes_is_lawful, as_first_is_lawful}
use Rattle.linkinfo_data.specs.Payloads.{as_list_is_lawful}
use Rattle.linkinfo_data.specs.PeerData.{peers_data_of}
use Rattle.linkinfo_data.specs.Plain.{plain}
use Rattle.linkinfo_data.specs.PortData.{port_data_of, port_data_payload}
use Rattle.linkinfo_data.specs.TunnelData.{tunnels_data_of}
use Rattle.linkinfo_data.specs.declared.data.DataFamily.TheVariants as of
use Rattle.linkinfo_data.specs.declared.devices.DeviceFamily.TheVariants as device
use Rattle.linkinfo_data.specs.declared.devices.DeviceFamily.{DeviceFamily}
use Rattle.linkinfo_data.specs.declared.info_data.InfoDataOf.TheVariants as info
use Rattle.linkinfo_data.specs.declared.lower.LowerFamily.TheVariants as lower
use Rattle.linkinfo_data.specs.declared.lower.LowerFamily.{LowerFamily}
use Rattle.linkinfo_data.specs.declared.peers.PeeredFamily.TheVariants as peered
use Rattle.linkinfo_data.specs.declared.peers.PeeredFamily.{PeeredFamily}
use Rattle.linkinfo_data.specs.declared.port_data.InfoPortDataOf.TheVariants as port
use Rattle.linkinfo_data.specs.declared.port_data.PortFamily.TheVariants as port_of
use Rattle.linkinfo_data.specs.declared.port_data.PortFamily.{PortFamily}
use Rattle.linkinfo_data.specs.declared.tunnels.TunnelFamily.TheVariants as tunnel
use Rattle.linkinfo_data.specs.declared.tunnels.TunnelFamily.{TunnelFamily}

pub data_lawful : {t : Types} (layer : Families t) → IsLayer layer →
    AreLawful (data_families layer)
unfolding data_payload port_data_payload
data_lawful layer is =
    let lower_ones : (f : LowerFamily) →
    IsLawful (lower_data_of layer f) (data_payload layer) = elim [
      -- Begin: written by tables/generate from tables/kinds (lower).
      | lower.Bridge ↦ as_list_is_lawful layer.bridge is.bridge.laws (λ xs. info.Bridge xs)
          (data_payload layer) (λ _. refl) (λ x y e. cc)
      | lower.Tun ↦ as_list_is_lawful layer.tun is.tun.laws (λ xs. info.Tun xs)
          (data_payload layer) (λ _. refl) (λ x y e. cc)
      | lower.Vlan ↦ as_list_is_lawful layer.vlan is.vlan.laws (λ xs. info.Vlan xs)
          (data_payload layer) (λ _. refl) (λ x y e. cc)
      | lower.Bond ↦ as_list_is_lawful layer.bond is.bond.laws (λ xs. info.Bond xs)
          (data_payload layer) (λ _. refl) (λ x y e. cc)
      | lower.Hsr ↦ as_list_is_lawful layer.hsr is.hsr.laws (λ xs. info.Hsr xs)
          (data_payload layer) (λ _. refl) (λ x y e. cc)
      | lower.Can ↦ as_list_is_lawful layer.can is.can.laws (λ xs. info.Can xs)
          (data_payload layer) (λ _. refl) (λ x y e. cc)
      | lower.Dsa ↦ as_list_is_lawful layer.dsa is.dsa.laws (λ xs. info.Dsa xs)
          (data_payload layer) (λ _. refl) (λ x y e. cc)
      -- End: written by tables/generate.
    ] in
    let device_ones : (f : DeviceFamily) →
    IsLawful (devices_data_of (types_of layer) f) (data_payload layer) = elim [
      -- Begin: written by tables/generate from tables/kinds (device).
      | device.IpVlan ↦ as_list_is_lawful plain.ip_vlan (ip_vlan_is family.IpVlan)
          (λ xs. info.IpVlan xs) (data_payload layer) (λ _. refl) (λ x y e. cc)
      | device.IpVtap ↦ as_list_is_lawful plain.ip_vtap (ip_vlan_is family.IpVtap)
          (λ xs. info.IpVtap xs) (data_payload layer) (λ _. refl) (λ x y e. cc)
      | device.MacVlan lists ↦ as_list_is_lawful (plain.mac_vlan lists) (mac_vlan_is lists)
          (λ xs. info.MacVlan xs)
          (data_payload layer) (λ _. refl) (λ x y e. cc)
      | device.MacVtap lists ↦ as_list_is_lawful (plain.mac_vtap lists) (mac_vtap_is lists)
          (λ xs. info.MacVtap xs)
          (data_payload layer) (λ _. refl) (λ x y e. cc)
      | device.Vrf ↦ as_list_is_lawful plain.vrf vrf_is (λ xs. info.Vrf xs) (data_payload layer)
          (λ _. refl) (λ x y e. cc)
      | device.Ipoib ↦ as_list_is_lawful plain.ipoib ipoib_is (λ xs. info.Ipoib xs)
          (data_payload layer) (λ _. refl) (λ x y e. cc)
      | device.Xfrm ↦ as_list_is_lawful plain.xfrm xfrm_is (λ xs. info.Xfrm xs) (data_payload layer)
          (λ _. refl) (λ x y e. cc)
      | device.MacSec ↦ as_list_is_lawful plain.mac_sec mac_sec_is (λ xs. info.MacSec xs)
          (data_payload layer) (λ _. refl) (λ x y e. cc)
      | device.RmNet ↦ as_list_is_lawful plain.rm_net rm_net_is (λ xs. info.RmNet xs)
          (data_payload layer) (λ _. refl) (λ x y e. cc)
      -- End: written by tables/generate.
    ] in
    let tunnel_ones : (f : TunnelFamily) →
    IsLawful (tunnels_data_of (types_of layer) f) (data_payload layer) = elim [
      -- Begin: written by tables/generate from tables/kinds (tunnel).
      | tunnel.Vxlan ↦ as_list_is_lawful plain.vxlan vxlan_is (λ xs. info.Vxlan xs)
          (data_payload layer) (λ _. refl) (λ x y e. cc)
      | tunnel.GreTap ↦ as_list_is_lawful plain.gre gre_is (λ xs. info.GreTap xs)
          (data_payload layer) (λ _. refl) (λ x y e. cc)
      | tunnel.GreTap6 ↦ as_list_is_lawful plain.gre6 gre6_is (λ xs. info.GreTap6 xs)
          (data_payload layer) (λ _. refl) (λ x y e. cc)
      | tunnel.IpTunnel tag ↦ as_list_is_lawful (plain.ip_tunnel tag) (ip_tunnel_is tag)
          (λ xs. info.IpTunnel xs) (data_payload layer) (λ _. refl) (λ x y e. cc)
      | tunnel.GreTun ↦ as_list_is_lawful plain.gre gre_is (λ xs. info.GreTun xs)
          (data_payload layer) (λ _. refl) (λ x y e. cc)
      | tunnel.GreTun6 ↦ as_list_is_lawful plain.gre6 gre6_is (λ xs. info.GreTun6 xs)
          (data_payload layer) (λ _. refl) (λ x y e. cc)
      | tunnel.Vti ↦ as_list_is_lawful plain.vti vti_is (λ xs. info.Vti xs) (data_payload layer)
          (λ _. refl) (λ x y e. cc)
      | tunnel.Gtp ↦ as_list_is_lawful plain.gtp gtp_is (λ xs. info.Gtp xs) (data_payload layer)
          (λ _. refl) (λ x y e. cc)
      | tunnel.Geneve ↦ as_list_is_lawful plain.geneve geneve_is (λ xs. info.Geneve xs)
          (data_payload layer) (λ _. refl) (λ x y e. cc)
      | tunnel.Amt ↦ as_list_is_lawful plain.amt amt_is (λ xs. info.Amt xs) (data_payload layer)
          (λ _. refl) (λ x y e. cc)
      | tunnel.BareUdp ↦ as_list_is_lawful plain.bare_udp bare_udp_is (λ xs. info.BareUdp xs)
          (data_payload layer) (λ _. refl) (λ x y e. cc)
      | tunnel.ErSpan ↦ as_list_is_lawful plain.gre gre_is (λ xs. info.ErSpan xs)
          (data_payload layer) (λ _. refl) (λ x y e. cc)
      | tunnel.Ip6ErSpan ↦ as_list_is_lawful plain.gre6 gre6_is (λ xs. info.Ip6ErSpan xs)
          (data_payload layer) (λ _. refl) (λ x y e. cc)
      -- End: written by tables/generate.
    ] in
    let peered_ones : (f : PeeredFamily) →
    IsLawful (peers_data_of (types_of layer) layer.peer f) (data_payload layer) = elim [
      -- Begin: written by tables/generate from tables/kinds (peered).
      | peered.Veth ↦ as_first_is_lawful (veth_members layer.peer)
          ((veth_lawful layer.peer is.peer).laws family.Veth peer_contents false
          (peer_contained _ _))
          (λ x. info.Veth x) (data_payload layer) (λ _. refl) (λ x y e. cc)
      | peered.Wireguard ↦ as_list_is_lawful plain.wireguard (opaque_is family.Wireguard)
          (λ xs. info.Wireguard xs) (data_payload layer) (λ _. refl) (λ x y e. cc)
      | peered.Netkit ↦ as_list_is_lawful (netkit_members layer.peer)
          ((netkit_lawful layer.peer is.peer).laws family.Netkit peer_contents false
          (peer_contained _ _))
          (λ xs. info.Netkit xs) (data_payload layer) (λ _. refl) (λ x y e. cc)
      | peered.Vxcan ↦ as_first_is_lawful (vxcan_members layer.peer)
          ((vxcan_lawful layer.peer is.peer).laws family.Vxcan peer_contents false
          (peer_contained _ _))
          (λ x. info.Vxcan x) (data_payload layer) (λ _. refl) (λ x y e. cc)
      | peered.BatAdv ↦ as_list_is_lawful plain.bat_adv bat_adv_is (λ xs. info.BatAdv xs)
          (data_payload layer) (λ _. refl) (λ x y e. cc)
      | peered.Wwan ↦ as_list_is_lawful plain.wwan wwan_is (λ xs. info.Wwan xs) (data_payload layer)
          (λ _. refl) (λ x y e. cc)
      | peered.Pfcp ↦ as_list_is_lawful plain.pfcp (opaque_is family.Pfcp) (λ xs. info.Pfcp xs)
          (data_payload layer) (λ _. refl) (λ x y e. cc)
      -- End: written by tables/generate.
    ] in
    let ports : (f : PortFamily) →
    IsLawful (port_data_of layer f) (port_data_payload layer) = elim [
      | port_of.Bond ↦ as_list_is_lawful layer.bond_port is.bond_port.laws
          (λ xs. port.BondPort xs) (port_data_payload layer) (λ _. refl) (λ x y e. cc)
      | port_of.Bridge ↦ as_list_is_lawful layer.bridge_port is.bridge_port.laws
          (λ xs. port.BridgePort xs) (port_data_payload layer) (λ _. refl) (λ x y e. cc)
      | port_of.Team ↦ as_list_is_lawful plain.team_port (opaque_is family.TeamPort)
          (λ xs. port.TeamPort xs) (port_data_payload layer) (λ _. refl) (λ x y e. cc)
      | port_of.Vrf ↦ as_list_is_lawful plain.vrf_port vrf_is
          (λ xs. port.VrfPort xs) (port_data_payload layer) (λ _. refl) (λ x y e. cc)
      | port_of.Raw ↦ as_bytes_is_lawful (λ bytes. port.Other bytes) (port_data_payload layer)
          (λ _. refl)
          (λ x y e. cc)
    ] in
    record {
      link = elim [
        | of.Lower f ↦ lower_ones f
        | of.Device f ↦ device_ones f
        | of.Tunnel f ↦ tunnel_ones f
        | of.Peered f ↦ peered_ones f
        | of.Raw ↦ as_bytes_is_lawful (λ bytes. info.Other bytes) (data_payload layer)
            (λ _. refl) (λ x y e. cc)
      ];
      port = ports;
    }
