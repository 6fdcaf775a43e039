-- Which data of each family is well formed, given which values are of the families that the layer
-- supplies.
use Rattle.linkinfo_devices.specs.Conditions.{ip_vlan_conditions, ip_vlan_stated}
use Rattle.linkinfo_devices.specs.Conditions.{mac_vlan_conditions, mac_vlan_stated}
use Rattle.linkinfo_devices.specs.Conditions.{mac_vtap_conditions, mac_vtap_stated}
use Rattle.linkinfo_peers.specs.Conditions.{netkit_conditions, netkit_stated}
use Rattle.linkinfo_peers.specs.Conditions.{veth_conditions, veth_stated}
use Rattle.linkinfo_peers.specs.Conditions.{vxcan_conditions, vxcan_stated}
use Rattle.linkinfo_table.specs.Conditions.{opaque_conditions, opaque_stated}
use Rattle.linkinfo_tunnels.specs.Conditions.{ip_tunnel_conditions, ip_tunnel_stated}
-- Begin: written by tables/generate from tables/kinds (imports).
use Rattle.linkinfo_devices.specs.Conditions.{vrf_conditions, vrf_stated}
use Rattle.linkinfo_devices.specs.Conditions.{ipoib_conditions, ipoib_stated}
use Rattle.linkinfo_devices.specs.Conditions.{xfrm_conditions, xfrm_stated}
use Rattle.linkinfo_devices.specs.Conditions.{mac_sec_conditions, mac_sec_stated}
use Rattle.linkinfo_devices.specs.Conditions.{rm_net_conditions, rm_net_stated}
use Rattle.linkinfo_tunnels.specs.Conditions.{vxlan_conditions, vxlan_stated}
use Rattle.linkinfo_tunnels.specs.Conditions.{gre_conditions, gre_stated}
use Rattle.linkinfo_tunnels.specs.Conditions.{gre6_conditions, gre6_stated}
use Rattle.linkinfo_tunnels.specs.Conditions.{vti_conditions, vti_stated}
use Rattle.linkinfo_tunnels.specs.Conditions.{gtp_conditions, gtp_stated}
use Rattle.linkinfo_tunnels.specs.Conditions.{geneve_conditions, geneve_stated}
use Rattle.linkinfo_tunnels.specs.Conditions.{amt_conditions, amt_stated}
use Rattle.linkinfo_tunnels.specs.Conditions.{bare_udp_conditions, bare_udp_stated}
use Rattle.linkinfo_peers.specs.Conditions.{bat_adv_conditions, bat_adv_stated}
use Rattle.linkinfo_peers.specs.Conditions.{wwan_conditions, wwan_stated}
-- End: written by tables/generate.
use Rattle.linkinfo_table.specs.Layers.{Families, Types}
use Rattle.linkinfo_peers.specs.PeerMembers.{netkit_members, veth_members, vxcan_members}
use Rattle.linkinfo_data.specs.Layered.{types_of}
use Rattle.linkinfo_data.specs.Conditions.{AreOfLayer, AreStated, FamilyConditions, IsStated}
use Rattle.linkinfo_data.specs.Conditions.{conditions_of}
use Rattle.linkinfo_data.specs.DataFamilies.{data_families}
use Rattle.linkinfo_data.specs.Conditions.{device_conditions, list_stated}
use Rattle.linkinfo_data.specs.Conditions.{lower_conditions, one_stated, peered_conditions}
use Rattle.linkinfo_data.specs.Conditions.{port_data_conditions, tunnel_conditions}
use Rattle.linkinfo_data.specs.DeviceData.{devices_data_of}
use Rattle.linkinfo_data.specs.LowerData.{lower_data_of}
use Rattle.linkinfo_data.specs.PeerData.{peers_data_of}
use Rattle.linkinfo_data.specs.Plain.{plain}
use Rattle.linkinfo_data.specs.PortData.{port_data_of}
use Rattle.linkinfo_data.specs.TunnelData.{tunnels_data_of}
use Rattle.linkinfo_data.specs.declared.data.DataFamily.TheVariants as of
use Rattle.linkinfo_data.specs.declared.devices.DeviceFamily.TheVariants as device
use Rattle.linkinfo_data.specs.declared.devices.DeviceFamily.{DeviceFamily}
use Rattle.linkinfo_data.specs.declared.info_data.InfoDataOf.TheVariants as info
use Rattle.linkinfo_data.specs.declared.lower.LowerFamily.TheVariants as lower
use Rattle.linkinfo_data.specs.declared.lower.LowerFamily.{LowerFamily}
use Rattle.linkinfo_data.specs.declared.peers.PeeredFamily.TheVariants as peered
use Rattle.linkinfo_data.specs.declared.peers.PeeredFamily.{PeeredFamily}
use Rattle.linkinfo_data.specs.declared.port_data.InfoPortDataOf.TheVariants as port
use Rattle.linkinfo_data.specs.declared.port_data.PortFamily.TheVariants as port_of
use Rattle.linkinfo_data.specs.declared.port_data.PortFamily.{PortFamily}
use Rattle.linkinfo_data.specs.declared.tunnels.TunnelFamily.TheVariants as tunnel
use Rattle.linkinfo_data.specs.declared.tunnels.TunnelFamily.{TunnelFamily}

pub data_stated : {t : Types} (layer : Families t) (well : FamilyConditions t) →
    AreOfLayer layer well →
    AreStated (data_families layer) (conditions_of layer.peer.well well)
data_stated layer well is =
    let lower_ones : (f : LowerFamily) →
    IsStated (lower_data_of layer f) (λ d. lower_conditions layer.peer.well well f d) = elim [
      -- Begin: written by tables/generate from tables/kinds (lower).
      | lower.Bridge ↦ list_stated layer.bridge (λ xs. info.Bridge xs) well.bridge is.bridge
      | lower.Tun ↦ list_stated layer.tun (λ xs. info.Tun xs) well.tun is.tun
      | lower.Vlan ↦ list_stated layer.vlan (λ xs. info.Vlan xs) well.vlan is.vlan
      | lower.Bond ↦ list_stated layer.bond (λ xs. info.Bond xs) well.bond is.bond
      | lower.Hsr ↦ list_stated layer.hsr (λ xs. info.Hsr xs) well.hsr is.hsr
      | lower.Can ↦ list_stated layer.can (λ xs. info.Can xs) well.can is.can
      | lower.Dsa ↦ list_stated layer.dsa (λ xs. info.Dsa xs) well.dsa is.dsa
      -- End: written by tables/generate.
    ] in
    let device_ones : (f : DeviceFamily) →
    IsStated (devices_data_of (types_of layer) f) (λ d. device_conditions layer.peer.well well f d)
    = elim [
      -- Begin: written by tables/generate from tables/kinds (device).
      | device.IpVlan ↦ list_stated plain.ip_vlan
          (λ xs. info.IpVlan xs) ip_vlan_conditions ip_vlan_stated
      | device.IpVtap ↦ list_stated plain.ip_vtap
          (λ xs. info.IpVtap xs) ip_vlan_conditions ip_vlan_stated
      | device.MacVlan lists ↦ list_stated (plain.mac_vlan lists) (λ xs. info.MacVlan xs)
          (mac_vlan_conditions lists) (mac_vlan_stated lists)
      | device.MacVtap lists ↦ list_stated (plain.mac_vtap lists) (λ xs. info.MacVtap xs)
          (mac_vtap_conditions lists) (mac_vtap_stated lists)
      | device.Vrf ↦ list_stated plain.vrf (λ xs. info.Vrf xs) vrf_conditions vrf_stated
      | device.Ipoib ↦ list_stated plain.ipoib (λ xs. info.Ipoib xs) ipoib_conditions ipoib_stated
      | device.Xfrm ↦ list_stated plain.xfrm (λ xs. info.Xfrm xs) xfrm_conditions xfrm_stated
      | device.MacSec ↦ list_stated plain.mac_sec
          (λ xs. info.MacSec xs) mac_sec_conditions mac_sec_stated
      | device.RmNet ↦ list_stated plain.rm_net
          (λ xs. info.RmNet xs) rm_net_conditions rm_net_stated
      -- End: written by tables/generate.
    ] in
    let tunnel_ones : (f : TunnelFamily) →
    IsStated (tunnels_data_of (types_of layer) f) (λ d. tunnel_conditions layer.peer.well well f d)
    = elim [
      -- Begin: written by tables/generate from tables/kinds (tunnel).
      | tunnel.Vxlan ↦ list_stated plain.vxlan (λ xs. info.Vxlan xs) vxlan_conditions vxlan_stated
      | tunnel.GreTap ↦ list_stated plain.gre (λ xs. info.GreTap xs) gre_conditions gre_stated
      | tunnel.GreTap6 ↦ list_stated plain.gre6 (λ xs. info.GreTap6 xs) gre6_conditions gre6_stated
      | tunnel.IpTunnel tag ↦ list_stated (plain.ip_tunnel tag) (λ xs. info.IpTunnel xs)
          (ip_tunnel_conditions tag) (ip_tunnel_stated tag)
      | tunnel.GreTun ↦ list_stated plain.gre (λ xs. info.GreTun xs) gre_conditions gre_stated
      | tunnel.GreTun6 ↦ list_stated plain.gre6 (λ xs. info.GreTun6 xs) gre6_conditions gre6_stated
      | tunnel.Vti ↦ list_stated plain.vti (λ xs. info.Vti xs) vti_conditions vti_stated
      | tunnel.Gtp ↦ list_stated plain.gtp (λ xs. info.Gtp xs) gtp_conditions gtp_stated
      | tunnel.Geneve ↦ list_stated plain.geneve
          (λ xs. info.Geneve xs) geneve_conditions geneve_stated
      | tunnel.Amt ↦ list_stated plain.amt (λ xs. info.Amt xs) amt_conditions amt_stated
      | tunnel.BareUdp ↦ list_stated plain.bare_udp
          (λ xs. info.BareUdp xs) bare_udp_conditions bare_udp_stated
      | tunnel.ErSpan ↦ list_stated plain.gre (λ xs. info.ErSpan xs) gre_conditions gre_stated
      | tunnel.Ip6ErSpan ↦ list_stated plain.gre6
          (λ xs. info.Ip6ErSpan xs) gre6_conditions gre6_stated
      -- End: written by tables/generate.
    ] in
    let peered_ones : (f : PeeredFamily) →
    IsStated (peers_data_of (types_of layer) layer.peer f)
    (λ d. peered_conditions layer.peer.well well f d) = elim [
      -- Begin: written by tables/generate from tables/kinds (peered).
      | peered.Veth ↦ one_stated (veth_members layer.peer) (λ x. info.Veth x)
          (veth_conditions layer.peer.well)
          (veth_stated layer.peer.meaning layer.peer.alike layer.peer.canonical layer.peer.well)
      | peered.Wireguard ↦ list_stated plain.wireguard
          (λ xs. info.Wireguard xs) opaque_conditions opaque_stated
      | peered.Netkit ↦ list_stated (netkit_members layer.peer) (λ xs. info.Netkit xs)
          (netkit_conditions layer.peer.well)
          (netkit_stated layer.peer.meaning layer.peer.alike layer.peer.canonical layer.peer.well)
      | peered.Vxcan ↦ one_stated (vxcan_members layer.peer) (λ x. info.Vxcan x)
          (vxcan_conditions layer.peer.well)
          (vxcan_stated layer.peer.meaning layer.peer.alike layer.peer.canonical layer.peer.well)
      | peered.BatAdv ↦ list_stated plain.bat_adv
          (λ xs. info.BatAdv xs) bat_adv_conditions bat_adv_stated
      | peered.Wwan ↦ list_stated plain.wwan (λ xs. info.Wwan xs) wwan_conditions wwan_stated
      | peered.Pfcp ↦ list_stated plain.pfcp (λ xs. info.Pfcp xs) opaque_conditions opaque_stated
      -- End: written by tables/generate.
    ] in
    let ports : (f : PortFamily) → IsStated (port_data_of layer f)
    (λ d. port_data_conditions layer.peer.well well f d) =
    elim [
      | port_of.Bond ↦ list_stated layer.bond_port
          (λ xs. port.BondPort xs) well.bond_port is.bond_port
      | port_of.Bridge ↦ list_stated layer.bridge_port
          (λ xs. port.BridgePort xs) well.bridge_port is.bridge_port
      | port_of.Team ↦ list_stated plain.team_port
          (λ xs. port.TeamPort xs) opaque_conditions opaque_stated
      | port_of.Vrf ↦ list_stated plain.vrf_port (λ xs. port.VrfPort xs) vrf_conditions vrf_stated
      | port_of.Raw ↦ λ d. (λ w. w, λ h. h)
    ] in
    record {
      link = elim [
        | of.Lower f ↦ lower_ones f
        | of.Device f ↦ device_ones f
        | of.Tunnel f ↦ tunnel_ones f
        | of.Peered f ↦ peered_ones f
        | of.Raw ↦ λ d. (λ w. w, λ h. h)
      ];
      port = ports;
    }
