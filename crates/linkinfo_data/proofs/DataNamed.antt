-- The errors of data and port data name their family, if those of the layer do.
use Rattle.std.specs.Prelude.{◌≡◌, [], ◌∷◌, Some}
use Rattle.nla_frame.specs.declared.error.Family.TheVariants as family
use Rattle.nla_frame.specs.declared.error.Family.{Family}
use Rattle.linkinfo_peers.specs.Netkit.{netkit_lawful}
use Rattle.linkinfo_table.specs.TableFamily.{first_named, list_named}
use Rattle.linkinfo_peers.specs.Veth.{veth_lawful}
use Rattle.linkinfo_peers.specs.Vxcan.{vxcan_lawful}
use Rattle.linkinfo_peers.specs.PeerMembers.{netkit_members, veth_members, vxcan_members}
use Rattle.linkinfo_data.specs.FamiliesLawful.{ip_tunnel_names, ip_vlan_names, mac_vlan_names}
use Rattle.linkinfo_data.specs.FamiliesLawful.{mac_vtap_names, opaque_names}
-- Begin: written by tables/generate from tables/kinds (imports).
use Rattle.linkinfo_data.specs.FamiliesLawful.{vrf_names}
use Rattle.linkinfo_data.specs.FamiliesLawful.{ipoib_names}
use Rattle.linkinfo_data.specs.FamiliesLawful.{xfrm_names}
use Rattle.linkinfo_data.specs.FamiliesLawful.{mac_sec_names}
use Rattle.linkinfo_data.specs.FamiliesLawful.{rm_net_names}
use Rattle.linkinfo_data.specs.FamiliesLawful.{vxlan_names}
use Rattle.linkinfo_data.specs.FamiliesLawful.{gre_names}
use Rattle.linkinfo_data.specs.FamiliesLawful.{gre6_names}
use Rattle.linkinfo_data.specs.FamiliesLawful.{vti_names}
use Rattle.linkinfo_data.specs.FamiliesLawful.{gtp_names}
use Rattle.linkinfo_data.specs.FamiliesLawful.{geneve_names}
use Rattle.linkinfo_data.specs.FamiliesLawful.{amt_names}
use Rattle.linkinfo_data.specs.FamiliesLawful.{bare_udp_names}
use Rattle.linkinfo_data.specs.FamiliesLawful.{bat_adv_names}
use Rattle.linkinfo_data.specs.FamiliesLawful.{wwan_names}
-- End: written by tables/generate.
use Rattle.linkinfo_table.specs.Layers.{Families, IsLayer, Types, names_of}
use Rattle.linkinfo_data.specs.Layered.{types_of}
use Rattle.linkinfo_data.specs.Data.{data_of}
use Rattle.linkinfo_data.specs.DeviceData.{devices_data_of}
use Rattle.linkinfo_data.specs.LowerData.{lower_data_of}
use Rattle.linkinfo_data.specs.Names.{AreNamed}
use Rattle.linkinfo_data.specs.Names.{ErrorsName, device_name, first_errors_name, list_errors_name}
use Rattle.linkinfo_data.specs.Names.{lower_inner, lower_name, no_name, peered_name}
use Rattle.linkinfo_data.specs.Names.{port_data_inner, port_data_name, tunnel_name, under_name}
use Rattle.linkinfo_data.specs.PeerData.{peers_data_of}
use Rattle.linkinfo_data.specs.Plain.{plain}
use Rattle.linkinfo_data.specs.PortData.{port_data_of}
use Rattle.linkinfo_data.specs.TunnelData.{tunnels_data_of}
use Rattle.linkinfo_data.specs.declared.data.DataFamily.TheVariants as of
use Rattle.linkinfo_data.specs.declared.devices.DeviceFamily.TheVariants as device
use Rattle.linkinfo_data.specs.declared.devices.DeviceFamily.{DeviceFamily}
use Rattle.linkinfo_data.specs.declared.info_data.InfoDataOf.TheVariants as info
use Rattle.linkinfo_data.specs.declared.lower.LowerFamily.TheVariants as lower
use Rattle.linkinfo_data.specs.declared.lower.LowerFamily.{LowerFamily}
use Rattle.linkinfo_data.specs.declared.peers.PeeredFamily.TheVariants as peered
use Rattle.linkinfo_data.specs.declared.peers.PeeredFamily.{PeeredFamily}
use Rattle.linkinfo_data.specs.declared.port_data.InfoPortDataOf.TheVariants as port
use Rattle.linkinfo_data.specs.declared.port_data.PortFamily.TheVariants as port_of
use Rattle.linkinfo_data.specs.declared.port_data.PortFamily.{PortFamily}
use Rattle.linkinfo_data.specs.declared.tunnels.TunnelFamily.TheVariants as tunnel
use Rattle.linkinfo_data.specs.declared.tunnels.TunnelFamily.{TunnelFamily}

pub data_named : {t : Types} (layer : Families t) → IsLayer layer → AreNamed layer
data_named layer is =
    let lower_ones : (f : LowerFamily) →
    ErrorsName (lower_name layer f ∷ lower_inner layer f) (lower_data_of layer f) = elim [
      -- Begin: written by tables/generate from tables/kinds (lower).
      | lower.Bridge ↦ list_errors_name (names_of layer.bridge) layer.bridge
          (λ xs. info.Bridge xs) is.bridge.named
      | lower.Tun ↦ list_errors_name (names_of layer.tun) layer.tun (λ xs. info.Tun xs) is.tun.named
      | lower.Vlan ↦ list_errors_name (names_of layer.vlan) layer.vlan
          (λ xs. info.Vlan xs) is.vlan.named
      | lower.Bond ↦ list_errors_name (names_of layer.bond) layer.bond
          (λ xs. info.Bond xs) is.bond.named
      | lower.Hsr ↦ list_errors_name (names_of layer.hsr) layer.hsr (λ xs. info.Hsr xs) is.hsr.named
      | lower.Can ↦ list_errors_name (names_of layer.can) layer.can (λ xs. info.Can xs) is.can.named
      | lower.Dsa ↦ list_errors_name (names_of layer.dsa) layer.dsa (λ xs. info.Dsa xs) is.dsa.named
      -- End: written by tables/generate.
    ] in
    let device_ones : (f : DeviceFamily) →
    ErrorsName (device_name layer f ∷ []) (devices_data_of (types_of layer) f) = elim [
      -- Begin: written by tables/generate from tables/kinds (device).
      | device.IpVlan ↦ list_errors_name (family.IpVlan ∷ []) plain.ip_vlan
          (λ xs. info.IpVlan xs) (ip_vlan_names family.IpVlan)
      | device.IpVtap ↦ list_errors_name (family.IpVtap ∷ []) plain.ip_vtap
          (λ xs. info.IpVtap xs) (ip_vlan_names family.IpVtap)
      | device.MacVlan lists ↦ list_errors_name (family.MacVlan ∷ []) (plain.mac_vlan lists)
          (λ xs. info.MacVlan xs) (mac_vlan_names lists)
      | device.MacVtap lists ↦ list_errors_name (family.MacVtap ∷ []) (plain.mac_vtap lists)
          (λ xs. info.MacVtap xs) (mac_vtap_names lists)
      | device.Vrf ↦ list_errors_name (family.Vrf ∷ []) plain.vrf (λ xs. info.Vrf xs) vrf_names
      | device.Ipoib ↦ list_errors_name (family.Ipoib ∷ []) plain.ipoib
          (λ xs. info.Ipoib xs) ipoib_names
      | device.Xfrm ↦ list_errors_name (family.Xfrm ∷ []) plain.xfrm (λ xs. info.Xfrm xs) xfrm_names
      | device.MacSec ↦ list_errors_name (family.MacSec ∷ []) plain.mac_sec
          (λ xs. info.MacSec xs) mac_sec_names
      | device.RmNet ↦ list_errors_name (family.RmNet ∷ []) plain.rm_net
          (λ xs. info.RmNet xs) rm_net_names
      -- End: written by tables/generate.
    ] in
    let tunnel_ones : (f : TunnelFamily) →
    ErrorsName (tunnel_name layer f ∷ []) (tunnels_data_of (types_of layer) f) = elim [
      -- Begin: written by tables/generate from tables/kinds (tunnel).
      | tunnel.Vxlan ↦ list_errors_name (family.Vxlan ∷ []) plain.vxlan
          (λ xs. info.Vxlan xs) vxlan_names
      | tunnel.GreTap ↦ list_errors_name (family.Gre ∷ []) plain.gre
          (λ xs. info.GreTap xs) gre_names
      | tunnel.GreTap6 ↦ list_errors_name (family.Gre6 ∷ []) plain.gre6
          (λ xs. info.GreTap6 xs) gre6_names
      | tunnel.IpTunnel tag ↦ list_errors_name (family.IpTunnel ∷ []) (plain.ip_tunnel tag)
          (λ xs. info.IpTunnel xs) (ip_tunnel_names tag)
      | tunnel.GreTun ↦ list_errors_name (family.Gre ∷ []) plain.gre
          (λ xs. info.GreTun xs) gre_names
      | tunnel.GreTun6 ↦ list_errors_name (family.Gre6 ∷ []) plain.gre6
          (λ xs. info.GreTun6 xs) gre6_names
      | tunnel.Vti ↦ list_errors_name (family.Vti ∷ []) plain.vti (λ xs. info.Vti xs) vti_names
      | tunnel.Gtp ↦ list_errors_name (family.Gtp ∷ []) plain.gtp (λ xs. info.Gtp xs) gtp_names
      | tunnel.Geneve ↦ list_errors_name (family.Geneve ∷ []) plain.geneve
          (λ xs. info.Geneve xs) geneve_names
      | tunnel.Amt ↦ list_errors_name (family.Amt ∷ []) plain.amt (λ xs. info.Amt xs) amt_names
      | tunnel.BareUdp ↦ list_errors_name (family.BareUdp ∷ []) plain.bare_udp
          (λ xs. info.BareUdp xs) bare_udp_names
      | tunnel.ErSpan ↦ list_errors_name (family.Gre ∷ []) plain.gre
          (λ xs. info.ErSpan xs) gre_names
      | tunnel.Ip6ErSpan ↦ list_errors_name (family.Gre6 ∷ []) plain.gre6
          (λ xs. info.Ip6ErSpan xs) gre6_names
      -- End: written by tables/generate.
    ] in
    let peered_ones : (f : PeeredFamily) → ErrorsName (peered_name layer f ∷ [])
    (peers_data_of (types_of layer) layer.peer f) =
    elim [
      -- Begin: written by tables/generate from tables/kinds (peered).
      | peered.Veth ↦ first_errors_name (family.Veth ∷ []) (veth_members layer.peer)
          (λ x. info.Veth x) (first_named (veth_lawful layer.peer is.peer) family.Veth)
      | peered.Wireguard ↦ list_errors_name (family.Wireguard ∷ []) plain.wireguard
          (λ xs. info.Wireguard xs) (opaque_names family.Wireguard)
      | peered.Netkit ↦ list_errors_name (family.Netkit ∷ []) (netkit_members layer.peer)
          (λ xs. info.Netkit xs) (list_named (netkit_lawful layer.peer is.peer) family.Netkit)
      | peered.Vxcan ↦ first_errors_name (family.Vxcan ∷ []) (vxcan_members layer.peer)
          (λ x. info.Vxcan x) (first_named (vxcan_lawful layer.peer is.peer) family.Vxcan)
      | peered.BatAdv ↦ list_errors_name (family.BatAdv ∷ []) plain.bat_adv
          (λ xs. info.BatAdv xs) bat_adv_names
      | peered.Wwan ↦ list_errors_name (family.Wwan ∷ []) plain.wwan (λ xs. info.Wwan xs) wwan_names
      | peered.Pfcp ↦ list_errors_name (family.Pfcp ∷ []) plain.pfcp (λ xs. info.Pfcp xs)
          (opaque_names family.Pfcp)
      -- End: written by tables/generate.
    ] in
    let ports : (f : PortFamily) (name : Family) → port_data_name layer f ≡ Some name →
    ErrorsName (name ∷ port_data_inner layer f) (port_data_of layer f) = elim [
      | port_of.Bond ↦ λ name e. under_name (port_data_of layer port_of.Bond) layer.bond_port.family
          name layer.bond_port.inner e (list_errors_name (names_of layer.bond_port) layer.bond_port
          (λ xs. port.BondPort xs) is.bond_port.named)
      | port_of.Bridge ↦ λ name e. under_name (port_data_of layer port_of.Bridge)
          layer.bridge_port.family name layer.bridge_port.inner e
          (list_errors_name (names_of layer.bridge_port) layer.bridge_port
          (λ xs. port.BridgePort xs) is.bridge_port.named)
      | port_of.Team ↦ λ name e. under_name (port_data_of layer port_of.Team) family.TeamPort name
          []
          e (list_errors_name (family.TeamPort ∷ []) plain.team_port (λ xs. port.TeamPort xs)
          (opaque_names family.TeamPort))
      | port_of.Vrf ↦ λ name e. under_name (port_data_of layer port_of.Vrf) family.Vrf name [] e
          (list_errors_name (family.Vrf ∷ []) plain.vrf_port (λ xs. port.VrfPort xs) vrf_names)
      | port_of.Raw ↦ λ name e. absurd (no_name name e)
    ] in
    record {
      link = elim [
        | of.Lower f ↦ λ name e. under_name (data_of layer (of.Lower f)) (lower_name layer f) name
            (lower_inner layer f) e
            (lower_ones f)
        | of.Device f ↦ λ name e. under_name (data_of layer (of.Device f)) (device_name layer f)
            name
            [] e
            (device_ones f)
        | of.Tunnel f ↦ λ name e. under_name (data_of layer (of.Tunnel f)) (tunnel_name layer f)
            name
            [] e
            (tunnel_ones f)
        | of.Peered f ↦ λ name e. under_name (data_of layer (of.Peered f)) (peered_name layer f)
            name
            [] e
            (peered_ones f)
        | of.Raw ↦ λ name e. absurd (no_name name e)
      ];
      port = ports;
    }
