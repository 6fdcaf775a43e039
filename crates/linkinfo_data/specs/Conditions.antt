-- Which data and which port data are well formed under a family: those of the family's variant, of
-- which each attribute is well formed.
use Rattle.std.specs.Prelude.{◌↔◌, List}
use Rattle.std.specs.List.{AllByRecursion}
use Rattle.nla_frame.specs.Attribute.{IsBytes}
use Rattle.linkinfo_devices.specs.Conditions.{ip_vlan_conditions}
use Rattle.linkinfo_devices.specs.Conditions.{mac_vlan_conditions, mac_vtap_conditions}
use Rattle.linkinfo_peers.specs.Conditions.{netkit_conditions, veth_conditions, vxcan_conditions}
use Rattle.linkinfo_table.specs.Conditions.{each_stated, opaque_conditions}
use Rattle.linkinfo_table.specs.Members.{Members}
use Rattle.linkinfo_tunnels.specs.Conditions.{ip_tunnel_conditions}
-- Begin: written by tables/generate from tables/kinds (imports).
use Rattle.linkinfo_devices.specs.Conditions.{vrf_conditions}
use Rattle.linkinfo_devices.specs.Conditions.{ipoib_conditions}
use Rattle.linkinfo_devices.specs.Conditions.{xfrm_conditions}
use Rattle.linkinfo_devices.specs.Conditions.{mac_sec_conditions}
use Rattle.linkinfo_devices.specs.Conditions.{rm_net_conditions}
use Rattle.linkinfo_tunnels.specs.Conditions.{vxlan_conditions}
use Rattle.linkinfo_tunnels.specs.Conditions.{gre_conditions}
use Rattle.linkinfo_tunnels.specs.Conditions.{gre6_conditions}
use Rattle.linkinfo_tunnels.specs.Conditions.{vti_conditions}
use Rattle.linkinfo_tunnels.specs.Conditions.{gtp_conditions}
use Rattle.linkinfo_tunnels.specs.Conditions.{geneve_conditions}
use Rattle.linkinfo_tunnels.specs.Conditions.{amt_conditions}
use Rattle.linkinfo_tunnels.specs.Conditions.{bare_udp_conditions}
use Rattle.linkinfo_peers.specs.Conditions.{bat_adv_conditions}
use Rattle.linkinfo_peers.specs.Conditions.{wwan_conditions}
-- End: written by tables/generate.
use Rattle.linkinfo_data.specs.DataFamilies.{DataFamilies, DataTypes, data_types}
use Rattle.linkinfo_table.specs.Layers.{Families, Types}
use Rattle.linkinfo_data.specs.Payloads.{Labelled, Payload, as_first, as_list}
use Rattle.linkinfo_data.specs.declared.data.DataFamily.{DataFamily}
use Rattle.linkinfo_data.specs.declared.data.DataFamily.TheVariants as of
use Rattle.linkinfo_data.specs.declared.devices.DeviceFamily.{DeviceFamily}
use Rattle.linkinfo_data.specs.declared.devices.DeviceFamily.TheVariants as device
use Rattle.linkinfo_data.specs.Layered.{DataOf, PortDataOf}
use Rattle.linkinfo_data.specs.PeerLayer.{peer_types}
use Rattle.linkinfo_data.specs.declared.info_data.InfoDataOf.TheVariants as info
use Rattle.linkinfo_data.specs.declared.lower.LowerFamily.{LowerFamily}
use Rattle.linkinfo_data.specs.declared.lower.LowerFamily.TheVariants as lower
use Rattle.linkinfo_data.specs.declared.peers.PeeredFamily.{PeeredFamily}
use Rattle.linkinfo_data.specs.declared.peers.PeeredFamily.TheVariants as peered
use Rattle.linkinfo_data.specs.declared.port_data.InfoPortDataOf.TheVariants as port
use Rattle.linkinfo_data.specs.declared.port_data.PortFamily.{PortFamily}
use Rattle.linkinfo_data.specs.declared.port_data.PortFamily.TheVariants as port_of
use Rattle.linkinfo_data.specs.declared.tunnels.TunnelFamily.{TunnelFamily}
use Rattle.linkinfo_data.specs.declared.tunnels.TunnelFamily.TheVariants as tunnel

-- the variant of a list, of which each attribute is well formed
abbrev pub IsListOf : {A X : Type 0} → (List A → X) → (A → Type 0) → X → Type 0
IsListOf variant conditions d = Labelled variant (λ xs. AllByRecursion conditions xs) d

-- the variant of one attribute, which is well formed
abbrev pub IsOneOf : {A X : Type 0} → (A → X) → (A → Type 0) → X → Type 0
IsOneOf variant conditions d = Labelled variant conditions d

-- a condition of the attributes of each family of a layer
pub record FamilyConditions (t : Types) : Type 1 where
  pub bond : t.Bond → Type 0
  pub bridge : t.Bridge → Type 0
  pub vlan : t.Vlan → Type 0
  pub can : t.Can → Type 0
  pub hsr : t.Hsr → Type 0
  pub dsa : t.Dsa → Type 0
  pub tun : t.Tun → Type 0
  pub bond_port : t.BondPort → Type 0
  pub bridge_port : t.BridgePort → Type 0

-- these are the conditions of the well-formed attributes
pub record AreOfLayer {t : Types} (layer : Families t) (well : FamilyConditions t) : Type 0 where
  pub bond : (x : t.Bond) → layer.bond.well x ↔ well.bond x
  pub bridge : (x : t.Bridge) → layer.bridge.well x ↔ well.bridge x
  pub vlan : (x : t.Vlan) → layer.vlan.well x ↔ well.vlan x
  pub can : (x : t.Can) → layer.can.well x ↔ well.can x
  pub hsr : (x : t.Hsr) → layer.hsr.well x ↔ well.hsr x
  pub dsa : (x : t.Dsa) → layer.dsa.well x ↔ well.dsa x
  pub tun : (x : t.Tun) → layer.tun.well x ↔ well.tun x
  pub bond_port : (x : t.BondPort) → layer.bond_port.well x ↔ well.bond_port x
  pub bridge_port : (x : t.BridgePort) → layer.bridge_port.well x ↔ well.bridge_port x

-- those that the families have themselves
abbrev pub own_conditions : {t : Types} → Families t → FamilyConditions t
own_conditions layer = record {
  bond = layer.bond.well;
  bridge = layer.bridge.well;
  vlan = layer.vlan.well;
  can = layer.can.well;
  hsr = layer.hsr.well;
  dsa = layer.dsa.well;
  tun = layer.tun.well;
  bond_port = layer.bond_port.well;
  bridge_port = layer.bridge_port.well;
}

-- those of the families of a peer, whose attributes are opaque
abbrev pub opaque_families : {P : Type 0} → FamilyConditions (peer_types P)
opaque_families = record {
  bond = opaque_conditions;
  bridge = opaque_conditions;
  vlan = opaque_conditions;
  can = opaque_conditions;
  hsr = opaque_conditions;
  dsa = opaque_conditions;
  tun = opaque_conditions;
  bond_port = opaque_conditions;
  bridge_port = opaque_conditions;
}

-- the conditions of data of a family, given those of a peer and of the families of the layer
abbrev pub lower_conditions : {t : Types} → (t.Peer → Type 0) → FamilyConditions t →
    LowerFamily → DataOf t → Type 0
-- Begin: written by tables/generate from tables/kinds (lower).
lower_conditions peer well lower.Bridge d = IsListOf (λ xs. info.Bridge xs) well.bridge d
lower_conditions peer well lower.Tun d = IsListOf (λ xs. info.Tun xs) well.tun d
lower_conditions peer well lower.Vlan d = IsListOf (λ xs. info.Vlan xs) well.vlan d
lower_conditions peer well lower.Bond d = IsListOf (λ xs. info.Bond xs) well.bond d
lower_conditions peer well lower.Hsr d = IsListOf (λ xs. info.Hsr xs) well.hsr d
lower_conditions peer well lower.Can d = IsListOf (λ xs. info.Can xs) well.can d
lower_conditions peer well lower.Dsa d = IsListOf (λ xs. info.Dsa xs) well.dsa d

-- End: written by tables/generate.

abbrev pub device_conditions : {t : Types} → (t.Peer → Type 0) → FamilyConditions t →
    DeviceFamily → DataOf t → Type 0
-- Begin: written by tables/generate from tables/kinds (device).
device_conditions peer well device.IpVlan d = IsListOf (λ xs. info.IpVlan xs) ip_vlan_conditions d
device_conditions peer well device.IpVtap d = IsListOf (λ xs. info.IpVtap xs) ip_vlan_conditions d
device_conditions peer well (device.MacVlan lists) d =
    IsListOf (λ xs. info.MacVlan xs) (mac_vlan_conditions lists) d
device_conditions peer well (device.MacVtap lists) d =
    IsListOf (λ xs. info.MacVtap xs) (mac_vtap_conditions lists) d
device_conditions peer well device.Vrf d = IsListOf (λ xs. info.Vrf xs) vrf_conditions d
device_conditions peer well device.Ipoib d = IsListOf (λ xs. info.Ipoib xs) ipoib_conditions d
device_conditions peer well device.Xfrm d = IsListOf (λ xs. info.Xfrm xs) xfrm_conditions d
device_conditions peer well device.MacSec d = IsListOf (λ xs. info.MacSec xs) mac_sec_conditions d
device_conditions peer well device.RmNet d = IsListOf (λ xs. info.RmNet xs) rm_net_conditions d

-- End: written by tables/generate.

abbrev pub tunnel_conditions : {t : Types} → (t.Peer → Type 0) → FamilyConditions t →
    TunnelFamily → DataOf t → Type 0
-- Begin: written by tables/generate from tables/kinds (tunnel).
tunnel_conditions peer well tunnel.Vxlan d = IsListOf (λ xs. info.Vxlan xs) vxlan_conditions d
tunnel_conditions peer well tunnel.GreTap d = IsListOf (λ xs. info.GreTap xs) gre_conditions d
tunnel_conditions peer well tunnel.GreTap6 d = IsListOf (λ xs. info.GreTap6 xs) gre6_conditions d
tunnel_conditions peer well (tunnel.IpTunnel tag) d =
    IsListOf (λ xs. info.IpTunnel xs) (ip_tunnel_conditions tag) d
tunnel_conditions peer well tunnel.GreTun d = IsListOf (λ xs. info.GreTun xs) gre_conditions d
tunnel_conditions peer well tunnel.GreTun6 d = IsListOf (λ xs. info.GreTun6 xs) gre6_conditions d
tunnel_conditions peer well tunnel.Vti d = IsListOf (λ xs. info.Vti xs) vti_conditions d
tunnel_conditions peer well tunnel.Gtp d = IsListOf (λ xs. info.Gtp xs) gtp_conditions d
tunnel_conditions peer well tunnel.Geneve d = IsListOf (λ xs. info.Geneve xs) geneve_conditions d
tunnel_conditions peer well tunnel.Amt d = IsListOf (λ xs. info.Amt xs) amt_conditions d
tunnel_conditions peer well tunnel.BareUdp d =
    IsListOf (λ xs. info.BareUdp xs) bare_udp_conditions d
tunnel_conditions peer well tunnel.ErSpan d = IsListOf (λ xs. info.ErSpan xs) gre_conditions d
tunnel_conditions peer well tunnel.Ip6ErSpan d =
    IsListOf (λ xs. info.Ip6ErSpan xs) gre6_conditions d

-- End: written by tables/generate.

abbrev pub peered_conditions : {t : Types} → (t.Peer → Type 0) → FamilyConditions t →
    PeeredFamily → DataOf t → Type 0
-- Begin: written by tables/generate from tables/kinds (peered).
peered_conditions peer well peered.Veth d =
    IsOneOf (λ x. info.Veth x) (veth_conditions peer) d
peered_conditions peer well peered.Wireguard d =
    IsListOf (λ xs. info.Wireguard xs) opaque_conditions d
peered_conditions peer well peered.Netkit d =
    IsListOf (λ xs. info.Netkit xs) (netkit_conditions peer) d
peered_conditions peer well peered.Vxcan d =
    IsOneOf (λ x. info.Vxcan x) (vxcan_conditions peer) d
peered_conditions peer well peered.BatAdv d = IsListOf (λ xs. info.BatAdv xs) bat_adv_conditions d
peered_conditions peer well peered.Wwan d = IsListOf (λ xs. info.Wwan xs) wwan_conditions d
peered_conditions peer well peered.Pfcp d = IsListOf (λ xs. info.Pfcp xs) opaque_conditions d

-- End: written by tables/generate.

-- of data of any family, and of data without a family, which is bytes
abbrev pub data_conditions : {t : Types} → (t.Peer → Type 0) → FamilyConditions t →
    DataFamily → DataOf t → Type 0
data_conditions peer well (of.Lower f) d = lower_conditions peer well f d
data_conditions peer well (of.Device f) d = device_conditions peer well f d
data_conditions peer well (of.Tunnel f) d = tunnel_conditions peer well f d
data_conditions peer well (of.Peered f) d = peered_conditions peer well f d
data_conditions peer well of.Raw d = Labelled (λ bytes. info.Other bytes) IsBytes d

-- of port data of a family, and of port data without a family, which is bytes
abbrev pub port_data_conditions : {t : Types} → (t.Peer → Type 0) → FamilyConditions t →
    PortFamily → PortDataOf t → Type 0
port_data_conditions peer well port_of.Bond d = IsListOf (λ xs. port.BondPort xs) well.bond_port d
port_data_conditions peer well port_of.Bridge d =
    IsListOf (λ xs. port.BridgePort xs) well.bridge_port d
port_data_conditions peer well port_of.Vrf d = IsListOf (λ xs. port.VrfPort xs) vrf_conditions d
port_data_conditions peer well port_of.Team d = IsListOf (λ xs. port.TeamPort xs) opaque_conditions
    d
port_data_conditions peer well port_of.Raw d = Labelled (λ bytes. port.Other bytes) IsBytes d

-- a condition of data, and one of port data, under each family
pub record DataConditions (t : DataTypes) : Type 1 where
  pub link : DataFamily → t.Data → Type 0
  pub port : PortFamily → t.PortData → Type 0

-- those over a layer, given those of a peer and of the families of the layer
abbrev pub conditions_of : {t : Types} → (t.Peer → Type 0) → FamilyConditions t →
    DataConditions (data_types t)
conditions_of peer well = record {
  link = data_conditions peer well;
  port = port_data_conditions peer well;
}

-- ---- a value of a payload is well formed if and only if it meets these conditions

abbrev pub IsStated : {X : Type 0} → Payload X → (X → Type 0) → Type 0
IsStated {X = X} payload conditions = (d : X) → payload.well d ↔ conditions d

pub list_stated : {A X : Type 0} (m : Members A) (variant : List A → X) (conditions : A → Type 0) →
    ((x : A) → m.well x ↔ conditions x) →
    IsStated (as_list m variant) (λ d. IsListOf variant conditions d)
list_stated m variant conditions same d = (
  λ w. (w.0, (each_stated m.well conditions same w.0).0 w.1, w.2),
  λ h. (h.0, (each_stated m.well conditions same h.0).1 h.1, h.2),
)

pub one_stated : {A X : Type 0} (m : Members A) (variant : A → X) (conditions : A → Type 0) →
    ((x : A) → m.well x ↔ conditions x) →
    IsStated (as_first m variant) (λ d. IsOneOf variant conditions d)
one_stated m variant conditions same d =
    (λ w. (w.0, (same w.0).0 w.1, w.2), λ h. (h.0, (same h.0).1 h.1, h.2))

pub record AreStated {t : DataTypes} (layer : DataFamilies t) (well : DataConditions t) : Type 0
  where
    pub link : (f : DataFamily) → IsStated (layer.data_of f) (well.link f)
    pub port : (f : PortFamily) → IsStated (layer.port_data_of f) (well.port f)
