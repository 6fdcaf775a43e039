-- The causes that the error of a list of link info can have over any layer: that of data, by
-- family, and that of the list itself.
use Rattle.std.specs.Prelude.{
  ◌≡◌,
  ℕ,
  ◌==◌,
  ◌-◌,
  Bool,
  List,
  [],
  ◌∷◌,
  Option,
  Some,
  None,
  Result,
  Ok,
  Err,
  refl,
}
use Rattle.std.proofs.Common.{ap, subst, sym, ◌∙◌, arith}
use Rattle.nla_frame.specs.Answers.{verdict}
use Rattle.nla_frame.specs.Error.{cause_number}
use Rattle.nla_frame.specs.declared.error.Cause.{Cause}
use Rattle.nla_frame.specs.Attribute.{Attribute, masked}
use Rattle.nla_frame.specs.NlaItems.{items_of, nla_items}
use Rattle.nla_frame.specs.declared.error.Cause.TheVariants as cause
use Rattle.nla_frame.specs.declared.error.DecodeError.{DecodeError}
use Rattle.nla_frame.specs.declared.error.Family.TheVariants as family
use Rattle.linkinfo_numbers.specs.declared.tags.KindTag.{KindTag}
use Rattle.linkinfo_numbers.specs.declared.tags.KindTag.TheVariants as tag
use Rattle.linkinfo_shapes.specs.declared.shape.Shape.TheVariants.{Name, Raw}
use Rattle.linkinfo_shapes.specs.Shapes.{means}
use Rattle.linkinfo_table.specs.FamilyRows.{own, table_row}
use Rattle.linkinfo_table.specs.Layers.{Families, Types}
use Rattle.linkinfo_table.specs.Lists.{first_meaning, values}
use Rattle.linkinfo_table.specs.Members.{Members}
use Rattle.linkinfo_table.specs.Peers.{peer_codec}
use Rattle.linkinfo_table.specs.Rows.{labelled, meaning_in, row_meaning}
use Rattle.linkinfo_table.specs.declared.peer.LinkPeer.{Ghosts}
use Rattle.linkinfo_table.specs.SelfList.{inside}
use Rattle.linkinfo_devices.specs.Ipvlan.{ip_vlan_rows}
use Rattle.linkinfo_devices.specs.Macvlan.{mac_vlan_attribute, mac_vlan_plain_rows, mac_vlan_rows}
use Rattle.linkinfo_devices.specs.Macvtap.{mac_vtap_attribute, mac_vtap_plain_rows, mac_vtap_rows}
use Rattle.linkinfo_devices.specs.declared.macvlan.InfoMacVlan as macvlan
use Rattle.linkinfo_devices.specs.declared.macvtap.InfoMacVtap as macvtap
use Rattle.linkinfo_tunnels.specs.IpTunnel.{flags_row, ip_tunnel_row, ip_tunnel_rows}
use Rattle.linkinfo_peers.specs.Netkit.{netkit_plain}
use Rattle.linkinfo_peers.specs.declared.veth.InfoVethOf.{InfoVethOf}
use Rattle.linkinfo_peers.specs.declared.vxcan.InfoVxcanOf.{InfoVxcanOf}
-- Begin: written by tables/generate from tables/kinds (rows).
use Rattle.linkinfo_devices.specs.Vrf.{vrf_rows}
use Rattle.linkinfo_devices.specs.Ipoib.{ipoib_rows}
use Rattle.linkinfo_devices.specs.Xfrm.{xfrm_rows}
use Rattle.linkinfo_devices.specs.Macsec.{mac_sec_rows}
use Rattle.linkinfo_devices.specs.Rmnet.{rm_net_rows}
use Rattle.linkinfo_tunnels.specs.Vxlan.{vxlan_rows}
use Rattle.linkinfo_tunnels.specs.Gre.{gre_rows}
use Rattle.linkinfo_tunnels.specs.Gre6.{gre6_rows}
use Rattle.linkinfo_tunnels.specs.Vti.{vti_rows}
use Rattle.linkinfo_tunnels.specs.Gtp.{gtp_rows}
use Rattle.linkinfo_tunnels.specs.Geneve.{geneve_rows}
use Rattle.linkinfo_tunnels.specs.Amt.{amt_rows}
use Rattle.linkinfo_tunnels.specs.BareUdp.{bare_udp_rows}
use Rattle.linkinfo_peers.specs.Batadv.{bat_adv_rows}
use Rattle.linkinfo_peers.specs.Wwan.{wwan_rows}
-- End: written by tables/generate.
use Rattle.linkinfo_data.specs.Layered.{types_of}
use Rattle.linkinfo_peers.specs.PeerMembers.{netkit_members, veth_members, vxcan_members}
use Rattle.linkinfo_data.specs.Data.{data_of, family_of}
use Rattle.linkinfo_data.specs.DeviceData.{devices_data_of}
use Rattle.linkinfo_data.specs.LowerData.{lower_data_of}
use Rattle.linkinfo_data.specs.PeerData.{peers_data_of}
use Rattle.linkinfo_data.specs.Plain.{plain}
use Rattle.linkinfo_data.specs.PortData.{port_data_of, port_family_of}
use Rattle.linkinfo_data.specs.TunnelData.{tunnels_data_of}
use Rattle.linkinfo_table.specs.declared.difference.Difference.{Difference}
use Rattle.linkinfo_table.specs.declared.unmet.Unmet.{Unmet}
use Rattle.linkinfo_data.specs.declared.data.DataFamily.{DataFamily}
use Rattle.linkinfo_data.specs.declared.data.DataFamily.TheVariants as of
use Rattle.linkinfo_data.specs.declared.devices.DeviceFamily.{DeviceFamily}
use Rattle.linkinfo_data.specs.declared.devices.DeviceFamily.TheVariants as device
use Rattle.linkinfo_data.specs.declared.info_data.InfoDataOf.TheVariants as info
use Rattle.linkinfo_data.specs.declared.lower.LowerFamily.{LowerFamily}
use Rattle.linkinfo_data.specs.declared.lower.LowerFamily.TheVariants as lower
use Rattle.linkinfo_data.specs.declared.peers.PeeredFamily.{PeeredFamily}
use Rattle.linkinfo_data.specs.declared.peers.PeeredFamily.TheVariants as peered
use Rattle.linkinfo_data.specs.declared.port_data.InfoPortDataOf.TheVariants as port_info
use Rattle.linkinfo_data.specs.declared.port_data.PortFamily.{PortFamily}
use Rattle.linkinfo_data.specs.declared.port_data.PortFamily.TheVariants as port_data
use Rattle.linkinfo_data.specs.declared.tunnels.TunnelFamily.{TunnelFamily}
use Rattle.linkinfo_data.specs.declared.tunnels.TunnelFamily.TheVariants as tunnel
use Rattle.linkinfo.specs.Comparing.{placed_answer, same_at_answer}
use Rattle.linkinfo.specs.Items.{link_meaning, link_other, link_row}
use Rattle.linkinfo.specs.Roles.{
  item_own_error,
  kinds_after,
  kinds_after_role,
  name_meaning,
  name_or_error,
  no_kinds,
  role_at,
  role_of,
  with_name,
}
use Rattle.linkinfo.specs.Unmet.{unmet_answer}
use Rattle.linkinfo.specs.Walks.{item_or_error, walk_items}
use Rattle.linkinfo.specs.Strings.{next_kinds, reading}
use Rattle.linkinfo.specs.Layered.{LinkOf}
use Rattle.linkinfo_data.specs.DataFamilies.{data_families, data_types}
use Rattle.linkinfo.specs.declared.link_info.LinkInfoOf.TheVariants as link
use Rattle.linkinfo.specs.declared.xstats.LinkXstats.TheVariants as xstats
use Rattle.linkinfo.specs.declared.placed.ErrorIn.{ErrorIn}
use Rattle.linkinfo.specs.declared.role.CurrentKinds.{CurrentKinds}
use Rattle.linkinfo.specs.declared.role.Role.{Role}
use Rattle.linkinfo.specs.declared.role.Role.TheVariants as role
use Rattle.linkinfo_c.specs.Causes.{IsReturned, IsReturnedCode}
use Rattle.linkinfo_c.specs.Attributes.{given_inside}
use Rattle.linkinfo_c.specs.Difference.{difference_record}
use Rattle.linkinfo_c.specs.Errors.{error_or_none, error_record, same_record}
use Rattle.linkinfo_c.specs.Items.{error_after}
use Rattle.linkinfo_c.specs.Unmet.{unmet_record}
use Rattle.linkinfo_c.specs.declared.attributes.Contents.{Contents}
use Rattle.linkinfo_c.specs.declared.unmet.LinkinfoUnmet.{LinkinfoUnmet}
use Rattle.linkinfo_c.proofs.Causing.{
  EachCause,
  EachError,
  EachPayloadError,
  EachRow,
  bad,
  bad_same,
  first_errors,
  inside_errors,
  labelled_errors,
  level_each,
  list_errors,
  list_errors_under,
  own_errors,
  row_if_each,
  rows_errors,
  shape_causes,
  table_errors,
  table_rows,
  variant_errors,
}

-- the errors in a payload of a peer, and in lists of the attributes of the families that a layer
-- supplies
abbrev pub EachPeer : {P : Type 0} → Ghosts P → Type 0
EachPeer peer = (p : List ℕ) →
    EachPayloadError ((peer_codec peer.meaning peer.alike peer.canonical peer.well).means p)

abbrev EachMember : {X : Type 0} → Members X → Type 0
EachMember m = (p : List ℕ) → EachError (values m.meaning (nla_items p))

pub record EachSupplied {t : Types} (layer : Families t) : Type 0 where
  pub peer : EachPeer layer.peer
  pub bond : EachMember layer.bond
  pub bridge : EachMember layer.bridge
  pub vlan : EachMember layer.vlan
  pub can : EachMember layer.can
  pub hsr : EachMember layer.hsr
  pub dsa : EachMember layer.dsa
  pub tun : EachMember layer.tun
  pub bond_port : EachMember layer.bond_port
  pub bridge_port : EachMember layer.bridge_port

lower_errors : {t : Types} (layer : Families t) → EachSupplied layer → (f : LowerFamily)
    (p : List ℕ) → EachError ((lower_data_of layer f).means p)
-- Begin: written by tables/generate from tables/kinds (lower).
lower_errors layer each lower.Bridge p =
    variant_errors (λ xs. info.Bridge xs) (values layer.bridge.meaning (nla_items p))
    (each.bridge p)
lower_errors layer each lower.Tun p =
    variant_errors (λ xs. info.Tun xs) (values layer.tun.meaning (nla_items p)) (each.tun p)
lower_errors layer each lower.Vlan p =
    variant_errors (λ xs. info.Vlan xs) (values layer.vlan.meaning (nla_items p)) (each.vlan p)
lower_errors layer each lower.Bond p =
    variant_errors (λ xs. info.Bond xs) (values layer.bond.meaning (nla_items p)) (each.bond p)
lower_errors layer each lower.Hsr p =
    variant_errors (λ xs. info.Hsr xs) (values layer.hsr.meaning (nla_items p)) (each.hsr p)
lower_errors layer each lower.Can p =
    variant_errors (λ xs. info.Can xs) (values layer.can.meaning (nla_items p)) (each.can p)
lower_errors layer each lower.Dsa p =
    variant_errors (λ xs. info.Dsa xs) (values layer.dsa.meaning (nla_items p)) (each.dsa p)

-- End: written by tables/generate.

mac_vlan_each : (c n : ℕ) → EachRow (mac_vlan_rows c n)
mac_vlan_each c n =
    level_each family.MacVlan (λ d. macvlan.Other d) mac_vlan_attribute
    (λ xs. macvlan.MacAddrData xs) mac_vlan_plain_rows (128 - c) n

mac_vtap_each : (c n : ℕ) → EachRow (mac_vtap_rows c n)
mac_vtap_each c n =
    level_each family.MacVtap (λ d. macvtap.Other d) mac_vtap_attribute
    (λ xs. macvtap.MacAddrData xs) mac_vtap_plain_rows (128 - c) n

devices_errors : (types : Types) (f : DeviceFamily) (p : List ℕ) →
    EachError ((devices_data_of types f).means p)
-- Begin: written by tables/generate from tables/kinds (device).
devices_errors types device.IpVlan p =
    variant_errors (λ xs. info.IpVlan xs) (values plain.ip_vlan.meaning (nla_items p))
    (table_errors _ _ ip_vlan_rows p)
devices_errors types device.IpVtap p =
    variant_errors (λ xs. info.IpVtap xs) (values plain.ip_vtap.meaning (nla_items p))
    (table_errors _ _ ip_vlan_rows p)
devices_errors types (device.MacVlan around) p =
    variant_errors (λ xs. info.MacVlan xs) (values (plain.mac_vlan around).meaning (nla_items p))
    (list_errors (plain.mac_vlan around).meaning
    (λ a.
    rows_errors family.MacVlan (λ d. macvlan.Other d) (λ n. mac_vlan_rows around n)
    (λ n. mac_vlan_each around n) a) (nla_items p))
devices_errors types (device.MacVtap around) p =
    variant_errors (λ xs. info.MacVtap xs) (values (plain.mac_vtap around).meaning (nla_items p))
    (list_errors (plain.mac_vtap around).meaning
    (λ a.
    rows_errors family.MacVtap (λ d. macvtap.Other d) (λ n. mac_vtap_rows around n)
    (λ n. mac_vtap_each around n) a) (nla_items p))
devices_errors types device.Vrf p =
    variant_errors (λ xs. info.Vrf xs) (values plain.vrf.meaning (nla_items p))
    (table_errors _ _ vrf_rows p)
devices_errors types device.Ipoib p =
    variant_errors (λ xs. info.Ipoib xs) (values plain.ipoib.meaning (nla_items p))
    (table_errors _ _ ipoib_rows p)
devices_errors types device.Xfrm p =
    variant_errors (λ xs. info.Xfrm xs) (values plain.xfrm.meaning (nla_items p))
    (table_errors _ _ xfrm_rows p)
devices_errors types device.MacSec p =
    variant_errors (λ xs. info.MacSec xs) (values plain.mac_sec.meaning (nla_items p))
    (table_errors _ _ mac_sec_rows p)
devices_errors types device.RmNet p =
    variant_errors (λ xs. info.RmNet xs) (values plain.rm_net.meaning (nla_items p))
    (table_errors _ _ rm_net_rows p)

-- End: written by tables/generate.

-- the tunnel flags have a row under these kinds
abbrev HasFlags : KindTag → Type 0
HasFlags tag.IpIp = Unit {0}
HasFlags tag.SitTun = Unit {0}
HasFlags tag.Ip6Tnl = Unit {0}
HasFlags _ = ⊥

flags_each : (t : KindTag) → HasFlags t → EachRow (flags_row t)
flags_each tag.IpIp h = tt
flags_each tag.SitTun h = tt
flags_each tag.Ip6Tnl h = tt
flags_each _ h = absurd h

ip_tunnel_each : (t : KindTag) → HasFlags t → (n : ℕ) → EachRow (ip_tunnel_row t n)
ip_tunnel_each t h n =
    row_if_each (n == 8) (flags_row t) (table_row ip_tunnel_rows n) (flags_each t h)
    (table_rows ip_tunnel_rows n)

-- only these kinds have data of the family iptunnel
abbrev IsFlagged : TunnelFamily → Type 0
IsFlagged (tunnel.IpTunnel t) = HasFlags t
IsFlagged _ = Unit {0}

tunnels_errors : (types : Types) (f : TunnelFamily) → IsFlagged f → (p : List ℕ) →
    EachError ((tunnels_data_of types f).means p)
-- Begin: written by tables/generate from tables/kinds (tunnel).
tunnels_errors types tunnel.Vxlan h p =
    variant_errors (λ xs. info.Vxlan xs) (values plain.vxlan.meaning (nla_items p))
    (table_errors _ _ vxlan_rows p)
tunnels_errors types tunnel.GreTap h p =
    variant_errors (λ xs. info.GreTap xs) (values plain.gre.meaning (nla_items p))
    (table_errors _ _ gre_rows p)
tunnels_errors types tunnel.GreTap6 h p =
    variant_errors (λ xs. info.GreTap6 xs) (values plain.gre6.meaning (nla_items p))
    (table_errors _ _ gre6_rows p)
tunnels_errors types (tunnel.IpTunnel t) h p =
    variant_errors (λ xs. info.IpTunnel xs) (values (plain.ip_tunnel t).meaning (nla_items p))
    (list_errors (plain.ip_tunnel t).meaning
    (λ a. rows_errors family.IpTunnel _ (λ n. ip_tunnel_row t n) (λ n. ip_tunnel_each t h n) a)
    (nla_items p))
tunnels_errors types tunnel.GreTun h p =
    variant_errors (λ xs. info.GreTun xs) (values plain.gre.meaning (nla_items p))
    (table_errors _ _ gre_rows p)
tunnels_errors types tunnel.GreTun6 h p =
    variant_errors (λ xs. info.GreTun6 xs) (values plain.gre6.meaning (nla_items p))
    (table_errors _ _ gre6_rows p)
tunnels_errors types tunnel.Vti h p =
    variant_errors (λ xs. info.Vti xs) (values plain.vti.meaning (nla_items p))
    (table_errors _ _ vti_rows p)
tunnels_errors types tunnel.Gtp h p =
    variant_errors (λ xs. info.Gtp xs) (values plain.gtp.meaning (nla_items p))
    (table_errors _ _ gtp_rows p)
tunnels_errors types tunnel.Geneve h p =
    variant_errors (λ xs. info.Geneve xs) (values plain.geneve.meaning (nla_items p))
    (table_errors _ _ geneve_rows p)
tunnels_errors types tunnel.Amt h p =
    variant_errors (λ xs. info.Amt xs) (values plain.amt.meaning (nla_items p))
    (table_errors _ _ amt_rows p)
tunnels_errors types tunnel.BareUdp h p =
    variant_errors (λ xs. info.BareUdp xs) (values plain.bare_udp.meaning (nla_items p))
    (table_errors _ _ bare_udp_rows p)
tunnels_errors types tunnel.ErSpan h p =
    variant_errors (λ xs. info.ErSpan xs) (values plain.gre.meaning (nla_items p))
    (table_errors _ _ gre_rows p)
tunnels_errors types tunnel.Ip6ErSpan h p =
    variant_errors (λ xs. info.Ip6ErSpan xs) (values plain.gre6.meaning (nla_items p))
    (table_errors _ _ gre6_rows p)

-- End: written by tables/generate.

peers_errors : (types : Types) (peer : Ghosts types.Peer) → EachPeer peer → (f : PeeredFamily)
    (p : List ℕ) → EachError ((peers_data_of types peer f).means p)
-- Begin: written by tables/generate from tables/kinds (peered).
peers_errors types peer each peered.Veth p =
    variant_errors (λ x. info.Veth x)
    (first_meaning (veth_members peer).meaning (nla_items p))
    (first_errors (veth_members peer).meaning
    (λ a.
    rows_errors family.Veth _ _
    (λ n.
    row_if_each (n == 1) _ (table_row [] n) each (table_rows {F = InfoVethOf types.Peer} [] n))
    a) (nla_items p))
peers_errors types peer each peered.Wireguard p =
    variant_errors (λ xs. info.Wireguard xs) (values plain.wireguard.meaning (nla_items p))
    (table_errors _ _ [] p)
peers_errors types peer each peered.Netkit p =
    variant_errors (λ xs. info.Netkit xs) (values (netkit_members peer).meaning (nla_items p))
    (list_errors (netkit_members peer).meaning
    (λ a.
    rows_errors family.Netkit _ _
    (λ n.
    row_if_each (n == 1) _ (table_row (netkit_plain {P = types.Peer}) n) each
    (table_rows (netkit_plain {P = types.Peer}) n)) a) (nla_items p))
peers_errors types peer each peered.Vxcan p =
    variant_errors (λ x. info.Vxcan x)
    (first_meaning (vxcan_members peer).meaning (nla_items p))
    (first_errors (vxcan_members peer).meaning
    (λ a.
    rows_errors family.Vxcan _ _
    (λ n.
    row_if_each (n == 1) _ (table_row [] n) each (table_rows {F = InfoVxcanOf types.Peer} [] n))
    a) (nla_items p))
peers_errors types peer each peered.BatAdv p =
    variant_errors (λ xs. info.BatAdv xs) (values plain.bat_adv.meaning (nla_items p))
    (table_errors _ _ bat_adv_rows p)
peers_errors types peer each peered.Wwan p =
    variant_errors (λ xs. info.Wwan xs) (values plain.wwan.meaning (nla_items p))
    (table_errors _ _ wwan_rows p)
peers_errors types peer each peered.Pfcp p =
    variant_errors (λ xs. info.Pfcp xs) (values plain.pfcp.meaning (nla_items p))
    (table_errors _ _ [] p)

-- End: written by tables/generate.

abbrev IsFlaggedData : DataFamily → Type 0
IsFlaggedData (of.Tunnel f) = IsFlagged f
IsFlaggedData _ = Unit {0}

data_errors : {t : Types} (layer : Families t) → EachSupplied layer → (f : DataFamily) →
    IsFlaggedData f → (p : List ℕ) → EachError ((data_of layer f).means p)
data_errors layer each (of.Lower f) h p = lower_errors layer each f p
data_errors layer each (of.Device f) h p = devices_errors (types_of layer) f p
data_errors layer each (of.Tunnel f) h p = tunnels_errors (types_of layer) f h p
data_errors layer each (of.Peered f) h p =
    peers_errors (types_of layer) layer.peer each.peer f p
data_errors layer each of.Raw h p = λ e k. absurd cc

kinds_flagged : (t : KindTag) → IsFlaggedData (family_of t)
kinds_flagged tag.IpIp = tt
kinds_flagged tag.SitTun = tt
kinds_flagged tag.Ip6Tnl = tt
kinds_flagged _ = tt

ports_errors : {t : Types} (layer : Families t) → EachSupplied layer → (f : PortFamily)
    (p : List ℕ) → EachError ((port_data_of layer f).means p)
ports_errors layer each port_data.Bond p =
    variant_errors (λ xs. port_info.BondPort xs) (values layer.bond_port.meaning (nla_items p))
    (each.bond_port p)
ports_errors layer each port_data.Bridge p =
    variant_errors (λ xs. port_info.BridgePort xs) (values layer.bridge_port.meaning (nla_items p))
    (each.bridge_port p)
ports_errors layer each port_data.Vrf p =
    variant_errors (λ xs. port_info.VrfPort xs) (values plain.vrf_port.meaning (nla_items p))
    (table_errors _ _ vrf_rows p)
ports_errors layer each port_data.Team p =
    variant_errors (λ xs. port_info.TeamPort xs) (values plain.team_port.meaning (nla_items p))
    (table_errors _ _ [] p)
ports_errors layer each port_data.Raw p = λ e k. absurd cc

-- ---- the list

name_errors : {X : Type 0} (n : ℕ) (label : List ℕ → X) (p : List ℕ) →
    EachError (labelled family.LinkInfo n label (own (means Name p)))
name_errors n label p =
    labelled_errors family.LinkInfo n label (own (means Name p))
    (own_errors (means Name p) (shape_causes Name p))

role_errors : {t : Types} (layer : Families t) → EachSupplied layer → (r : Role)
    (a : Attribute) →
    EachError (row_meaning family.LinkInfo link_other (link_row (data_families layer) r) a)
role_errors layer each role.Kind a = name_errors (masked a.kind) _ a.value
role_errors layer each (role.Data tag) a =
    labelled_errors family.LinkInfo (masked a.kind) (λ d. link.Data d)
    (inside ((data_of layer (family_of tag)).means a.value))
    (inside_errors ((data_of layer (family_of tag)).means a.value)
    (data_errors layer each (family_of tag) (kinds_flagged tag) a.value))
role_errors layer each role.Xstats a =
    labelled_errors family.LinkInfo (masked a.kind) (λ bytes. link.Xstats (xstats.Other bytes))
    (own (means Raw a.value)) (own_errors (means Raw a.value) (shape_causes Raw a.value))
role_errors layer each role.PortKind a = name_errors (masked a.kind) _ a.value
role_errors layer each (role.PortData tag) a =
    labelled_errors family.LinkInfo (masked a.kind) (λ d. link.PortData d)
    (inside ((port_data_of layer (port_family_of tag)).means a.value))
    (inside_errors ((port_data_of layer (port_family_of tag)).means a.value)
    (ports_errors layer each (port_family_of tag) a.value))
role_errors {t = t} layer each role.Misplaced a = λ e k.
    subst IsReturned (ap (λ (d : DecodeError). d.cause)
    (bad_same {X = LinkOf (data_types t)} _ e k))
    (let order : IsReturned cause.Order = tt in order)
role_errors layer each role.Unknown a = λ e k. absurd cc

link_errors : {t : Types} (layer : Families t) → EachSupplied layer → (k : CurrentKinds)
    (a : Attribute) → EachError (link_meaning (data_families layer) k a)
unfolding meaning_in
link_errors layer each k a = role_errors layer each (role_of k (masked a.kind)) a

pub reading_errors : {t : Types} (layer : Families t) → EachSupplied layer → (s : List ℕ) →
    EachError (reading (data_families layer) s)
unfolding reading
reading_errors layer each s =
    list_errors_under (link_meaning (data_families layer)) next_kinds (link_errors layer each)
    no_kinds (nla_items s)

-- ---- the numbers of causes

code_of : (c : Cause) → IsReturned c → IsReturnedCode (cause_number c)
code_of cause.Word h = absurd h
code_of cause.WrongType h = absurd h
code_of cause.Kind h = absurd h
code_of cause.Memory h = absurd h
code_of cause.Peer h = absurd h
code_of _ h = (
  λ e. omega (arith, e),
  λ e. omega (arith, e),
  λ e. omega (arith, e),
  λ e. omega (arith, e),
  λ e. omega (arith, e),
)

no_code : IsReturnedCode 0
no_code = (
  λ e. omega (arith, e),
  λ e. omega (arith, e),
  λ e. omega (arith, e),
  λ e. omega (arith, e),
  λ e. omega (arith, e),
)

pub result_error_code : {X : Type 0} (m : Result X DecodeError) → EachError m →
    IsReturnedCode (error_or_none m).cause
result_error_code (Ok x) h = no_code
result_error_code (Err e) h = code_of e.cause (h e refl)

pub verdict_code : {X : Type 0} (m : Result X DecodeError) → EachError m →
    IsReturnedCode (error_or_none (verdict m)).cause
verdict_code (Ok x) h = no_code
verdict_code (Err e) h = code_of e.cause (h e refl)

-- the result of `same_at`: the error of the first list, that of the second, or none
pub same_code : {X : Type 0} (m n : Result X DecodeError) (alike : Bool) → EachError m →
    EachError n → IsReturnedCode (same_record (same_at_answer m n alike)).error.cause
same_code (Err e) n alike h k = code_of e.cause (h e refl)
same_code (Ok x) (Err e) alike h k = code_of e.cause (k e refl)
same_code (Ok x) (Ok y) alike h k = no_code

-- the result of `next_unmet`: the error of the link's list, that of the request, or none
pub unmet_code : {X : Type 0} (m n : Result X DecodeError) (u : Option Unmet)
    (answer : Result (Option Unmet) ErrorIn) (z : LinkinfoUnmet) → answer ≡ unmet_answer m n u →
    z ≡ unmet_record answer → EachError m → EachError n → IsReturnedCode z.error.cause
unmet_code m n u answer z is e h k =
    subst (λ (z : LinkinfoUnmet). IsReturnedCode z.error.cause) (sym (e ∙ ap unmet_record is))
    (each m n u h k)
  where
    each : {X : Type 0} (m n : Result X DecodeError) (u : Option Unmet) → EachError m →
        EachError n → IsReturnedCode (unmet_record (unmet_answer m n u)).error.cause
    each (Err e) n u h k = code_of e.cause (h e refl)
    each (Ok x) (Err e) u h k = code_of e.cause (k e refl)
    each (Ok x) (Ok y) None h k = no_code
    each (Ok x) (Ok y) (Some u) h k = no_code

-- the result of `first_difference`: the error of the first list, that of the second, or none
pub difference_code : {X : Type 0} (m n : Result X DecodeError) (d : Option Difference) →
    EachError m → EachError n → IsReturnedCode (difference_record (placed_answer m n d)).error.cause
difference_code (Err e) n d h k = code_of e.cause (h e refl)
difference_code (Ok x) (Err e) d h k = code_of e.cause (k e refl)
difference_code (Ok x) (Ok y) None h k = no_code
difference_code (Ok x) (Ok y) (Some d) h k = no_code

-- ---- a walk over the list, and over the attributes of data

name_of_error : (a : Attribute) → EachError (name_meaning a)
unfolding name_meaning
name_of_error a = go (means Name a.value) (shape_causes Name a.value)
  where
    go : (m : Result (List ℕ) Cause) → EachCause m → EachError (name_or_error a m)
    go (Ok name) h e k = absurd cc
    go (Err c) h e k =
        subst IsReturned
        (ap (λ (d : DecodeError). d.cause) (bad_same {X = List ℕ} (item_own_error a c) e k))
        (h c refl)

named_errors : {X : Type 0} (m : Result (List ℕ) DecodeError) (made : List ℕ → X) → EachError m →
    EachError (with_name m made)
named_errors (Ok name) made h e k = absurd cc
named_errors {X = X} (Err d) made h e k =
    h e (ap (λ (z : DecodeError). bad {X = List ℕ} z) (bad_same {X = X} d e k))

kinds_after_errors : (r : Role) (t : CurrentKinds) (a : Attribute) →
    EachError (kinds_after_role r t a)
kinds_after_errors role.Kind t a = named_errors (name_meaning a) _ (name_of_error a)
kinds_after_errors role.PortKind t a = named_errors (name_meaning a) _ (name_of_error a)
kinds_after_errors (role.PortData tag) t a = λ e k. absurd cc
kinds_after_errors role.Misplaced t a = λ e k.
    subst IsReturned (ap (λ (d : DecodeError). d.cause) (bad_same {X = CurrentKinds} _ e k))
    (let order : IsReturned cause.Order = tt in order)
kinds_after_errors (role.Data tag) t a = λ e k. absurd cc
kinds_after_errors role.Xstats t a = λ e k. absurd cc
kinds_after_errors role.Unknown t a = λ e k. absurd cc

pub walk_code : (t : CurrentKinds) (ps : List (Result Attribute ℕ)) →
    IsReturnedCode (error_after (walk_items t ps)).cause
walk_code t [] = no_code
walk_code t ((Err n) ∷ more) =
    code_of cause.Header (let header : IsReturned cause.Header = tt in header)
walk_code t ((Ok a) ∷ more) =
    go (kinds_after t a) (kinds_after_errors (role_at t a) t a) (λ u. walk_code u more)
  where
    go : (r : Result CurrentKinds DecodeError) → EachError r →
        ((u : CurrentKinds) → IsReturnedCode (error_after (walk_items u more)).cause) →
        IsReturnedCode (error_after (item_or_error a r (λ u. walk_items u more))).cause
    go (Ok u) h k = k u
    go (Err e) h k = code_of e.cause (h e refl)

framed_code : (ps : List (Result Attribute ℕ)) → IsReturnedCode (error_after (items_of ps)).cause
framed_code [] = no_code
framed_code ((Ok a) ∷ more) = framed_code more
framed_code ((Err n) ∷ more) =
    code_of cause.Header (let header : IsReturned cause.Header = tt in header)

pub given_code : (contents : Option Contents) (s : List ℕ) →
    IsReturnedCode (error_after (given_inside contents s)).cause
given_code (Some contents) s = framed_code (nla_items s)
given_code None s = no_code

pub none_code : IsReturnedCode 0
none_code = no_code

pub error_code : (e : DecodeError) → IsReturned e.cause → IsReturnedCode (error_record e).cause
error_code e h = code_of e.cause h
