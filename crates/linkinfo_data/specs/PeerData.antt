-- Data of veth, vxcan, netkit, wireguard, batadv, wwan and pfcp links: what payloads mean under
-- each family, and the variant that holds it.
use Rattle.linkinfo_peers.specs.PeerMembers.{netkit_members, veth_members, vxcan_members}
use Rattle.linkinfo_table.specs.Layers.{Types}
use Rattle.linkinfo_table.specs.declared.peer.LinkPeer.{Ghosts}
use Rattle.linkinfo_data.specs.Layered.{DataOf}
use Rattle.linkinfo_data.specs.declared.info_data.InfoDataOf.TheVariants as info
use Rattle.linkinfo_data.specs.declared.peers.PeeredFamily.{PeeredFamily}
use Rattle.linkinfo_data.specs.declared.peers.PeeredFamily.TheVariants as of
use Rattle.linkinfo_data.specs.Known.{IsKnown, first_is_known, list_is_known}
use Rattle.linkinfo_data.specs.Payloads.{Payload, as_list, as_first}
use Rattle.linkinfo_data.specs.Plain.{plain}
use Rattle.linkinfo_data.specs.PeerLayer.{peer_types}
use Rattle.linkinfo_data.specs.Refined.{AreEqual, first_equal, list_equal}

abbrev pub peers_data_of : (t : Types) → Ghosts t.Peer → PeeredFamily → Payload (DataOf t)
-- Begin: written by tables/generate from tables/kinds (data).
peers_data_of t peer of.Veth = as_first (veth_members peer) (λ x. info.Veth x)
peers_data_of t peer of.Wireguard = as_list plain.wireguard (λ xs. info.Wireguard xs)
peers_data_of t peer of.Netkit = as_list (netkit_members peer) (λ xs. info.Netkit xs)
peers_data_of t peer of.Vxcan = as_first (vxcan_members peer) (λ x. info.Vxcan x)
peers_data_of t peer of.BatAdv = as_list plain.bat_adv (λ xs. info.BatAdv xs)
peers_data_of t peer of.Wwan = as_list plain.wwan (λ xs. info.Wwan xs)
peers_data_of t peer of.Pfcp = as_list plain.pfcp (λ xs. info.Pfcp xs)

-- End: written by tables/generate.

pub peers_known : (t : Types) (peer : Ghosts t.Peer) (f : PeeredFamily) →
    IsKnown (peers_data_of t peer f)
-- Begin: written by tables/generate from tables/kinds (known).
peers_known t peer of.Veth = first_is_known (veth_members peer) (λ x. info.Veth x)
peers_known t peer of.Wireguard = list_is_known plain.wireguard (λ xs. info.Wireguard xs)
peers_known t peer of.Netkit = list_is_known (netkit_members peer) (λ xs. info.Netkit xs)
peers_known t peer of.Vxcan = first_is_known (vxcan_members peer) (λ x. info.Vxcan x)
peers_known t peer of.BatAdv = list_is_known plain.bat_adv (λ xs. info.BatAdv xs)
peers_known t peer of.Wwan = list_is_known plain.wwan (λ xs. info.Wwan xs)
peers_known t peer of.Pfcp = list_is_known plain.pfcp (λ xs. info.Pfcp xs)

-- End: written by tables/generate.

pub peers_equal : (t : Types) (peer : Ghosts t.Peer) (f : PeeredFamily) →
    AreEqual (peers_data_of t peer f) (peers_data_of (peer_types t.Peer) peer f)
-- Begin: written by tables/generate from tables/kinds (beside).
peers_equal t peer of.Veth = first_equal (veth_members peer) _ _
peers_equal t peer of.Wireguard = list_equal plain.wireguard _ _
peers_equal t peer of.Netkit = list_equal (netkit_members peer) _ _
peers_equal t peer of.Vxcan = first_equal (vxcan_members peer) _ _
peers_equal t peer of.BatAdv = list_equal plain.bat_adv _ _
peers_equal t peer of.Wwan = list_equal plain.wwan _ _
peers_equal t peer of.Pfcp = list_equal plain.pfcp _ _

-- End: written by tables/generate.
