-- What the layer of a peer defines: what the peer defines, and opaque families.
use Rattle.linkinfo_table.specs.Layers.{Families}
use Rattle.linkinfo_table.specs.declared.peer.LinkPeer.{Ghosts}
use Rattle.linkinfo_data.specs.PeerLayer.{peer_types}
use Rattle.linkinfo_data.specs.Plain.{plain}

abbrev pub peer_families : {P : Type 0} → Ghosts P → Families (peer_types P)
peer_families own = record {
  peer = own;
  bond = plain.bond;
  bridge = plain.bridge;
  vlan = plain.vlan;
  can = plain.can;
  hsr = plain.hsr;
  dsa = plain.dsa;
  tun = plain.tun;
  bond_port = plain.bond_port;
  bridge_port = plain.bridge_port;
}
