-- The layer of a peer, and the typed layer over one, are lawful if the peer is.
use Rattle.std.specs.Prelude.{ℕ}
use Rattle.nla_frame.specs.declared.error.Family.TheVariants as family
use Rattle.nla_frame.specs.declared.error.Family.{Family}
use Rattle.linkinfo_table.specs.Layers.{IsLayer, IsSupplied}
use Rattle.linkinfo_table.specs.Peers.{IsPeer}
use Rattle.linkinfo_table.specs.declared.peer.LinkPeer.{Ghosts}
use Rattle.linkinfo_data.specs.FamiliesLawful.{opaque_is, opaque_members, opaque_names}
use Rattle.linkinfo_data.specs.PeerFamilies.{peer_families}
use Rattle.linkinfo_data.specs.TypedTypes.{typed_families}
use Rattle.linkinfo_data.specs.contracts.typed_layer.TypedRowsTypedFamilies.TheImpl.{ghosts}

opaque_supplied : (number : ℕ) (f : Family) → IsSupplied (opaque_members number f)
opaque_supplied number f = record {
  laws = opaque_is {number = number} f;
  named = opaque_names {number = number} f;
}

pub peer_is_layer : {P : Type 0} (own : Ghosts P) →
    IsPeer own.meaning own.alike own.canonical own.well → IsLayer (peer_families own)
peer_is_layer own is = record {
  peer = is;
  bond = opaque_supplied 1 family.Bond;
  bridge = opaque_supplied 3 family.Bridge;
  vlan = opaque_supplied 11 family.Vlan;
  can = opaque_supplied 5 family.Can;
  hsr = opaque_supplied 7 family.Hsr;
  dsa = opaque_supplied 6 family.Dsa;
  tun = opaque_supplied 10 family.Tun;
  bond_port = opaque_supplied 2 family.BondPort;
  bridge_port = opaque_supplied 4 family.BridgePort;
}

pub typed_is_layer : {P : Type 0} (own : Ghosts P) →
    IsPeer own.meaning own.alike own.canonical own.well → IsSupplied ghosts.bond →
    IsSupplied ghosts.bond_port → IsSupplied ghosts.bridge → IsSupplied ghosts.bridge_port →
    IsSupplied ghosts.can → IsSupplied ghosts.dsa → IsSupplied ghosts.hsr →
    IsSupplied ghosts.tun → IsSupplied ghosts.vlan → IsLayer (typed_families own)
typed_is_layer own is bond bond_port bridge bridge_port can dsa hsr tun vlan = record {
  peer = is;
  bond = bond;
  bridge = bridge;
  vlan = vlan;
  can = can;
  hsr = hsr;
  dsa = dsa;
  tun = tun;
  bond_port = bond_port;
  bridge_port = bridge_port;
}
