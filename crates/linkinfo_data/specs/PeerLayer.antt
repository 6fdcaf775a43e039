-- The layer of a peer, whose families are opaque.
use Rattle.linkinfo_table.specs.Layers.{Types}
use Rattle.linkinfo_table.specs.declared.opaque.Opaque.{Opaque}

-- the types that it supplies
abbrev pub peer_types : Type 0 → Types
peer_types P = record {
  Layer = P;
  Peer = P;
  Bond = Opaque 1;
  Bridge = Opaque 3;
  Vlan = Opaque 11;
  Can = Opaque 5;
  Hsr = Opaque 7;
  Dsa = Opaque 6;
  Tun = Opaque 10;
  BondPort = Opaque 2;
  BridgePort = Opaque 4;
}
