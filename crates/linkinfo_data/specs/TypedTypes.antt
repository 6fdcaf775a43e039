-- The typed layer over peers of a type.
use Rattle.linkinfo_table.specs.Layers.{Families, Types}
use Rattle.linkinfo_table.specs.declared.peer.LinkPeer.{Ghosts}
use Rattle.linkinfo_typed.specs.declared.bond.InfoBond.{InfoBond}
use Rattle.linkinfo_typed.specs.declared.bond_port.InfoBondPort.{InfoBondPort}
use Rattle.linkinfo_typed.specs.declared.bridge.InfoBridge.{InfoBridge}
use Rattle.linkinfo_typed.specs.declared.bridge_port.InfoBridgePort.{InfoBridgePort}
use Rattle.linkinfo_typed.specs.declared.can.InfoCan.{InfoCan}
use Rattle.linkinfo_typed.specs.declared.dsa.InfoDsa.{InfoDsa}
use Rattle.linkinfo_typed.specs.declared.hsr.InfoHsr.{InfoHsr}
use Rattle.linkinfo_typed.specs.declared.tun.InfoTun.{InfoTun}
use Rattle.linkinfo_typed.specs.declared.vlan.InfoVlan.{InfoVlan}
use Rattle.linkinfo_data.specs.contracts.typed_layer.TypedRowsTypedFamilies.TheImpl.{ghosts}
use Rattle.linkinfo_data.specs.declared.typed_layer.Typed.{Typed}

-- the types that it supplies
abbrev pub typed_types : Type 0 → Types
typed_types P = record {
  Layer = Typed P;
  Peer = P;
  Bond = InfoBond;
  Bridge = InfoBridge;
  Vlan = InfoVlan;
  Can = InfoCan;
  Hsr = InfoHsr;
  Dsa = InfoDsa;
  Tun = InfoTun;
  BondPort = InfoBondPort;
  BridgePort = InfoBridgePort;
}

-- what it defines: what the peer defines, and the rows of the families with types
abbrev pub typed_families : {P : Type 0} → Ghosts P → Families (typed_types P)
typed_families own = record {
  peer = own;
  bond = ghosts.bond;
  bridge = ghosts.bridge;
  vlan = ghosts.vlan;
  can = ghosts.can;
  hsr = ghosts.hsr;
  dsa = ghosts.dsa;
  tun = ghosts.tun;
  bond_port = ghosts.bond_port;
  bridge_port = ghosts.bridge_port;
}
