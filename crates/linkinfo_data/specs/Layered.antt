-- Data and port data over a layer, by the types that it supplies.
use Rattle.linkinfo_table.specs.Layers.{Families, Types}
use Rattle.linkinfo_data.specs.declared.info_data.InfoDataOf.{InfoDataOf}
use Rattle.linkinfo_data.specs.declared.port_data.InfoPortDataOf.{InfoPortDataOf}

abbrev pub DataOf : Types → Type 0
DataOf t =
    InfoDataOf t.Layer t.Peer t.Bond t.Bridge t.Vlan t.Can t.Hsr t.Dsa t.Tun t.BondPort t.BridgePort

abbrev pub PortDataOf : Types → Type 0
PortDataOf t =
    InfoPortDataOf t.Layer t.Peer t.Bond t.Bridge t.Vlan t.Can t.Hsr t.Dsa t.Tun t.BondPort
    t.BridgePort

-- the types of a layer
abbrev pub layer_types :
    (layer peer bond bridge vlan can hsr dsa tun bond_port bridge_port : Type 0) → Types
layer_types layer peer bond bridge vlan can hsr dsa tun bond_port bridge_port = record {
  Layer = layer;
  Peer = peer;
  Bond = bond;
  Bridge = bridge;
  Vlan = vlan;
  Can = can;
  Hsr = hsr;
  Dsa = dsa;
  Tun = tun;
  BondPort = bond_port;
  BridgePort = bridge_port;
}

-- the types of the layer of these families
abbrev pub types_of : {t : Types} → Families t → Types
types_of {t = t} layer = t
