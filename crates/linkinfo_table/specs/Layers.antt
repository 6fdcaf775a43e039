-- What other layers supply: the types of a layer, what they define, and the laws of that.
use Rattle.nla_frame.specs.declared.error.Family.{Family}
use Rattle.nla_frame.specs.NlaItems.{nla_items}
use Rattle.std.specs.Prelude.{ℕ, List, ◌∷◌}
use Rattle.linkinfo_table.specs.Named.{EachNamed}
use Rattle.linkinfo_table.specs.Lists.{values}
use Rattle.linkinfo_table.specs.Members.{IsFamily, Members}
use Rattle.linkinfo_table.specs.Peers.{IsPeer}
use Rattle.linkinfo_table.specs.declared.peer.LinkPeer.{Ghosts}

-- the layer, and the types that it supplies
pub record Types : Type 1 where
  pub Layer : Type 0
  pub Peer : Type 0
  pub Bond : Type 0
  pub Bridge : Type 0
  pub Vlan : Type 0
  pub Can : Type 0
  pub Hsr : Type 0
  pub Dsa : Type 0
  pub Tun : Type 0
  pub BondPort : Type 0
  pub BridgePort : Type 0

-- what the peer and the families of a layer define
pub record Families (t : Types) : Type 1 where
  pub peer : Ghosts t.Peer
  pub bond : Members t.Bond
  pub bridge : Members t.Bridge
  pub vlan : Members t.Vlan
  pub can : Members t.Can
  pub hsr : Members t.Hsr
  pub dsa : Members t.Dsa
  pub tun : Members t.Tun
  pub bond_port : Members t.BondPort
  pub bridge_port : Members t.BridgePort

-- the errors in a list of attributes of a family have its name or that of a family inside
abbrev pub names_of : {X : Type 0} → Members X → List Family
names_of m = m.family ∷ m.inner

abbrev pub ErrorsNamed : {X : Type 0} → Members X → Type 0
ErrorsNamed m = (p : List ℕ) → EachNamed (names_of m) (values m.meaning (nla_items p))

-- a family is lawful, and its errors have its name or that of a family inside
pub record IsSupplied {X : Type 0} (m : Members X) : Type 0 where
  pub laws : IsFamily m
  pub named : ErrorsNamed m

-- the peer and each family of a layer are lawful
pub record IsLayer {t : Types} (f : Families t) : Type 0 where
  pub peer : IsPeer f.peer.meaning f.peer.alike f.peer.canonical f.peer.well
  pub bond : IsSupplied f.bond
  pub bridge : IsSupplied f.bridge
  pub vlan : IsSupplied f.vlan
  pub can : IsSupplied f.can
  pub hsr : IsSupplied f.hsr
  pub dsa : IsSupplied f.dsa
  pub tun : IsSupplied f.tun
  pub bond_port : IsSupplied f.bond_port
  pub bridge_port : IsSupplied f.bridge_port
