-- The search does not find that what is said of a payload of the family is what is said of one of
-- this variant: with the types of a layer in it, the premise is too large.
use Rattle.std.specs.Prelude.{◌≡◌}
use Rattle.std.proofs.Common.{subst, sym}
use Rattle.linkinfo_table.specs.Layers.{Types}
use Rattle.linkinfo_table.specs.declared.peer.LinkPeer.{Ghosts}
use Rattle.linkinfo_data.specs.Asking.{Facts, facts_of}
use Rattle.linkinfo_data.specs.PeerData.{peers_data_of}
use Rattle.linkinfo_data.specs.declared.peers.PeeredFamily.{PeeredFamily}
use Rattle.linkinfo_data.proofs.peers.PeeredFamilyPayloadFamily.ask.Given.{Over}
use Rattle.linkinfo_data.proofs.peers.PeeredFamilyPayloadFamily.ask.Goals as goal

abbrev types : Over → Types
types g = record {
  Layer = g.row.P.Denot;
  Peer = g.row.P-Peer.Denot;
  Bond = g.row.P-Bond.Denot;
  Bridge = g.row.P-Bridge.Denot;
  Vlan = g.row.P-Vlan.Denot;
  Can = g.row.P-Can.Denot;
  Hsr = g.row.P-Hsr.Denot;
  Dsa = g.row.P-Dsa.Denot;
  Tun = g.row.P-Tun.Denot;
  BondPort = g.row.P-BondPort.Denot;
  BridgePort = g.row.P-BridgePort.Denot;
}

told : (t : Types) (peer : Ghosts t.Peer) (Says : Facts → Type 0) (f known : PeeredFamily) →
    f ≡ known → Says (facts_of (peers_data_of t peer f)) →
    Says (facts_of (peers_data_of t peer known))
told t peer Says f known is given =
    subst (λ (k : PeeredFamily). Says (facts_of (peers_data_of t peer k))) is given

pub of_list-requires-in-Netkit : goal.of_list-requires-in-Netkit
of_list-requires-in-Netkit g c =
    told (types g) g.P.Peer.LinkPeer (λ facts. g.Q.Ask.ready facts c.args.question c.args.count.now
    c.args.buffer.now) c.args.self _ c.in-Netkit.is c.requires

pub returns-in-Netkit : goal.returns-in-Netkit
returns-in-Netkit g c =
    told (types g) g.P.Peer.LinkPeer
    (λ facts. g.Q.Ask.answered facts c.args.question c.args.count.now
    c.of_list-in-Netkit.new.count c.args.buffer.now c.of_list-in-Netkit.new.buffer
    c.of_list-in-Netkit.result) _ c.args.self (sym c.in-Netkit.is) c.of_list-in-Netkit.ensures
