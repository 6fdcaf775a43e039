-- The search does not find that what is required of a payload of the family is what is required of
-- one of this variant: with the types of a layer in it, the premise is too large.
use Rattle.std.specs.Prelude.{◌≡◌}
use Rattle.std.proofs.Common.{subst}
use Rattle.linkinfo_table.specs.Layers.{Types}
use Rattle.linkinfo_data.specs.Asking.{Facts, facts_of}
use Rattle.linkinfo_data.specs.TunnelData.{tunnels_data_of}
use Rattle.linkinfo_data.specs.declared.tunnels.TunnelFamily.{TunnelFamily}
use Rattle.linkinfo_data.proofs.tunnels.TunnelFamilyPayloadFamily.ask.Given.{Over}
use Rattle.linkinfo_data.proofs.tunnels.TunnelFamilyPayloadFamily.ask.Goals as goal

abbrev types : Over → Types
types g = record {
  Layer = g.row.P.Denot;
  Peer = g.row.P-Peer.Denot;
  Bond = g.row.P-Bond.Denot;
  Bridge = g.row.P-Bridge.Denot;
  Vlan = g.row.P-Vlan.Denot;
  Can = g.row.P-Can.Denot;
  Hsr = g.row.P-Hsr.Denot;
  Dsa = g.row.P-Dsa.Denot;
  Tun = g.row.P-Tun.Denot;
  BondPort = g.row.P-BondPort.Denot;
  BridgePort = g.row.P-BridgePort.Denot;
}

asked : (t : Types) (Ready : Facts → Type 0) (f known : TunnelFamily) → f ≡ known →
    Ready (facts_of (tunnels_data_of t f)) → Ready (facts_of (tunnels_data_of t known))
asked t Ready f known is given =
    subst (λ (k : TunnelFamily). Ready (facts_of (tunnels_data_of t k))) is given

-- Begin: written by tables/generate from tables/kinds.
pub of_list-requires : goal.of_list-requires
of_list-requires g c =
    asked (types g) (λ facts. g.Q.Ask.ready facts c.args.question c.args.count.now
    c.args.buffer.now) c.args.self _ c.in-Vxlan.is c.requires

pub of_list-requires-in-GreTap : goal.of_list-requires-in-GreTap
of_list-requires-in-GreTap g c =
    asked (types g) (λ facts. g.Q.Ask.ready facts c.args.question c.args.count.now
    c.args.buffer.now) c.args.self _ c.in-GreTap.is c.requires

pub of_list-requires-in-GreTap6 : goal.of_list-requires-in-GreTap6
of_list-requires-in-GreTap6 g c =
    asked (types g) (λ facts. g.Q.Ask.ready facts c.args.question c.args.count.now
    c.args.buffer.now) c.args.self _ c.in-GreTap6.is c.requires

pub of_list-requires-in-IpTunnel : goal.of_list-requires-in-IpTunnel
of_list-requires-in-IpTunnel g c =
    asked (types g) (λ facts. g.Q.Ask.ready facts c.args.question c.args.count.now
    c.args.buffer.now) c.args.self _ c.in-IpTunnel.is c.requires

pub of_list-requires-in-GreTun : goal.of_list-requires-in-GreTun
of_list-requires-in-GreTun g c =
    asked (types g) (λ facts. g.Q.Ask.ready facts c.args.question c.args.count.now
    c.args.buffer.now) c.args.self _ c.in-GreTun.is c.requires

pub of_list-requires-in-GreTun6 : goal.of_list-requires-in-GreTun6
of_list-requires-in-GreTun6 g c =
    asked (types g) (λ facts. g.Q.Ask.ready facts c.args.question c.args.count.now
    c.args.buffer.now) c.args.self _ c.in-GreTun6.is c.requires

pub of_list-requires-in-Vti : goal.of_list-requires-in-Vti
of_list-requires-in-Vti g c =
    asked (types g) (λ facts. g.Q.Ask.ready facts c.args.question c.args.count.now
    c.args.buffer.now) c.args.self _ c.in-Vti.is c.requires

pub of_list-requires-in-Gtp : goal.of_list-requires-in-Gtp
of_list-requires-in-Gtp g c =
    asked (types g) (λ facts. g.Q.Ask.ready facts c.args.question c.args.count.now
    c.args.buffer.now) c.args.self _ c.in-Gtp.is c.requires

pub of_list-requires-in-Geneve : goal.of_list-requires-in-Geneve
of_list-requires-in-Geneve g c =
    asked (types g) (λ facts. g.Q.Ask.ready facts c.args.question c.args.count.now
    c.args.buffer.now) c.args.self _ c.in-Geneve.is c.requires

pub of_list-requires-in-Amt : goal.of_list-requires-in-Amt
of_list-requires-in-Amt g c =
    asked (types g) (λ facts. g.Q.Ask.ready facts c.args.question c.args.count.now
    c.args.buffer.now) c.args.self _ c.in-Amt.is c.requires

pub of_list-requires-in-BareUdp : goal.of_list-requires-in-BareUdp
of_list-requires-in-BareUdp g c =
    asked (types g) (λ facts. g.Q.Ask.ready facts c.args.question c.args.count.now
    c.args.buffer.now) c.args.self _ c.in-BareUdp.is c.requires

pub of_list-requires-in-ErSpan : goal.of_list-requires-in-ErSpan
of_list-requires-in-ErSpan g c =
    asked (types g) (λ facts. g.Q.Ask.ready facts c.args.question c.args.count.now
    c.args.buffer.now) c.args.self _ c.in-ErSpan.is c.requires

pub of_list-requires-in-Ip6ErSpan : goal.of_list-requires-in-Ip6ErSpan
of_list-requires-in-Ip6ErSpan g c =
    asked (types g) (λ facts. g.Q.Ask.ready facts c.args.question c.args.count.now
    c.args.buffer.now) c.args.self _ c.in-Ip6ErSpan.is c.requires

-- End: written by tables/generate.
