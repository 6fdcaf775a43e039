use Rattle.linkinfo_table.proofs.Layering.{supplied_family}
use Rattle.linkinfo_table.proofs.layer_laws.lawful.Goals as goal

pub returns : goal.returns
returns g c =
    let has = g.L in
    let is = g.met.L in
    record {
      peer = is.Peer.LinkPeer.lawful;
      bond = supplied_family has.Bond.LinkFamily has.Bond.Nla.attribute
          is.Bond.LinkFamily.looked_up is.Bond.LinkFamily.lawful tt;
      bridge = supplied_family has.Bridge.LinkFamily has.Bridge.Nla.attribute
          is.Bridge.LinkFamily.looked_up is.Bridge.LinkFamily.lawful tt;
      vlan = supplied_family has.Vlan.LinkFamily has.Vlan.Nla.attribute
          is.Vlan.LinkFamily.looked_up is.Vlan.LinkFamily.lawful tt;
      can = supplied_family has.Can.LinkFamily has.Can.Nla.attribute
          is.Can.LinkFamily.looked_up is.Can.LinkFamily.lawful tt;
      hsr = supplied_family has.Hsr.LinkFamily has.Hsr.Nla.attribute
          is.Hsr.LinkFamily.looked_up is.Hsr.LinkFamily.lawful tt;
      dsa = supplied_family has.Dsa.LinkFamily has.Dsa.Nla.attribute
          is.Dsa.LinkFamily.looked_up is.Dsa.LinkFamily.lawful tt;
      tun = supplied_family has.Tun.LinkFamily has.Tun.Nla.attribute
          is.Tun.LinkFamily.looked_up is.Tun.LinkFamily.lawful tt;
      bond_port = supplied_family has.BondPort.LinkFamily has.BondPort.Nla.attribute
          is.BondPort.LinkFamily.looked_up is.BondPort.LinkFamily.lawful tt;
      bridge_port = supplied_family has.BridgePort.LinkFamily has.BridgePort.Nla.attribute
          is.BridgePort.LinkFamily.looked_up is.BridgePort.LinkFamily.lawful tt;
    }
