use Rattle.linkinfo_devices.proofs.laws.well_formed.Goals as goal
-- Begin: written by tables/generate from tables/families (imports).
use Rattle.linkinfo_devices.specs.Conditions.{
  ipoib_stated,
  mac_sec_stated,
  rm_net_stated,
  vrf_stated,
  xfrm_stated,
}
-- End: written by tables/generate.
use Rattle.linkinfo_devices.specs.Conditions.{ip_vlan_stated, mac_vlan_stated, mac_vtap_stated}

-- Begin: written by tables/generate from tables/families (clauses).
pub returns-clause-ipoib : goal.returns-clause-ipoib
returns-clause-ipoib c = ipoib_stated

pub returns-clause-mac_sec : goal.returns-clause-mac_sec
returns-clause-mac_sec c = mac_sec_stated

pub returns-clause-rm_net : goal.returns-clause-rm_net
returns-clause-rm_net c = rm_net_stated

pub returns-clause-vrf : goal.returns-clause-vrf
returns-clause-vrf c = vrf_stated

pub returns-clause-xfrm : goal.returns-clause-xfrm
returns-clause-xfrm c = xfrm_stated

-- End: written by tables/generate.

pub returns-clause-ip_vlan : goal.returns-clause-ip_vlan
returns-clause-ip_vlan c = ip_vlan_stated

pub returns-clause-ip_vtap : goal.returns-clause-ip_vtap
returns-clause-ip_vtap c = ip_vlan_stated

pub returns-clause-mac_vlan : goal.returns-clause-mac_vlan
returns-clause-mac_vlan c = mac_vlan_stated

pub returns-clause-mac_vtap : goal.returns-clause-mac_vtap
returns-clause-mac_vtap c = mac_vtap_stated
