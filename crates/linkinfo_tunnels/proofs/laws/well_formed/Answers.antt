use Rattle.linkinfo_tunnels.proofs.laws.well_formed.Goals as goal
-- Begin: written by tables/generate from tables/families (imports).
use Rattle.linkinfo_tunnels.specs.Conditions.{
  amt_stated,
  bare_udp_stated,
  geneve_stated,
  gre6_stated,
  gre_stated,
  gtp_stated,
  vti_stated,
  vxlan_stated,
}
-- End: written by tables/generate.
use Rattle.linkinfo_tunnels.specs.Conditions.{ip_tunnel_stated}

-- Begin: written by tables/generate from tables/families (clauses).
pub returns-clause-amt : goal.returns-clause-amt
returns-clause-amt c = amt_stated

pub returns-clause-bare_udp : goal.returns-clause-bare_udp
returns-clause-bare_udp c = bare_udp_stated

pub returns-clause-geneve : goal.returns-clause-geneve
returns-clause-geneve c = geneve_stated

pub returns-clause-gre : goal.returns-clause-gre
returns-clause-gre c = gre_stated

pub returns-clause-gre6 : goal.returns-clause-gre6
returns-clause-gre6 c = gre6_stated

pub returns-clause-gtp : goal.returns-clause-gtp
returns-clause-gtp c = gtp_stated

pub returns-clause-vti : goal.returns-clause-vti
returns-clause-vti c = vti_stated

pub returns-clause-vxlan : goal.returns-clause-vxlan
returns-clause-vxlan c = vxlan_stated

-- End: written by tables/generate.

pub returns-clause-ip_tunnel : goal.returns-clause-ip_tunnel
returns-clause-ip_tunnel c = ip_tunnel_stated
