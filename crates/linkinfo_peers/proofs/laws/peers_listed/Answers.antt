use Rattle.linkinfo_peers.proofs.laws.peers_listed.Goals as goal
use Rattle.linkinfo_peers.specs.PeerMembers.{
  netkit_members,
  same_as_itself,
  veth_members,
  vxcan_members,
}

pub returns-clause-netkit : goal.returns-clause-netkit
returns-clause-netkit g c = same_as_itself (netkit_members g.P.LinkPeer)

pub returns-clause-veth : goal.returns-clause-veth
returns-clause-veth g c = same_as_itself (veth_members g.P.LinkPeer)

pub returns-clause-vxcan : goal.returns-clause-vxcan
returns-clause-vxcan g c = same_as_itself (vxcan_members g.P.LinkPeer)
