use Rattle.linkinfo_peers.proofs.laws.peers_well_formed.Goals as goal
use Rattle.linkinfo_peers.specs.Conditions.{netkit_stated, veth_stated, vxcan_stated}

pub returns-clause-netkit : goal.returns-clause-netkit
returns-clause-netkit g c = let peer = g.P.LinkPeer in
    netkit_stated peer.meaning peer.alike peer.canonical peer.well

pub returns-clause-veth : goal.returns-clause-veth
returns-clause-veth g c = let peer = g.P.LinkPeer in
    veth_stated peer.meaning peer.alike peer.canonical peer.well

pub returns-clause-vxcan : goal.returns-clause-vxcan
returns-clause-vxcan g c = let peer = g.P.LinkPeer in
    vxcan_stated peer.meaning peer.alike peer.canonical peer.well
