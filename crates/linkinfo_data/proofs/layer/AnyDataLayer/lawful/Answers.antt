use Rattle.linkinfo_data.proofs.Supplied.{peer_is_layer}
use Rattle.linkinfo_data.proofs.layer.AnyDataLayer.lawful.Goals as goal
use Rattle.linkinfo_data.specs.DataLawful.{data_lawful}

pub returns : goal.returns
returns g c = data_lawful _ (peer_is_layer g.P.LinkPeer g.met.P.LinkPeer.lawful)
