use Rattle.linkinfo_data.proofs.Supplied.{typed_is_layer}
use Rattle.linkinfo_data.proofs.typed_layer.TypedDataLayer.lawful.Goals as goal
use Rattle.linkinfo_data.specs.DataLawful.{data_lawful}

pub returns : goal.returns
returns g c =
    data_lawful _
    (typed_is_layer g.P.LinkPeer g.met.P.LinkPeer.lawful c.supplied_lawful.ensures
    c.supplied_lawful-2.ensures c.supplied_lawful-3.ensures c.supplied_lawful-4.ensures
    c.supplied_lawful-5.ensures c.supplied_lawful-6.ensures c.supplied_lawful-7.ensures
    c.supplied_lawful-8.ensures c.supplied_lawful-9.ensures)
