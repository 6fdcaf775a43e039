use Rattle.linkinfo_table.specs.Conditions.{opaque_stated}
use Rattle.linkinfo_data.proofs.Stated.{data_stated}
use Rattle.linkinfo_data.proofs.laws.well_formed.Goals as goal
use Rattle.linkinfo_data.specs.Conditions.{opaque_families}

pub returns : goal.returns
returns g c = data_stated _ opaque_families (record {
  bond = opaque_stated;
  bridge = opaque_stated;
  vlan = opaque_stated;
  can = opaque_stated;
  hsr = opaque_stated;
  dsa = opaque_stated;
  tun = opaque_stated;
  bond_port = opaque_stated;
  bridge_port = opaque_stated;
})
