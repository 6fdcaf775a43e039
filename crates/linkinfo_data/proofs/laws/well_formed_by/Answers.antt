use Rattle.linkinfo_data.proofs.Stated.{data_stated}
use Rattle.linkinfo_data.proofs.laws.well_formed_by.Goals as goal
use Rattle.linkinfo_data.specs.Conditions.{own_conditions}

pub returns : goal.returns
returns g c =
    let layer = g.P.LayerFamilies.families in
    data_stated layer (own_conditions layer) (record {
      bond = λ x. (λ h. h, λ h. h);
      bridge = λ x. (λ h. h, λ h. h);
      vlan = λ x. (λ h. h, λ h. h);
      can = λ x. (λ h. h, λ h. h);
      hsr = λ x. (λ h. h, λ h. h);
      dsa = λ x. (λ h. h, λ h. h);
      tun = λ x. (λ h. h, λ h. h);
      bond_port = λ x. (λ h. h, λ h. h);
      bridge_port = λ x. (λ h. h, λ h. h);
    })
