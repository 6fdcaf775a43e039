use Rattle.linkinfo_devices.proofs.laws.depths.Goals as goal
use Rattle.linkinfo_devices.specs.Conditions.{mac_vlan_depth_stated, mac_vlan_stated}
use Rattle.linkinfo_devices.specs.Conditions.{mac_vtap_depth_stated, mac_vtap_stated}

pub returns-clause-mac_vlan : goal.returns-clause-mac_vlan
returns-clause-mac_vlan c = λ around x. (
  λ w. (mac_vlan_depth_stated around x).0 ((mac_vlan_stated around x).0 w),
  λ h. (mac_vlan_stated around x).1 ((mac_vlan_depth_stated around x).1 h),
)

pub returns-clause-mac_vtap : goal.returns-clause-mac_vtap
returns-clause-mac_vtap c = λ around x. (
  λ w. (mac_vtap_depth_stated around x).0 ((mac_vtap_stated around x).0 w),
  λ h. (mac_vtap_stated around x).1 ((mac_vtap_depth_stated around x).1 h),
)
