use Rattle.linkinfo_typed.proofs.laws.well_formed.Goals as goal
-- Begin: written by tables/generate from tables/families (imports).
use Rattle.linkinfo_typed.specs.Conditions.{
  bond_ad_info_stated,
  bond_port_stated,
  bond_stated,
  bridge_port_stated,
  bridge_querier_state_stated,
  bridge_stated,
  can_ctrl_mode_ext_stated,
  can_pwm_stated,
  can_stated,
  can_tdc_stated,
  dsa_stated,
  hsr_stated,
  ovpn_stated,
  ppp_stated,
  tun_stated,
  vlan_qos_mapping_stated,
  vlan_stated,
}

-- End: written by tables/generate.

-- Begin: written by tables/generate from tables/families (clauses).
pub returns-clause-bond : goal.returns-clause-bond
returns-clause-bond c = bond_stated

pub returns-clause-bond_ad_info : goal.returns-clause-bond_ad_info
returns-clause-bond_ad_info c = bond_ad_info_stated

pub returns-clause-bond_port : goal.returns-clause-bond_port
returns-clause-bond_port c = bond_port_stated

pub returns-clause-bridge : goal.returns-clause-bridge
returns-clause-bridge c = bridge_stated

pub returns-clause-bridge_port : goal.returns-clause-bridge_port
returns-clause-bridge_port c = bridge_port_stated

pub returns-clause-bridge_querier_state : goal.returns-clause-bridge_querier_state
returns-clause-bridge_querier_state c = bridge_querier_state_stated

pub returns-clause-can : goal.returns-clause-can
returns-clause-can c = can_stated

pub returns-clause-can_ctrl_mode_ext : goal.returns-clause-can_ctrl_mode_ext
returns-clause-can_ctrl_mode_ext c = can_ctrl_mode_ext_stated

pub returns-clause-can_pwm : goal.returns-clause-can_pwm
returns-clause-can_pwm c = can_pwm_stated

pub returns-clause-can_tdc : goal.returns-clause-can_tdc
returns-clause-can_tdc c = can_tdc_stated

pub returns-clause-dsa : goal.returns-clause-dsa
returns-clause-dsa c = dsa_stated

pub returns-clause-hsr : goal.returns-clause-hsr
returns-clause-hsr c = hsr_stated

pub returns-clause-ovpn : goal.returns-clause-ovpn
returns-clause-ovpn c = ovpn_stated

pub returns-clause-ppp : goal.returns-clause-ppp
returns-clause-ppp c = ppp_stated

pub returns-clause-vlan_qos_mapping : goal.returns-clause-vlan_qos_mapping
returns-clause-vlan_qos_mapping c = vlan_qos_mapping_stated

pub returns-clause-tun : goal.returns-clause-tun
returns-clause-tun c = tun_stated

pub returns-clause-vlan : goal.returns-clause-vlan
returns-clause-vlan c = vlan_stated

-- End: written by tables/generate.
