use Rattle.linkinfo_table.specs.FamilyRowLaws.{table_lookup}
use Rattle.linkinfo_typed.proofs.laws.tabled.Goals as goal
-- Begin: written by tables/generate from tables/families (imports).
use Rattle.linkinfo_typed.specs.Bond.{bond_lookup}
use Rattle.linkinfo_typed.specs.BondAdInfo.{bond_ad_info_rows}
use Rattle.linkinfo_typed.specs.BondPort.{bond_port_rows}
use Rattle.linkinfo_typed.specs.Bridge.{bridge_lookup}
use Rattle.linkinfo_typed.specs.BridgePort.{bridge_port_lookup}
use Rattle.linkinfo_typed.specs.BridgeQuerierState.{bridge_querier_state_rows}
use Rattle.linkinfo_typed.specs.Can.{can_lookup}
use Rattle.linkinfo_typed.specs.CanCtrlModeExt.{can_ctrl_mode_ext_rows}
use Rattle.linkinfo_typed.specs.CanPwm.{can_pwm_rows}
use Rattle.linkinfo_typed.specs.CanTdc.{can_tdc_rows}
use Rattle.linkinfo_typed.specs.Dsa.{dsa_rows}
use Rattle.linkinfo_typed.specs.Hsr.{hsr_rows}
use Rattle.linkinfo_typed.specs.Ovpn.{ovpn_rows}
use Rattle.linkinfo_typed.specs.Ppp.{ppp_rows}
use Rattle.linkinfo_typed.specs.Qos.{vlan_qos_mapping_rows}
use Rattle.linkinfo_typed.specs.Tun.{tun_rows}
use Rattle.linkinfo_typed.specs.Vlan.{vlan_lookup}

-- End: written by tables/generate.

-- Begin: written by tables/generate from tables/families (clauses).
pub returns-clause-bond : goal.returns-clause-bond
returns-clause-bond c = λ n. bond_lookup n

pub returns-clause-bond_ad_info : goal.returns-clause-bond_ad_info
returns-clause-bond_ad_info c = λ n. table_lookup bond_ad_info_rows n

pub returns-clause-bond_port : goal.returns-clause-bond_port
returns-clause-bond_port c = λ n. table_lookup bond_port_rows n

pub returns-clause-bridge : goal.returns-clause-bridge
returns-clause-bridge c = λ n. bridge_lookup n

pub returns-clause-bridge_port : goal.returns-clause-bridge_port
returns-clause-bridge_port c = λ n. bridge_port_lookup n

pub returns-clause-bridge_querier_state : goal.returns-clause-bridge_querier_state
returns-clause-bridge_querier_state c = λ n. table_lookup bridge_querier_state_rows n

pub returns-clause-can : goal.returns-clause-can
returns-clause-can c = λ n. can_lookup n

pub returns-clause-can_ctrl_mode_ext : goal.returns-clause-can_ctrl_mode_ext
returns-clause-can_ctrl_mode_ext c = λ n. table_lookup can_ctrl_mode_ext_rows n

pub returns-clause-can_pwm : goal.returns-clause-can_pwm
returns-clause-can_pwm c = λ n. table_lookup can_pwm_rows n

pub returns-clause-can_tdc : goal.returns-clause-can_tdc
returns-clause-can_tdc c = λ n. table_lookup can_tdc_rows n

pub returns-clause-dsa : goal.returns-clause-dsa
returns-clause-dsa c = λ n. table_lookup dsa_rows n

pub returns-clause-hsr : goal.returns-clause-hsr
returns-clause-hsr c = λ n. table_lookup hsr_rows n

pub returns-clause-ovpn : goal.returns-clause-ovpn
returns-clause-ovpn c = λ n. table_lookup ovpn_rows n

pub returns-clause-ppp : goal.returns-clause-ppp
returns-clause-ppp c = λ n. table_lookup ppp_rows n

pub returns-clause-vlan_qos_mapping : goal.returns-clause-vlan_qos_mapping
returns-clause-vlan_qos_mapping c = λ n. table_lookup vlan_qos_mapping_rows n

pub returns-clause-tun : goal.returns-clause-tun
returns-clause-tun c = λ n. table_lookup tun_rows n

pub returns-clause-vlan : goal.returns-clause-vlan
returns-clause-vlan c = λ n. vlan_lookup n

-- End: written by tables/generate.
