-- Which attributes of the typed families are well formed, by the variant of each: the conditions on
-- a number, a list or an opaque attribute.
-- Begin: written by tables/generate from tables/families.
pub use Rattle.linkinfo_typed.specs.BondConditions.{bond_conditions, bond_stated}
pub use Rattle.linkinfo_typed.specs.BondAdInfoConditions.{
  bond_ad_info_conditions,
  bond_ad_info_stated,
}
pub use Rattle.linkinfo_typed.specs.BondPortConditions.{bond_port_conditions, bond_port_stated}
pub use Rattle.linkinfo_typed.specs.BridgeConditions.{bridge_conditions, bridge_stated}
pub use Rattle.linkinfo_typed.specs.BridgePortConditions.{
  bridge_port_conditions,
  bridge_port_stated,
}
pub use Rattle.linkinfo_typed.specs.BridgeQuerierStateConditions.{
  bridge_querier_state_conditions,
  bridge_querier_state_stated,
}
pub use Rattle.linkinfo_typed.specs.CanConditions.{can_conditions, can_stated}
pub use Rattle.linkinfo_typed.specs.CanCtrlModeExtConditions.{
  can_ctrl_mode_ext_conditions,
  can_ctrl_mode_ext_stated,
}
pub use Rattle.linkinfo_typed.specs.CanPwmConditions.{can_pwm_conditions, can_pwm_stated}
pub use Rattle.linkinfo_typed.specs.CanTdcConditions.{can_tdc_conditions, can_tdc_stated}
pub use Rattle.linkinfo_typed.specs.DsaConditions.{dsa_conditions, dsa_stated}
pub use Rattle.linkinfo_typed.specs.HsrConditions.{hsr_conditions, hsr_stated}
pub use Rattle.linkinfo_typed.specs.OvpnConditions.{ovpn_conditions, ovpn_stated}
pub use Rattle.linkinfo_typed.specs.PppConditions.{ppp_conditions, ppp_stated}
pub use Rattle.linkinfo_typed.specs.QosConditions.{
  vlan_qos_mapping_conditions,
  vlan_qos_mapping_stated,
}
pub use Rattle.linkinfo_typed.specs.TunConditions.{tun_conditions, tun_stated}
pub use Rattle.linkinfo_typed.specs.VlanConditions.{vlan_conditions, vlan_stated}

-- End: written by tables/generate.
