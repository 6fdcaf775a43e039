use Rattle.std.specs.Prelude.{false, true, refl}
use Rattle.nla_frame.specs.declared.error.Family.TheVariants as family
use Rattle.linkinfo_shapes.specs.declared.shape.Shape.TheVariants.{Nested}
use Rattle.linkinfo_table.specs.TypedRows.{has_payload}
use Rattle.linkinfo_typed.specs.NestedLists.{holds_list}
use Rattle.linkinfo_typed.proofs.laws.lists_inside.Goals as goal
-- Begin: written by tables/generate from tables/families (members).
use Rattle.linkinfo_typed.specs.BondAdInfo.{bond_ad_info_members}
use Rattle.linkinfo_typed.specs.BridgeQuerierState.{bridge_querier_state_members}
use Rattle.linkinfo_typed.specs.CanCtrlModeExt.{can_ctrl_mode_ext_members}
use Rattle.linkinfo_typed.specs.CanPwm.{can_pwm_members}
use Rattle.linkinfo_typed.specs.CanTdc.{can_tdc_members}
use Rattle.linkinfo_typed.specs.Qos.{vlan_qos_mapping_members}
-- End: written by tables/generate.
-- Begin: written by tables/generate from tables/families (codecs).
use Rattle.linkinfo_payloads.specs.Payloads.{
  bridge_id_codec,
  can_berr_counter_codec,
  can_bit_timing_codec,
  can_bit_timing_const_codec,
  le16s_codec,
  le32s_codec,
  v4_list_codec,
  v6_list_codec,
}
-- End: written by tables/generate.
-- Begin: written by tables/generate from tables/families (rows).
use Rattle.linkinfo_typed.specs.Bond.{bond_attribute, bond_headers, bond_rows}
use Rattle.linkinfo_typed.specs.declared.bond.InfoBond.TheVariants as bond
use Rattle.linkinfo_typed.specs.Bridge.{bridge_attribute, bridge_headers, bridge_rows}
use Rattle.linkinfo_typed.specs.declared.bridge.InfoBridge.TheVariants as bridge
use Rattle.linkinfo_typed.specs.Can.{can_attribute, can_headers, can_rows}
use Rattle.linkinfo_typed.specs.declared.can.InfoCan.TheVariants as can
use Rattle.linkinfo_typed.specs.Vlan.{vlan_attribute, vlan_headers, vlan_rows}
use Rattle.linkinfo_typed.specs.declared.vlan.InfoVlan.TheVariants as vlan

-- End: written by tables/generate.

-- Begin: written by tables/generate from tables/families (clauses).
pub returns-clause-bond_ad_info : goal.returns-clause-bond_ad_info
returns-clause-bond_ad_info c =
    holds_list family.Bond (λ d. bond.Other d) bond_attribute bond_rows bond_headers
    bond_ad_info_members (Nested family.BondAdInfo) false 23 23 (λ xs. bond.AdInfo xs)
    has_payload (λ _. refl) (λ _. refl) refl

pub returns-clause-bridge_multicast_querier_state :
    goal.returns-clause-bridge_multicast_querier_state
returns-clause-bridge_multicast_querier_state c =
    holds_list family.Bridge (λ d. bridge.Other d) bridge_attribute bridge_rows bridge_headers
    bridge_querier_state_members (Nested family.BridgeQuerierState) true 47 32815 (λ xs.
    bridge.MulticastQuerierState xs)
    has_payload (λ _. refl) (λ _. refl) refl

pub returns-clause-can_tdc : goal.returns-clause-can_tdc
returns-clause-can_tdc c =
    holds_list family.Can (λ d. can.Other d) can_attribute can_rows can_headers
    can_tdc_members (Nested family.CanTdc) true 16 32784 (λ xs. can.Tdc xs)
    has_payload (λ _. refl) (λ _. refl) refl

pub returns-clause-can_ctrl_mode_ext : goal.returns-clause-can_ctrl_mode_ext
returns-clause-can_ctrl_mode_ext c =
    holds_list family.Can (λ d. can.Other d) can_attribute can_rows can_headers
    can_ctrl_mode_ext_members (Nested family.CanCtrlModeExt) true 17 32785 (λ xs. can.CtrlModeExt
    xs)
    has_payload (λ _. refl) (λ _. refl) refl

pub returns-clause-can_xl_tdc : goal.returns-clause-can_xl_tdc
returns-clause-can_xl_tdc c =
    holds_list family.Can (λ d. can.Other d) can_attribute can_rows can_headers
    can_tdc_members (Nested family.CanTdc) true 21 32789 (λ xs. can.XlTdc xs)
    has_payload (λ _. refl) (λ _. refl) refl

pub returns-clause-can_xl_pwm : goal.returns-clause-can_xl_pwm
returns-clause-can_xl_pwm c =
    holds_list family.Can (λ d. can.Other d) can_attribute can_rows can_headers
    can_pwm_members (Nested family.CanPwm) true 22 32790 (λ xs. can.XlPwm xs)
    has_payload (λ _. refl) (λ _. refl) refl

pub returns-clause-vlan_egress_qos : goal.returns-clause-vlan_egress_qos
returns-clause-vlan_egress_qos c =
    holds_list family.Vlan (λ d. vlan.Other d) vlan_attribute vlan_rows vlan_headers
    vlan_qos_mapping_members (Nested family.VlanQosMapping) false 3 3 (λ xs. vlan.EgressQos xs)
    has_payload (λ _. refl) (λ _. refl) refl

pub returns-clause-vlan_ingress_qos : goal.returns-clause-vlan_ingress_qos
returns-clause-vlan_ingress_qos c =
    holds_list family.Vlan (λ d. vlan.Other d) vlan_attribute vlan_rows vlan_headers
    vlan_qos_mapping_members (Nested family.VlanQosMapping) false 4 4 (λ xs. vlan.IngressQos xs)
    has_payload (λ _. refl) (λ _. refl) refl

-- End: written by tables/generate.
