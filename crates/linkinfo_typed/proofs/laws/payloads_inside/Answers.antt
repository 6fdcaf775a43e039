use Rattle.std.specs.Prelude.{false, true, refl}
use Rattle.nla_frame.specs.declared.error.Family.TheVariants as family
-- Begin: written by tables/generate from tables/families (shapes).
use Rattle.linkinfo_shapes.specs.declared.shape.Shape.TheVariants.{
  BridgeId,
  CanBitTimingConst,
  Le16s,
  Le32s,
  Le32x8,
  LePair16,
  V4List,
  V6List,
}
-- End: written by tables/generate.
use Rattle.linkinfo_table.specs.TypedRows.{has_payload}
-- Begin: written by tables/generate from tables/families (codecs).
use Rattle.linkinfo_payloads.specs.Payloads.{
  bridge_id_codec,
  can_berr_counter_codec,
  can_bit_timing_codec,
  can_bit_timing_const_codec,
  le16s_codec,
  le32s_codec,
  v4_list_codec,
  v6_list_codec,
}
-- End: written by tables/generate.
use Rattle.linkinfo_typed.specs.PayloadRows.{holds_payload}
use Rattle.linkinfo_typed.proofs.laws.payloads_inside.Goals as goal
-- Begin: written by tables/generate from tables/families (rows).
use Rattle.linkinfo_typed.specs.Bond.{bond_attribute, bond_headers, bond_rows}
use Rattle.linkinfo_typed.specs.declared.bond.InfoBond.TheVariants as bond
use Rattle.linkinfo_typed.specs.Bridge.{bridge_attribute, bridge_headers, bridge_rows}
use Rattle.linkinfo_typed.specs.declared.bridge.InfoBridge.TheVariants as bridge
use Rattle.linkinfo_typed.specs.BridgePort.{
  bridge_port_attribute,
  bridge_port_headers,
  bridge_port_rows,
}
use Rattle.linkinfo_typed.specs.declared.bridge_port.InfoBridgePort.TheVariants as bridge_port
use Rattle.linkinfo_typed.specs.Can.{can_attribute, can_headers, can_rows}
use Rattle.linkinfo_typed.specs.declared.can.InfoCan.TheVariants as can

-- End: written by tables/generate.

-- Begin: written by tables/generate from tables/families (clauses).
pub returns-clause-bond_arp_ip_target : goal.returns-clause-bond_arp_ip_target
returns-clause-bond_arp_ip_target c =
    holds_payload family.Bond (λ d. bond.Other d) bond_attribute bond_rows bond_headers
    v4_list_codec V4List false 8 8 (λ x. bond.ArpIpTarget x) has_payload (λ _. refl) (λ _. refl)

pub returns-clause-bond_ns_ip6_target : goal.returns-clause-bond_ns_ip6_target
returns-clause-bond_ns_ip6_target c =
    holds_payload family.Bond (λ d. bond.Other d) bond_attribute bond_rows bond_headers
    v6_list_codec V6List true 31 32799 (λ x. bond.NsIp6Target x) has_payload (λ _. refl) (λ _. refl)

pub returns-clause-bridge_root_id : goal.returns-clause-bridge_root_id
returns-clause-bridge_root_id c =
    holds_payload family.Bridge (λ d. bridge.Other d) bridge_attribute bridge_rows bridge_headers
    bridge_id_codec BridgeId false 10 10 (λ x. bridge.RootId x) has_payload (λ _. refl) (λ _. refl)

pub returns-clause-bridge_bridge_id : goal.returns-clause-bridge_bridge_id
returns-clause-bridge_bridge_id c =
    holds_payload family.Bridge (λ d. bridge.Other d) bridge_attribute bridge_rows bridge_headers
    bridge_id_codec BridgeId false 11 11
    (λ x. bridge.BridgeId x) has_payload (λ _. refl) (λ _. refl)

pub returns-clause-bridge_port_root_id : goal.returns-clause-bridge_port_root_id
returns-clause-bridge_port_root_id c =
    holds_payload family.BridgePort (λ d. bridge_port.Other d) bridge_port_attribute
    bridge_port_rows
    bridge_port_headers
    bridge_id_codec BridgeId false 13 13
    (λ x. bridge_port.RootId x) has_payload (λ _. refl) (λ _. refl)

pub returns-clause-bridge_port_bridge_id : goal.returns-clause-bridge_port_bridge_id
returns-clause-bridge_port_bridge_id c =
    holds_payload family.BridgePort (λ d. bridge_port.Other d) bridge_port_attribute
    bridge_port_rows
    bridge_port_headers
    bridge_id_codec BridgeId false 14 14
    (λ x. bridge_port.BridgeId x) has_payload (λ _. refl) (λ _. refl)

pub returns-clause-can_bit_timing : goal.returns-clause-can_bit_timing
returns-clause-can_bit_timing c =
    holds_payload family.Can (λ d. can.Other d) can_attribute can_rows can_headers
    can_bit_timing_codec Le32x8 false 1 1 (λ x. can.BitTiming x) has_payload (λ _. refl) (λ _. refl)

pub returns-clause-can_bit_timing_const : goal.returns-clause-can_bit_timing_const
returns-clause-can_bit_timing_const c =
    holds_payload family.Can (λ d. can.Other d) can_attribute can_rows can_headers
    can_bit_timing_const_codec CanBitTimingConst false 2 2
    (λ x. can.BitTimingConst x) has_payload (λ _. refl) (λ _. refl)

pub returns-clause-can_berr_counter : goal.returns-clause-can_berr_counter
returns-clause-can_berr_counter c =
    holds_payload family.Can (λ d. can.Other d) can_attribute can_rows can_headers
    can_berr_counter_codec LePair16 false 8 8
    (λ x. can.BerrCounter x) has_payload (λ _. refl) (λ _. refl)

pub returns-clause-can_data_bit_timing : goal.returns-clause-can_data_bit_timing
returns-clause-can_data_bit_timing c =
    holds_payload family.Can (λ d. can.Other d) can_attribute can_rows can_headers
    can_bit_timing_codec Le32x8 false 9 9
    (λ x. can.DataBitTiming x) has_payload (λ _. refl) (λ _. refl)

pub returns-clause-can_data_bit_timing_const : goal.returns-clause-can_data_bit_timing_const
returns-clause-can_data_bit_timing_const c =
    holds_payload family.Can (λ d. can.Other d) can_attribute can_rows can_headers
    can_bit_timing_const_codec CanBitTimingConst false 10 10
    (λ x. can.DataBitTimingConst x) has_payload (λ _. refl) (λ _. refl)

pub returns-clause-can_termination_const : goal.returns-clause-can_termination_const
returns-clause-can_termination_const c =
    holds_payload family.Can (λ d. can.Other d) can_attribute can_rows can_headers
    le16s_codec Le16s false 12 12 (λ x. can.TerminationConst x) has_payload (λ _. refl) (λ _. refl)

pub returns-clause-can_bit_rate_const : goal.returns-clause-can_bit_rate_const
returns-clause-can_bit_rate_const c =
    holds_payload family.Can (λ d. can.Other d) can_attribute can_rows can_headers
    le32s_codec Le32s false 13 13 (λ x. can.BitRateConst x) has_payload (λ _. refl) (λ _. refl)

pub returns-clause-can_data_bit_rate_const : goal.returns-clause-can_data_bit_rate_const
returns-clause-can_data_bit_rate_const c =
    holds_payload family.Can (λ d. can.Other d) can_attribute can_rows can_headers
    le32s_codec Le32s false 14 14 (λ x. can.DataBitRateConst x) has_payload (λ _. refl) (λ _. refl)

pub returns-clause-can_xl_data_bit_timing : goal.returns-clause-can_xl_data_bit_timing
returns-clause-can_xl_data_bit_timing c =
    holds_payload family.Can (λ d. can.Other d) can_attribute can_rows can_headers
    can_bit_timing_codec Le32x8 false 18 18
    (λ x. can.XlDataBitTiming x) has_payload (λ _. refl) (λ _. refl)

pub returns-clause-can_xl_data_bit_timing_const : goal.returns-clause-can_xl_data_bit_timing_const
returns-clause-can_xl_data_bit_timing_const c =
    holds_payload family.Can (λ d. can.Other d) can_attribute can_rows can_headers
    can_bit_timing_const_codec CanBitTimingConst false 19 19
    (λ x. can.XlDataBitTimingConst x) has_payload (λ _. refl) (λ _. refl)

pub returns-clause-can_xl_data_bit_rate_const : goal.returns-clause-can_xl_data_bit_rate_const
returns-clause-can_xl_data_bit_rate_const c =
    holds_payload family.Can (λ d. can.Other d) can_attribute can_rows can_headers
    le32s_codec Le32s false 20 20
    (λ x. can.XlDataBitRateConst x) has_payload (λ _. refl) (λ _. refl)

-- End: written by tables/generate.
