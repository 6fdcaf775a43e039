-- The causes that the error of a list can have over the typed layer.
use Rattle.std.specs.Prelude.{◌≡◌, ◌⊎◌, ◌==◌, ℕ, List, []}
use Rattle.std.proofs.Common.{inl, inr}
use Rattle.nla_frame.specs.Error.{header_error}
use Rattle.nla_frame.specs.NlaItems.{nla_items}
use Rattle.nla_frame.specs.declared.default_nla.DefaultNla.{DefaultNla}
use Rattle.nla_frame.specs.declared.error.Cause.{Cause}
use Rattle.nla_frame.specs.declared.error.Cause.TheVariants as cause
use Rattle.nla_frame.specs.declared.error.DecodeError.{DecodeError}
use Rattle.nla_frame.specs.declared.error.Family.{Family}
use Rattle.nla_frame.specs.declared.error.Family.TheVariants as family
use Rattle.linkinfo_shapes.specs.declared.shape.Shape.{Shape}
use Rattle.linkinfo_shapes.specs.declared.shape.Shape.TheVariants.{
  BridgeId,
  CanBitTimingConst,
  Le16s,
  Le32s,
  Le32x8,
  LePair16,
  V4List,
  V6List,
}
use Rattle.linkinfo_table.specs.Codecs.{Codec, Inside, Own}
use Rattle.linkinfo_table.specs.FamilyRows.{PlainRow, row_of, table_row}
use Rattle.linkinfo_table.specs.Lists.{values}
use Rattle.linkinfo_table.specs.Payloads.{IsAddresses, IsExact, IsPayload}
use Rattle.linkinfo_table.specs.Rows.{meaning_in}
use Rattle.linkinfo_table.specs.SelfList.{inside}
-- Begin: written by tables/generate from tables/families (payloads).
use Rattle.linkinfo_payloads.specs.Payloads.{
  bridge_id_codec,
  bridge_id_payload,
  can_berr_counter_codec,
  can_berr_counter_payload,
  can_bit_timing_codec,
  can_bit_timing_const_codec,
  can_bit_timing_const_payload,
  can_bit_timing_payload,
  le16s_codec,
  le16s_payload,
  le32s_codec,
  le32s_payload,
  v4_list_codec,
  v4_list_payload,
  v6_list_codec,
  v6_list_payload,
}
-- End: written by tables/generate.
-- Begin: written by tables/generate from tables/families (imports).
use Rattle.linkinfo_typed.specs.Bond.{
  bond_plain,
  bond_from_ad_info,
  bond_from_ns_ip6_target,
  bond_rows,
}
use Rattle.linkinfo_typed.specs.BondPort.{bond_port_rows}
use Rattle.linkinfo_typed.specs.Bridge.{
  bridge_plain,
  bridge_from_bridge_id,
  bridge_from_multicast_querier_state,
  bridge_rows,
}
use Rattle.linkinfo_typed.specs.BridgePort.{
  bridge_port_plain,
  bridge_port_from_bridge_id,
  bridge_port_rows,
}
use Rattle.linkinfo_typed.specs.Vlan.{vlan_plain, vlan_from_ingress_qos, vlan_rows}
use Rattle.linkinfo_typed.specs.Can.{
  can_plain,
  can_from_bit_timing_const,
  can_from_berr_counter,
  can_from_data_bit_timing,
  can_from_data_bit_timing_const,
  can_from_termination_const,
  can_from_bit_rate_const,
  can_from_data_bit_rate_const,
  can_from_tdc,
  can_from_ctrl_mode_ext,
  can_from_xl_data_bit_timing,
  can_from_xl_data_bit_timing_const,
  can_from_xl_data_bit_rate_const,
  can_from_xl_tdc,
  can_from_xl_pwm,
  can_rows,
}
use Rattle.linkinfo_typed.specs.Dsa.{dsa_rows}
use Rattle.linkinfo_typed.specs.Hsr.{hsr_rows}
use Rattle.linkinfo_typed.specs.Tun.{tun_rows}
use Rattle.linkinfo_typed.specs.Qos.{vlan_qos_mapping_rows}
use Rattle.linkinfo_typed.specs.BondAdInfo.{bond_ad_info_rows}
use Rattle.linkinfo_typed.specs.BridgeQuerierState.{bridge_querier_state_rows}
use Rattle.linkinfo_typed.specs.CanTdc.{can_tdc_rows}
use Rattle.linkinfo_typed.specs.CanCtrlModeExt.{can_ctrl_mode_ext_rows}
use Rattle.linkinfo_typed.specs.CanPwm.{can_pwm_rows}
-- End: written by tables/generate.
use Rattle.linkinfo_data.specs.Plain.{plain}
use Rattle.linkinfo_data.specs.TypedLayer.{typed_layer}
use Rattle.linkinfo_data.specs.TypedTypes.{typed_families}
use Rattle.linkinfo.specs.Strings.{reading}
use Rattle.linkinfo_c.specs.Causes.{IsReturned}
use Rattle.linkinfo_c.proofs.Causing.{
  EachError,
  EachPayloadError,
  EachRow,
  inside_errors,
  row_if_each,
  rows_list_errors,
  table_errors,
  table_rows,
}
use Rattle.linkinfo_c.proofs.CausingBytes.{bytes_peer_errors}
use Rattle.linkinfo_c.proofs.CausingData.{EachSupplied, reading_errors}

-- ---- payloads of types of their own

own_same : (c d : Cause) → Own c ≡ Own d → c ≡ d
own_same c d h = cc

inside_same : (d e : DecodeError) → Inside d ≡ Inside e → d ≡ e
inside_same d e h = cc

not_own : (c : Cause) (e : DecodeError) → Inside e ≡ Own c → ⊥
not_own c e h = absurd cc

not_inside : (c : Cause) (e : DecodeError) → Own c ≡ Inside e → ⊥
not_inside c e h = absurd cc

of_length_cause : (c : Cause) → c ≡ cause.Length → IsReturned c
of_length_cause c same = rw same (let length : IsReturned cause.Length = tt in length)

of_header : (e : DecodeError) → e ≡ header_error → IsReturned e.cause
of_header e same = rw same (let header : IsReturned cause.Header = tt in header)

-- that of a record or an array
exact_errors : (shape : Shape) → IsExact shape → (codec : Codec) → IsPayload shape [] codec →
    (p : List ℕ) → EachPayloadError (codec.means p)
exact_errors shape exact codec h p = (
  λ c k. of_length_cause c (own_same c cause.Length (h.exact exact p (Own c) k).0),
  λ e k. absurd (not_own cause.Length e (h.exact exact p (Inside e) k).0),
)

-- that of a list of addresses
addresses_errors : (shape : Shape) → IsAddresses shape → (codec : Codec) →
    IsPayload shape [] codec → (p : List ℕ) → EachPayloadError (codec.means p)
addresses_errors shape are codec h p = (
  λ c k. of_own c (h.addresses are p (Own c) k),
  λ e k. of_inside e (h.addresses are p (Inside e) k),
)
  where
    of_own : (c : Cause) → (Own c ≡ Own cause.Length) ⊎ (Own c ≡ Inside header_error) → IsReturned c
    of_own c (inl same) = of_length_cause c (own_same c cause.Length same)
    of_own c (inr other) = absurd (not_inside c header_error other)

    of_inside : (e : DecodeError) →
        (Inside e ≡ Own cause.Length) ⊎ (Inside e ≡ Inside header_error) → IsReturned e.cause
    of_inside e (inl other) = absurd (not_own cause.Length e other)
    of_inside e (inr same) = of_header e (inside_same e header_error same)

-- that of a list of attributes of one table
nested_errors : {F : Type 0} (f : Family) (other : DefaultNla → F) (table : List (PlainRow F))
    (p : List ℕ) →
    EachPayloadError
    (inside (values (meaning_in f other (λ n. row_of (table_row table n))) (nla_items p)))
nested_errors f other table p =
    inside_errors (values (meaning_in f other (λ n. row_of (table_row table n))) (nla_items p))
    (table_errors f other table p)

-- ---- the rows of families that have such payloads

-- Begin: written by tables/generate from tables/families (rows).
bond_each : (n : ℕ) → EachRow (bond_rows n)
bond_each n =
    row_if_each (n == 8) _ (bond_from_ad_info n)
    (λ q. addresses_errors V4List tt v4_list_codec v4_list_payload q) (
    row_if_each (n == 23) _ (bond_from_ns_ip6_target n)
    (λ q. nested_errors family.BondAdInfo _ bond_ad_info_rows q) (
    row_if_each (n == 31) _ ((table_row bond_plain) n)
    (λ q. addresses_errors V6List tt v6_list_codec v6_list_payload q) (
    table_rows bond_plain n)))

bridge_each : (n : ℕ) → EachRow (bridge_rows n)
bridge_each n =
    row_if_each (n == 10) _ (bridge_from_bridge_id n)
    (λ q. exact_errors BridgeId tt bridge_id_codec bridge_id_payload q) (
    row_if_each (n == 11) _ (bridge_from_multicast_querier_state n)
    (λ q. exact_errors BridgeId tt bridge_id_codec bridge_id_payload q) (
    row_if_each (n == 47) _ ((table_row bridge_plain) n)
    (λ q. nested_errors family.BridgeQuerierState _ bridge_querier_state_rows q) (
    table_rows bridge_plain n)))

bridge_port_each : (n : ℕ) → EachRow (bridge_port_rows n)
bridge_port_each n =
    row_if_each (n == 13) _ (bridge_port_from_bridge_id n)
    (λ q. exact_errors BridgeId tt bridge_id_codec bridge_id_payload q) (
    row_if_each (n == 14) _ ((table_row bridge_port_plain) n)
    (λ q. exact_errors BridgeId tt bridge_id_codec bridge_id_payload q) (
    table_rows bridge_port_plain n))

vlan_each : (n : ℕ) → EachRow (vlan_rows n)
vlan_each n =
    row_if_each (n == 3) _ (vlan_from_ingress_qos n)
    (λ q. nested_errors family.VlanQosMapping _ vlan_qos_mapping_rows q) (
    row_if_each (n == 4) _ ((table_row vlan_plain) n)
    (λ q. nested_errors family.VlanQosMapping _ vlan_qos_mapping_rows q) (
    table_rows vlan_plain n))

can_each : (n : ℕ) → EachRow (can_rows n)
can_each n =
    row_if_each (n == 1) _ (can_from_bit_timing_const n)
    (λ q. exact_errors Le32x8 tt can_bit_timing_codec can_bit_timing_payload q) (
    row_if_each (n == 2) _ (can_from_berr_counter n)
    (λ q. exact_errors CanBitTimingConst tt can_bit_timing_const_codec can_bit_timing_const_payload
    q) (
    row_if_each (n == 8) _ (can_from_data_bit_timing n)
    (λ q. exact_errors LePair16 tt can_berr_counter_codec can_berr_counter_payload q) (
    row_if_each (n == 9) _ (can_from_data_bit_timing_const n)
    (λ q. exact_errors Le32x8 tt can_bit_timing_codec can_bit_timing_payload q) (
    row_if_each (n == 10) _ (can_from_termination_const n)
    (λ q. exact_errors CanBitTimingConst tt can_bit_timing_const_codec can_bit_timing_const_payload
    q) (
    row_if_each (n == 12) _ (can_from_bit_rate_const n)
    (λ q. exact_errors Le16s tt le16s_codec le16s_payload q) (
    row_if_each (n == 13) _ (can_from_data_bit_rate_const n)
    (λ q. exact_errors Le32s tt le32s_codec le32s_payload q) (
    row_if_each (n == 14) _ (can_from_tdc n)
    (λ q. exact_errors Le32s tt le32s_codec le32s_payload q) (
    row_if_each (n == 16) _ (can_from_ctrl_mode_ext n)
    (λ q. nested_errors family.CanTdc _ can_tdc_rows q) (
    row_if_each (n == 17) _ (can_from_xl_data_bit_timing n)
    (λ q. nested_errors family.CanCtrlModeExt _ can_ctrl_mode_ext_rows q) (
    row_if_each (n == 18) _ (can_from_xl_data_bit_timing_const n)
    (λ q. exact_errors Le32x8 tt can_bit_timing_codec can_bit_timing_payload q) (
    row_if_each (n == 19) _ (can_from_xl_data_bit_rate_const n)
    (λ q. exact_errors CanBitTimingConst tt can_bit_timing_const_codec can_bit_timing_const_payload
    q) (
    row_if_each (n == 20) _ (can_from_xl_tdc n)
    (λ q. exact_errors Le32s tt le32s_codec le32s_payload q) (
    row_if_each (n == 21) _ (can_from_xl_pwm n)
    (λ q. nested_errors family.CanTdc _ can_tdc_rows q) (
    row_if_each (n == 22) _ ((table_row can_plain) n)
    (λ q. nested_errors family.CanPwm _ can_pwm_rows q) (
    table_rows can_plain n)))))))))))))))

-- End: written by tables/generate.

typed_supplied : EachSupplied (typed_families plain.bytes_peer)
typed_supplied = record {
  peer = bytes_peer_errors;
  -- Begin: written by tables/generate from tables/families.
  bond = rows_list_errors family.Bond _ bond_rows bond_each;
  bond_port = table_errors family.BondPort _ bond_port_rows;
  bridge = rows_list_errors family.Bridge _ bridge_rows bridge_each;
  bridge_port = rows_list_errors family.BridgePort _ bridge_port_rows bridge_port_each;
  vlan = rows_list_errors family.Vlan _ vlan_rows vlan_each;
  can = rows_list_errors family.Can _ can_rows can_each;
  dsa = table_errors family.Dsa _ dsa_rows;
  hsr = table_errors family.Hsr _ hsr_rows;
  tun = table_errors family.Tun _ tun_rows;
  -- End: written by tables/generate.
}

pub typed_errors : (s : List ℕ) → EachError (reading typed_layer s)
typed_errors s = reading_errors (typed_families plain.bytes_peer) typed_supplied s
