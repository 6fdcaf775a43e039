-- Written by tables/generate from tables/bond.
-- The rows of `bond` links.
use Rattle.std.specs.Prelude.{
  ◌≡◌,
  ◌==◌,
  ◌||◌,
  ℕ,
  Bool,
  if◌then◌else◌,
  true,
  false,
  List,
  [],
  ◌∷◌,
  map,
  refl,
}
use Rattle.std.proofs.Common.{ap, lit<}
use Rattle.nla_frame.specs.Attribute.{Attribute, list_string}
use Rattle.nla_frame.specs.Kept.{attribute_of}
use Rattle.nla_frame.specs.Pairs.{◌&◌}
use Rattle.nla_frame.specs.declared.error.Family.TheVariants as family
use Rattle.linkinfo_table.specs.FamilyRowLaws.{table_flat, table_lookup, table_owes}
use Rattle.linkinfo_table.specs.FamilyRows.{
  FamilyRow,
  IsFlat,
  PlainRow,
  RowOwes,
  SuitsDecoded,
  lookup_in,
  lookup_of,
  row,
  row_of,
  table_row,
  typed,
  without_labels,
  EachKeeps,
}
use Rattle.linkinfo_table.specs.Members.{list_of, list_of_is_codec}
use Rattle.linkinfo_table.specs.Rows.{written_kind}
use Rattle.linkinfo_table.specs.TypedRows.{with_flat, with_lookup, with_owes, with_row}
use Rattle.linkinfo_table.specs.declared.decoded.Decoded.{Decoded}
use Rattle.linkinfo_typed.specs.NestedLists.{headers_in}
use Rattle.linkinfo_typed.specs.PayloadRows.{is_among, is_held, of_none, with_suits}
use Rattle.linkinfo_shapes.specs.Typed.{typed_shape_of}
use Rattle.linkinfo_shapes.specs.declared.shape.Shape.TheVariants.{
  U8,
  Le32,
  V4List,
  Nested,
  Le16,
  Mac,
  V6List,
}
use Rattle.linkinfo_numbers.specs.Table.{key-value_of}
use Rattle.linkinfo_numbers.specs.Bond.{
  bond_mode,
  bond_mode_number,
  bond_mode_table_holds,
  on_off,
  on_off_number,
  on_off_table_holds,
  bond_arp_validate,
  bond_arp_validate_number,
  bond_arp_validate_table_holds,
  bond_arp_all_targets,
  bond_arp_all_targets_number,
  bond_arp_all_targets_table_holds,
  bond_primary_reselect,
  bond_primary_reselect_number,
  bond_primary_reselect_table_holds,
  bond_fail_over_mac,
  bond_fail_over_mac_number,
  bond_fail_over_mac_table_holds,
  bond_xmit_hash_policy,
  bond_xmit_hash_policy_number,
  bond_xmit_hash_policy_table_holds,
  bond_all_port_active,
  bond_all_port_active_number,
  bond_all_port_active_table_holds,
  bond_lacp_rate,
  bond_lacp_rate_number,
  bond_lacp_rate_table_holds,
  bond_ad_select,
  bond_ad_select_number,
  bond_ad_select_table_holds,
}
use Rattle.linkinfo_table.specs.Labels.{each_keeps}
use Rattle.linkinfo_payloads.specs.Payloads.{
  v4_list_codec,
  v4_list_payload,
  v6_list_codec,
  v6_list_payload,
}
use Rattle.linkinfo_typed.specs.BondAdInfo.{
  bond_ad_info_attribute,
  bond_ad_info_lawful,
  bond_ad_info_members,
}
use Rattle.linkinfo_typed.specs.declared.bond.InfoBond.{InfoBond}
use Rattle.linkinfo_typed.specs.declared.bond.InfoBond.TheVariants.{
  Mode,
  ActivePort,
  MiiMon,
  UpDelay,
  DownDelay,
  UseCarrier,
  ArpInterval,
  ArpIpTarget,
  ArpValidate,
  ArpAllTargets,
  Primary,
  PrimaryReselect,
  FailOverMac,
  XmitHashPolicy,
  ResendIgmp,
  NumPeerNotif,
  AllPortsActive,
  MinLinks,
  LpInterval,
  PacketsPerPort,
  AdLacpRate,
  AdSelect,
  AdInfo,
  AdActorSysPrio,
  AdUserPortKey,
  AdActorSystem,
  TlbDynamicLb,
  PeerNotifDelay,
  AdLacpActive,
  MissedMax,
  NsIp6Target,
  CoupledControl,
  BroadcastNeigh,
  LacpStrict,
  Other,
}

-- the rows with a shape of the table
abbrev pub bond_plain : List (PlainRow InfoBond)
bond_plain =
    row 1 U8 (λ n. Mode (bond_mode n)) ∷
    row 2 Le32 (λ n. ActivePort n) ∷
    row 3 Le32 (λ n. MiiMon n) ∷
    row 4 Le32 (λ n. UpDelay n) ∷
    row 5 Le32 (λ n. DownDelay n) ∷
    row 6 U8 (λ n. UseCarrier (on_off n)) ∷
    row 7 Le32 (λ n. ArpInterval n) ∷
    row 9 Le32 (λ n. ArpValidate (bond_arp_validate n)) ∷
    row 10 Le32 (λ n. ArpAllTargets (bond_arp_all_targets n)) ∷
    row 11 Le32 (λ n. Primary n) ∷
    row 12 U8 (λ n. PrimaryReselect (bond_primary_reselect n)) ∷
    row 13 U8 (λ n. FailOverMac (bond_fail_over_mac n)) ∷
    row 14 U8 (λ n. XmitHashPolicy (bond_xmit_hash_policy n)) ∷
    row 15 Le32 (λ n. ResendIgmp n) ∷
    row 16 U8 (λ n. NumPeerNotif n) ∷
    row 17 U8 (λ n. AllPortsActive (bond_all_port_active n)) ∷
    row 18 Le32 (λ n. MinLinks n) ∷
    row 19 Le32 (λ n. LpInterval n) ∷
    row 20 Le32 (λ n. PacketsPerPort n) ∷
    row 21 U8 (λ n. AdLacpRate (bond_lacp_rate n)) ∷
    row 22 U8 (λ n. AdSelect (bond_ad_select n)) ∷
    row 24 Le16 (λ n. AdActorSysPrio n) ∷
    row 25 Le16 (λ n. AdUserPortKey n) ∷
    row 26 Mac (λ a. AdActorSystem a) ∷
    row 27 U8 (λ n. TlbDynamicLb (on_off n)) ∷
    row 28 Le32 (λ n. PeerNotifDelay n) ∷
    row 29 U8 (λ n. AdLacpActive (on_off n)) ∷
    row 30 U8 (λ n. MissedMax n) ∷
    row 32 U8 (λ n. CoupledControl (on_off n)) ∷
    row 33 U8 (λ n. BroadcastNeigh (on_off n)) ∷
    row 34 U8 (λ n. LacpStrict (on_off n)) ∷
    []

abbrev pub bond_attribute : InfoBond → Attribute
bond_attribute (Mode mode) = typed 1 U8 (bond_mode_number mode)
bond_attribute (ActivePort n) = typed 2 Le32 n
bond_attribute (MiiMon n) = typed 3 Le32 n
bond_attribute (UpDelay n) = typed 4 Le32 n
bond_attribute (DownDelay n) = typed 5 Le32 n
bond_attribute (UseCarrier switch) = typed 6 U8 (on_off_number switch)
bond_attribute (ArpInterval n) = typed 7 Le32 n
bond_attribute (ArpIpTarget x) = record { kind = 8; value = v4_list_codec.canon x }
bond_attribute (ArpValidate validate) = typed 9 Le32 (bond_arp_validate_number validate)
bond_attribute (ArpAllTargets targets) = typed 10 Le32 (bond_arp_all_targets_number targets)
bond_attribute (Primary n) = typed 11 Le32 n
bond_attribute (PrimaryReselect reselect) = typed 12 U8 (bond_primary_reselect_number reselect)
bond_attribute (FailOverMac fail_over) = typed 13 U8 (bond_fail_over_mac_number fail_over)
bond_attribute (XmitHashPolicy policy) = typed 14 U8 (bond_xmit_hash_policy_number policy)
bond_attribute (ResendIgmp n) = typed 15 Le32 n
bond_attribute (NumPeerNotif n) = typed 16 U8 n
bond_attribute (AllPortsActive all_active) = typed 17 U8 (bond_all_port_active_number all_active)
bond_attribute (MinLinks n) = typed 18 Le32 n
bond_attribute (LpInterval n) = typed 19 Le32 n
bond_attribute (PacketsPerPort n) = typed 20 Le32 n
bond_attribute (AdLacpRate rate) = typed 21 U8 (bond_lacp_rate_number rate)
bond_attribute (AdSelect select) = typed 22 U8 (bond_ad_select_number select)
bond_attribute (AdInfo xs) =
    record { kind = 23; value = list_string (map bond_ad_info_attribute xs) }
bond_attribute (AdActorSysPrio n) = typed 24 Le16 n
bond_attribute (AdUserPortKey n) = typed 25 Le16 n
bond_attribute (AdActorSystem a) = typed 26 Mac a
bond_attribute (TlbDynamicLb switch) = typed 27 U8 (on_off_number switch)
bond_attribute (PeerNotifDelay n) = typed 28 Le32 n
bond_attribute (AdLacpActive switch) = typed 29 U8 (on_off_number switch)
bond_attribute (MissedMax n) = typed 30 U8 n
bond_attribute (NsIp6Target x) =
    record { kind = written_kind true 31; value = v6_list_codec.canon x }
bond_attribute (CoupledControl switch) = typed 32 U8 (on_off_number switch)
bond_attribute (BroadcastNeigh switch) = typed 33 U8 (on_off_number switch)
bond_attribute (LacpStrict switch) = typed 34 U8 (on_off_number switch)
bond_attribute (Other nla) = attribute_of nla

pub bond_keeps : EachKeeps bond_attribute bond_plain
bond_keeps = each_keeps bond_attribute bond_plain refl
    ((λ n. ap (typed 1 U8) (key-value_of bond_mode_table_holds n))
    & (λ n. refl)
    & (λ n. refl)
    & (λ n. refl)
    & (λ n. refl)
    & (λ n. ap (typed 6 U8) (key-value_of on_off_table_holds n))
    & (λ n. refl)
    & (λ n. ap (typed 9 Le32) (key-value_of bond_arp_validate_table_holds n))
    & (λ n. ap (typed 10 Le32) (key-value_of bond_arp_all_targets_table_holds n))
    & (λ n. refl)
    & (λ n. ap (typed 12 U8) (key-value_of bond_primary_reselect_table_holds n))
    & (λ n. ap (typed 13 U8) (key-value_of bond_fail_over_mac_table_holds n))
    & (λ n. ap (typed 14 U8) (key-value_of bond_xmit_hash_policy_table_holds n))
    & (λ n. refl)
    & (λ n. refl)
    & (λ n. ap (typed 17 U8) (key-value_of bond_all_port_active_table_holds n))
    & (λ n. refl)
    & (λ n. refl)
    & (λ n. refl)
    & (λ n. ap (typed 21 U8) (key-value_of bond_lacp_rate_table_holds n))
    & (λ n. ap (typed 22 U8) (key-value_of bond_ad_select_table_holds n))
    & (λ n. refl)
    & (λ n. refl)
    & (λ a. refl)
    & (λ n. ap (typed 27 U8) (key-value_of on_off_table_holds n))
    & (λ n. refl)
    & (λ n. ap (typed 29 U8) (key-value_of on_off_table_holds n))
    & (λ n. refl)
    & (λ n. ap (typed 32 U8) (key-value_of on_off_table_holds n))
    & (λ n. ap (typed 33 U8) (key-value_of on_off_table_holds n))
    & (λ n. ap (typed 34 U8) (key-value_of on_off_table_holds n))
    & tt)

-- rows with payloads of types of their own, each before the others, and those of the table
abbrev pub bond_from_ns_ip6_target : ℕ → FamilyRow InfoBond
bond_from_ns_ip6_target n =
    with_row 31 V6List true v6_list_codec
    (λ x. NsIp6Target x) (table_row bond_plain) n

abbrev pub bond_from_ad_info : ℕ → FamilyRow InfoBond
bond_from_ad_info n =
    with_row 23 (Nested family.BondAdInfo) false (list_of bond_ad_info_members)
    (λ x. AdInfo x) bond_from_ns_ip6_target n

abbrev pub bond_from_arp_ip_target : ℕ → FamilyRow InfoBond
bond_from_arp_ip_target n =
    with_row 8 V4List false v4_list_codec
    (λ x. ArpIpTarget x) bond_from_ad_info n

abbrev pub bond_rows : ℕ → FamilyRow InfoBond
bond_rows n = bond_from_arp_ip_target n

pub bond_owes : (n : ℕ) → RowOwes bond_attribute n (row_of (bond_rows n))
bond_owes n =
    with_owes 8 V4List false v4_list_codec
    (λ x. ArpIpTarget x) bond_from_ad_info bond_attribute (lit< tt)
    v4_list_payload.codec (λ _. refl) (λ x y e. cc) (
    with_owes 23 (Nested family.BondAdInfo) false (list_of bond_ad_info_members)
    (λ x. AdInfo x) bond_from_ns_ip6_target bond_attribute (lit< tt)
    (list_of_is_codec bond_ad_info_members bond_ad_info_lawful) (λ _. refl) (λ x y e. cc) (
    with_owes 31 V6List true v6_list_codec
    (λ x. NsIp6Target x) (table_row bond_plain) bond_attribute (lit< tt)
    v6_list_payload.codec (λ _. refl) (λ x y e. cc) (
    table_owes bond_attribute bond_plain bond_keeps))) n

pub bond_flat : (n : ℕ) → is_among (8 ∷ 23 ∷ 31 ∷ []) n ≡ false → IsFlat (bond_rows n)
bond_flat n h =
    with_flat 8 V4List false v4_list_codec (λ x. ArpIpTarget x) bond_from_ad_info
    (is_among (23 ∷ 31 ∷ []) n) n h (λ e.
    with_flat 23 (Nested family.BondAdInfo) false (list_of bond_ad_info_members)
    (λ x. AdInfo x) bond_from_ns_ip6_target (is_among (31 ∷ []) n) n e (λ e.
    with_flat 31 V6List true v6_list_codec (λ x. NsIp6Target x) (table_row bond_plain)
    false n e (λ _.
    table_flat bond_attribute bond_plain bond_keeps n)))

-- the headers in a payload of each type
abbrev pub bond_headers : ℕ → List ℕ → ℕ
bond_headers n p =
    if is_among (8 ∷ []) n then (
    if n == 8 then v4_list_codec.headers p else
    0) else (
    if n == 23 then headers_in bond_ad_info_members p else
    if n == 31 then v6_list_codec.headers p else
    0)

pub bond_flat_elsewhere : (n : ℕ) → (is_among (8 ∷ []) n ||
    is_among (23 ∷ 31 ∷ []) n) ≡ false → IsFlat (bond_rows n)
bond_flat_elsewhere n h =
    bond_flat n ((of_none (8 ∷ []) (23 ∷ 31 ∷ []) n
    (λ h. h) (λ h. h)) h)

-- the table of the typed layer has the same rows
pub bond_lookup : (n : ℕ) → lookup_of (bond_rows n) ≡ lookup_in (typed_shape_of family.Bond n)
bond_lookup n =
    with_lookup 8 V4List false v4_list_codec (λ x. ArpIpTarget x) bond_from_ad_info
    ((23, Nested family.BondAdInfo) ∷ (31, V6List) ∷ without_labels bond_plain) n (
    with_lookup 23 (Nested family.BondAdInfo) false (list_of bond_ad_info_members)
    (λ x. AdInfo x) bond_from_ns_ip6_target ((31, V6List) ∷ without_labels bond_plain) n (
    with_lookup 31 V6List true v6_list_codec (λ x. NsIp6Target x) (table_row bond_plain)
    (without_labels bond_plain) n (
    table_lookup bond_plain n)))

-- a decoded datum belongs to a row with a shape of the table
pub bond_suits : (read : Decoded) → SuitsDecoded bond_rows read →
    SuitsDecoded (λ n. table_row bond_plain n) read
bond_suits read h =
    with_suits 8 V4List false v4_list_codec (λ x. ArpIpTarget x) bond_from_ad_info read h (λ e.
    with_suits 23 (Nested family.BondAdInfo) false (list_of bond_ad_info_members)
    (λ x. AdInfo x) bond_from_ns_ip6_target read e (λ e.
    with_suits 31 V6List true v6_list_codec (λ x. NsIp6Target x) (table_row bond_plain) read e (λ e.
    e)))

-- the family writes such payloads itself
abbrev pub bond_is_custom : InfoBond → Bool
bond_is_custom (ArpIpTarget x) = true
bond_is_custom (AdInfo x) = true
bond_is_custom (NsIp6Target x) = true
bond_is_custom _ = false

abbrev pub is_arp_ip_target : InfoBond → Bool
is_arp_ip_target (ArpIpTarget x) = true
is_arp_ip_target _ = false

abbrev pub is_ad_info : InfoBond → Bool
is_ad_info (AdInfo x) = true
is_ad_info _ = false

abbrev pub is_ns_ip6_target : InfoBond → Bool
is_ns_ip6_target (NsIp6Target x) = true
is_ns_ip6_target _ = false

pub bond_elsewhere : (x : InfoBond) → (is_held (is_arp_ip_target ∷ []) x ||
    is_held (is_ad_info ∷ is_ns_ip6_target ∷ []) x) ≡ false → bond_is_custom x ≡ false
bond_elsewhere (ArpIpTarget x) h = h
bond_elsewhere (AdInfo x) h = h
bond_elsewhere (NsIp6Target x) h = h
bond_elsewhere _ h = refl
