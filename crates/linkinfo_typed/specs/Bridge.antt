-- Written by tables/generate from tables/bridge.
-- The rows of `bridge` links.
use Rattle.std.specs.Prelude.{
  ◌≡◌,
  ◌==◌,
  ◌||◌,
  ℕ,
  Bool,
  if◌then◌else◌,
  true,
  false,
  List,
  [],
  ◌∷◌,
  map,
  refl,
}
use Rattle.std.proofs.Common.{ap, lit<}
use Rattle.nla_frame.specs.Attribute.{Attribute, list_string}
use Rattle.nla_frame.specs.Kept.{attribute_of}
use Rattle.nla_frame.specs.Pairs.{◌&◌}
use Rattle.nla_frame.specs.declared.error.Family.TheVariants as family
use Rattle.linkinfo_table.specs.FamilyRowLaws.{table_flat, table_lookup, table_owes}
use Rattle.linkinfo_table.specs.FamilyRows.{
  FamilyRow,
  IsFlat,
  PlainRow,
  RowOwes,
  SuitsDecoded,
  lookup_in,
  lookup_of,
  row,
  row_of,
  table_row,
  typed,
  without_labels,
  EachKeeps,
}
use Rattle.linkinfo_table.specs.Members.{list_of, list_of_is_codec}
use Rattle.linkinfo_table.specs.Rows.{written_kind}
use Rattle.linkinfo_table.specs.TypedRows.{with_flat, with_lookup, with_owes, with_row}
use Rattle.linkinfo_table.specs.declared.decoded.Decoded.{Decoded}
use Rattle.linkinfo_typed.specs.NestedLists.{headers_in}
use Rattle.linkinfo_typed.specs.PayloadRows.{is_among, is_held, of_none, with_suits}
use Rattle.linkinfo_shapes.specs.Typed.{typed_shape_of}
use Rattle.linkinfo_shapes.specs.declared.shape.Shape.TheVariants.{
  Le32,
  Le16,
  Truth,
  Be16,
  BridgeId,
  U8,
  Le64,
  Mac,
  Mark,
  FlagPair,
  Nested,
}
use Rattle.linkinfo_numbers.specs.Table.{key-value_of}
use Rattle.linkinfo_numbers.specs.Bridge.{
  bridge_stp_state,
  bridge_stp_state_number,
  bridge_stp_state_table_holds,
  bridge_multicast_router_type,
  bridge_multicast_router_type_number,
  bridge_multicast_router_type_table_holds,
  bridge_stp_mode,
  bridge_stp_mode_number,
  bridge_stp_mode_table_holds,
  bridge_boolean_option_flags,
}
use Rattle.linkinfo_numbers.specs.Vlan.{
  vlan_protocol,
  vlan_protocol_number,
  vlan_protocol_table_holds,
}
use Rattle.linkinfo_numbers.specs.Bond.{on_off, on_off_number, on_off_table_holds}
use Rattle.linkinfo_numbers.specs.declared.bridge.BridgeBooleanOptions.{BridgeBooleanOptions}
use Rattle.linkinfo_table.specs.Labels.{each_keeps}
use Rattle.linkinfo_payloads.specs.Payloads.{bridge_id_codec, bridge_id_payload}
use Rattle.linkinfo_typed.specs.BridgeQuerierState.{
  bridge_querier_state_attribute,
  bridge_querier_state_lawful,
  bridge_querier_state_members,
}
use Rattle.linkinfo_typed.specs.declared.bridge.InfoBridge.{InfoBridge}
use Rattle.linkinfo_typed.specs.declared.bridge.InfoBridge.TheVariants.{
  ForwardDelay,
  HelloTime,
  MaxAge,
  AgeingTime,
  StpState,
  Priority,
  VlanFiltering,
  VlanProtocol,
  GroupFwdMask,
  RootId,
  BridgeId,
  RootPort,
  RootPathCost,
  TopologyChange,
  TopologyChangeDetected,
  HelloTimer,
  TcnTimer,
  TopologyChangeTimer,
  GcTimer,
  GroupAddr,
  FdbFlush,
  MulticastRouter,
  MulticastSnooping,
  MulticastQueryUseIfaddr,
  MulticastQuerier,
  MulticastHashElasticity,
  MulticastHashMax,
  MulticastLastMemberCount,
  MulticastStartupQueryCount,
  MulticastLastMemberInterval,
  MulticastMembershipInterval,
  MulticastQuerierInterval,
  MulticastQueryInterval,
  MulticastQueryResponseInterval,
  MulticastStartupQueryInterval,
  NfCallIpTables,
  NfCallIp6Tables,
  NfCallArpTables,
  VlanDefaultPvid,
  VlanStatsEnabled,
  MulticastStatsEnabled,
  MulticastIgmpVersion,
  MulticastMldVersion,
  VlanStatsPerPort,
  MultiBoolOpt,
  MulticastQuerierState,
  FdbNLearned,
  FdbMaxLearned,
  StpMode,
  Other,
}

-- both sets of their numbers
abbrev pub both_sets : ℕ × ℕ → BridgeBooleanOptions
both_sets pair =
    record { value = bridge_boolean_option_flags pair.0; mask = bridge_boolean_option_flags pair.1 }

-- the rows with a shape of the table
abbrev pub bridge_plain : List (PlainRow InfoBridge)
bridge_plain =
    row 1 Le32 (λ n. ForwardDelay n) ∷
    row 2 Le32 (λ n. HelloTime n) ∷
    row 3 Le32 (λ n. MaxAge n) ∷
    row 4 Le32 (λ n. AgeingTime n) ∷
    row 5 Le32 (λ n. StpState (bridge_stp_state n)) ∷
    row 6 Le16 (λ n. Priority n) ∷
    row 7 Truth (λ b. VlanFiltering b) ∷
    row 8 Be16 (λ n. VlanProtocol (vlan_protocol n)) ∷
    row 9 Le16 (λ n. GroupFwdMask n) ∷
    row 12 Le16 (λ n. RootPort n) ∷
    row 13 Le32 (λ n. RootPathCost n) ∷
    row 14 U8 (λ n. TopologyChange n) ∷
    row 15 U8 (λ n. TopologyChangeDetected n) ∷
    row 16 Le64 (λ n. HelloTimer n) ∷
    row 17 Le64 (λ n. TcnTimer n) ∷
    row 18 Le64 (λ n. TopologyChangeTimer n) ∷
    row 19 Le64 (λ n. GcTimer n) ∷
    row 20 Mac (λ a. GroupAddr a) ∷
    row 21 Mark (λ _. FdbFlush) ∷
    row 22 U8 (λ n. MulticastRouter (bridge_multicast_router_type n)) ∷
    row 23 Truth (λ b. MulticastSnooping b) ∷
    row 24 Truth (λ b. MulticastQueryUseIfaddr b) ∷
    row 25 Truth (λ b. MulticastQuerier b) ∷
    row 26 Le32 (λ n. MulticastHashElasticity n) ∷
    row 27 Le32 (λ n. MulticastHashMax n) ∷
    row 28 Le32 (λ n. MulticastLastMemberCount n) ∷
    row 29 Le32 (λ n. MulticastStartupQueryCount n) ∷
    row 30 Le64 (λ n. MulticastLastMemberInterval n) ∷
    row 31 Le64 (λ n. MulticastMembershipInterval n) ∷
    row 32 Le64 (λ n. MulticastQuerierInterval n) ∷
    row 33 Le64 (λ n. MulticastQueryInterval n) ∷
    row 34 Le64 (λ n. MulticastQueryResponseInterval n) ∷
    row 35 Le64 (λ n. MulticastStartupQueryInterval n) ∷
    row 36 Truth (λ b. NfCallIpTables b) ∷
    row 37 Truth (λ b. NfCallIp6Tables b) ∷
    row 38 Truth (λ b. NfCallArpTables b) ∷
    row 39 Le16 (λ n. VlanDefaultPvid n) ∷
    row 41 U8 (λ n. VlanStatsEnabled (on_off n)) ∷
    row 42 Truth (λ b. MulticastStatsEnabled b) ∷
    row 43 U8 (λ n. MulticastIgmpVersion n) ∷
    row 44 U8 (λ n. MulticastMldVersion n) ∷
    row 45 U8 (λ n. VlanStatsPerPort (on_off n)) ∷
    row 46 FlagPair (λ pair. MultiBoolOpt (both_sets pair)) ∷
    row 48 Le32 (λ n. FdbNLearned n) ∷
    row 49 Le32 (λ n. FdbMaxLearned n) ∷
    row 50 Le32 (λ n. StpMode (bridge_stp_mode n)) ∷
    []

abbrev pub bridge_attribute : InfoBridge → Attribute
bridge_attribute (ForwardDelay n) = typed 1 Le32 n
bridge_attribute (HelloTime n) = typed 2 Le32 n
bridge_attribute (MaxAge n) = typed 3 Le32 n
bridge_attribute (AgeingTime n) = typed 4 Le32 n
bridge_attribute (StpState stp) = typed 5 Le32 (bridge_stp_state_number stp)
bridge_attribute (Priority n) = typed 6 Le16 n
bridge_attribute (VlanFiltering b) = typed 7 Truth b
bridge_attribute (VlanProtocol protocol) = typed 8 Be16 (vlan_protocol_number protocol)
bridge_attribute (GroupFwdMask n) = typed 9 Le16 n
bridge_attribute (RootId x) = record { kind = 10; value = bridge_id_codec.canon x }
bridge_attribute (BridgeId x) = record { kind = 11; value = bridge_id_codec.canon x }
bridge_attribute (RootPort n) = typed 12 Le16 n
bridge_attribute (RootPathCost n) = typed 13 Le32 n
bridge_attribute (TopologyChange n) = typed 14 U8 n
bridge_attribute (TopologyChangeDetected n) = typed 15 U8 n
bridge_attribute (HelloTimer n) = typed 16 Le64 n
bridge_attribute (TcnTimer n) = typed 17 Le64 n
bridge_attribute (TopologyChangeTimer n) = typed 18 Le64 n
bridge_attribute (GcTimer n) = typed 19 Le64 n
bridge_attribute (GroupAddr a) = typed 20 Mac a
bridge_attribute FdbFlush = typed 21 Mark tt
bridge_attribute (MulticastRouter router) = typed 22 U8 (bridge_multicast_router_type_number router)
bridge_attribute (MulticastSnooping b) = typed 23 Truth b
bridge_attribute (MulticastQueryUseIfaddr b) = typed 24 Truth b
bridge_attribute (MulticastQuerier b) = typed 25 Truth b
bridge_attribute (MulticastHashElasticity n) = typed 26 Le32 n
bridge_attribute (MulticastHashMax n) = typed 27 Le32 n
bridge_attribute (MulticastLastMemberCount n) = typed 28 Le32 n
bridge_attribute (MulticastStartupQueryCount n) = typed 29 Le32 n
bridge_attribute (MulticastLastMemberInterval n) = typed 30 Le64 n
bridge_attribute (MulticastMembershipInterval n) = typed 31 Le64 n
bridge_attribute (MulticastQuerierInterval n) = typed 32 Le64 n
bridge_attribute (MulticastQueryInterval n) = typed 33 Le64 n
bridge_attribute (MulticastQueryResponseInterval n) = typed 34 Le64 n
bridge_attribute (MulticastStartupQueryInterval n) = typed 35 Le64 n
bridge_attribute (NfCallIpTables b) = typed 36 Truth b
bridge_attribute (NfCallIp6Tables b) = typed 37 Truth b
bridge_attribute (NfCallArpTables b) = typed 38 Truth b
bridge_attribute (VlanDefaultPvid n) = typed 39 Le16 n
bridge_attribute (VlanStatsEnabled switch) = typed 41 U8 (on_off_number switch)
bridge_attribute (MulticastStatsEnabled b) = typed 42 Truth b
bridge_attribute (MulticastIgmpVersion n) = typed 43 U8 n
bridge_attribute (MulticastMldVersion n) = typed 44 U8 n
bridge_attribute (VlanStatsPerPort switch) = typed 45 U8 (on_off_number switch)
bridge_attribute (MultiBoolOpt x) = typed 46 FlagPair (x.value.0, x.mask.0)
bridge_attribute (MulticastQuerierState xs) =
    record {
      kind = written_kind true 47;
      value = list_string (map bridge_querier_state_attribute xs);
    }
bridge_attribute (FdbNLearned n) = typed 48 Le32 n
bridge_attribute (FdbMaxLearned n) = typed 49 Le32 n
bridge_attribute (StpMode mode) = typed 50 Le32 (bridge_stp_mode_number mode)
bridge_attribute (Other nla) = attribute_of nla

pub bridge_keeps : EachKeeps bridge_attribute bridge_plain
bridge_keeps = each_keeps bridge_attribute bridge_plain refl
    ((λ n. refl)
    & (λ n. refl)
    & (λ n. refl)
    & (λ n. refl)
    & (λ n. ap (typed 5 Le32) (key-value_of bridge_stp_state_table_holds n))
    & (λ n. refl)
    & (λ b. refl)
    & (λ n. ap (typed 8 Be16) (key-value_of vlan_protocol_table_holds n))
    & (λ n. refl)
    & (λ n. refl)
    & (λ n. refl)
    & (λ n. refl)
    & (λ n. refl)
    & (λ n. refl)
    & (λ n. refl)
    & (λ n. refl)
    & (λ n. refl)
    & (λ a. refl)
    & (λ _. refl)
    & (λ n. ap (typed 22 U8) (key-value_of bridge_multicast_router_type_table_holds n))
    & (λ b. refl)
    & (λ b. refl)
    & (λ b. refl)
    & (λ n. refl)
    & (λ n. refl)
    & (λ n. refl)
    & (λ n. refl)
    & (λ n. refl)
    & (λ n. refl)
    & (λ n. refl)
    & (λ n. refl)
    & (λ n. refl)
    & (λ n. refl)
    & (λ b. refl)
    & (λ b. refl)
    & (λ b. refl)
    & (λ n. refl)
    & (λ n. ap (typed 41 U8) (key-value_of on_off_table_holds n))
    & (λ b. refl)
    & (λ n. refl)
    & (λ n. refl)
    & (λ n. ap (typed 45 U8) (key-value_of on_off_table_holds n))
    & (λ pair. refl)
    & (λ n. refl)
    & (λ n. refl)
    & (λ n. ap (typed 50 Le32) (key-value_of bridge_stp_mode_table_holds n))
    & tt)

-- rows with payloads of types of their own, each before the others, and those of the table
abbrev pub bridge_from_multicast_querier_state : ℕ → FamilyRow InfoBridge
bridge_from_multicast_querier_state n =
    with_row 47 (Nested family.BridgeQuerierState) true (list_of bridge_querier_state_members)
    (λ x. MulticastQuerierState x) (table_row bridge_plain) n

abbrev pub bridge_from_bridge_id : ℕ → FamilyRow InfoBridge
bridge_from_bridge_id n =
    with_row 11 BridgeId false bridge_id_codec
    (λ x. BridgeId x) bridge_from_multicast_querier_state n

abbrev pub bridge_from_root_id : ℕ → FamilyRow InfoBridge
bridge_from_root_id n =
    with_row 10 BridgeId false bridge_id_codec
    (λ x. RootId x) bridge_from_bridge_id n

abbrev pub bridge_rows : ℕ → FamilyRow InfoBridge
bridge_rows n = bridge_from_root_id n

pub bridge_owes : (n : ℕ) → RowOwes bridge_attribute n (row_of (bridge_rows n))
bridge_owes n =
    with_owes 10 BridgeId false bridge_id_codec
    (λ x. RootId x) bridge_from_bridge_id bridge_attribute (lit< tt)
    bridge_id_payload.codec (λ _. refl) (λ x y e. cc) (
    with_owes 11 BridgeId false bridge_id_codec
    (λ x. BridgeId x) bridge_from_multicast_querier_state bridge_attribute (lit< tt)
    bridge_id_payload.codec (λ _. refl) (λ x y e. cc) (
    with_owes 47 (Nested family.BridgeQuerierState) true (list_of bridge_querier_state_members)
    (λ x. MulticastQuerierState x) (table_row bridge_plain) bridge_attribute (lit< tt)
    (list_of_is_codec bridge_querier_state_members bridge_querier_state_lawful) (λ _. refl) (λ x y
    e. cc) (
    table_owes bridge_attribute bridge_plain bridge_keeps))) n

pub bridge_flat : (n : ℕ) → is_among (10 ∷ 11 ∷ 47 ∷ []) n ≡ false → IsFlat (bridge_rows n)
bridge_flat n h =
    with_flat 10 BridgeId false bridge_id_codec (λ x. RootId x) bridge_from_bridge_id
    (is_among (11 ∷ 47 ∷ []) n) n h (λ e.
    with_flat 11 BridgeId false bridge_id_codec
    (λ x. BridgeId x) bridge_from_multicast_querier_state (is_among (47 ∷ []) n) n e (λ e.
    with_flat 47 (Nested family.BridgeQuerierState) true (list_of bridge_querier_state_members)
    (λ x. MulticastQuerierState x) (table_row bridge_plain) false n e (λ _.
    table_flat bridge_attribute bridge_plain bridge_keeps n)))

-- the headers in a payload of each type
abbrev pub bridge_headers : ℕ → List ℕ → ℕ
bridge_headers n p =
    if is_among (10 ∷ []) n then (
    if n == 10 then bridge_id_codec.headers p else
    0) else (
    if n == 11 then bridge_id_codec.headers p else
    if n == 47 then headers_in bridge_querier_state_members p else
    0)

pub bridge_flat_elsewhere : (n : ℕ) → (is_among (10 ∷ []) n ||
    is_among (11 ∷ 47 ∷ []) n) ≡ false → IsFlat (bridge_rows n)
bridge_flat_elsewhere n h =
    bridge_flat n ((of_none (10 ∷ []) (11 ∷ 47 ∷ []) n
    (λ h. h) (λ h. h)) h)

-- the table of the typed layer has the same rows
pub bridge_lookup : (n : ℕ) → lookup_of (bridge_rows n) ≡ lookup_in (typed_shape_of family.Bridge n)
bridge_lookup n =
    with_lookup 10 BridgeId false bridge_id_codec (λ x. RootId x) bridge_from_bridge_id
    ((11, BridgeId) ∷ (47, Nested family.BridgeQuerierState) ∷ without_labels bridge_plain) n (
    with_lookup 11 BridgeId false bridge_id_codec
    (λ x. BridgeId x) bridge_from_multicast_querier_state
    ((47, Nested family.BridgeQuerierState) ∷ without_labels bridge_plain) n (
    with_lookup 47 (Nested family.BridgeQuerierState) true (list_of bridge_querier_state_members)
    (λ x. MulticastQuerierState x) (table_row bridge_plain) (without_labels bridge_plain) n (
    table_lookup bridge_plain n)))

-- a decoded datum belongs to a row with a shape of the table
pub bridge_suits : (read : Decoded) → SuitsDecoded bridge_rows read →
    SuitsDecoded (λ n. table_row bridge_plain n) read
bridge_suits read h =
    with_suits 10 BridgeId false bridge_id_codec (λ x. RootId x) bridge_from_bridge_id read h (λ e.
    with_suits 11 BridgeId false bridge_id_codec
    (λ x. BridgeId x) bridge_from_multicast_querier_state read e (λ e.
    with_suits 47 (Nested family.BridgeQuerierState) true (list_of bridge_querier_state_members)
    (λ x. MulticastQuerierState x) (table_row bridge_plain) read e (λ e.
    e)))

-- the family writes such payloads itself
abbrev pub bridge_is_custom : InfoBridge → Bool
bridge_is_custom (RootId x) = true
bridge_is_custom (BridgeId x) = true
bridge_is_custom (MulticastQuerierState x) = true
bridge_is_custom _ = false

abbrev pub is_root_id : InfoBridge → Bool
is_root_id (RootId x) = true
is_root_id _ = false

abbrev pub is_bridge_id : InfoBridge → Bool
is_bridge_id (BridgeId x) = true
is_bridge_id _ = false

abbrev pub is_multicast_querier_state : InfoBridge → Bool
is_multicast_querier_state (MulticastQuerierState x) = true
is_multicast_querier_state _ = false

pub bridge_elsewhere : (x : InfoBridge) → (is_held (is_root_id ∷ []) x ||
    is_held (is_bridge_id ∷ is_multicast_querier_state ∷ []) x) ≡ false → bridge_is_custom x ≡ false
bridge_elsewhere (RootId x) h = h
bridge_elsewhere (BridgeId x) h = h
bridge_elsewhere (MulticastQuerierState x) h = h
bridge_elsewhere _ h = refl
