-- Written by tables/generate from tables/bridgeport.
-- The rows of ports of bridges.
use Rattle.std.specs.Prelude.{◌≡◌, ◌==◌, ℕ, Bool, if◌then◌else◌, true, false, List, [], ◌∷◌, refl}
use Rattle.std.proofs.Common.{ap, lit<}
use Rattle.nla_frame.specs.Attribute.{Attribute}
use Rattle.nla_frame.specs.Kept.{attribute_of}
use Rattle.nla_frame.specs.Pairs.{◌&◌}
use Rattle.nla_frame.specs.declared.error.Family.TheVariants as family
use Rattle.linkinfo_table.specs.FamilyRowLaws.{table_flat, table_lookup, table_owes}
use Rattle.linkinfo_table.specs.FamilyRows.{
  FamilyRow,
  IsFlat,
  PlainRow,
  RowOwes,
  SuitsDecoded,
  lookup_in,
  lookup_of,
  row,
  row_of,
  table_row,
  typed,
  without_labels,
  EachKeeps,
}
use Rattle.linkinfo_table.specs.TypedRows.{with_flat, with_lookup, with_owes, with_row}
use Rattle.linkinfo_table.specs.declared.decoded.Decoded.{Decoded}
use Rattle.linkinfo_typed.specs.PayloadRows.{is_among, is_held, with_suits}
use Rattle.linkinfo_shapes.specs.Typed.{typed_shape_of}
use Rattle.linkinfo_shapes.specs.declared.shape.Shape.TheVariants.{
  U8,
  Le16,
  Le32,
  Truth,
  BridgeId,
  Le64,
  Mark,
}
use Rattle.linkinfo_numbers.specs.Table.{key-value_of}
use Rattle.linkinfo_numbers.specs.Bridge.{
  bridge_port_state,
  bridge_port_state_number,
  bridge_port_state_table_holds,
  bridge_multicast_router_type,
  bridge_multicast_router_type_number,
  bridge_multicast_router_type_table_holds,
}
use Rattle.linkinfo_numbers.specs.Bond.{on_off, on_off_number, on_off_table_holds}
use Rattle.linkinfo_table.specs.Labels.{each_keeps}
use Rattle.linkinfo_payloads.specs.Payloads.{bridge_id_codec, bridge_id_payload}
use Rattle.linkinfo_typed.specs.declared.bridge_port.InfoBridgePort.{InfoBridgePort}
use Rattle.linkinfo_typed.specs.declared.bridge_port.InfoBridgePort.TheVariants.{
  State,
  Priority,
  Cost,
  HairpinMode,
  Guard,
  Protect,
  FastLeave,
  Learning,
  UnicastFlood,
  ProxyARP,
  LearningSync,
  ProxyARPWifi,
  RootId,
  BridgeId,
  DesignatedPort,
  DesignatedCost,
  PortId,
  PortNumber,
  TopologyChangeAck,
  ConfigPending,
  MessageAgeTimer,
  ForwardDelayTimer,
  HoldTimer,
  Flush,
  MulticastRouter,
  MulticastFlood,
  MulticastToUnicast,
  VlanTunnel,
  BroadcastFlood,
  GroupFwdMask,
  NeighSupress,
  Isolated,
  BackupPort,
  MrpRingOpen,
  MrpInOpen,
  MulticastEhtHostsLimit,
  MulticastEhtHostsCnt,
  Locked,
  Mab,
  MulticastNGroups,
  MulticastMaxGroups,
  NeighVlanSupress,
  BackupNextHopId,
  NeighForwardGrat,
  Other,
}

-- the rows with a shape of the table
abbrev pub bridge_port_plain : List (PlainRow InfoBridgePort)
bridge_port_plain =
    row 1 U8 (λ n. State (bridge_port_state n)) ∷
    row 2 Le16 (λ n. Priority n) ∷
    row 3 Le32 (λ n. Cost n) ∷
    row 4 Truth (λ b. HairpinMode b) ∷
    row 5 Truth (λ b. Guard b) ∷
    row 6 Truth (λ b. Protect b) ∷
    row 7 Truth (λ b. FastLeave b) ∷
    row 8 Truth (λ b. Learning b) ∷
    row 9 Truth (λ b. UnicastFlood b) ∷
    row 10 Truth (λ b. ProxyARP b) ∷
    row 11 Truth (λ b. LearningSync b) ∷
    row 12 Truth (λ b. ProxyARPWifi b) ∷
    row 15 Le16 (λ n. DesignatedPort n) ∷
    row 16 Le16 (λ n. DesignatedCost n) ∷
    row 17 Le16 (λ n. PortId n) ∷
    row 18 Le16 (λ n. PortNumber n) ∷
    row 19 Truth (λ b. TopologyChangeAck b) ∷
    row 20 Truth (λ b. ConfigPending b) ∷
    row 21 Le64 (λ n. MessageAgeTimer n) ∷
    row 22 Le64 (λ n. ForwardDelayTimer n) ∷
    row 23 Le64 (λ n. HoldTimer n) ∷
    row 24 Mark (λ _. Flush) ∷
    row 25 U8 (λ n. MulticastRouter (bridge_multicast_router_type n)) ∷
    row 27 Truth (λ b. MulticastFlood b) ∷
    row 28 Truth (λ b. MulticastToUnicast b) ∷
    row 29 Truth (λ b. VlanTunnel b) ∷
    row 30 Truth (λ b. BroadcastFlood b) ∷
    row 31 Le16 (λ n. GroupFwdMask n) ∷
    row 32 Truth (λ b. NeighSupress b) ∷
    row 33 Truth (λ b. Isolated b) ∷
    row 34 Le32 (λ n. BackupPort n) ∷
    row 35 Truth (λ b. MrpRingOpen b) ∷
    row 36 Truth (λ b. MrpInOpen b) ∷
    row 37 Le32 (λ n. MulticastEhtHostsLimit n) ∷
    row 38 Le32 (λ n. MulticastEhtHostsCnt n) ∷
    row 39 Truth (λ b. Locked b) ∷
    row 40 Truth (λ b. Mab b) ∷
    row 41 Le32 (λ n. MulticastNGroups n) ∷
    row 42 Le32 (λ n. MulticastMaxGroups n) ∷
    row 43 U8 (λ n. NeighVlanSupress (on_off n)) ∷
    row 44 Le32 (λ n. BackupNextHopId n) ∷
    row 45 U8 (λ n. NeighForwardGrat (on_off n)) ∷
    []

abbrev pub bridge_port_attribute : InfoBridgePort → Attribute
bridge_port_attribute (State state) = typed 1 U8 (bridge_port_state_number state)
bridge_port_attribute (Priority n) = typed 2 Le16 n
bridge_port_attribute (Cost n) = typed 3 Le32 n
bridge_port_attribute (HairpinMode b) = typed 4 Truth b
bridge_port_attribute (Guard b) = typed 5 Truth b
bridge_port_attribute (Protect b) = typed 6 Truth b
bridge_port_attribute (FastLeave b) = typed 7 Truth b
bridge_port_attribute (Learning b) = typed 8 Truth b
bridge_port_attribute (UnicastFlood b) = typed 9 Truth b
bridge_port_attribute (ProxyARP b) = typed 10 Truth b
bridge_port_attribute (LearningSync b) = typed 11 Truth b
bridge_port_attribute (ProxyARPWifi b) = typed 12 Truth b
bridge_port_attribute (RootId x) = record { kind = 13; value = bridge_id_codec.canon x }
bridge_port_attribute (BridgeId x) = record { kind = 14; value = bridge_id_codec.canon x }
bridge_port_attribute (DesignatedPort n) = typed 15 Le16 n
bridge_port_attribute (DesignatedCost n) = typed 16 Le16 n
bridge_port_attribute (PortId n) = typed 17 Le16 n
bridge_port_attribute (PortNumber n) = typed 18 Le16 n
bridge_port_attribute (TopologyChangeAck b) = typed 19 Truth b
bridge_port_attribute (ConfigPending b) = typed 20 Truth b
bridge_port_attribute (MessageAgeTimer n) = typed 21 Le64 n
bridge_port_attribute (ForwardDelayTimer n) = typed 22 Le64 n
bridge_port_attribute (HoldTimer n) = typed 23 Le64 n
bridge_port_attribute Flush = typed 24 Mark tt
bridge_port_attribute (MulticastRouter router) =
    typed 25 U8 (bridge_multicast_router_type_number router)
bridge_port_attribute (MulticastFlood b) = typed 27 Truth b
bridge_port_attribute (MulticastToUnicast b) = typed 28 Truth b
bridge_port_attribute (VlanTunnel b) = typed 29 Truth b
bridge_port_attribute (BroadcastFlood b) = typed 30 Truth b
bridge_port_attribute (GroupFwdMask n) = typed 31 Le16 n
bridge_port_attribute (NeighSupress b) = typed 32 Truth b
bridge_port_attribute (Isolated b) = typed 33 Truth b
bridge_port_attribute (BackupPort n) = typed 34 Le32 n
bridge_port_attribute (MrpRingOpen b) = typed 35 Truth b
bridge_port_attribute (MrpInOpen b) = typed 36 Truth b
bridge_port_attribute (MulticastEhtHostsLimit n) = typed 37 Le32 n
bridge_port_attribute (MulticastEhtHostsCnt n) = typed 38 Le32 n
bridge_port_attribute (Locked b) = typed 39 Truth b
bridge_port_attribute (Mab b) = typed 40 Truth b
bridge_port_attribute (MulticastNGroups n) = typed 41 Le32 n
bridge_port_attribute (MulticastMaxGroups n) = typed 42 Le32 n
bridge_port_attribute (NeighVlanSupress switch) = typed 43 U8 (on_off_number switch)
bridge_port_attribute (BackupNextHopId n) = typed 44 Le32 n
bridge_port_attribute (NeighForwardGrat switch) = typed 45 U8 (on_off_number switch)
bridge_port_attribute (Other nla) = attribute_of nla

pub bridge_port_keeps : EachKeeps bridge_port_attribute bridge_port_plain
bridge_port_keeps = each_keeps bridge_port_attribute bridge_port_plain refl
    ((λ n. ap (typed 1 U8) (key-value_of bridge_port_state_table_holds n))
    & (λ n. refl)
    & (λ n. refl)
    & (λ b. refl)
    & (λ b. refl)
    & (λ b. refl)
    & (λ b. refl)
    & (λ b. refl)
    & (λ b. refl)
    & (λ b. refl)
    & (λ b. refl)
    & (λ b. refl)
    & (λ n. refl)
    & (λ n. refl)
    & (λ n. refl)
    & (λ n. refl)
    & (λ b. refl)
    & (λ b. refl)
    & (λ n. refl)
    & (λ n. refl)
    & (λ n. refl)
    & (λ _. refl)
    & (λ n. ap (typed 25 U8) (key-value_of bridge_multicast_router_type_table_holds n))
    & (λ b. refl)
    & (λ b. refl)
    & (λ b. refl)
    & (λ b. refl)
    & (λ n. refl)
    & (λ b. refl)
    & (λ b. refl)
    & (λ n. refl)
    & (λ b. refl)
    & (λ b. refl)
    & (λ n. refl)
    & (λ n. refl)
    & (λ b. refl)
    & (λ b. refl)
    & (λ n. refl)
    & (λ n. refl)
    & (λ n. ap (typed 43 U8) (key-value_of on_off_table_holds n))
    & (λ n. refl)
    & (λ n. ap (typed 45 U8) (key-value_of on_off_table_holds n))
    & tt)

-- rows with payloads of types of their own, each before the others, and those of the table
abbrev pub bridge_port_from_bridge_id : ℕ → FamilyRow InfoBridgePort
bridge_port_from_bridge_id n =
    with_row 14 BridgeId false bridge_id_codec
    (λ x. BridgeId x) (table_row bridge_port_plain) n

abbrev pub bridge_port_from_root_id : ℕ → FamilyRow InfoBridgePort
bridge_port_from_root_id n =
    with_row 13 BridgeId false bridge_id_codec
    (λ x. RootId x) bridge_port_from_bridge_id n

abbrev pub bridge_port_rows : ℕ → FamilyRow InfoBridgePort
bridge_port_rows n = bridge_port_from_root_id n

pub bridge_port_owes : (n : ℕ) → RowOwes bridge_port_attribute n (row_of (bridge_port_rows n))
bridge_port_owes n =
    with_owes 13 BridgeId false bridge_id_codec
    (λ x. RootId x) bridge_port_from_bridge_id bridge_port_attribute (lit< tt)
    bridge_id_payload.codec (λ _. refl) (λ x y e. cc) (
    with_owes 14 BridgeId false bridge_id_codec
    (λ x. BridgeId x) (table_row bridge_port_plain) bridge_port_attribute (lit< tt)
    bridge_id_payload.codec (λ _. refl) (λ x y e. cc) (
    table_owes bridge_port_attribute bridge_port_plain bridge_port_keeps)) n

pub bridge_port_flat : (n : ℕ) → is_among (13 ∷ 14 ∷ []) n ≡ false → IsFlat (bridge_port_rows n)
bridge_port_flat n h =
    with_flat 13 BridgeId false bridge_id_codec (λ x. RootId x) bridge_port_from_bridge_id
    (is_among (14 ∷ []) n) n h (λ e.
    with_flat 14 BridgeId false bridge_id_codec (λ x. BridgeId x) (table_row bridge_port_plain)
    false n e (λ _.
    table_flat bridge_port_attribute bridge_port_plain bridge_port_keeps n))

-- the headers in a payload of each type
abbrev pub bridge_port_headers : ℕ → List ℕ → ℕ
bridge_port_headers n p =
    if n == 13 then bridge_id_codec.headers p else
    if n == 14 then bridge_id_codec.headers p else
    0

-- the table of the typed layer has the same rows
pub bridge_port_lookup : (n : ℕ) →
    lookup_of (bridge_port_rows n) ≡ lookup_in (typed_shape_of family.BridgePort n)
bridge_port_lookup n =
    with_lookup 13 BridgeId false bridge_id_codec (λ x. RootId x) bridge_port_from_bridge_id
    ((14, BridgeId) ∷ without_labels bridge_port_plain) n (
    with_lookup 14 BridgeId false bridge_id_codec (λ x. BridgeId x) (table_row bridge_port_plain)
    (without_labels bridge_port_plain) n (
    table_lookup bridge_port_plain n))

-- a decoded datum belongs to a row with a shape of the table
pub bridge_port_suits : (read : Decoded) → SuitsDecoded bridge_port_rows read →
    SuitsDecoded (λ n. table_row bridge_port_plain n) read
bridge_port_suits read h =
    with_suits 13 BridgeId false bridge_id_codec (λ x. RootId x) bridge_port_from_bridge_id read
    h (λ e.
    with_suits 14 BridgeId false bridge_id_codec
    (λ x. BridgeId x) (table_row bridge_port_plain) read e (λ e.
    e))

-- the family writes such payloads itself
abbrev pub bridge_port_is_custom : InfoBridgePort → Bool
bridge_port_is_custom (RootId x) = true
bridge_port_is_custom (BridgeId x) = true
bridge_port_is_custom _ = false

abbrev pub is_root_id : InfoBridgePort → Bool
is_root_id (RootId x) = true
is_root_id _ = false

abbrev pub is_bridge_id : InfoBridgePort → Bool
is_bridge_id (BridgeId x) = true
is_bridge_id _ = false

pub bridge_port_elsewhere : (x : InfoBridgePort) →
    is_held (is_root_id ∷ is_bridge_id ∷ []) x ≡ false → bridge_port_is_custom x ≡ false
bridge_port_elsewhere (RootId x) h = h
bridge_port_elsewhere (BridgeId x) h = h
bridge_port_elsewhere _ h = refl
