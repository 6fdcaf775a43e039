-- Written by tables/generate from tables/families.
-- The shape of each attribute in the typed layer, by family and type without flag bits. Rows with
-- payloads of types of their own are before the others.
use Rattle.std.specs.Prelude.{ℕ, List, [], ◌∷◌, Option}
use Rattle.nla_frame.specs.declared.error.Family.{Family}
use Rattle.nla_frame.specs.declared.error.Family.TheVariants as family
use Rattle.linkinfo_shapes.specs.Table.{found, rows_of}
use Rattle.linkinfo_shapes.specs.declared.shape.Shape.{Shape}
use Rattle.linkinfo_shapes.specs.declared.shape.Shape.TheVariants.{
  U8,
  Le16,
  Le32,
  Le64,
  Be16,
  I32,
  Truth,
  Mark,
  V4,
  V6,
  Mac,
  FlagPair,
  Raw,
  Nested,
  BridgeId,
  LePair16,
  Le32x8,
  CanBitTimingConst,
  Le16s,
  Le32s,
  V4List,
  V6List,
}

-- Bond
abbrev pub bond_rows : List (ℕ × Shape)
bond_rows =
    (8, V4List) ∷  -- ArpIpTarget
    (23, Nested family.BondAdInfo) ∷  -- AdInfo
    (31, V6List) ∷  -- NsIp6Target
    (1, U8) ∷  -- Mode
    (2, Le32) ∷  -- ActivePort
    (3, Le32) ∷  -- MiiMon
    (4, Le32) ∷  -- UpDelay
    (5, Le32) ∷  -- DownDelay
    (6, U8) ∷  -- UseCarrier
    (7, Le32) ∷  -- ArpInterval
    (9, Le32) ∷  -- ArpValidate
    (10, Le32) ∷  -- ArpAllTargets
    (11, Le32) ∷  -- Primary
    (12, U8) ∷  -- PrimaryReselect
    (13, U8) ∷  -- FailOverMac
    (14, U8) ∷  -- XmitHashPolicy
    (15, Le32) ∷  -- ResendIgmp
    (16, U8) ∷  -- NumPeerNotif
    (17, U8) ∷  -- AllPortsActive
    (18, Le32) ∷  -- MinLinks
    (19, Le32) ∷  -- LpInterval
    (20, Le32) ∷  -- PacketsPerPort
    (21, U8) ∷  -- AdLacpRate
    (22, U8) ∷  -- AdSelect
    (24, Le16) ∷  -- AdActorSysPrio
    (25, Le16) ∷  -- AdUserPortKey
    (26, Mac) ∷  -- AdActorSystem
    (27, U8) ∷  -- TlbDynamicLb
    (28, Le32) ∷  -- PeerNotifDelay
    (29, U8) ∷  -- AdLacpActive
    (30, U8) ∷  -- MissedMax
    (32, U8) ∷  -- CoupledControl
    (33, U8) ∷  -- BroadcastNeigh
    (34, U8) ∷  -- LacpStrict
    []

-- BondPort
abbrev pub bond_port_rows : List (ℕ × Shape)
bond_port_rows =
    (1, U8) ∷  -- BondPortState
    (2, U8) ∷  -- MiiStatus
    (3, Le32) ∷  -- LinkFailureCount
    (4, Raw) ∷  -- PermHwaddr
    (5, Le16) ∷  -- QueueId
    (6, Le16) ∷  -- AdAggregatorId
    (7, U8) ∷  -- AdActorOperPortState
    (8, Le16) ∷  -- AdPartnerOperPortState
    (9, I32) ∷  -- Prio
    (10, Le16) ∷  -- ActorPortPrio
    (11, U8) ∷  -- AdChurnActorState
    (12, U8) ∷  -- AdChurnPartnerState
    []

-- Bridge
abbrev pub bridge_rows : List (ℕ × Shape)
bridge_rows =
    (10, BridgeId) ∷  -- RootId
    (11, BridgeId) ∷  -- BridgeId
    (47, Nested family.BridgeQuerierState) ∷  -- MulticastQuerierState
    (1, Le32) ∷  -- ForwardDelay
    (2, Le32) ∷  -- HelloTime
    (3, Le32) ∷  -- MaxAge
    (4, Le32) ∷  -- AgeingTime
    (5, Le32) ∷  -- StpState
    (6, Le16) ∷  -- Priority
    (7, Truth) ∷  -- VlanFiltering
    (8, Be16) ∷  -- VlanProtocol
    (9, Le16) ∷  -- GroupFwdMask
    (12, Le16) ∷  -- RootPort
    (13, Le32) ∷  -- RootPathCost
    (14, U8) ∷  -- TopologyChange
    (15, U8) ∷  -- TopologyChangeDetected
    (16, Le64) ∷  -- HelloTimer
    (17, Le64) ∷  -- TcnTimer
    (18, Le64) ∷  -- TopologyChangeTimer
    (19, Le64) ∷  -- GcTimer
    (20, Mac) ∷  -- GroupAddr
    (21, Mark) ∷  -- FdbFlush
    (22, U8) ∷  -- MulticastRouter
    (23, Truth) ∷  -- MulticastSnooping
    (24, Truth) ∷  -- MulticastQueryUseIfaddr
    (25, Truth) ∷  -- MulticastQuerier
    (26, Le32) ∷  -- MulticastHashElasticity
    (27, Le32) ∷  -- MulticastHashMax
    (28, Le32) ∷  -- MulticastLastMemberCount
    (29, Le32) ∷  -- MulticastStartupQueryCount
    (30, Le64) ∷  -- MulticastLastMemberInterval
    (31, Le64) ∷  -- MulticastMembershipInterval
    (32, Le64) ∷  -- MulticastQuerierInterval
    (33, Le64) ∷  -- MulticastQueryInterval
    (34, Le64) ∷  -- MulticastQueryResponseInterval
    (35, Le64) ∷  -- MulticastStartupQueryInterval
    (36, Truth) ∷  -- NfCallIpTables
    (37, Truth) ∷  -- NfCallIp6Tables
    (38, Truth) ∷  -- NfCallArpTables
    (39, Le16) ∷  -- VlanDefaultPvid
    (41, U8) ∷  -- VlanStatsEnabled
    (42, Truth) ∷  -- MulticastStatsEnabled
    (43, U8) ∷  -- MulticastIgmpVersion
    (44, U8) ∷  -- MulticastMldVersion
    (45, U8) ∷  -- VlanStatsPerPort
    (46, FlagPair) ∷  -- MultiBoolOpt
    (48, Le32) ∷  -- FdbNLearned
    (49, Le32) ∷  -- FdbMaxLearned
    (50, Le32) ∷  -- StpMode
    []

-- BridgePort
abbrev pub bridge_port_rows : List (ℕ × Shape)
bridge_port_rows =
    (13, BridgeId) ∷  -- RootId
    (14, BridgeId) ∷  -- BridgeId
    (1, U8) ∷  -- State
    (2, Le16) ∷  -- Priority
    (3, Le32) ∷  -- Cost
    (4, Truth) ∷  -- HairpinMode
    (5, Truth) ∷  -- Guard
    (6, Truth) ∷  -- Protect
    (7, Truth) ∷  -- FastLeave
    (8, Truth) ∷  -- Learning
    (9, Truth) ∷  -- UnicastFlood
    (10, Truth) ∷  -- ProxyARP
    (11, Truth) ∷  -- LearningSync
    (12, Truth) ∷  -- ProxyARPWifi
    (15, Le16) ∷  -- DesignatedPort
    (16, Le16) ∷  -- DesignatedCost
    (17, Le16) ∷  -- PortId
    (18, Le16) ∷  -- PortNumber
    (19, Truth) ∷  -- TopologyChangeAck
    (20, Truth) ∷  -- ConfigPending
    (21, Le64) ∷  -- MessageAgeTimer
    (22, Le64) ∷  -- ForwardDelayTimer
    (23, Le64) ∷  -- HoldTimer
    (24, Mark) ∷  -- Flush
    (25, U8) ∷  -- MulticastRouter
    (27, Truth) ∷  -- MulticastFlood
    (28, Truth) ∷  -- MulticastToUnicast
    (29, Truth) ∷  -- VlanTunnel
    (30, Truth) ∷  -- BroadcastFlood
    (31, Le16) ∷  -- GroupFwdMask
    (32, Truth) ∷  -- NeighSupress
    (33, Truth) ∷  -- Isolated
    (34, Le32) ∷  -- BackupPort
    (35, Truth) ∷  -- MrpRingOpen
    (36, Truth) ∷  -- MrpInOpen
    (37, Le32) ∷  -- MulticastEhtHostsLimit
    (38, Le32) ∷  -- MulticastEhtHostsCnt
    (39, Truth) ∷  -- Locked
    (40, Truth) ∷  -- Mab
    (41, Le32) ∷  -- MulticastNGroups
    (42, Le32) ∷  -- MulticastMaxGroups
    (43, U8) ∷  -- NeighVlanSupress
    (44, Le32) ∷  -- BackupNextHopId
    (45, U8) ∷  -- NeighForwardGrat
    []

-- Vlan
abbrev pub vlan_rows : List (ℕ × Shape)
vlan_rows =
    (3, Nested family.VlanQosMapping) ∷  -- EgressQos
    (4, Nested family.VlanQosMapping) ∷  -- IngressQos
    (1, Le16) ∷  -- Id
    (2, FlagPair) ∷  -- Flags
    (5, Be16) ∷  -- Protocol
    []

-- Can
abbrev pub can_rows : List (ℕ × Shape)
can_rows =
    (1, Le32x8) ∷  -- BitTiming
    (2, CanBitTimingConst) ∷  -- BitTimingConst
    (8, LePair16) ∷  -- BerrCounter
    (9, Le32x8) ∷  -- DataBitTiming
    (10, CanBitTimingConst) ∷  -- DataBitTimingConst
    (12, Le16s) ∷  -- TerminationConst
    (13, Le32s) ∷  -- BitRateConst
    (14, Le32s) ∷  -- DataBitRateConst
    (16, Nested family.CanTdc) ∷  -- Tdc
    (17, Nested family.CanCtrlModeExt) ∷  -- CtrlModeExt
    (18, Le32x8) ∷  -- XlDataBitTiming
    (19, CanBitTimingConst) ∷  -- XlDataBitTimingConst
    (20, Le32s) ∷  -- XlDataBitRateConst
    (21, Nested family.CanTdc) ∷  -- XlTdc
    (22, Nested family.CanPwm) ∷  -- XlPwm
    (3, Le32) ∷  -- Clock
    (4, Le32) ∷  -- State
    (5, FlagPair) ∷  -- CtrlMode
    (6, Le32) ∷  -- RestartMs
    (7, Le32) ∷  -- Restart
    (11, Le16) ∷  -- Termination
    (15, Le32) ∷  -- BitRateMax
    []

-- Dsa
abbrev pub dsa_rows : List (ℕ × Shape)
dsa_rows =
    (1, Le32) ∷  -- Conduit
    []

-- Hsr
abbrev pub hsr_rows : List (ℕ × Shape)
hsr_rows =
    (1, Le32) ∷  -- Port1
    (2, Le32) ∷  -- Port2
    (3, U8) ∷  -- MulticastSpec
    (4, Mac) ∷  -- SupervisionAddr
    (5, Le16) ∷  -- SeqNr
    (6, U8) ∷  -- Version
    (7, U8) ∷  -- Protocol
    (8, Le32) ∷  -- Interlink
    []

-- Tun
abbrev pub tun_rows : List (ℕ × Shape)
tun_rows =
    (1, Le32) ∷  -- Owner
    (2, Le32) ∷  -- Group
    (3, U8) ∷  -- Type
    (4, Truth) ∷  -- Pi
    (5, Truth) ∷  -- VnetHdr
    (6, Truth) ∷  -- Persist
    (7, Truth) ∷  -- MultiQueue
    (8, Le32) ∷  -- NumQueues
    (9, Le32) ∷  -- NumDisabledQueues
    []

-- VlanQosMapping
abbrev pub vlan_qos_mapping_rows : List (ℕ × Shape)
vlan_qos_mapping_rows =
    (1, FlagPair) ∷  -- Mapping
    []

-- BondAdInfo
abbrev pub bond_ad_info_rows : List (ℕ × Shape)
bond_ad_info_rows =
    (1, Le16) ∷  -- Aggregator
    (2, Le16) ∷  -- NumPorts
    (3, Le16) ∷  -- ActorKey
    (4, Le16) ∷  -- PartnerKey
    (5, Mac) ∷  -- PartnerMac
    []

-- BridgeQuerierState
abbrev pub bridge_querier_state_rows : List (ℕ × Shape)
bridge_querier_state_rows =
    (1, V4) ∷  -- Ipv4Address
    (2, Le32) ∷  -- Ipv4Port
    (3, Le64) ∷  -- Ipv4OtherTimer
    (5, V6) ∷  -- Ipv6Address
    (6, Le32) ∷  -- Ipv6Port
    (7, Le64) ∷  -- Ipv6OtherTimer
    []

-- CanTdc
abbrev pub can_tdc_rows : List (ℕ × Shape)
can_tdc_rows =
    (1, Le32) ∷  -- TdcvMin
    (2, Le32) ∷  -- TdcvMax
    (3, Le32) ∷  -- TdcoMin
    (4, Le32) ∷  -- TdcoMax
    (5, Le32) ∷  -- TdcfMin
    (6, Le32) ∷  -- TdcfMax
    (7, Le32) ∷  -- Tdcv
    (8, Le32) ∷  -- Tdco
    (9, Le32) ∷  -- Tdcf
    []

-- CanCtrlModeExt
abbrev pub can_ctrl_mode_ext_rows : List (ℕ × Shape)
can_ctrl_mode_ext_rows =
    (1, Le32) ∷  -- Supported
    []

-- CanPwm
abbrev pub can_pwm_rows : List (ℕ × Shape)
can_pwm_rows =
    (1, Le32) ∷  -- PwmsMin
    (2, Le32) ∷  -- PwmsMax
    (3, Le32) ∷  -- PwmlMin
    (4, Le32) ∷  -- PwmlMax
    (5, Le32) ∷  -- PwmoMin
    (6, Le32) ∷  -- PwmoMax
    (7, Le32) ∷  -- Pwms
    (8, Le32) ∷  -- Pwml
    (9, Le32) ∷  -- Pwmo
    []

-- Ovpn
abbrev pub ovpn_rows : List (ℕ × Shape)
ovpn_rows =
    (1, U8) ∷  -- Mode
    []

-- Ppp
abbrev pub ppp_rows : List (ℕ × Shape)
ppp_rows =
    (1, I32) ∷  -- DevFd
    []

-- the rows of a family in the typed layer, by type
abbrev pub typed_rows_of : Family → List (ℕ × Shape)
typed_rows_of family.Bond = bond_rows
typed_rows_of family.BondPort = bond_port_rows
typed_rows_of family.Bridge = bridge_rows
typed_rows_of family.BridgePort = bridge_port_rows
typed_rows_of family.Vlan = vlan_rows
typed_rows_of family.Can = can_rows
typed_rows_of family.Dsa = dsa_rows
typed_rows_of family.Hsr = hsr_rows
typed_rows_of family.Tun = tun_rows
typed_rows_of family.VlanQosMapping = vlan_qos_mapping_rows
typed_rows_of family.BondAdInfo = bond_ad_info_rows
typed_rows_of family.BridgeQuerierState = bridge_querier_state_rows
typed_rows_of family.CanTdc = can_tdc_rows
typed_rows_of family.CanCtrlModeExt = can_ctrl_mode_ext_rows
typed_rows_of family.CanPwm = can_pwm_rows
typed_rows_of family.Ovpn = ovpn_rows
typed_rows_of family.Ppp = ppp_rows
typed_rows_of f = rows_of f

abbrev pub typed_shape_of : Family → ℕ → Option Shape
typed_shape_of f number = found (typed_rows_of f) number
