-- The names of numbers and of flags, as `ip` prints them.
use Rattle.std.specs.Prelude.{ℕ, ◌==◌, if◌then◌else◌, List, [], ◌∷◌, Option, Some, None, codes}
use Rattle.linkinfo_view.specs.declared.format.Words.{Words}
use Rattle.linkinfo_view.specs.declared.format.Words.TheVariants as words
use Rattle.linkinfo_view.specs.declared.format.Flags.{Flags}
use Rattle.linkinfo_view.specs.declared.format.Flags.TheVariants as flags
use Rattle.linkinfo_view.specs.declared.words.Flag.{Flag}

-- the numbers with a name
abbrev pub word_rows : Words → List (ℕ × List ℕ)
word_rows words.AdSelect =
    (0, codes "stable") ∷
    (1, codes "bandwidth") ∷
    (2, codes "count") ∷
    (3, codes "actor_port_prio") ∷
    []
word_rows words.AmtMode =
    (0, codes "gateway") ∷
    (1, codes "relay") ∷
    []
word_rows words.ArpAllTargets =
    (0, codes "any") ∷
    (1, codes "all") ∷
    []
word_rows words.ArpValidate =
    (0, codes "none") ∷
    (1, codes "active") ∷
    (2, codes "backup") ∷
    (3, codes "all") ∷
    (4, codes "filter") ∷
    (5, codes "filter_active") ∷
    (6, codes "filter_backup") ∷
    []
word_rows words.BondMode =
    (0, codes "balance-rr") ∷
    (1, codes "active-backup") ∷
    (2, codes "balance-xor") ∷
    (3, codes "broadcast") ∷
    (4, codes "802.3ad") ∷
    (5, codes "balance-tlb") ∷
    (6, codes "balance-alb") ∷
    []
word_rows words.BondPortState =
    (0, codes "ACTIVE") ∷
    (1, codes "BACKUP") ∷
    []
word_rows words.BridgePortState =
    (0, codes "disabled") ∷
    (1, codes "listening") ∷
    (2, codes "learning") ∷
    (3, codes "forwarding") ∷
    (4, codes "blocking") ∷
    []
word_rows words.CanState =
    (0, codes "ERROR-ACTIVE") ∷
    (1, codes "ERROR-WARNING") ∷
    (2, codes "ERROR-PASSIVE") ∷
    (3, codes "BUS-OFF") ∷
    (4, codes "STOPPED") ∷
    (5, codes "SLEEPING") ∷
    []
word_rows words.ChurnState =
    (0, codes "MONITOR") ∷
    (1, codes "CHURN") ∷
    (2, codes "NO_CHURN") ∷
    []
word_rows words.CipherSuite =
    (0x80020001000001, codes "GCM-AES-128") ∷
    (0x80c20001000001, codes "GCM-AES-128") ∷
    (0x80c20001000002, codes "GCM-AES-256") ∷
    (0x80c20001000003, codes "GCM-AES-XPN-128") ∷
    (0x80c20001000004, codes "GCM-AES-XPN-256") ∷
    []
word_rows words.Df =
    (0, codes "unset") ∷
    (1, codes "set") ∷
    (2, codes "inherit") ∷
    []
word_rows words.EncapType =
    (0, codes "none") ∷
    (1, codes "fou") ∷
    (2, codes "gue") ∷
    (3, codes "mpls") ∷
    []
word_rows words.ErspanDirection =
    (0, codes "ingress") ∷
    (1, codes "egress") ∷
    []
word_rows words.Ethertype =
    (0x800, codes "ip") ∷
    (0x86dd, codes "ipv6") ∷
    (0x8847, codes "mpls_uc") ∷
    (0x8848, codes "mpls_mc") ∷
    []
word_rows words.FailOverMac =
    (0, codes "none") ∷
    (1, codes "active") ∷
    (2, codes "follow") ∷
    []
word_rows words.GtpRole =
    (0, codes "ggsn") ∷
    (1, codes "sgsn") ∷
    []
word_rows words.IpVlanMode =
    (0, codes "l2") ∷
    (1, codes "l3") ∷
    (2, codes "l3s") ∷
    []
word_rows words.IpoibMode =
    (0, codes "datagram") ∷
    (1, codes "connected") ∷
    []
word_rows words.LabelPolicy =
    (0, codes "fixed") ∷
    (1, codes "inherit") ∷
    []
word_rows words.LacpRate =
    (0, codes "slow") ∷
    (1, codes "fast") ∷
    []
word_rows words.MacAddressMode =
    (0, codes "add") ∷
    (1, codes "del") ∷
    (2, codes "flush") ∷
    (3, codes "set") ∷
    []
word_rows words.MacSecOffload =
    (0, codes "off") ∷
    (1, codes "phy") ∷
    (2, codes "mac") ∷
    []
word_rows words.MacSecValidation =
    (0, codes "disabled") ∷
    (1, codes "check") ∷
    (2, codes "strict") ∷
    []
word_rows words.MacVlanMode =
    (1, codes "private") ∷
    (2, codes "vepa") ∷
    (4, codes "bridge") ∷
    (8, codes "passthru") ∷
    (16, codes "source") ∷
    []
word_rows words.MiiStatus =
    (0, codes "UP") ∷
    (1, codes "GOING_DOWN") ∷
    (2, codes "DOWN") ∷
    (3, codes "GOING_BACK") ∷
    []
word_rows words.NetkitMode =
    (0, codes "l2") ∷
    (1, codes "l3") ∷
    []
word_rows words.NetkitPolicy =
    (0, codes "forward") ∷
    (2, codes "blackhole") ∷
    []
word_rows words.NetkitScrub =
    (0, codes "none") ∷
    (1, codes "default") ∷
    []
word_rows words.OffOn =
    (0, codes "off") ∷
    (1, codes "on") ∷
    []
word_rows words.OvpnMode =
    (0, codes "p2p") ∷
    (1, codes "mp") ∷
    []
word_rows words.PrimaryReselect =
    (0, codes "always") ∷
    (1, codes "better") ∷
    (2, codes "failure") ∷
    []
word_rows words.StpMode =
    (0, codes "auto") ∷
    (1, codes "user") ∷
    (2, codes "kernel") ∷
    []
word_rows words.TransmitHash =
    (0, codes "layer2") ∷
    (1, codes "layer3+4") ∷
    (2, codes "layer2+3") ∷
    (3, codes "encap2+3") ∷
    (4, codes "encap3+4") ∷
    (5, codes "vlan+srcmac") ∷
    []
word_rows words.TunType =
    (1, codes "tun") ∷
    (2, codes "tap") ∷
    []
word_rows words.Tunnel6Protocol =
    (0, codes "any") ∷
    (4, codes "ipip6") ∷
    (41, codes "ip6ip6") ∷
    []
word_rows words.TunnelProtocol =
    (0, codes "any") ∷
    (4, codes "ipip") ∷
    (41, codes "ip6ip") ∷
    (137, codes "mplsip") ∷
    []
word_rows words.VlanProtocol =
    (0x8100, codes "802.1Q") ∷
    (0x88a8, codes "802.1ad") ∷
    []

-- the name in the row of a number, if there is one
abbrev pub word_found : List (ℕ × List ℕ) → ℕ → Option (List ℕ)
word_found [] number = None
word_found (row ∷ rows) number =
    if number == row.0 then Some row.1 else word_found rows number

abbrev pub word : Words → ℕ → Option (List ℕ)
word words number = word_found (word_rows words) number

-- a flag is set in a number whose bits of the mask are the value
pub record FlagRow : Type 0 where
  pub mask : ℕ
  pub value : ℕ
  pub name : List ℕ

abbrev pub flag_seen : Flag → FlagRow
flag_seen f = record { mask = f.mask; value = f.value; name = f.name.now }

abbrev pub flag_row : ℕ → ℕ → List ℕ → FlagRow
flag_row mask value name = record { mask = mask; value = value; name = name }

-- the flags with a name, in the order in which they are shown, by place
abbrev pub flag_of : Flags → List (ℕ × FlagRow)
flag_of flags.BridgeOptions =
    (0, flag_row 0x1 0x1 (codes "no_linklocal_learn")) ∷
    (1, flag_row 0x2 0x2 (codes "mcast_vlan_snooping")) ∷
    (2, flag_row 0x4 0x4 (codes "mst_enabled")) ∷
    (3, flag_row 0x8 0x8 (codes "mdb_offload_fail_notification")) ∷
    (4, flag_row 0x10 0x10 (codes "fdb_local_vlan_0")) ∷
    []
flag_of flags.Can =
    (0, flag_row 0x1 0x1 (codes "LOOPBACK")) ∷
    (1, flag_row 0x2 0x2 (codes "LISTEN-ONLY")) ∷
    (2, flag_row 0x4 0x4 (codes "TRIPLE-SAMPLING")) ∷
    (3, flag_row 0x8 0x8 (codes "ONE-SHOT")) ∷
    (4, flag_row 0x10 0x10 (codes "BERR-REPORTING")) ∷
    (5, flag_row 0x20 0x20 (codes "FD")) ∷
    (6, flag_row 0x80 0x80 (codes "FD-NON-ISO")) ∷
    (7, flag_row 0x40 0x40 (codes "PRESUME-ACK")) ∷
    (8, flag_row 0x100 0x100 (codes "CC-LEN8-DLC")) ∷
    (9, flag_row 0x200 0x200 (codes "TDC-AUTO")) ∷
    (10, flag_row 0x400 0x400 (codes "TDC-MANUAL")) ∷
    (11, flag_row 0x800 0x800 (codes "RESTRICTED")) ∷
    (12, flag_row 0x1000 0x1000 (codes "XL")) ∷
    (13, flag_row 0x2000 0x2000 (codes "XL-TDC-AUTO")) ∷
    (14, flag_row 0x4000 0x4000 (codes "XL-TDC-MANUAL")) ∷
    (15, flag_row 0x8000 0x8000 (codes "TMS")) ∷
    []
flag_of flags.Encap =
    (0, flag_row 0x1 0x1 (codes "encap_csum")) ∷
    (1, flag_row 0x2 0x2 (codes "encap_csum6")) ∷
    (2, flag_row 0x4 0x4 (codes "encap_remcsum")) ∷
    []
flag_of flags.GreInput =
    (0, flag_row 0x1000 0x1000 (codes "iseq")) ∷
    (1, flag_row 0x2000 0x2000 (codes "has_ikey")) ∷
    (2, flag_row 0x8000 0x8000 (codes "icsum")) ∷
    []
flag_of flags.GreOutput =
    (0, flag_row 0x1000 0x1000 (codes "oseq")) ∷
    (1, flag_row 0x2000 0x2000 (codes "has_okey")) ∷
    (2, flag_row 0x8000 0x8000 (codes "ocsum")) ∷
    []
flag_of flags.GroupForward =
    (0, flag_row 0x1 0x1 (codes "stp")) ∷
    (1, flag_row 0x2 0x2 (codes "0x2")) ∷
    (2, flag_row 0x4 0x4 (codes "lacp")) ∷
    (3, flag_row 0x8 0x8 (codes "0x8")) ∷
    (4, flag_row 0x10 0x10 (codes "0x10")) ∷
    (5, flag_row 0x20 0x20 (codes "0x20")) ∷
    (6, flag_row 0x40 0x40 (codes "0x40")) ∷
    (7, flag_row 0x80 0x80 (codes "0x80")) ∷
    (8, flag_row 0x100 0x100 (codes "0x100")) ∷
    (9, flag_row 0x200 0x200 (codes "0x200")) ∷
    (10, flag_row 0x400 0x400 (codes "0x400")) ∷
    (11, flag_row 0x800 0x800 (codes "0x800")) ∷
    (12, flag_row 0x1000 0x1000 (codes "0x1000")) ∷
    (13, flag_row 0x2000 0x2000 (codes "0x2000")) ∷
    (14, flag_row 0x4000 0x4000 (codes "lldp")) ∷
    (15, flag_row 0x8000 0x8000 (codes "0x8000")) ∷
    []
flag_of flags.Ip6Tunnel =
    (0, flag_row 0x1 0x1 (codes "ip6_tnl_f_ign_encap_limit")) ∷
    (1, flag_row 0x2 0x2 (codes "ip6_tnl_f_use_orig_tclass")) ∷
    (2, flag_row 0x4 0x4 (codes "ip6_tnl_f_use_orig_flowlabel")) ∷
    (3, flag_row 0x8 0x8 (codes "ip6_tnl_f_mip6_dev")) ∷
    (4, flag_row 0x10 0x10 (codes "ip6_tnl_f_rcv_dscp_copy")) ∷
    (5, flag_row 0x20 0x20 (codes "ip6_tnl_f_use_orig_fwmark")) ∷
    (6, flag_row 0x40 0x40 (codes "ip6_tnl_f_allow_local_remote")) ∷
    []
flag_of flags.IpVlan =
    (0, flag_row 0x1 0x1 (codes "private")) ∷
    (1, flag_row 0x2 0x2 (codes "vepa")) ∷
    (2, flag_row 0x3 0x0 (codes "bridge")) ∷
    []
flag_of flags.LacpState =
    (0, flag_row 0x1 0x1 (codes "active")) ∷
    (1, flag_row 0x2 0x2 (codes "short_timeout")) ∷
    (2, flag_row 0x4 0x4 (codes "aggregating")) ∷
    (3, flag_row 0x8 0x8 (codes "in_sync")) ∷
    (4, flag_row 0x10 0x10 (codes "collecting")) ∷
    (5, flag_row 0x20 0x20 (codes "distributing")) ∷
    (6, flag_row 0x40 0x40 (codes "defaulted")) ∷
    (7, flag_row 0x80 0x80 (codes "expired")) ∷
    []
flag_of flags.MacVlan =
    (0, flag_row 0x1 0x1 (codes "nopromisc")) ∷
    (1, flag_row 0x2 0x2 (codes "nodst")) ∷
    []
flag_of flags.RmNet =
    (0, flag_row 0x1 0x1 (codes "INGRESS_DEAGGREGATION")) ∷
    (1, flag_row 0x2 0x2 (codes "INGRESS_MAP_COMMANDS")) ∷
    (2, flag_row 0x4 0x4 (codes "INGRESS_MAP_CKSUMV4")) ∷
    (3, flag_row 0x8 0x8 (codes "EGRESS_MAP_CKSUMV4")) ∷
    (4, flag_row 0x10 0x10 (codes "INGRESS_MAP_CKSUMV5")) ∷
    (5, flag_row 0x20 0x20 (codes "EGRESS_MAP_CKSUMV5")) ∷
    []
flag_of flags.Sit =
    (0, flag_row 0x100 0x100 (codes "isatap")) ∷
    []
flag_of flags.Vlan =
    (0, flag_row 0x1 0x1 (codes "REORDER_HDR")) ∷
    (1, flag_row 0x2 0x2 (codes "GVRP")) ∷
    (2, flag_row 0x8 0x8 (codes "MVRP")) ∷
    (3, flag_row 0x4 0x4 (codes "LOOSE_BINDING")) ∷
    (4, flag_row 0x10 0x10 (codes "BRIDGE_BINDING")) ∷
    []

-- the flag at a place, if there is one
abbrev pub flag_found : List (ℕ × FlagRow) → ℕ → Option FlagRow
flag_found [] place = None
flag_found (row ∷ rows) place = if place == row.0 then Some row.1 else flag_found rows place

abbrev pub flag_at : Flags → ℕ → Option FlagRow
flag_at flags place = flag_found (flag_of flags) place
