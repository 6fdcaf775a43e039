-- Written by tables/generate from tables/numbers/bond.
-- Bonds and their ports: the values of each type.
use Rattle.std.specs.Prelude.{◌≡◌, ℕ, Bool, true, false, List, [], ◌∷◌, codes, Result, refl}
use Rattle.std.specs.Fmt.{decimal}
use Rattle.std.proofs.Common.{inl, inr}
use Rattle.std.proofs.lemmas.Bool.Decides.{Decides-eqb}
use Rattle.bitflags.specs.Sets.{known_bits, known_from}
use Rattle.nla_frame.specs.declared.error.Family.TheVariants as family
use Rattle.nla_frame.specs.declared.error.DecodeError.{DecodeError}
use Rattle.linkinfo_numbers.specs.declared.bond.BondMode.{BondMode}
use Rattle.linkinfo_numbers.specs.declared.bond.BondMode.TheVariants as mode
use Rattle.linkinfo_numbers.specs.declared.bond.BondArpValidate.{BondArpValidate}
use Rattle.linkinfo_numbers.specs.declared.bond.BondArpValidate.TheVariants as validate
use Rattle.linkinfo_numbers.specs.declared.bond.BondArpAllTargets.{BondArpAllTargets}
use Rattle.linkinfo_numbers.specs.declared.bond.BondArpAllTargets.TheVariants as targets
use Rattle.linkinfo_numbers.specs.declared.bond.BondPrimaryReselect.{BondPrimaryReselect}
use Rattle.linkinfo_numbers.specs.declared.bond.BondPrimaryReselect.TheVariants as reselect
use Rattle.linkinfo_numbers.specs.declared.bond.BondFailOverMac.{BondFailOverMac}
use Rattle.linkinfo_numbers.specs.declared.bond.BondFailOverMac.TheVariants as fail_over
use Rattle.linkinfo_numbers.specs.declared.bond.BondXmitHashPolicy.{BondXmitHashPolicy}
use Rattle.linkinfo_numbers.specs.declared.bond.BondXmitHashPolicy.TheVariants as policy
use Rattle.linkinfo_numbers.specs.declared.bond.BondAllPortActive.{BondAllPortActive}
use Rattle.linkinfo_numbers.specs.declared.bond.BondAllPortActive.TheVariants as all_active
use Rattle.linkinfo_numbers.specs.declared.bond.BondLacpRate.{BondLacpRate}
use Rattle.linkinfo_numbers.specs.declared.bond.BondLacpRate.TheVariants as rate
use Rattle.linkinfo_numbers.specs.declared.bond.BondAdSelect.{BondAdSelect}
use Rattle.linkinfo_numbers.specs.declared.bond.BondAdSelect.TheVariants as select
use Rattle.linkinfo_numbers.specs.declared.bond.BondPortState.{BondPortState}
use Rattle.linkinfo_numbers.specs.declared.bond.BondPortState.TheVariants as state
use Rattle.linkinfo_numbers.specs.declared.bond.MiiStatus.{MiiStatus}
use Rattle.linkinfo_numbers.specs.declared.bond.MiiStatus.TheVariants as status
use Rattle.linkinfo_numbers.specs.declared.bond.ChurnState.{ChurnState}
use Rattle.linkinfo_numbers.specs.declared.bond.ChurnState.TheVariants as churn
use Rattle.linkinfo_numbers.specs.declared.bond.LacpState.{LacpState}
use Rattle.linkinfo_numbers.specs.declared.bond.LacpState16.{LacpState16}
use Rattle.linkinfo_numbers.specs.declared.bond.OnOff.{OnOff}
use Rattle.linkinfo_numbers.specs.declared.bond.OnOff.TheVariants as switch
use Rattle.linkinfo_numbers.specs.FlagWords.{FlagWord, set_if, set_text, text_bits}
use Rattle.linkinfo_numbers.specs.Table.{Table, IsTable, by_number, value_of}
use Rattle.linkinfo_numbers.specs.Word.{value_of_word, ReadsWords, reads_words}

-- the number of each value
abbrev pub bond_mode_number : BondMode → ℕ
bond_mode_number mode.BalanceRr = 0
bond_mode_number mode.ActiveBackup = 1
bond_mode_number mode.BalanceXor = 2
bond_mode_number mode.Broadcast = 3
bond_mode_number mode.Ieee8023Ad = 4
bond_mode_number mode.BalanceTlb = 5
bond_mode_number mode.BalanceAlb = 6
bond_mode_number (mode.Other n) = n

abbrev pub bond_mode_table : Table ℕ BondMode
bond_mode_table = by_number bond_mode_number mode.Other
    (mode.BalanceRr ∷ mode.ActiveBackup ∷ mode.BalanceXor ∷ mode.Broadcast ∷ mode.Ieee8023Ad
    ∷ mode.BalanceTlb ∷ mode.BalanceAlb ∷ [])

-- the value of each number
abbrev pub bond_mode : ℕ → BondMode
bond_mode n = value_of bond_mode_table n

pub bond_mode_table_holds : IsTable bond_mode_table
bond_mode_table_holds = record {
  same_decides = Decides-eqb;
  other_key = λ n. refl;
  found = elim [ mode.Other n ↦ inl refl | _ ↦ inr refl ];
  apart = (λ p. cc, (λ p. cc, (λ p. cc, (λ p. cc, (λ p. cc, (λ p. cc, (λ p. cc, tt)))))));
}

-- the text of each value
abbrev pub bond_mode_text : BondMode → List ℕ
bond_mode_text mode.BalanceRr = codes "balance-rr"
bond_mode_text mode.ActiveBackup = codes "active-backup"
bond_mode_text mode.BalanceXor = codes "balance-xor"
bond_mode_text mode.Broadcast = codes "broadcast"
bond_mode_text mode.Ieee8023Ad = codes "802.3ad"
bond_mode_text mode.BalanceTlb = codes "balance-tlb"
bond_mode_text mode.BalanceAlb = codes "balance-alb"
bond_mode_text (mode.Other n) = decimal n

-- the value that a word names, or the error
abbrev pub bond_mode_of_word : List ℕ → Result BondMode DecodeError
bond_mode_of_word word = value_of_word family.Bond bond_mode_text bond_mode_table.named word

pub bond_mode_words_hold : ReadsWords family.Bond bond_mode_text bond_mode_table.named
bond_mode_words_hold = reads_words family.Bond bond_mode_text bond_mode_table.named
    (refl, (refl, (refl, (refl, (refl, (refl, (refl, tt)))))))

-- the number of each value
abbrev pub bond_arp_validate_number : BondArpValidate → ℕ
bond_arp_validate_number validate.None = 0
bond_arp_validate_number validate.Active = 1
bond_arp_validate_number validate.Backup = 2
bond_arp_validate_number validate.All = 3
bond_arp_validate_number validate.Filter = 4
bond_arp_validate_number validate.FilterActive = 5
bond_arp_validate_number validate.FilterBackup = 6
bond_arp_validate_number (validate.Other n) = n

abbrev pub bond_arp_validate_table : Table ℕ BondArpValidate
bond_arp_validate_table = by_number bond_arp_validate_number validate.Other
    (validate.None ∷ validate.Active ∷ validate.Backup ∷ validate.All ∷ validate.Filter
    ∷ validate.FilterActive ∷ validate.FilterBackup ∷ [])

-- the value of each number
abbrev pub bond_arp_validate : ℕ → BondArpValidate
bond_arp_validate n = value_of bond_arp_validate_table n

pub bond_arp_validate_table_holds : IsTable bond_arp_validate_table
bond_arp_validate_table_holds = record {
  same_decides = Decides-eqb;
  other_key = λ n. refl;
  found = elim [ validate.Other n ↦ inl refl | _ ↦ inr refl ];
  apart = (λ p. cc, (λ p. cc, (λ p. cc, (λ p. cc, (λ p. cc, (λ p. cc, (λ p. cc, tt)))))));
}

-- the text of each value
abbrev pub bond_arp_validate_text : BondArpValidate → List ℕ
bond_arp_validate_text validate.None = codes "none"
bond_arp_validate_text validate.Active = codes "active"
bond_arp_validate_text validate.Backup = codes "backup"
bond_arp_validate_text validate.All = codes "all"
bond_arp_validate_text validate.Filter = codes "filter"
bond_arp_validate_text validate.FilterActive = codes "filter_active"
bond_arp_validate_text validate.FilterBackup = codes "filter_backup"
bond_arp_validate_text (validate.Other n) = decimal n

-- the value that a word names, or the error
abbrev pub bond_arp_validate_of_word : List ℕ → Result BondArpValidate DecodeError
bond_arp_validate_of_word word =
    value_of_word family.Bond bond_arp_validate_text bond_arp_validate_table.named word

pub bond_arp_validate_words_hold : ReadsWords family.Bond bond_arp_validate_text
    bond_arp_validate_table.named
bond_arp_validate_words_hold =
    reads_words family.Bond bond_arp_validate_text bond_arp_validate_table.named
    (refl, (refl, (refl, (refl, (refl, (refl, (refl, tt)))))))

-- the number of each value
abbrev pub bond_arp_all_targets_number : BondArpAllTargets → ℕ
bond_arp_all_targets_number targets.Any = 0
bond_arp_all_targets_number targets.All = 1
bond_arp_all_targets_number (targets.Other n) = n

abbrev pub bond_arp_all_targets_table : Table ℕ BondArpAllTargets
bond_arp_all_targets_table =
    by_number bond_arp_all_targets_number targets.Other (targets.Any ∷ targets.All ∷ [])

-- the value of each number
abbrev pub bond_arp_all_targets : ℕ → BondArpAllTargets
bond_arp_all_targets n = value_of bond_arp_all_targets_table n

pub bond_arp_all_targets_table_holds : IsTable bond_arp_all_targets_table
bond_arp_all_targets_table_holds = record {
  same_decides = Decides-eqb;
  other_key = λ n. refl;
  found = elim [ targets.Other n ↦ inl refl | _ ↦ inr refl ];
  apart = (λ p. cc, (λ p. cc, tt));
}

-- the text of each value
abbrev pub bond_arp_all_targets_text : BondArpAllTargets → List ℕ
bond_arp_all_targets_text targets.Any = codes "any"
bond_arp_all_targets_text targets.All = codes "all"
bond_arp_all_targets_text (targets.Other n) = decimal n

-- the value that a word names, or the error
abbrev pub bond_arp_all_targets_of_word : List ℕ → Result BondArpAllTargets DecodeError
bond_arp_all_targets_of_word word =
    value_of_word family.Bond bond_arp_all_targets_text bond_arp_all_targets_table.named word

pub bond_arp_all_targets_words_hold : ReadsWords family.Bond bond_arp_all_targets_text
    bond_arp_all_targets_table.named
bond_arp_all_targets_words_hold =
    reads_words family.Bond bond_arp_all_targets_text bond_arp_all_targets_table.named
    (refl, (refl, tt))

-- the number of each value
abbrev pub bond_primary_reselect_number : BondPrimaryReselect → ℕ
bond_primary_reselect_number reselect.Always = 0
bond_primary_reselect_number reselect.Better = 1
bond_primary_reselect_number reselect.Failure = 2
bond_primary_reselect_number (reselect.Other n) = n

abbrev pub bond_primary_reselect_table : Table ℕ BondPrimaryReselect
bond_primary_reselect_table = by_number bond_primary_reselect_number reselect.Other
    (reselect.Always ∷ reselect.Better ∷ reselect.Failure ∷ [])

-- the value of each number
abbrev pub bond_primary_reselect : ℕ → BondPrimaryReselect
bond_primary_reselect n = value_of bond_primary_reselect_table n

pub bond_primary_reselect_table_holds : IsTable bond_primary_reselect_table
bond_primary_reselect_table_holds = record {
  same_decides = Decides-eqb;
  other_key = λ n. refl;
  found = elim [ reselect.Other n ↦ inl refl | _ ↦ inr refl ];
  apart = (λ p. cc, (λ p. cc, (λ p. cc, tt)));
}

-- the text of each value
abbrev pub bond_primary_reselect_text : BondPrimaryReselect → List ℕ
bond_primary_reselect_text reselect.Always = codes "always"
bond_primary_reselect_text reselect.Better = codes "better"
bond_primary_reselect_text reselect.Failure = codes "failure"
bond_primary_reselect_text (reselect.Other n) = decimal n

-- the value that a word names, or the error
abbrev pub bond_primary_reselect_of_word : List ℕ → Result BondPrimaryReselect DecodeError
bond_primary_reselect_of_word word =
    value_of_word family.Bond bond_primary_reselect_text bond_primary_reselect_table.named word

pub bond_primary_reselect_words_hold : ReadsWords family.Bond bond_primary_reselect_text
    bond_primary_reselect_table.named
bond_primary_reselect_words_hold =
    reads_words family.Bond bond_primary_reselect_text bond_primary_reselect_table.named
    (refl, (refl, (refl, tt)))

-- the number of each value
abbrev pub bond_fail_over_mac_number : BondFailOverMac → ℕ
bond_fail_over_mac_number fail_over.None = 0
bond_fail_over_mac_number fail_over.Active = 1
bond_fail_over_mac_number fail_over.Follow = 2
bond_fail_over_mac_number (fail_over.Other n) = n

abbrev pub bond_fail_over_mac_table : Table ℕ BondFailOverMac
bond_fail_over_mac_table = by_number bond_fail_over_mac_number fail_over.Other
    (fail_over.None ∷ fail_over.Active ∷ fail_over.Follow ∷ [])

-- the value of each number
abbrev pub bond_fail_over_mac : ℕ → BondFailOverMac
bond_fail_over_mac n = value_of bond_fail_over_mac_table n

pub bond_fail_over_mac_table_holds : IsTable bond_fail_over_mac_table
bond_fail_over_mac_table_holds = record {
  same_decides = Decides-eqb;
  other_key = λ n. refl;
  found = elim [ fail_over.Other n ↦ inl refl | _ ↦ inr refl ];
  apart = (λ p. cc, (λ p. cc, (λ p. cc, tt)));
}

-- the text of each value
abbrev pub bond_fail_over_mac_text : BondFailOverMac → List ℕ
bond_fail_over_mac_text fail_over.None = codes "none"
bond_fail_over_mac_text fail_over.Active = codes "active"
bond_fail_over_mac_text fail_over.Follow = codes "follow"
bond_fail_over_mac_text (fail_over.Other n) = decimal n

-- the value that a word names, or the error
abbrev pub bond_fail_over_mac_of_word : List ℕ → Result BondFailOverMac DecodeError
bond_fail_over_mac_of_word word =
    value_of_word family.Bond bond_fail_over_mac_text bond_fail_over_mac_table.named word

pub bond_fail_over_mac_words_hold : ReadsWords family.Bond bond_fail_over_mac_text
    bond_fail_over_mac_table.named
bond_fail_over_mac_words_hold =
    reads_words family.Bond bond_fail_over_mac_text bond_fail_over_mac_table.named
    (refl, (refl, (refl, tt)))

-- the number of each value
abbrev pub bond_xmit_hash_policy_number : BondXmitHashPolicy → ℕ
bond_xmit_hash_policy_number policy.Layer2 = 0
bond_xmit_hash_policy_number policy.Layer34 = 1
bond_xmit_hash_policy_number policy.Layer23 = 2
bond_xmit_hash_policy_number policy.Encap23 = 3
bond_xmit_hash_policy_number policy.Encap34 = 4
bond_xmit_hash_policy_number policy.VlanSrcMac = 5
bond_xmit_hash_policy_number (policy.Other n) = n

abbrev pub bond_xmit_hash_policy_table : Table ℕ BondXmitHashPolicy
bond_xmit_hash_policy_table = by_number bond_xmit_hash_policy_number policy.Other
    (policy.Layer2 ∷ policy.Layer34 ∷ policy.Layer23 ∷ policy.Encap23 ∷ policy.Encap34
    ∷ policy.VlanSrcMac ∷ [])

-- the value of each number
abbrev pub bond_xmit_hash_policy : ℕ → BondXmitHashPolicy
bond_xmit_hash_policy n = value_of bond_xmit_hash_policy_table n

pub bond_xmit_hash_policy_table_holds : IsTable bond_xmit_hash_policy_table
bond_xmit_hash_policy_table_holds = record {
  same_decides = Decides-eqb;
  other_key = λ n. refl;
  found = elim [ policy.Other n ↦ inl refl | _ ↦ inr refl ];
  apart = (λ p. cc, (λ p. cc, (λ p. cc, (λ p. cc, (λ p. cc, (λ p. cc, tt))))));
}

-- the text of each value
abbrev pub bond_xmit_hash_policy_text : BondXmitHashPolicy → List ℕ
bond_xmit_hash_policy_text policy.Layer2 = codes "layer2"
bond_xmit_hash_policy_text policy.Layer34 = codes "layer3+4"
bond_xmit_hash_policy_text policy.Layer23 = codes "layer2+3"
bond_xmit_hash_policy_text policy.Encap23 = codes "encap2+3"
bond_xmit_hash_policy_text policy.Encap34 = codes "encap3+4"
bond_xmit_hash_policy_text policy.VlanSrcMac = codes "vlan+srcmac"
bond_xmit_hash_policy_text (policy.Other n) = decimal n

-- the value that a word names, or the error
abbrev pub bond_xmit_hash_policy_of_word : List ℕ → Result BondXmitHashPolicy DecodeError
bond_xmit_hash_policy_of_word word =
    value_of_word family.Bond bond_xmit_hash_policy_text bond_xmit_hash_policy_table.named word

pub bond_xmit_hash_policy_words_hold : ReadsWords family.Bond bond_xmit_hash_policy_text
    bond_xmit_hash_policy_table.named
bond_xmit_hash_policy_words_hold =
    reads_words family.Bond bond_xmit_hash_policy_text bond_xmit_hash_policy_table.named
    (refl, (refl, (refl, (refl, (refl, (refl, tt))))))

-- the number of each value
abbrev pub bond_all_port_active_number : BondAllPortActive → ℕ
bond_all_port_active_number all_active.Dropped = 0
bond_all_port_active_number all_active.Delivered = 1
bond_all_port_active_number (all_active.Other n) = n

abbrev pub bond_all_port_active_table : Table ℕ BondAllPortActive
bond_all_port_active_table = by_number bond_all_port_active_number all_active.Other
    (all_active.Dropped ∷ all_active.Delivered ∷ [])

-- the value of each number
abbrev pub bond_all_port_active : ℕ → BondAllPortActive
bond_all_port_active n = value_of bond_all_port_active_table n

pub bond_all_port_active_table_holds : IsTable bond_all_port_active_table
bond_all_port_active_table_holds = record {
  same_decides = Decides-eqb;
  other_key = λ n. refl;
  found = elim [ all_active.Other n ↦ inl refl | _ ↦ inr refl ];
  apart = (λ p. cc, (λ p. cc, tt));
}

-- the number of each value
abbrev pub bond_lacp_rate_number : BondLacpRate → ℕ
bond_lacp_rate_number rate.Slow = 0
bond_lacp_rate_number rate.Fast = 1
bond_lacp_rate_number (rate.Other n) = n

abbrev pub bond_lacp_rate_table : Table ℕ BondLacpRate
bond_lacp_rate_table = by_number bond_lacp_rate_number rate.Other (rate.Slow ∷ rate.Fast ∷ [])

-- the value of each number
abbrev pub bond_lacp_rate : ℕ → BondLacpRate
bond_lacp_rate n = value_of bond_lacp_rate_table n

pub bond_lacp_rate_table_holds : IsTable bond_lacp_rate_table
bond_lacp_rate_table_holds = record {
  same_decides = Decides-eqb;
  other_key = λ n. refl;
  found = elim [ rate.Other n ↦ inl refl | _ ↦ inr refl ];
  apart = (λ p. cc, (λ p. cc, tt));
}

-- the text of each value
abbrev pub bond_lacp_rate_text : BondLacpRate → List ℕ
bond_lacp_rate_text rate.Slow = codes "slow"
bond_lacp_rate_text rate.Fast = codes "fast"
bond_lacp_rate_text (rate.Other n) = decimal n

-- the value that a word names, or the error
abbrev pub bond_lacp_rate_of_word : List ℕ → Result BondLacpRate DecodeError
bond_lacp_rate_of_word word =
    value_of_word family.Bond bond_lacp_rate_text bond_lacp_rate_table.named word

pub bond_lacp_rate_words_hold : ReadsWords family.Bond bond_lacp_rate_text
    bond_lacp_rate_table.named
bond_lacp_rate_words_hold =
    reads_words family.Bond bond_lacp_rate_text bond_lacp_rate_table.named (refl, (refl, tt))

-- the number of each value
abbrev pub bond_ad_select_number : BondAdSelect → ℕ
bond_ad_select_number select.Stable = 0
bond_ad_select_number select.Bandwidth = 1
bond_ad_select_number select.Count = 2
bond_ad_select_number select.ActorPortPrio = 3
bond_ad_select_number (select.Other n) = n

abbrev pub bond_ad_select_table : Table ℕ BondAdSelect
bond_ad_select_table = by_number bond_ad_select_number select.Other
    (select.Stable ∷ select.Bandwidth ∷ select.Count ∷ select.ActorPortPrio ∷ [])

-- the value of each number
abbrev pub bond_ad_select : ℕ → BondAdSelect
bond_ad_select n = value_of bond_ad_select_table n

pub bond_ad_select_table_holds : IsTable bond_ad_select_table
bond_ad_select_table_holds = record {
  same_decides = Decides-eqb;
  other_key = λ n. refl;
  found = elim [ select.Other n ↦ inl refl | _ ↦ inr refl ];
  apart = (λ p. cc, (λ p. cc, (λ p. cc, (λ p. cc, tt))));
}

-- the text of each value
abbrev pub bond_ad_select_text : BondAdSelect → List ℕ
bond_ad_select_text select.Stable = codes "stable"
bond_ad_select_text select.Bandwidth = codes "bandwidth"
bond_ad_select_text select.Count = codes "count"
bond_ad_select_text select.ActorPortPrio = codes "actor_port_prio"
bond_ad_select_text (select.Other n) = decimal n

-- the value that a word names, or the error
abbrev pub bond_ad_select_of_word : List ℕ → Result BondAdSelect DecodeError
bond_ad_select_of_word word =
    value_of_word family.Bond bond_ad_select_text bond_ad_select_table.named word

pub bond_ad_select_words_hold : ReadsWords family.Bond bond_ad_select_text
    bond_ad_select_table.named
bond_ad_select_words_hold = reads_words family.Bond bond_ad_select_text bond_ad_select_table.named
    (refl, (refl, (refl, (refl, tt))))

-- the number of each value
abbrev pub bond_port_state_number : BondPortState → ℕ
bond_port_state_number state.Active = 0
bond_port_state_number state.Backup = 1
bond_port_state_number (state.Other n) = n

abbrev pub bond_port_state_table : Table ℕ BondPortState
bond_port_state_table =
    by_number bond_port_state_number state.Other (state.Active ∷ state.Backup ∷ [])

-- the value of each number
abbrev pub bond_port_state : ℕ → BondPortState
bond_port_state n = value_of bond_port_state_table n

pub bond_port_state_table_holds : IsTable bond_port_state_table
bond_port_state_table_holds = record {
  same_decides = Decides-eqb;
  other_key = λ n. refl;
  found = elim [ state.Other n ↦ inl refl | _ ↦ inr refl ];
  apart = (λ p. cc, (λ p. cc, tt));
}

-- the text of each value
abbrev pub bond_port_state_text : BondPortState → List ℕ
bond_port_state_text state.Active = codes "ACTIVE"
bond_port_state_text state.Backup = codes "BACKUP"
bond_port_state_text (state.Other n) = decimal n

-- the value that a word names, or the error
abbrev pub bond_port_state_of_word : List ℕ → Result BondPortState DecodeError
bond_port_state_of_word word =
    value_of_word family.BondPort bond_port_state_text bond_port_state_table.named word

pub bond_port_state_words_hold : ReadsWords family.BondPort bond_port_state_text
    bond_port_state_table.named
bond_port_state_words_hold =
    reads_words family.BondPort bond_port_state_text bond_port_state_table.named (refl, (refl, tt))

-- the number of each value
abbrev pub mii_status_number : MiiStatus → ℕ
mii_status_number status.Up = 0
mii_status_number status.GoingDown = 1
mii_status_number status.Down = 2
mii_status_number status.GoingBack = 3
mii_status_number (status.Other n) = n

abbrev pub mii_status_table : Table ℕ MiiStatus
mii_status_table = by_number mii_status_number status.Other
    (status.Up ∷ status.GoingDown ∷ status.Down ∷ status.GoingBack ∷ [])

-- the value of each number
abbrev pub mii_status : ℕ → MiiStatus
mii_status n = value_of mii_status_table n

pub mii_status_table_holds : IsTable mii_status_table
mii_status_table_holds = record {
  same_decides = Decides-eqb;
  other_key = λ n. refl;
  found = elim [ status.Other n ↦ inl refl | _ ↦ inr refl ];
  apart = (λ p. cc, (λ p. cc, (λ p. cc, (λ p. cc, tt))));
}

-- the text of each value
abbrev pub mii_status_text : MiiStatus → List ℕ
mii_status_text status.Up = codes "UP"
mii_status_text status.GoingDown = codes "GOING_DOWN"
mii_status_text status.Down = codes "DOWN"
mii_status_text status.GoingBack = codes "GOING_BACK"
mii_status_text (status.Other n) = decimal n

-- the value that a word names, or the error
abbrev pub mii_status_of_word : List ℕ → Result MiiStatus DecodeError
mii_status_of_word word = value_of_word family.BondPort mii_status_text mii_status_table.named word

pub mii_status_words_hold : ReadsWords family.BondPort mii_status_text mii_status_table.named
mii_status_words_hold = reads_words family.BondPort mii_status_text mii_status_table.named
    (refl, (refl, (refl, (refl, tt))))

-- the number of each value
abbrev pub churn_state_number : ChurnState → ℕ
churn_state_number churn.Monitor = 0
churn_state_number churn.Churn = 1
churn_state_number churn.NoChurn = 2
churn_state_number (churn.Other n) = n

abbrev pub churn_state_table : Table ℕ ChurnState
churn_state_table =
    by_number churn_state_number churn.Other (churn.Monitor ∷ churn.Churn ∷ churn.NoChurn ∷ [])

-- the value of each number
abbrev pub churn_state : ℕ → ChurnState
churn_state n = value_of churn_state_table n

pub churn_state_table_holds : IsTable churn_state_table
churn_state_table_holds = record {
  same_decides = Decides-eqb;
  other_key = λ n. refl;
  found = elim [ churn.Other n ↦ inl refl | _ ↦ inr refl ];
  apart = (λ p. cc, (λ p. cc, (λ p. cc, tt)));
}

-- the text of each value
abbrev pub churn_state_text : ChurnState → List ℕ
churn_state_text churn.Monitor = codes "MONITOR"
churn_state_text churn.Churn = codes "CHURN"
churn_state_text churn.NoChurn = codes "NO_CHURN"
churn_state_text (churn.Other n) = decimal n

-- the value that a word names, or the error
abbrev pub churn_state_of_word : List ℕ → Result ChurnState DecodeError
churn_state_of_word word =
    value_of_word family.BondPort churn_state_text churn_state_table.named word

pub churn_state_words_hold : ReadsWords family.BondPort churn_state_text churn_state_table.named
churn_state_words_hold =
    reads_words family.BondPort churn_state_text churn_state_table.named (refl, (refl, (refl, tt)))

-- the flags by name, and a last entry without a name that has every bit
abbrev pub lacp_state_table : List (List ℕ × ℕ)
lacp_state_table =
    (codes "Activity", 0x01) ∷
    (codes "Timeout", 0x02) ∷
    (codes "Aggregation", 0x04) ∷
    (codes "Synchronization", 0x08) ∷
    (codes "Collecting", 0x10) ∷
    (codes "Distributing", 0x20) ∷
    (codes "Defaulted", 0x40) ∷
    (codes "Expired", 0x80) ∷
    (codes "", 0xff) ∷ []

pub lacp_state_known : known_bits lacp_state_table ≡ 0xff
unfolding known_from
lacp_state_known = refl

-- the set with these bits
abbrev pub lacp_state : ℕ → LacpState
lacp_state bits = record { 0 = bits }

-- the flags with their words
abbrev pub lacp_state_words : List FlagWord
lacp_state_words =
    (0x01, codes "active") ∷
    (0x02, codes "short_timeout") ∷
    (0x04, codes "aggregating") ∷
    (0x08, codes "in_sync") ∷
    (0x10, codes "collecting") ∷
    (0x20, codes "distributing") ∷
    (0x40, codes "defaulted") ∷
    (0x80, codes "expired") ∷
    []

-- the text of the set with these bits
abbrev pub lacp_state_text : ℕ → List ℕ
lacp_state_text bits = set_text lacp_state_words 0xff bits

-- the set of a text, or the error
abbrev pub lacp_state_of_text : List ℕ → Result LacpState DecodeError
lacp_state_of_text text = set_if family.BondPort 8 lacp_state (text_bits lacp_state_words text)

-- the flags by name, and a last entry without a name that has every bit
abbrev pub lacp_state16_table : List (List ℕ × ℕ)
lacp_state16_table =
    (codes "Activity", 0x01) ∷
    (codes "Timeout", 0x02) ∷
    (codes "Aggregation", 0x04) ∷
    (codes "Synchronization", 0x08) ∷
    (codes "Collecting", 0x10) ∷
    (codes "Distributing", 0x20) ∷
    (codes "Defaulted", 0x40) ∷
    (codes "Expired", 0x80) ∷
    (codes "", 0xffff) ∷ []

pub lacp_state16_known : known_bits lacp_state16_table ≡ 0xffff
unfolding known_from
lacp_state16_known = refl

-- the set with these bits
abbrev pub lacp_state16 : ℕ → LacpState16
lacp_state16 bits = record { 0 = bits }

-- the flags with their words
abbrev pub lacp_state16_words : List FlagWord
lacp_state16_words =
    (0x01, codes "active") ∷
    (0x02, codes "short_timeout") ∷
    (0x04, codes "aggregating") ∷
    (0x08, codes "in_sync") ∷
    (0x10, codes "collecting") ∷
    (0x20, codes "distributing") ∷
    (0x40, codes "defaulted") ∷
    (0x80, codes "expired") ∷
    []

-- the text of the set with these bits
abbrev pub lacp_state16_text : ℕ → List ℕ
lacp_state16_text bits = set_text lacp_state16_words 0xff bits

-- the set of a text, or the error
abbrev pub lacp_state16_of_text : List ℕ → Result LacpState16 DecodeError
lacp_state16_of_text text =
    set_if family.BondPort 16 lacp_state16 (text_bits lacp_state16_words text)

-- the number of each value
abbrev pub on_off_number : OnOff → ℕ
on_off_number switch.Off = 0
on_off_number switch.On = 1
on_off_number (switch.Other n) = n

abbrev pub on_off_table : Table ℕ OnOff
on_off_table = by_number on_off_number switch.Other (switch.Off ∷ switch.On ∷ [])

-- the value of each number
abbrev pub on_off : ℕ → OnOff
on_off n = value_of on_off_table n

pub on_off_table_holds : IsTable on_off_table
on_off_table_holds = record {
  same_decides = Decides-eqb;
  other_key = λ n. refl;
  found = elim [ switch.Other n ↦ inl refl | _ ↦ inr refl ];
  apart = (λ p. cc, (λ p. cc, tt));
}

-- the value of each truth
abbrev pub on_off_of_bool : Bool → OnOff
on_off_of_bool true = switch.On
on_off_of_bool false = switch.Off

-- the text of each value
abbrev pub on_off_text : OnOff → List ℕ
on_off_text switch.Off = codes "off"
on_off_text switch.On = codes "on"
on_off_text (switch.Other n) = decimal n

-- the value that a word names, or the error
abbrev pub on_off_of_word : List ℕ → Result OnOff DecodeError
on_off_of_word word = value_of_word family.Bond on_off_text on_off_table.named word

pub on_off_words_hold : ReadsWords family.Bond on_off_text on_off_table.named
on_off_words_hold = reads_words family.Bond on_off_text on_off_table.named (refl, (refl, tt))
