-- Written by tables/generate from tables/numbers/bridge.
-- Bridges and their ports: the values of each type.
use Rattle.std.specs.Prelude.{◌≡◌, ℕ, List, [], ◌∷◌, codes, Result, refl}
use Rattle.std.specs.Fmt.{decimal}
use Rattle.std.proofs.Common.{inl, inr}
use Rattle.std.proofs.lemmas.Bool.Decides.{Decides-eqb}
use Rattle.bitflags.specs.Sets.{known_bits, known_from}
use Rattle.nla_frame.specs.declared.error.Family.TheVariants as family
use Rattle.nla_frame.specs.declared.error.DecodeError.{DecodeError}
use Rattle.linkinfo_numbers.specs.declared.bridge.BridgeStpState.{BridgeStpState}
use Rattle.linkinfo_numbers.specs.declared.bridge.BridgeStpState.TheVariants as stp
use Rattle.linkinfo_numbers.specs.declared.bridge.BridgeStpMode.{BridgeStpMode}
use Rattle.linkinfo_numbers.specs.declared.bridge.BridgeStpMode.TheVariants as mode
use Rattle.linkinfo_numbers.specs.declared.bridge.BridgeMulticastRouterType.{
  BridgeMulticastRouterType,
}
use Rattle.linkinfo_numbers.specs.declared.bridge.BridgeMulticastRouterType.TheVariants as router
use Rattle.linkinfo_numbers.specs.declared.bridge.BridgePortState.{BridgePortState}
use Rattle.linkinfo_numbers.specs.declared.bridge.BridgePortState.TheVariants as state
use Rattle.linkinfo_numbers.specs.declared.bridge.BridgeBooleanOptionFlags.{
  BridgeBooleanOptionFlags,
}
use Rattle.linkinfo_numbers.specs.FlagWords.{FlagWord, set_if, set_text, text_bits}
use Rattle.linkinfo_numbers.specs.Table.{Table, IsTable, by_number, value_of}
use Rattle.linkinfo_numbers.specs.Word.{value_of_word, ReadsWords, reads_words}

-- the number of each value
abbrev pub bridge_stp_state_number : BridgeStpState → ℕ
bridge_stp_state_number stp.Disabled = 0
bridge_stp_state_number stp.KernelStp = 1
bridge_stp_state_number stp.UserStp = 2
bridge_stp_state_number (stp.Other n) = n

abbrev pub bridge_stp_state_table : Table ℕ BridgeStpState
bridge_stp_state_table =
    by_number bridge_stp_state_number stp.Other (stp.Disabled ∷ stp.KernelStp ∷ stp.UserStp ∷ [])

-- the value of each number
abbrev pub bridge_stp_state : ℕ → BridgeStpState
bridge_stp_state n = value_of bridge_stp_state_table n

pub bridge_stp_state_table_holds : IsTable bridge_stp_state_table
bridge_stp_state_table_holds = record {
  same_decides = Decides-eqb;
  other_key = λ n. refl;
  found = elim [ stp.Other n ↦ inl refl | _ ↦ inr refl ];
  apart = (λ p. cc, (λ p. cc, (λ p. cc, tt)));
}

-- the number of each value
abbrev pub bridge_stp_mode_number : BridgeStpMode → ℕ
bridge_stp_mode_number mode.Auto = 0
bridge_stp_mode_number mode.User = 1
bridge_stp_mode_number mode.Kernel = 2
bridge_stp_mode_number (mode.Other n) = n

abbrev pub bridge_stp_mode_table : Table ℕ BridgeStpMode
bridge_stp_mode_table =
    by_number bridge_stp_mode_number mode.Other (mode.Auto ∷ mode.User ∷ mode.Kernel ∷ [])

-- the value of each number
abbrev pub bridge_stp_mode : ℕ → BridgeStpMode
bridge_stp_mode n = value_of bridge_stp_mode_table n

pub bridge_stp_mode_table_holds : IsTable bridge_stp_mode_table
bridge_stp_mode_table_holds = record {
  same_decides = Decides-eqb;
  other_key = λ n. refl;
  found = elim [ mode.Other n ↦ inl refl | _ ↦ inr refl ];
  apart = (λ p. cc, (λ p. cc, (λ p. cc, tt)));
}

-- the text of each value
abbrev pub bridge_stp_mode_text : BridgeStpMode → List ℕ
bridge_stp_mode_text mode.Auto = codes "auto"
bridge_stp_mode_text mode.User = codes "user"
bridge_stp_mode_text mode.Kernel = codes "kernel"
bridge_stp_mode_text (mode.Other n) = decimal n

-- the value that a word names, or the error
abbrev pub bridge_stp_mode_of_word : List ℕ → Result BridgeStpMode DecodeError
bridge_stp_mode_of_word word =
    value_of_word family.Bridge bridge_stp_mode_text bridge_stp_mode_table.named word

pub bridge_stp_mode_words_hold : ReadsWords family.Bridge bridge_stp_mode_text
    bridge_stp_mode_table.named
bridge_stp_mode_words_hold =
    reads_words family.Bridge bridge_stp_mode_text bridge_stp_mode_table.named
    (refl, (refl, (refl, tt)))

-- the number of each value
abbrev pub bridge_multicast_router_type_number : BridgeMulticastRouterType → ℕ
bridge_multicast_router_type_number router.Disabled = 0
bridge_multicast_router_type_number router.TempQuery = 1
bridge_multicast_router_type_number router.Permanent = 2
bridge_multicast_router_type_number router.Temp = 3
bridge_multicast_router_type_number (router.Other n) = n

abbrev pub bridge_multicast_router_type_table : Table ℕ BridgeMulticastRouterType
bridge_multicast_router_type_table = by_number bridge_multicast_router_type_number router.Other
    (router.Disabled ∷ router.TempQuery ∷ router.Permanent ∷ router.Temp ∷ [])

-- the value of each number
abbrev pub bridge_multicast_router_type : ℕ → BridgeMulticastRouterType
bridge_multicast_router_type n = value_of bridge_multicast_router_type_table n

pub bridge_multicast_router_type_table_holds : IsTable bridge_multicast_router_type_table
bridge_multicast_router_type_table_holds = record {
  same_decides = Decides-eqb;
  other_key = λ n. refl;
  found = elim [ router.Other n ↦ inl refl | _ ↦ inr refl ];
  apart = (λ p. cc, (λ p. cc, (λ p. cc, (λ p. cc, tt))));
}

-- the number of each value
abbrev pub bridge_port_state_number : BridgePortState → ℕ
bridge_port_state_number state.Disabled = 0
bridge_port_state_number state.Listening = 1
bridge_port_state_number state.Learning = 2
bridge_port_state_number state.Forwarding = 3
bridge_port_state_number state.Blocking = 4
bridge_port_state_number (state.Other n) = n

abbrev pub bridge_port_state_table : Table ℕ BridgePortState
bridge_port_state_table = by_number bridge_port_state_number state.Other
    (state.Disabled ∷ state.Listening ∷ state.Learning ∷ state.Forwarding ∷ state.Blocking ∷ [])

-- the value of each number
abbrev pub bridge_port_state : ℕ → BridgePortState
bridge_port_state n = value_of bridge_port_state_table n

pub bridge_port_state_table_holds : IsTable bridge_port_state_table
bridge_port_state_table_holds = record {
  same_decides = Decides-eqb;
  other_key = λ n. refl;
  found = elim [ state.Other n ↦ inl refl | _ ↦ inr refl ];
  apart = (λ p. cc, (λ p. cc, (λ p. cc, (λ p. cc, (λ p. cc, tt)))));
}

-- the text of each value
abbrev pub bridge_port_state_text : BridgePortState → List ℕ
bridge_port_state_text state.Disabled = codes "disabled"
bridge_port_state_text state.Listening = codes "listening"
bridge_port_state_text state.Learning = codes "learning"
bridge_port_state_text state.Forwarding = codes "forwarding"
bridge_port_state_text state.Blocking = codes "blocking"
bridge_port_state_text (state.Other n) = decimal n

-- the value that a word names, or the error
abbrev pub bridge_port_state_of_word : List ℕ → Result BridgePortState DecodeError
bridge_port_state_of_word word =
    value_of_word family.BridgePort bridge_port_state_text bridge_port_state_table.named word

pub bridge_port_state_words_hold : ReadsWords family.BridgePort bridge_port_state_text
    bridge_port_state_table.named
bridge_port_state_words_hold =
    reads_words family.BridgePort bridge_port_state_text bridge_port_state_table.named
    (refl, (refl, (refl, (refl, (refl, tt)))))

-- the flags by name, and a last entry without a name that has every bit
abbrev pub bridge_boolean_option_flags_table : List (List ℕ × ℕ)
bridge_boolean_option_flags_table =
    (codes "NoLinkLocalLearn", 0x1) ∷
    (codes "VlanMulticastSnooping", 0x2) ∷
    (codes "MstEnable", 0x4) ∷
    (codes "MdbOffloadFailNotif", 0x8) ∷
    (codes "FdbLocalVlan0", 0x10) ∷
    (codes "", 0xffffffff) ∷ []

pub bridge_boolean_option_flags_known : known_bits bridge_boolean_option_flags_table ≡ 0xffffffff
unfolding known_from
bridge_boolean_option_flags_known = refl

-- the set with these bits
abbrev pub bridge_boolean_option_flags : ℕ → BridgeBooleanOptionFlags
bridge_boolean_option_flags bits = record { 0 = bits }

-- the flags with their words
abbrev pub bridge_boolean_option_flags_words : List FlagWord
bridge_boolean_option_flags_words =
    (0x1, codes "no_linklocal_learn") ∷
    (0x2, codes "mcast_vlan_snooping") ∷
    (0x4, codes "mst_enabled") ∷
    (0x8, codes "mdb_offload_fail_notification") ∷
    (0x10, codes "fdb_local_vlan_0") ∷
    []

-- the text of the set with these bits
abbrev pub bridge_boolean_option_flags_text : ℕ → List ℕ
bridge_boolean_option_flags_text bits = set_text bridge_boolean_option_flags_words 0x1f bits

-- the set of a text, or the error
abbrev pub bridge_boolean_option_flags_of_text : List ℕ → Result BridgeBooleanOptionFlags
    DecodeError
bridge_boolean_option_flags_of_text text =
    set_if family.Bridge 32 bridge_boolean_option_flags (text_bits bridge_boolean_option_flags_words
    text)
