-- Written by tables/generate from tables/numbers/vlan.
-- VLAN interfaces: the values of each type.
use Rattle.std.specs.Prelude.{◌≡◌, ℕ, List, [], ◌∷◌, codes, Result, refl}
use Rattle.std.specs.Fmt.{decimal}
use Rattle.std.proofs.Common.{inl, inr}
use Rattle.std.proofs.lemmas.Bool.Decides.{Decides-eqb}
use Rattle.bitflags.specs.Sets.{known_bits, known_from}
use Rattle.nla_frame.specs.declared.error.Family.TheVariants as family
use Rattle.nla_frame.specs.declared.error.DecodeError.{DecodeError}
use Rattle.linkinfo_numbers.specs.declared.vlan.VlanProtocol.{VlanProtocol}
use Rattle.linkinfo_numbers.specs.declared.vlan.VlanProtocol.TheVariants as protocol
use Rattle.linkinfo_numbers.specs.declared.vlan.VlanFlags.{VlanFlags}
use Rattle.linkinfo_numbers.specs.FlagWords.{FlagWord, set_if, set_text, text_bits}
use Rattle.linkinfo_numbers.specs.Table.{Table, IsTable, by_number, value_of}
use Rattle.linkinfo_numbers.specs.Word.{value_of_word, ReadsWords, reads_words}

-- the number of each value
abbrev pub vlan_protocol_number : VlanProtocol → ℕ
vlan_protocol_number protocol.Ieee8021Q = 0x8100
vlan_protocol_number protocol.Ieee8021Ad = 0x88a8
vlan_protocol_number (protocol.Other n) = n

abbrev pub vlan_protocol_table : Table ℕ VlanProtocol
vlan_protocol_table =
    by_number vlan_protocol_number protocol.Other (protocol.Ieee8021Q ∷ protocol.Ieee8021Ad ∷ [])

-- the value of each number
abbrev pub vlan_protocol : ℕ → VlanProtocol
vlan_protocol n = value_of vlan_protocol_table n

pub vlan_protocol_table_holds : IsTable vlan_protocol_table
vlan_protocol_table_holds = record {
  same_decides = Decides-eqb;
  other_key = λ n. refl;
  found = elim [ protocol.Other n ↦ inl refl | _ ↦ inr refl ];
  apart = (λ p. cc, (λ p. cc, tt));
}

-- the text of each value
abbrev pub vlan_protocol_text : VlanProtocol → List ℕ
vlan_protocol_text protocol.Ieee8021Q = codes "802.1Q"
vlan_protocol_text protocol.Ieee8021Ad = codes "802.1ad"
vlan_protocol_text (protocol.Other n) = decimal n

-- the value that a word names, or the error
abbrev pub vlan_protocol_of_word : List ℕ → Result VlanProtocol DecodeError
vlan_protocol_of_word word =
    value_of_word family.Vlan vlan_protocol_text vlan_protocol_table.named word

pub vlan_protocol_words_hold : ReadsWords family.Vlan vlan_protocol_text vlan_protocol_table.named
vlan_protocol_words_hold =
    reads_words family.Vlan vlan_protocol_text vlan_protocol_table.named (refl, (refl, tt))

-- the flags by name, and a last entry without a name that has every bit
abbrev pub vlan_flags_table : List (List ℕ × ℕ)
vlan_flags_table =
    (codes "ReorderHdr", 0x1) ∷
    (codes "Gvrp", 0x2) ∷
    (codes "LooseBinding", 0x4) ∷
    (codes "Mvrp", 0x8) ∷
    (codes "BridgeBinding", 0x10) ∷
    (codes "", 0xffffffff) ∷ []

pub vlan_flags_known : known_bits vlan_flags_table ≡ 0xffffffff
unfolding known_from
vlan_flags_known = refl

-- the set with these bits
abbrev pub vlan_flags : ℕ → VlanFlags
vlan_flags bits = record { 0 = bits }

-- the flags with their words
abbrev pub vlan_flags_words : List FlagWord
vlan_flags_words =
    (0x1, codes "REORDER_HDR") ∷
    (0x2, codes "GVRP") ∷
    (0x4, codes "LOOSE_BINDING") ∷
    (0x8, codes "MVRP") ∷
    (0x10, codes "BRIDGE_BINDING") ∷
    []

-- the text of the set with these bits
abbrev pub vlan_flags_text : ℕ → List ℕ
vlan_flags_text bits = set_text vlan_flags_words 0x1f bits

-- the set of a text, or the error
abbrev pub vlan_flags_of_text : List ℕ → Result VlanFlags DecodeError
vlan_flags_of_text text = set_if family.Vlan 32 vlan_flags (text_bits vlan_flags_words text)
