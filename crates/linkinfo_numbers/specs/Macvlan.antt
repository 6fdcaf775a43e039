-- Written by tables/generate from tables/numbers/macvlan.
-- MACVLAN and MACVTAP links: the values of each type.
use Rattle.std.specs.Prelude.{◌≡◌, ℕ, List, [], ◌∷◌, codes, Result, refl}
use Rattle.std.specs.Fmt.{decimal}
use Rattle.std.proofs.Common.{inl, inr}
use Rattle.std.proofs.lemmas.Bool.Decides.{Decides-eqb}
use Rattle.bitflags.specs.Sets.{known_bits, known_from}
use Rattle.nla_frame.specs.declared.error.Family.TheVariants as family
use Rattle.nla_frame.specs.declared.error.DecodeError.{DecodeError}
use Rattle.linkinfo_numbers.specs.declared.macvlan.MacVlanMode.{MacVlanMode}
use Rattle.linkinfo_numbers.specs.declared.macvlan.MacVlanMode.TheVariants as mode
use Rattle.linkinfo_numbers.specs.declared.macvlan.MacVlanMacAddressMode.{MacVlanMacAddressMode}
use Rattle.linkinfo_numbers.specs.declared.macvlan.MacVlanMacAddressMode.TheVariants as address_mode
use Rattle.linkinfo_numbers.specs.declared.macvlan.MacVlanFlags.{MacVlanFlags}
use Rattle.linkinfo_numbers.specs.Table.{Table, IsTable, by_number, value_of}
use Rattle.linkinfo_numbers.specs.Word.{value_of_word, ReadsWords, reads_words}

-- the number of each value
abbrev pub mac_vlan_mode_number : MacVlanMode → ℕ
mac_vlan_mode_number mode.Private = 1
mac_vlan_mode_number mode.Vepa = 2
mac_vlan_mode_number mode.Bridge = 4
mac_vlan_mode_number mode.Passthrough = 8
mac_vlan_mode_number mode.Source = 16
mac_vlan_mode_number (mode.Other n) = n

abbrev pub mac_vlan_mode_table : Table ℕ MacVlanMode
mac_vlan_mode_table = by_number mac_vlan_mode_number mode.Other
    (mode.Private ∷ mode.Vepa ∷ mode.Bridge ∷ mode.Passthrough ∷ mode.Source ∷ [])

-- the value of each number
abbrev pub mac_vlan_mode : ℕ → MacVlanMode
mac_vlan_mode n = value_of mac_vlan_mode_table n

pub mac_vlan_mode_table_holds : IsTable mac_vlan_mode_table
mac_vlan_mode_table_holds = record {
  same_decides = Decides-eqb;
  other_key = λ n. refl;
  found = elim [ mode.Other n ↦ inl refl | _ ↦ inr refl ];
  apart = (λ p. cc, (λ p. cc, (λ p. cc, (λ p. cc, (λ p. cc, tt)))));
}

-- the text of each value
abbrev pub mac_vlan_mode_text : MacVlanMode → List ℕ
mac_vlan_mode_text mode.Private = codes "private"
mac_vlan_mode_text mode.Vepa = codes "vepa"
mac_vlan_mode_text mode.Bridge = codes "bridge"
mac_vlan_mode_text mode.Passthrough = codes "passthru"
mac_vlan_mode_text mode.Source = codes "source"
mac_vlan_mode_text (mode.Other n) = decimal n

-- the value that a word names, or the error
abbrev pub mac_vlan_mode_of_word : List ℕ → Result MacVlanMode DecodeError
mac_vlan_mode_of_word word =
    value_of_word family.MacVlan mac_vlan_mode_text mac_vlan_mode_table.named word

pub mac_vlan_mode_words_hold : ReadsWords family.MacVlan mac_vlan_mode_text
    mac_vlan_mode_table.named
mac_vlan_mode_words_hold = reads_words family.MacVlan mac_vlan_mode_text mac_vlan_mode_table.named
    (refl, (refl, (refl, (refl, (refl, tt)))))

-- the number of each value
abbrev pub mac_vlan_mac_address_mode_number : MacVlanMacAddressMode → ℕ
mac_vlan_mac_address_mode_number address_mode.Add = 0
mac_vlan_mac_address_mode_number address_mode.Del = 1
mac_vlan_mac_address_mode_number address_mode.Flush = 2
mac_vlan_mac_address_mode_number address_mode.Set = 3
mac_vlan_mac_address_mode_number (address_mode.Other n) = n

abbrev pub mac_vlan_mac_address_mode_table : Table ℕ MacVlanMacAddressMode
mac_vlan_mac_address_mode_table = by_number mac_vlan_mac_address_mode_number address_mode.Other
    (address_mode.Add ∷ address_mode.Del ∷ address_mode.Flush ∷ address_mode.Set ∷ [])

-- the value of each number
abbrev pub mac_vlan_mac_address_mode : ℕ → MacVlanMacAddressMode
mac_vlan_mac_address_mode n = value_of mac_vlan_mac_address_mode_table n

pub mac_vlan_mac_address_mode_table_holds : IsTable mac_vlan_mac_address_mode_table
mac_vlan_mac_address_mode_table_holds = record {
  same_decides = Decides-eqb;
  other_key = λ n. refl;
  found = elim [ address_mode.Other n ↦ inl refl | _ ↦ inr refl ];
  apart = (λ p. cc, (λ p. cc, (λ p. cc, (λ p. cc, tt))));
}

-- the flags by name, and a last entry without a name that has every bit
abbrev pub mac_vlan_flags_table : List (List ℕ × ℕ)
mac_vlan_flags_table =
    (codes "NoPromisc", 1) ∷
    (codes "NoDst", 2) ∷
    (codes "", 0xffff) ∷ []

pub mac_vlan_flags_known : known_bits mac_vlan_flags_table ≡ 0xffff
unfolding known_from
mac_vlan_flags_known = refl

-- the set with these bits
abbrev pub mac_vlan_flags : ℕ → MacVlanFlags
mac_vlan_flags bits = record { 0 = bits }
