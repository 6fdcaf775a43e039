-- Written by tables/generate from tables/numbers/ipvlan.
-- IPVLAN and IPVTAP links: the values of each type.
use Rattle.std.specs.Prelude.{◌≡◌, ℕ, List, [], ◌∷◌, codes, Result, refl}
use Rattle.std.specs.Fmt.{decimal}
use Rattle.std.proofs.Common.{inl, inr}
use Rattle.std.proofs.lemmas.Bool.Decides.{Decides-eqb}
use Rattle.bitflags.specs.Sets.{known_bits, known_from}
use Rattle.nla_frame.specs.declared.error.Family.TheVariants as family
use Rattle.nla_frame.specs.declared.error.DecodeError.{DecodeError}
use Rattle.linkinfo_numbers.specs.declared.ipvlan.IpVlanMode.{IpVlanMode}
use Rattle.linkinfo_numbers.specs.declared.ipvlan.IpVlanMode.TheVariants as mode
use Rattle.linkinfo_numbers.specs.declared.ipvlan.IpVlanFlags.{IpVlanFlags}
use Rattle.linkinfo_numbers.specs.Table.{Table, IsTable, by_number, value_of}
use Rattle.linkinfo_numbers.specs.Word.{value_of_word, ReadsWords, reads_words}

-- the number of each value
abbrev pub ip_vlan_mode_number : IpVlanMode → ℕ
ip_vlan_mode_number mode.L2 = 0
ip_vlan_mode_number mode.L3 = 1
ip_vlan_mode_number mode.L3S = 2
ip_vlan_mode_number (mode.Other n) = n

abbrev pub ip_vlan_mode_table : Table ℕ IpVlanMode
ip_vlan_mode_table = by_number ip_vlan_mode_number mode.Other (mode.L2 ∷ mode.L3 ∷ mode.L3S ∷ [])

-- the value of each number
abbrev pub ip_vlan_mode : ℕ → IpVlanMode
ip_vlan_mode n = value_of ip_vlan_mode_table n

pub ip_vlan_mode_table_holds : IsTable ip_vlan_mode_table
ip_vlan_mode_table_holds = record {
  same_decides = Decides-eqb;
  other_key = λ n. refl;
  found = elim [ mode.Other n ↦ inl refl | _ ↦ inr refl ];
  apart = (λ p. cc, (λ p. cc, (λ p. cc, tt)));
}

-- the text of each value
abbrev pub ip_vlan_mode_text : IpVlanMode → List ℕ
ip_vlan_mode_text mode.L2 = codes "l2"
ip_vlan_mode_text mode.L3 = codes "l3"
ip_vlan_mode_text mode.L3S = codes "l3s"
ip_vlan_mode_text (mode.Other n) = decimal n

-- the value that a word names, or the error
abbrev pub ip_vlan_mode_of_word : List ℕ → Result IpVlanMode DecodeError
ip_vlan_mode_of_word word =
    value_of_word family.IpVlan ip_vlan_mode_text ip_vlan_mode_table.named word

pub ip_vlan_mode_words_hold : ReadsWords family.IpVlan ip_vlan_mode_text ip_vlan_mode_table.named
ip_vlan_mode_words_hold =
    reads_words family.IpVlan ip_vlan_mode_text ip_vlan_mode_table.named (refl, (refl, (refl, tt)))

-- the flags by name, and a last entry without a name that has every bit
abbrev pub ip_vlan_flags_table : List (List ℕ × ℕ)
ip_vlan_flags_table =
    (codes "Private", 1) ∷
    (codes "Vepa", 2) ∷
    (codes "", 0xffff) ∷ []

pub ip_vlan_flags_known : known_bits ip_vlan_flags_table ≡ 0xffff
unfolding known_from
ip_vlan_flags_known = refl

-- the set with these bits
abbrev pub ip_vlan_flags : ℕ → IpVlanFlags
ip_vlan_flags bits = record { 0 = bits }
