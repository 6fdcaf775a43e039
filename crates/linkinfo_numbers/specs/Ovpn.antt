-- Written by tables/generate from tables/numbers/ovpn.
-- OpenVPN devices: the values of each type.
use Rattle.std.specs.Prelude.{ℕ, List, [], ◌∷◌, codes, Result, refl}
use Rattle.std.specs.Fmt.{decimal}
use Rattle.std.proofs.Common.{inl, inr}
use Rattle.std.proofs.lemmas.Bool.Decides.{Decides-eqb}
use Rattle.nla_frame.specs.declared.error.Family.TheVariants as family
use Rattle.nla_frame.specs.declared.error.DecodeError.{DecodeError}
use Rattle.linkinfo_numbers.specs.declared.ovpn.OvpnMode.{OvpnMode}
use Rattle.linkinfo_numbers.specs.declared.ovpn.OvpnMode.TheVariants as mode
use Rattle.linkinfo_numbers.specs.Table.{Table, IsTable, by_number, value_of}
use Rattle.linkinfo_numbers.specs.Word.{value_of_word, ReadsWords, reads_words}

-- the number of each value
abbrev pub ovpn_mode_number : OvpnMode → ℕ
ovpn_mode_number mode.P2p = 0
ovpn_mode_number mode.Mp = 1
ovpn_mode_number (mode.Other n) = n

abbrev pub ovpn_mode_table : Table ℕ OvpnMode
ovpn_mode_table = by_number ovpn_mode_number mode.Other (mode.P2p ∷ mode.Mp ∷ [])

-- the value of each number
abbrev pub ovpn_mode : ℕ → OvpnMode
ovpn_mode n = value_of ovpn_mode_table n

pub ovpn_mode_table_holds : IsTable ovpn_mode_table
ovpn_mode_table_holds = record {
  same_decides = Decides-eqb;
  other_key = λ n. refl;
  found = elim [ mode.Other n ↦ inl refl | _ ↦ inr refl ];
  apart = (λ p. cc, (λ p. cc, tt));
}

-- the text of each value
abbrev pub ovpn_mode_text : OvpnMode → List ℕ
ovpn_mode_text mode.P2p = codes "p2p"
ovpn_mode_text mode.Mp = codes "mp"
ovpn_mode_text (mode.Other n) = decimal n

-- the value that a word names, or the error
abbrev pub ovpn_mode_of_word : List ℕ → Result OvpnMode DecodeError
ovpn_mode_of_word word = value_of_word family.Ovpn ovpn_mode_text ovpn_mode_table.named word

pub ovpn_mode_words_hold : ReadsWords family.Ovpn ovpn_mode_text ovpn_mode_table.named
ovpn_mode_words_hold =
    reads_words family.Ovpn ovpn_mode_text ovpn_mode_table.named (refl, (refl, tt))
