-- Written by tables/generate from tables/numbers/tun.
-- Tun and tap devices: the values of each type.
use Rattle.std.specs.Prelude.{ℕ, List, [], ◌∷◌, codes, Result, refl}
use Rattle.std.specs.Fmt.{decimal}
use Rattle.std.proofs.Common.{inl, inr}
use Rattle.std.proofs.lemmas.Bool.Decides.{Decides-eqb}
use Rattle.nla_frame.specs.declared.error.Family.TheVariants as family
use Rattle.nla_frame.specs.declared.error.DecodeError.{DecodeError}
use Rattle.linkinfo_numbers.specs.declared.tun.TunType.{TunType}
use Rattle.linkinfo_numbers.specs.declared.tun.TunType.TheVariants as device
use Rattle.linkinfo_numbers.specs.Table.{Table, IsTable, by_number, value_of}
use Rattle.linkinfo_numbers.specs.Word.{value_of_word, ReadsWords, reads_words}

-- the number of each value
abbrev pub tun_type_number : TunType → ℕ
tun_type_number device.Tun = 1
tun_type_number device.Tap = 2
tun_type_number (device.Other n) = n

abbrev pub tun_type_table : Table ℕ TunType
tun_type_table = by_number tun_type_number device.Other (device.Tun ∷ device.Tap ∷ [])

-- the value of each number
abbrev pub tun_type : ℕ → TunType
tun_type n = value_of tun_type_table n

pub tun_type_table_holds : IsTable tun_type_table
tun_type_table_holds = record {
  same_decides = Decides-eqb;
  other_key = λ n. refl;
  found = elim [ device.Other n ↦ inl refl | _ ↦ inr refl ];
  apart = (λ p. cc, (λ p. cc, tt));
}

-- the text of each value
abbrev pub tun_type_text : TunType → List ℕ
tun_type_text device.Tun = codes "tun"
tun_type_text device.Tap = codes "tap"
tun_type_text (device.Other n) = decimal n

-- the value that a word names, or the error
abbrev pub tun_type_of_word : List ℕ → Result TunType DecodeError
tun_type_of_word word = value_of_word family.Tun tun_type_text tun_type_table.named word

pub tun_type_words_hold : ReadsWords family.Tun tun_type_text tun_type_table.named
tun_type_words_hold = reads_words family.Tun tun_type_text tun_type_table.named (refl, (refl, tt))
