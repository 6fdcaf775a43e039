-- Written by tables/generate from tables/numbers/amt.
-- AMT tunnels: the values of each type.
use Rattle.std.specs.Prelude.{ℕ, List, [], ◌∷◌, codes, Result, refl}
use Rattle.std.specs.Fmt.{decimal}
use Rattle.std.proofs.Common.{inl, inr}
use Rattle.std.proofs.lemmas.Bool.Decides.{Decides-eqb}
use Rattle.nla_frame.specs.declared.error.Family.TheVariants as family
use Rattle.nla_frame.specs.declared.error.DecodeError.{DecodeError}
use Rattle.linkinfo_numbers.specs.declared.amt.AmtMode.{AmtMode}
use Rattle.linkinfo_numbers.specs.declared.amt.AmtMode.TheVariants as mode
use Rattle.linkinfo_numbers.specs.Table.{Table, IsTable, by_number, value_of}
use Rattle.linkinfo_numbers.specs.Word.{value_of_word, ReadsWords, reads_words}

-- the number of each value
abbrev pub amt_mode_number : AmtMode → ℕ
amt_mode_number mode.Gateway = 0
amt_mode_number mode.Relay = 1
amt_mode_number (mode.Other n) = n

abbrev pub amt_mode_table : Table ℕ AmtMode
amt_mode_table = by_number amt_mode_number mode.Other (mode.Gateway ∷ mode.Relay ∷ [])

-- the value of each number
abbrev pub amt_mode : ℕ → AmtMode
amt_mode n = value_of amt_mode_table n

pub amt_mode_table_holds : IsTable amt_mode_table
amt_mode_table_holds = record {
  same_decides = Decides-eqb;
  other_key = λ n. refl;
  found = elim [ mode.Other n ↦ inl refl | _ ↦ inr refl ];
  apart = (λ p. cc, (λ p. cc, tt));
}

-- the text of each value
abbrev pub amt_mode_text : AmtMode → List ℕ
amt_mode_text mode.Gateway = codes "gateway"
amt_mode_text mode.Relay = codes "relay"
amt_mode_text (mode.Other n) = decimal n

-- the value that a word names, or the error
abbrev pub amt_mode_of_word : List ℕ → Result AmtMode DecodeError
amt_mode_of_word word = value_of_word family.Amt amt_mode_text amt_mode_table.named word

pub amt_mode_words_hold : ReadsWords family.Amt amt_mode_text amt_mode_table.named
amt_mode_words_hold = reads_words family.Amt amt_mode_text amt_mode_table.named (refl, (refl, tt))
