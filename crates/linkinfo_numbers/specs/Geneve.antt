-- Written by tables/generate from tables/numbers/geneve.
-- Geneve tunnels: the values of each type.
use Rattle.std.specs.Prelude.{ℕ, List, [], ◌∷◌, codes, Result, refl}
use Rattle.std.specs.Fmt.{decimal}
use Rattle.std.proofs.Common.{inl, inr}
use Rattle.std.proofs.lemmas.Bool.Decides.{Decides-eqb}
use Rattle.nla_frame.specs.declared.error.Family.TheVariants as family
use Rattle.nla_frame.specs.declared.error.DecodeError.{DecodeError}
use Rattle.linkinfo_numbers.specs.declared.geneve.GeneveDf.{GeneveDf}
use Rattle.linkinfo_numbers.specs.declared.geneve.GeneveDf.TheVariants as df
use Rattle.linkinfo_numbers.specs.Table.{Table, IsTable, by_number, value_of}
use Rattle.linkinfo_numbers.specs.Word.{value_of_word, ReadsWords, reads_words}

-- the number of each value
abbrev pub geneve_df_number : GeneveDf → ℕ
geneve_df_number df.Unset = 0
geneve_df_number df.Set = 1
geneve_df_number df.Inherit = 2
geneve_df_number (df.Other n) = n

abbrev pub geneve_df_table : Table ℕ GeneveDf
geneve_df_table = by_number geneve_df_number df.Other (df.Unset ∷ df.Set ∷ df.Inherit ∷ [])

-- the value of each number
abbrev pub geneve_df : ℕ → GeneveDf
geneve_df n = value_of geneve_df_table n

pub geneve_df_table_holds : IsTable geneve_df_table
geneve_df_table_holds = record {
  same_decides = Decides-eqb;
  other_key = λ n. refl;
  found = elim [ df.Other n ↦ inl refl | _ ↦ inr refl ];
  apart = (λ p. cc, (λ p. cc, (λ p. cc, tt)));
}

-- the text of each value
abbrev pub geneve_df_text : GeneveDf → List ℕ
geneve_df_text df.Unset = codes "unset"
geneve_df_text df.Set = codes "set"
geneve_df_text df.Inherit = codes "inherit"
geneve_df_text (df.Other n) = decimal n

-- the value that a word names, or the error
abbrev pub geneve_df_of_word : List ℕ → Result GeneveDf DecodeError
geneve_df_of_word word = value_of_word family.Geneve geneve_df_text geneve_df_table.named word

pub geneve_df_words_hold : ReadsWords family.Geneve geneve_df_text geneve_df_table.named
geneve_df_words_hold =
    reads_words family.Geneve geneve_df_text geneve_df_table.named (refl, (refl, (refl, tt)))
