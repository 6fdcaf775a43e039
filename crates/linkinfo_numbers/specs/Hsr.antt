-- Written by tables/generate from tables/numbers/hsr.
-- HSR and PRP links: the values of each type.
use Rattle.std.specs.Prelude.{ℕ, List, [], ◌∷◌, codes, Result, refl}
use Rattle.std.specs.Fmt.{decimal}
use Rattle.std.proofs.Common.{inl, inr}
use Rattle.std.proofs.lemmas.Bool.Decides.{Decides-eqb}
use Rattle.nla_frame.specs.declared.error.Family.TheVariants as family
use Rattle.nla_frame.specs.declared.error.DecodeError.{DecodeError}
use Rattle.linkinfo_numbers.specs.declared.hsr.HsrProtocol.{HsrProtocol}
use Rattle.linkinfo_numbers.specs.declared.hsr.HsrProtocol.TheVariants as protocol
use Rattle.linkinfo_numbers.specs.Table.{Table, IsTable, by_number, value_of}
use Rattle.linkinfo_numbers.specs.Word.{value_of_word, ReadsWords, reads_words}

-- the number of each value
abbrev pub hsr_protocol_number : HsrProtocol → ℕ
hsr_protocol_number protocol.Hsr = 0
hsr_protocol_number protocol.Prp = 1
hsr_protocol_number (protocol.Other n) = n

abbrev pub hsr_protocol_table : Table ℕ HsrProtocol
hsr_protocol_table = by_number hsr_protocol_number protocol.Other (protocol.Hsr ∷ protocol.Prp ∷ [])

-- the value of each number
abbrev pub hsr_protocol : ℕ → HsrProtocol
hsr_protocol n = value_of hsr_protocol_table n

pub hsr_protocol_table_holds : IsTable hsr_protocol_table
hsr_protocol_table_holds = record {
  same_decides = Decides-eqb;
  other_key = λ n. refl;
  found = elim [ protocol.Other n ↦ inl refl | _ ↦ inr refl ];
  apart = (λ p. cc, (λ p. cc, tt));
}

-- the text of each value
abbrev pub hsr_protocol_text : HsrProtocol → List ℕ
hsr_protocol_text protocol.Hsr = codes "hsr"
hsr_protocol_text protocol.Prp = codes "prp"
hsr_protocol_text (protocol.Other n) = decimal n

-- the value that a word names, or the error
abbrev pub hsr_protocol_of_word : List ℕ → Result HsrProtocol DecodeError
hsr_protocol_of_word word = value_of_word family.Hsr hsr_protocol_text hsr_protocol_table.named word

pub hsr_protocol_words_hold : ReadsWords family.Hsr hsr_protocol_text hsr_protocol_table.named
hsr_protocol_words_hold =
    reads_words family.Hsr hsr_protocol_text hsr_protocol_table.named (refl, (refl, tt))
