use Rattle.std.proofs.Common.{◌∷◌, ◌∙◌, ap, sym, rules}
use Rattle.std.proofs.lemmas.List.{drop_all}
use Rattle.linkinfo_numbers.specs.FlagWords.{slice_words, word_bits}
use Rattle.linkinfo_numbers.proofs.FlagReading.{hex_read}
use Rattle.linkinfo_numbers.proofs.flag_words.bits_of_word.Goals as goal

pub returns : goal.returns
returns c =
    let e = c.in_ok-strip_prefix.ensures.cases in
    let word = e.1.1 ∙ ap (λ z. 48 ∷ 120 ∷ z) (sym e.2) in
    hex_read _ _ _ word (search rules)
    ∙ (ap (λ entries. word_bits (slice_words entries) c.args.word.now)
    (sym (drop_all c.loop-bit.bit-index c.args.words.now c.loop-bit-test.false))
    ∙ c.loop-bit.invariant)
