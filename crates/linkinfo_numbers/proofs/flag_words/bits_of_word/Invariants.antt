use Rattle.std.proofs.Common.{◌≡◌, drop}
use Rattle.linkinfo_numbers.specs.FlagWords.{slice_words, word_bits}
use Rattle.linkinfo_numbers.proofs.flag_words.bits_of_word.Given as goal

-- the word is among those that are left
abbrev pub invariant-loop-bit : goal.invariant-loop-bit
invariant-loop-bit l =
    word_bits (slice_words (drop l.bit-index l.words)) l.word
    ≡ word_bits (slice_words l.words) l.word
