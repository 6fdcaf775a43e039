use Rattle.std.proofs.Common.{◌≡◌, ◌==◌, length}
use Rattle.std.specs.List.{slice_split}
use denote.Text.{Utf8}
use denote.Shadow.{shadow}
use Rattle.linkinfo_numbers.specs.FlagWords.{bits_after, slice_words}
use Rattle.linkinfo_numbers.proofs.flag_words.bits_of_text.Given as goal

-- the words that are left, after the bits so far, read as the whole text
abbrev pub invariant-loop-word : goal.invariant-loop-word
invariant-loop-word l =
    shadow (Utf8 l.rest)
    × (bits_after (slice_words l.words) l.bits (slice_split (λ b. b == 44) l.rest)
    ≡ bits_after (slice_words l.words) 0 (slice_split (λ b. b == 44) l.text))

abbrev pub decreases-loop-word : goal.decreases-loop-word
decreases-loop-word l = length l.rest
