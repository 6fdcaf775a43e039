use Rattle.std.proofs.Common.{◌≡◌, drop, take}
use Rattle.std.specs.Fmt.{HasWritten, IsPlainFormatter}
use denote.Text.{Utf8}
use denote.Shadow.{shadow}
use Rattle.linkinfo_numbers.proofs.FlagText.{comma_after, words_in}
use Rattle.linkinfo_numbers.proofs.flag_words.FlagWordsDisplay.fmt.Given as goal

-- the words so far are written, and the comma is the one after them
abbrev pub invariant-loop-bit : goal.invariant-loop-bit
invariant-loop-bit g l =
    shadow (Utf8 l.comma)
    × (l.comma ≡ comma_after (words_in l.self.bits (take l.bit-index l.self.words.now)))
    × (IsPlainFormatter l.fn.f → HasWritten g.W.Write.write_str_gives l.fn.f
    (drop 1 (words_in l.self.bits (take l.bit-index l.self.words.now))) l.f)
