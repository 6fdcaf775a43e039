-- The words of flag sets: what a set is as a text.
use Rattle.std.specs.Prelude.{
  ◌≡◌,
  ◌==◌,
  ◌∷◌,
  length,
  Option,
  Some,
  None,
  Result,
  Ok,
  Err,
  ◌-◌,
  ◌^◌,
  ◌++◌,
  ℕ,
  false,
  if◌then◌else◌,
  List,
  [],
  codes,
  drop,
  map,
  nat_lt,
}
use Rattle.std.specs.Borrow.{Bor}
use Rattle.std.specs.Fmt.{digits}
use Rattle.std.specs.Int.RustNames.{bit_and, bit_or}
use Rattle.std.specs.List.{AllByRecursion, flat_map, slice_split}
use Rattle.std.specs.Str.{bytes_eq}
use Rattle.bitflags.specs.Text.{hex_of, starts_hex}
use Rattle.nla_frame.specs.declared.error.Family.{Family}
use Rattle.nla_frame.specs.declared.error.DecodeError.{DecodeError}
use Rattle.linkinfo_numbers.specs.Word.{word_error}

-- flags with their words: each a bit and a word
abbrev pub FlagWord : Type 0
FlagWord = ℕ × List ℕ

-- the flags of a slice
abbrev pub slice_words : List (ℕ × Bor (List ℕ)) → List FlagWord
slice_words entries = map (λ (bit, word). (bit, word.now)) entries

-- a comma and the word, if the set has the flag
abbrev pub word_if : ℕ → FlagWord → List ℕ
word_if bits flag = if bit_and bits flag.0 == 0 then [] else codes "," ++ flag.1

-- a comma and the bits without words in hex, if there is one
abbrev pub hex_if : ℕ → List ℕ
hex_if others = if others == 0 then [] else codes ",0x" ++ digits 16 false others

-- the words of a set and its other bits, each after a comma
abbrev pub after_commas : List FlagWord → ℕ → ℕ → List ℕ
after_commas flags known bits =
    flat_map (word_if bits) flags ++ hex_if (bit_and bits (2 ^ 32 - 1 - known))

-- a set as a text: the words of its flags and its other bits, with commas between them
abbrev pub set_text : List FlagWord → ℕ → ℕ → List ℕ
set_text flags known bits = drop 1 (after_commas flags known bits)

-- ---- texts as sets

-- the bit of the first flag with a word; otherwise a number in hex after `0x`, if it is one
abbrev pub word_bits : List FlagWord → List ℕ → Option ℕ
word_bits [] word = if starts_hex word then hex_of 32 (drop 2 word) else None
word_bits (flag ∷ flags) word = if bytes_eq flag.1 word then Some flag.0 else word_bits flags word

-- the bits of all words, after those so far, or none if one has none
abbrev pub bits_after : List FlagWord → ℕ → List (List ℕ) → Option ℕ
bits_after flags bits [] = Some bits
bits_after flags bits (word ∷ rest) = elim (word_bits flags word) [
  | Some more ↦ bits_after flags (bit_or bits more) rest
  | None ↦ None
]

-- the bits of a text of words with commas between them; the empty text has no word
abbrev pub text_bits : List FlagWord → List ℕ → Option ℕ
text_bits flags text =
    if length text == 0 then Some 0 else bits_after flags 0 (slice_split (λ b. b == 44) text)

-- the set with these bits, if they are below the bound of its width
abbrev pub set_if : {T : Type 0} → Family → ℕ → (ℕ → T) → Option ℕ → Result T DecodeError
set_if family size set (Some bits) = if nat_lt bits (2 ^ size) then Ok (set bits)
    else Err (word_error family)
set_if family size set None = Err (word_error family)

-- the word of each flag reads as its bit, and the text of the set of all flags as that set
abbrev pub ReadsFlags : List FlagWord → ℕ → Type 0
ReadsFlags flags known =
    AllByRecursion (λ flag. text_bits flags flag.1 ≡ Some flag.0) flags
    × (text_bits flags (set_text flags known known) ≡ Some known)
