-- How a text is read as the bits of a flag set.
use Rattle.std.proofs.Common.{
  ◌≡◌,
  ◌∙◌,
  ◌<◌,
  ◌==◌,
  ℕ,
  List,
  [],
  ◌∷◌,
  Option,
  Some,
  None,
  true,
  false,
  length,
  bit_or,
  rules,
  subst,
  sym,
  refl,
  ap,
}
use Rattle.std.specs.Prelude.{drop}
use Rattle.std.specs.List.{after_first, before_first, position_or_len, slice_split}
use Rattle.std.proofs.lemmas.List.Splits.{slice_split_first, slice_split_none}
use Rattle.std.proofs.lemmas.List.Sums.{fails_before_first}
use Rattle.std.proofs.lemmas.Iterator.Adapters.{option_map_id}
use Rattle.bitflags.proofs.HexFacts.{reads_hex}
use Rattle.bitflags.specs.Text.{IsHexOf, starts_hex}
use Rattle.linkinfo_numbers.specs.FlagWords.{FlagWord, bits_after, text_bits, word_bits}

-- a number in hex is that of the text after `0x`
pub hex_read : (word digits : List ℕ) (r : Option ℕ) → word ≡ 48 ∷ 120 ∷ digits →
    IsHexOf 32 digits r → r ≡ word_bits [] word
hex_read word digits r e h =
    let starts : starts_hex word ≡ true = rw e (search rules) in
    let rest : drop 2 word ≡ digits = rw e refl in
    rw (starts, rest) (sym (option_map_id r) ∙ reads_hex 32 digits r h)

-- the words of a text
abbrev pub words_of : List ℕ → List (List ℕ)
words_of text = slice_split (λ b. b == 44) text

-- what `split_once` gives of a text with a comma
abbrev pub IsCut : List ℕ → List ℕ → List ℕ → Type 0
IsCut text word more =
    (position_or_len (λ b. b == 44) text < length text)
    × (word ≡ before_first (λ b. b == 44) text)
    × (more ≡ after_first (λ b. b == 44) text)

-- a text at a comma: the word before it, and the words after it
at_comma : (text word more : List ℕ) → IsCut text word more →
    words_of text ≡ word ∷ words_of more
at_comma text word more h =
    slice_split_first (λ b. b == 44) text 0 h.0
    ∙ (ap (λ w. w ∷ words_of (after_first (λ b. b == 44) text)) (sym h.1)
    ∙ ap (λ m. word ∷ words_of m) (sym h.2))

-- a text without a comma is one word
no_comma : (text : List ℕ) → position_or_len (λ b. b == 44) text ≡ length text →
    words_of text ≡ text ∷ []
no_comma text h =
    slice_split_none (λ b. b == 44) text
    (λ i d l. fails_before_first (λ b. b == 44) text i d (subst (λ n. i < n) (sym h) l))

-- a text that is not empty
pub some_words : (flags : List FlagWord) (text : List ℕ) → (length text == 0) ≡ false →
    bits_after flags 0 (words_of text) ≡ text_bits flags text
some_words flags text h = rw h refl

stops : (flags : List FlagWord) (bits : ℕ) (word : List ℕ) (rest : List (List ℕ)) →
    None ≡ word_bits flags word → None ≡ bits_after flags bits (word ∷ rest)
stops flags bits word rest h = rw (sym h, bits_after) refl

goes_on : (flags : List FlagWord) (bits more : ℕ) (word : List ℕ) (rest : List (List ℕ)) →
    Some more ≡ word_bits flags word →
    bits_after flags (bit_or bits more) rest ≡ bits_after flags bits (word ∷ rest)
goes_on flags bits more word rest h = rw (sym h, bits_after) refl

-- the word before a comma is none
pub stops_at_comma : (flags : List FlagWord) (bits : ℕ) (text word more : List ℕ) →
    IsCut text word more → None ≡ word_bits flags word →
    None ≡ bits_after flags bits (words_of text)
stops_at_comma flags bits text word more cut h =
    stops flags bits word (words_of more) h
    ∙ ap (bits_after flags bits) (sym (at_comma text word more cut))

-- the word before a comma has bits
pub goes_on_at_comma : (flags : List FlagWord) (bits found : ℕ) (text word more : List ℕ) →
    IsCut text word more → Some found ≡ word_bits flags word →
    bits_after flags (bit_or bits found) (words_of more) ≡ bits_after flags bits (words_of text)
goes_on_at_comma flags bits found text word more cut h =
    goes_on flags bits found word (words_of more) h
    ∙ ap (bits_after flags bits) (sym (at_comma text word more cut))

-- the last word is none
pub stops_at_end : (flags : List FlagWord) (bits : ℕ) (text : List ℕ) →
    position_or_len (λ b. b == 44) text ≡ length text → None ≡ word_bits flags text →
    None ≡ bits_after flags bits (words_of text)
stops_at_end flags bits text last h =
    stops flags bits text [] h ∙ ap (bits_after flags bits) (sym (no_comma text last))

-- the last word has bits
pub goes_on_at_end : (flags : List FlagWord) (bits found : ℕ) (text : List ℕ) →
    position_or_len (λ b. b == 44) text ≡ length text → Some found ≡ word_bits flags text →
    Some (bit_or bits found) ≡ bits_after flags bits (words_of text)
goes_on_at_end flags bits found text last h =
    goes_on flags bits found text [] h ∙ ap (bits_after flags bits) (sym (no_comma text last))
