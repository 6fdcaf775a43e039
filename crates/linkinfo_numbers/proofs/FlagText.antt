-- How the text of a flag set grows by a word.
use Rattle.std.proofs.Common.{
  ◌≡◌,
  ◌≢◌,
  ◌<◌,
  ◌==◌,
  ◌+◌,
  ◌++◌,
  ◌∙◌,
  ℕ,
  List,
  [],
  ◌∷◌,
  Bor,
  if◌then◌else◌,
  length,
  get_or,
  take,
  refl,
  ap,
  sym,
  arith,
}
use Rattle.std.specs.Prelude.{codes, drop}
use Rattle.std.specs.Int.RustNames.{bit_and}
use Rattle.std.specs.List.{flat_map}
use Rattle.std.proofs.lemmas.List.{append_assoc, take_more, map-append, append-nil}
use Rattle.std.proofs.lemmas.Grind.{flat_map-append}
use Rattle.linkinfo_numbers.specs.FlagWords.{slice_words, word_if}

-- a flag with a word, in a slice
abbrev pub Entry : Type 0
Entry = ℕ × Bor (List ℕ)

-- the words of a set after their commas, of the flags of a slice
abbrev pub words_in : ℕ → List Entry → List ℕ
words_in bits entries = flat_map (word_if bits) (slice_words entries)

-- the comma after a text that is not empty
abbrev pub comma_after : List ℕ → List ℕ
comma_after [] = []
comma_after (x ∷ xs) = codes ","

-- what follows a text without its first comma
one_more : (text more : List ℕ) →
    drop 1 (text ++ (codes "," ++ more)) ≡ (drop 1 text ++ comma_after text) ++ more
one_more [] more = refl
one_more (x ∷ xs) more = sym (append_assoc xs (codes ",") more)

comma_next : (text more : List ℕ) → comma_after (text ++ (codes "," ++ more)) ≡ codes ","
comma_next [] more = refl
comma_next (x ∷ xs) more = refl

-- the words of one more flag
words_next : (bits : ℕ) (entries : List Entry) (i : ℕ) (d : Entry) → i < length entries →
    words_in bits (take (i + 1) entries)
    ≡ words_in bits (take i entries)
    ++ word_if bits ((get_or entries i d).0, (get_or entries i d).1.now)
words_next bits entries i d h =
    let before : List Entry = take i entries in
    ap (words_in bits) (take_more entries i d h)
    ∙ (ap (flat_map (word_if bits))
    (map-append (λ (bit, word). (bit, word.now)) before (get_or entries i d ∷ []))
    ∙ (flat_map-append (word_if bits) (slice_words before) _
    ∙ ap (λ z. words_in bits before ++ z) (append-nil _)))

-- the words, the comma and the text after one more flag, if the set has it
if_set : (n : ℕ) (xs : List ℕ) → n ≢ 0 → (if n == 0 then [] else xs) ≡ xs
if_set n xs h = grind arith

words_set : (bits : ℕ) (entries : List Entry) (i : ℕ) (d : Entry) → i < length entries →
    bit_and bits (get_or entries i d).0 ≢ 0 →
    words_in bits (take (i + 1) entries)
    ≡ words_in bits (take i entries) ++ (codes "," ++ (get_or entries i d).1.now)
words_set bits entries i d h set =
    words_next bits entries i d h
    ∙ ap (λ z. words_in bits (take i entries) ++ z) (if_set _ _ set)

pub comma_set : (bits : ℕ) (entries : List Entry) (i : ℕ) (d : Entry) → i < length entries →
    bit_and bits (get_or entries i d).0 ≢ 0 →
    codes "," ≡ comma_after (words_in bits (take (i + 1) entries))
comma_set bits entries i d h set =
    let before : List ℕ = words_in bits (take i entries) in
    sym (ap comma_after (words_set bits entries i d h set) ∙ comma_next before _)

pub text_set : (bits : ℕ) (entries : List Entry) (i : ℕ) (d : Entry) → i < length entries →
    bit_and bits (get_or entries i d).0 ≢ 0 →
    drop 1 (words_in bits (take (i + 1) entries))
    ≡ (drop 1 (words_in bits (take i entries)) ++ comma_after (words_in bits (take i entries)))
    ++ (get_or entries i d).1.now
text_set bits entries i d h set =
    ap (drop 1) (words_set bits entries i d h set) ∙ one_more (words_in bits (take i entries)) _

-- the words after one more flag, if the set does not have it
if_clear : (n : ℕ) (xs : List ℕ) → n ≡ 0 → (if n == 0 then [] else xs) ≡ []
if_clear n xs h = grind arith

pub words_clear : (bits : ℕ) (entries : List Entry) (i : ℕ) (d : Entry) → i < length entries →
    bit_and bits (get_or entries i d).0 ≡ 0 →
    words_in bits (take i entries) ≡ words_in bits (take (i + 1) entries)
words_clear bits entries i d h clear =
    let before : List ℕ = words_in bits (take i entries) in
    sym (words_next bits entries i d h
    ∙ (ap (λ z. before ++ z) (if_clear _ _ clear) ∙ append-nil _))
