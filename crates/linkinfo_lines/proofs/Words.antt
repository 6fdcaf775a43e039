-- A valid operand has no space in it. So a line of three words, if two are expected, is as bad as
-- one with a bad word.
use Rattle.std.proofs.Common.{
  ◌≡◌,
  ◌≢◌,
  ℕ,
  ◌<◌,
  ◌==◌,
  Bool,
  true,
  false,
  if◌then◌else◌,
  List,
  [],
  ◌∷◌,
  length,
  take,
  drop,
  get_or,
  ◌⊎◌,
  inl,
  inr,
  ◌+◌,
  Option,
  Some,
  None,
  Result,
  Ok,
  Err,
  refl,
  sym,
  ap,
  ◌∙◌,
  subst,
  arith,
}
use Rattle.std.specs.Prelude.{codes, bytes_eq}
use Rattle.std.specs.List.{position}
use Rattle.std.specs.Result.{result_ok}
use Rattle.std.proofs.lemmas.Bool.{eqb-true, false_from_ne_true}
use Rattle.std.proofs.lemmas.List.Quantifiers.{position-Some}
use Rattle.std.proofs.lemmas.List.Splits.{length-slice_split}
use Rattle.std.proofs.lemmas.Slice.Eq.{bytes_eq-Decides}
use Rattle.hex.specs.Hex.{decode_of, is_hex_digit}
use Rattle.hex.specs.declared.error.FromHexError.{FromHexError}
use Rattle.hex.proofs.HexLemmas.{decode_of-ok}
use Rattle.linkinfo_lines.specs.Answers.{
  about,
  bad_line,
  bytes_of,
  comparison_answer,
  on_one,
  on_two,
}
use Rattle.linkinfo_lines.specs.Lines.{words_of}
use Rattle.linkinfo_lines.proofs.Parts.{slice_split-no_place, slice_split-place}

-- a word with a space in it is no valid operand

none_named : (dash empty : Bool) (digits : Result (List ℕ) FromHexError) → dash ≡ false →
    ((bytes : List ℕ) → digits ≢ Ok bytes)
    → (if dash then Some [] else if empty then None else result_ok digits) ≡ None
none_named true empty digits h k = absurd (cc h)
none_named false true digits h k = refl
none_named false false (Ok bytes) h k = absurd (k bytes refl)
none_named false false (Err e) h k = refl

space_is_no_digit : (b : ℕ) → (b == 32) ≡ true → is_hex_digit b ≡ false
space_is_no_digit b h = subst (λ (n : ℕ). is_hex_digit n ≡ false) (sym (eqb-true b 32 h)) refl

pub bytes_of-spaced : (word : List ℕ) (i : ℕ) → position (λ b. b == 32) word ≡ Some i →
    bytes_of word ≡ None
bytes_of-spaced word i at =
    let place = position-Some (λ b. b == 32) word i 0 at in
    let dash : bytes_eq word (codes "-") ≡ false =
    false_from_ne_true _ (λ h. no_dash word i at ((bytes_eq-Decides word (codes "-")).0 h)) in
    none_named (bytes_eq word (codes "-")) (length word == 0) (decode_of word) dash
    (λ bytes h.
    no_digits (sym ((decode_of-ok word bytes h).1 i 0 place.0)
    ∙ space_is_no_digit (get_or word i 0) place.1))
  where
    no_digits : true ≡ false → ⊥
    no_digits h = cc h

    no_dash : (word : List ℕ) (i : ℕ) → position (λ b. b == 32) word ≡ Some i → word ≡ codes "-" → ⊥
    no_dash word i at h = cc (at, h)

-- one word, or at least two words that together are no valid operand
one_or_more : (word : List ℕ) → (words_of word ≡ word ∷ [])
    ⊎ ((bytes_of word ≡ None)
    × (a b : List ℕ)
    × (more : List (List ℕ))
    × (words_of word ≡ a ∷ b ∷ more))
one_or_more word = by_place (position (λ b. b == 32) word) refl
  where
    two : (rest : List ℕ) → (b : List ℕ) × (more : List (List ℕ)) × (words_of rest ≡ b ∷ more)
    two rest =
        first_of (words_of rest)
        (let n = length-slice_split (λ b. b == 32) rest in omega (arith, n))
      where
        first_of : (words : List (List ℕ)) → 0 < length words →
            (b : List ℕ) × (more : List (List ℕ)) × (words ≡ b ∷ more)
        first_of [] h = absurd (omega arith)
        first_of (b ∷ more) h = (b, more, refl)

    by_place : (place : Option ℕ) → position (λ b. b == 32) word ≡ place →
        (words_of word ≡ word ∷ [])
        ⊎ ((bytes_of word ≡ None)
        × (a b : List ℕ)
        × (more : List (List ℕ))
        × (words_of word ≡ a ∷ b ∷ more))
    by_place None at = inl (slice_split-no_place (λ b. b == 32) word at)
    by_place (Some i) at =
        let (b, more, rest) = two (drop (i + 1) word) in
        inr (
          bytes_of-spaced word i at,
          take i word,
          b,
          more,
          (slice_split-place (λ b. b == 32) word i at).0
              ∙ ap (λ (ws : List (List ℕ)). take i word ∷ ws) rest,
        )

pub on_one-words_of : (text : List ℕ → List ℕ) (word : List ℕ)
    → on_one (λ w. about (bytes_of w) text) (words_of word) ≡ about (bytes_of word) text
on_one-words_of text word =
    elim (one_or_more word) [
      | inl alone ↦ ap (on_one (λ w. about (bytes_of w) text)) alone
      | inr spaced ↦
          let (none, a, b, more, words) = spaced in
          ap (on_one (λ w. about (bytes_of w) text)) words
          ∙ sym (ap (λ (named : Option (List ℕ)). about named text) none)
    ]

pub on_two-words_of : (first second : List ℕ)
    → on_two comparison_answer (first ∷ words_of second) ≡ comparison_answer first second
on_two-words_of first second =
    elim (one_or_more second) [
      | inl alone ↦ ap (λ (ws : List (List ℕ)). on_two comparison_answer (first ∷ ws)) alone
      | inr spaced ↦
          let (none, a, b, more, words) = spaced in
          ap (λ (ws : List (List ℕ)). on_two comparison_answer (first ∷ ws)) words
          ∙ sym (unnamed (bytes_of first) _ (bytes_of second) none)
    ]
  where
    unnamed : (first : Option (List ℕ)) (text : List ℕ → List ℕ → List ℕ)
        (second : Option (List ℕ)) → second ≡ None
        → about first (λ a. about second (text a)) ≡ bad_line
    unnamed None text second h = refl
    unnamed (Some a) text second h = ap (λ (named : Option (List ℕ)). about named (text a)) h
