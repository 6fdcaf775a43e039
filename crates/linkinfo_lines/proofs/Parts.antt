-- The first segment of a list that is split at a byte, the first line of a text, and the output for
-- an input that comes in chunks.
use Rattle.std.proofs.Common.{
  ◌≡◌,
  ℕ,
  ◌+◌,
  ◌<◌,
  ◌≤◌,
  Bool,
  true,
  false,
  cond,
  not,
  eqb,
  ltb,
  List,
  [],
  ◌∷◌,
  ◌++◌,
  length,
  take,
  drop,
  Some,
  None,
  refl,
  sym,
  ap,
  ◌∙◌,
  subst,
  arith,
  append-nil,
  append_assoc,
  length-append,
  take-append-drop,
}
use Rattle.std.specs.List.{slice_split, onto_first, position, position_or_len}
use Rattle.std.proofs.lemmas.Bool.Decides.{nat_tests}
use Rattle.std.proofs.lemmas.List.Splits.{slice_split_first, length-slice_split}
use Rattle.std.proofs.lemmas.List.{take_more}
use Rattle.std.proofs.lemmas.List.Concat.{flat_map-append}
use Rattle.std.specs.Prelude.{flat_map, slice_index}
use Rattle.linkinfo_lines.specs.Answers.{Answered, answer_of, line_answer}
use Rattle.linkinfo_lines.specs.Lines.{lines_of, without_empty_last}

-- a list of which no element passes is one segment
whole_by_place : (p : ℕ → Bool) (xs : List ℕ) → length xs ≤ position_or_len p xs →
    slice_split p xs ≡ xs ∷ []
whole_by_place p [] h = refl
whole_by_place p (x ∷ xs) h =
    elim (p x) as (λ b. length (x ∷ xs) ≤ cond (not b) (1 + position_or_len p xs) 0 →
    cond b ([] ∷ slice_split p xs) (onto_first x (slice_split p xs)) ≡ (x ∷ xs) ∷ []) [
      | true ↦ λ short. absurd (omega arith)
      | false ↦ λ short. ap (onto_first x) (whole_by_place p xs (omega arith))
    ] h

place_of_none : (a b : ℕ) → cond (ltb a b) (Some a) None ≡ None → b ≤ a
place_of_none a b h = grind (arith, nat_tests)

place_of_some : (a b i : ℕ) → cond (ltb a b) (Some a) None ≡ Some i → (a ≡ i) × (a < b)
place_of_some a b i h = (grind (arith, nat_tests), grind (arith, nat_tests))

pub slice_split-no_place : (p : ℕ → Bool) (xs : List ℕ) → position p xs ≡ None →
    slice_split p xs ≡ xs ∷ []
slice_split-no_place p xs h =
    whole_by_place p xs (place_of_none (position_or_len p xs) (length xs) h)

pub slice_split-place : (p : ℕ → Bool) (xs : List ℕ) (i : ℕ) → position p xs ≡ Some i
    → (slice_split p xs ≡ take i xs ∷ slice_split p (drop (i + 1) xs)) × (i < length xs)
slice_split-place p xs i h =
    let place = place_of_some (position_or_len p xs) (length xs) i h in
    let first = slice_split_first p xs 0 place.1 in (
      subst (λ (n : ℕ). slice_split p xs ≡ take n xs ∷ slice_split p (drop (n + 1) xs)) place.0
          first,
      subst (λ (n : ℕ). n < length xs) place.0 place.1,
    )

-- a segment before others stays the first
kept_in_front : (part : List ℕ) (parts : List (List ℕ)) → 0 < length parts →
    without_empty_last (part ∷ parts) ≡ part ∷ without_empty_last parts
kept_in_front part [] h = absurd (omega arith)
kept_in_front part (next ∷ more) h = refl

pub lines_of-more : (text line more : List ℕ) →
    slice_split (λ b. eqb b 10) text ≡ line ∷ slice_split (λ b. eqb b 10) more →
    lines_of text ≡ line ∷ lines_of more
lines_of-more text line more h =
    let parts = slice_split (λ b. eqb b 10) more in
    ap without_empty_last h
    ∙ kept_in_front line parts (let n = length-slice_split (λ b. eqb b 10) more in omega (arith, n))

pub lines_of-last : (text line : List ℕ) → 0 < length text →
    slice_split (λ b. eqb b 10) text ≡ line ∷ [] → line ≡ text → lines_of text ≡ line ∷ lines_of []
lines_of-last text line h e same =
    ap without_empty_last e ∙ last_kept line (subst (λ (t : List ℕ). 0 < length t) (sym same) h)
  where
    last_kept : (part : List ℕ) → 0 < length part → without_empty_last (part ∷ []) ≡ part ∷ []
    last_kept part h = grind (arith, nat_tests)

-- ---- a text that ends with a line feed

onto_first-in_front : (x : ℕ) (parts more : List (List ℕ)) → 0 < length parts →
    onto_first x (parts ++ more) ≡ onto_first x parts ++ more
onto_first-in_front x [] more h = absurd (omega arith)
onto_first-in_front x (part ∷ parts) more h = refl

split_after_line_feed : (text more : List ℕ) →
    slice_split (λ b. eqb b 10) (text ++ 10 ∷ more)
    ≡ slice_split (λ b. eqb b 10) text ++ slice_split (λ b. eqb b 10) more
split_after_line_feed [] more = refl
split_after_line_feed (x ∷ text) more =
    let p = λ (b : ℕ). eqb b 10 in
    let later = split_after_line_feed text more in
    elim (p x) as (λ b.
    cond b ([] ∷ slice_split p (text ++ 10 ∷ more))
    (onto_first x (slice_split p (text ++ 10 ∷ more)))
    ≡ cond b ([] ∷ slice_split p text) (onto_first x (slice_split p text)) ++ slice_split p more) [
      | true ↦ ap (λ (parts : List (List ℕ)). [] ∷ parts) later
      | false ↦
          ap (onto_first x) later
          ∙ onto_first-in_front x (slice_split p text) (slice_split p more)
          (let n = length-slice_split p text in omega (arith, n))
    ]

all_kept_in_front : (parts more : List (List ℕ)) → 0 < length more →
    without_empty_last (parts ++ more) ≡ parts ++ without_empty_last more
all_kept_in_front [] more h = refl
all_kept_in_front (part ∷ parts) more h =
    kept_in_front part (parts ++ more) (simp length-append (omega arith))
    ∙ ap (λ (l : List (List ℕ)). part ∷ l) (all_kept_in_front parts more h)

lines_of-after : (text more : List ℕ) →
    lines_of (text ++ 10 ∷ more) ≡ slice_split (λ b. eqb b 10) text ++ lines_of more
lines_of-after text more =
    let p = λ (b : ℕ). eqb b 10 in
    ap without_empty_last (split_after_line_feed text more)
    ∙ all_kept_in_front (slice_split p text) (slice_split p more)
    (let n = length-slice_split p more in omega (arith, n))

-- the output for a text whose last line has ended comes before that for what follows
pub answer_of-ended : (text more : List ℕ) →
    answer_of ((text ++ 10 ∷ []) ++ more) ≡ answer_of (text ++ 10 ∷ []) ++ answer_of more
answer_of-ended text more =
    let p = λ (b : ℕ). eqb b 10 in
    let ended : lines_of (text ++ 10 ∷ []) ≡ slice_split p text =
    lines_of-after text [] ∙ append-nil (slice_split p text) in
    ap answer_of (append_assoc text (10 ∷ []) more)
    ∙ ap (flat_map line_answer)
    (lines_of-after text more ∙ ap (λ (l : List (List ℕ)). l ++ lines_of more) (sym ended))
    ∙ flat_map-append line_answer (lines_of (text ++ 10 ∷ [])) (lines_of more)

-- what was read is processed but for a line that has not ended

pub answered_whole : (input text line : List ℕ) → Answered input text line →
    text ++ answer_of line ≡ answer_of input
answered_whole input text line h =
    ap (λ (l : List ℕ). text ++ answer_of l) (sym (append-nil line))
    ∙ sym (h [])
    ∙ ap answer_of (append-nil input)

pub answered_on : (input text line part : List ℕ) → Answered input text line →
    Answered (input ++ part) text (line ++ part)
answered_on input text line part h = λ more.
    ap answer_of (append_assoc input part more)
    ∙ h (part ++ more)
    ∙ ap (λ (l : List ℕ). text ++ answer_of l) (sym (append_assoc line part more))

pub answered_ended : (input text line part text_after line_after : List ℕ) (end : ℕ) →
    end < length part → eqb (slice_index part end) 10 ≡ true →
    text_after ≡ text ++ answer_of (line ++ take (end + 1) part) →
    line_after ≡ drop (end + 1) part →
    Answered input text line → Answered (input ++ part) text_after line_after
answered_ended input text line part text_after line_after end inside feed texts lines h = λ more.
    let front = take (end + 1) part in
    let rest = drop (end + 1) part ++ more in
    let whole : line ++ front ≡ (line ++ take end part) ++ 10 ∷ [] =
    ap (λ (l : List ℕ). line ++ l)
    (take_more part end 0 inside
    ∙ ap (λ (b : ℕ). take end part ++ b ∷ []) (is_ten (slice_index part end) feed))
    ∙ sym (append_assoc line (take end part) (10 ∷ [])) in
    let apart : line ++ (part ++ more) ≡ (line ++ front) ++ rest =
    ap (λ (l : List ℕ). line ++ (l ++ more)) (sym (take-append-drop (end + 1) part))
    ∙ ap (λ (l : List ℕ). line ++ l) (append_assoc front (drop (end + 1) part) more)
    ∙ sym (append_assoc line front rest) in
    ap answer_of (append_assoc input part more)
    ∙ h (part ++ more)
    ∙ ap (λ (l : List ℕ). text ++ answer_of l) apart
    ∙ ap (λ (l : List ℕ). text ++ l)
    (ap (λ (l : List ℕ). answer_of (l ++ rest)) whole
    ∙ answer_of-ended (line ++ take end part) rest
    ∙ ap (λ (l : List ℕ). answer_of l ++ answer_of rest) (sym whole))
    ∙ sym (append_assoc text (answer_of (line ++ front)) (answer_of rest))
    ∙ (λ i. sym texts i ++ answer_of (sym lines i ++ more))
  where
    is_ten : (b : ℕ) → eqb b 10 ≡ true → b ≡ 10
    is_ten b e = grind (arith, nat_tests)
