-- Lines that are cut off at the front of an input.
use Rattle.std.proofs.Common.{
  ◌≡◌,
  ℕ,
  suc,
  ◌+◌,
  ◌<◌,
  Bool,
  true,
  false,
  cond,
  eqb,
  List,
  [],
  ◌∷◌,
  ◌++◌,
  length,
  get_or,
  take,
  drop,
  Some,
  None,
  refl,
  sym,
  ap,
  ◌∙◌,
  subst,
  arith,
  append-nil,
  append_assoc,
  length-append,
  take-append-drop,
}
use Rattle.std.specs.List.{slice_split, onto_first}
use Rattle.std.proofs.lemmas.Bool.{false_from_ne_true}
use Rattle.std.proofs.lemmas.Bool.Decides.{nat_tests}
use Rattle.std.proofs.lemmas.List.{drop_more, get_or_default, get_or-take, length-take}
use Rattle.std.proofs.lemmas.List.Splits.{slice_split-cons_no, slice_split_at, length-slice_split}
use Rattle.memchr.specs.Find.{IsFirstByte, is_byte}
use Rattle.linkinfo_lines.specs.Lines.{lines_of, without_empty_last}
use Rattle.linkinfo_lines.proofs.Parts.{lines_of-more}
use Rattle.linkinfo_print.specs.declared.options.Input.{Input}
use Rattle.linkinfo_print.specs.declared.options.Input.TheVariants as input
use Rattle.linkinfo_print.specs.declared.units.Cutter.{Cutter}
use Rattle.linkinfo_print.specs.Units.{
  HasNoFeed,
  IsOfLines,
  TooLong,
  line_piece,
  line_units,
  lines_from,
  most_bytes,
  portion,
  saturated,
  units_left,
  units_on,
}

abbrev is_feed : ℕ → Bool
is_feed b = eqb b 10

pub no_feed : (s : List ℕ) → IsFirstByte (is_byte 10) s None → HasNoFeed s
no_feed s h k d lt =
    subst (λ b. is_feed b ≡ false) (get_or_default s k 0 d lt)
    (false_from_ne_true _ (h k (omega arith) lt))

no_feed_before : (s : List ℕ) (i : ℕ) → IsFirstByte (is_byte 10) s (Some i) → HasNoFeed (take i s)
no_feed_before s i h k d lt =
    let size = length-take i s in
    let below : k < i = omega (arith, lt, size) in
    let inside : k < length s = omega (arith, lt, size) in
    subst (λ b. is_feed b ≡ false)
    (get_or_default s k 0 d inside ∙ sym (get_or-take i s k d below))
    (false_from_ne_true _ (h.0.before k (omega arith) below))

-- ---- a line that has ended

is_ten : (b : ℕ) → eqb b 10 ≡ true → b ≡ 10
is_ten b e = grind (arith, nat_tests)

-- the first line ends at the first line feed
pub lines_first : (s more : List ℕ) (i : ℕ) → IsFirstByte (is_byte 10) s (Some i) →
    lines_of (s ++ more) ≡ take i s ∷ lines_of (drop (i + 1) s ++ more)
lines_first s more i h =
    let apart : s ++ more ≡ take i s ++ 10 ∷ (drop (i + 1) s ++ more) =
    ap (λ l. l ++ more)
    (sym (take-append-drop i s)
    ∙ ap (λ l. take i s ++ l)
    (drop_more s i 0 h.0.high ∙ ap (λ b. b ∷ drop (i + 1) s) (is_ten (get_or s i 0) h.1)))
    ∙ append_assoc (take i s) (10 ∷ drop (i + 1) s) more in
    lines_of-more (s ++ more) (take i s) (drop (i + 1) s ++ more)
    (ap (slice_split is_feed) apart
    ∙ slice_split_at is_feed (take i s) 10 (drop (i + 1) s ++ more) (no_feed_before s i h) refl)

-- ---- a line that has not ended

-- bytes before the first line
abbrev joined : List ℕ → List (List ℕ) → List (List ℕ)
joined s [] = s ∷ []
joined s (line ∷ lines) = (s ++ line) ∷ lines

joined_onto : (x : ℕ) (s : List ℕ) (lines : List (List ℕ)) →
    onto_first x (joined s lines) ≡ joined (x ∷ s) lines
joined_onto x s [] = refl
joined_onto x s (line ∷ lines) = refl

joined_nil : (lines : List (List ℕ)) → 0 < length lines → joined [] lines ≡ lines
joined_nil [] h = absurd (omega arith)
joined_nil (line ∷ lines) h = refl

split_joined : (s more : List ℕ) → HasNoFeed s →
    slice_split is_feed (s ++ more) ≡ joined s (slice_split is_feed more)
split_joined [] more h =
    sym (joined_nil (slice_split is_feed more)
    (let n = length-slice_split is_feed more in omega (arith, n)))
split_joined (x ∷ s) more h =
    slice_split-cons_no is_feed x (s ++ more) (h 0 0 (omega arith))
    ∙ ap (onto_first x) (split_joined s more (λ k d lt. h (suc k) d (omega arith)))
    ∙ joined_onto x s (slice_split is_feed more)

kept_alone : (part : List ℕ) → 0 < length part → without_empty_last (part ∷ []) ≡ part ∷ []
kept_alone part h = grind (arith, nat_tests)

kept_joined : (s : List ℕ) (lines : List (List ℕ)) → 0 < length s → 0 < length lines →
    without_empty_last (joined s lines) ≡ joined s (without_empty_last lines)
kept_joined s [] h some = absurd (omega arith)
kept_joined s ([] ∷ []) h some =
    kept_alone (s ++ []) (omega (arith, h, length-append s []))
    ∙ ap (λ l. l ∷ []) (append-nil s)
kept_joined s ((x ∷ line) ∷ []) h some =
    kept_alone (s ++ (x ∷ line)) (omega (arith, h, length-append s (x ∷ line)))
    ∙ ap (joined s) (sym (kept_alone (x ∷ line) (omega arith)))
kept_joined s (line ∷ next ∷ lines) h some = refl

lines_joined : (s more : List ℕ) → HasNoFeed s → 0 < length s →
    lines_of (s ++ more) ≡ joined s (lines_of more)
lines_joined s more h some =
    ap without_empty_last (split_joined s more h)
    ∙ kept_joined s (slice_split is_feed more) some
    (let n = length-slice_split is_feed more in omega (arith, n))

-- ---- the units of these lines

-- a line that has ended, and what follows it
pub line_unit : (skips : Bool) (number place : ℕ) (s more : List ℕ) (i : ℕ) →
    IsFirstByte (is_byte 10) s (Some i) →
    line_units skips number place (s ++ more)
    ≡ cond skips [] (portion number place (line_piece (take i s)) ∷ [])
    ++ line_units false (saturated (number + 1)) (saturated (place + (i + 1)))
    (drop (i + 1) s ++ more)
line_unit skips number place s more i h =
    let size : length (take i s) ≡ i = omega (arith, length-take i s, h.0.high) in
    let first = lines_first s more i h in
    elim skips as (λ b. line_units b number place (s ++ more)
    ≡ cond b [] (portion number place (line_piece (take i s)) ∷ [])
    ++ line_units false (saturated (number + 1)) (saturated (place + (i + 1)))
    (drop (i + 1) s ++ more)) [
      | true ↦
          ap (λ ls. drop 1 (lines_from number place ls)) first
          ∙ ap (λ n. lines_from (saturated (number + 1)) (saturated (place + (n + 1)))
          (lines_of (drop (i + 1) s ++ more))) size
      | false ↦
          ap (λ ls. lines_from number place ls) first
          ∙ ap (λ n. portion number place (line_piece (take i s))
          ∷ lines_from (saturated (number + 1)) (saturated (place + (n + 1)))
          (lines_of (drop (i + 1) s ++ more))) size
    ]

-- the last line, which has no line feed
pub last_line_unit : (skips : Bool) (number place next : ℕ) (s : List ℕ) → HasNoFeed s →
    0 < length s →
    line_units skips number place s
    ≡ cond skips [] (portion number place (line_piece s) ∷ [])
    ++ line_units false (saturated (number + 1)) next []
last_line_unit skips number place next s h some =
    let alone : lines_of s ≡ s ∷ [] =
    ap lines_of (sym (append-nil s)) ∙ lines_joined s [] h some in
    elim skips as (λ b. line_units b number place s
    ≡ cond b [] (portion number place (line_piece s) ∷ [])
    ++ line_units false (saturated (number + 1)) next []) [
      | true ↦ ap (λ ls. drop 1 (lines_from number place ls)) alone
      | false ↦ ap (λ ls. lines_from number place ls) alone
    ]

long_piece : (s line : List ℕ) → most_bytes < length s → line_piece (s ++ line) ≡ TooLong
long_piece s line h = let size = length-append s line in grind (arith, nat_tests, size)

long_place : (place : ℕ) (s line : List ℕ) →
    saturated (place + (length (s ++ line) + 1))
    ≡ saturated (saturated (place + length s) + (length line + 1))
long_place place s line = let size = length-append s line in omega (arith, size)

long_units : (skips : Bool) (number place : ℕ) (s : List ℕ) (lines : List (List ℕ)) →
    most_bytes < length s →
    cond skips (drop 1 (lines_from number place (joined s lines)))
    (lines_from number place (joined s lines))
    ≡ cond skips [] (portion number place TooLong ∷ [])
    ++ drop 1 (lines_from number (saturated (place + length s)) lines)
long_units true number place s [] h = refl
long_units false number place s [] h =
    ap (λ p. portion number place p ∷ [])
    (ap line_piece (sym (append-nil s)) ∙ long_piece s [] h)
long_units true number place s (line ∷ lines) h =
    ap (λ p. lines_from (saturated (number + 1)) p lines) (long_place place s line)
long_units false number place s (line ∷ lines) h =
    λ i. portion number place (long_piece s line h i)
    ∷ lines_from (saturated (number + 1)) (long_place place s line i) lines

-- a line that is too long, and its rest
pub long_line_unit : (skips : Bool) (number place : ℕ) (s more : List ℕ) → HasNoFeed s →
    most_bytes < length s →
    line_units skips number place (s ++ more)
    ≡ cond skips [] (portion number place TooLong ∷ [])
    ++ line_units true number (saturated (place + length s)) more
long_line_unit skips number place s more h long =
    ap (λ ls. cond skips (drop 1 (lines_from number place ls)) (lines_from number place ls))
    (lines_joined s more h (omega (arith, long)))
    ∙ long_units skips number place s (lines_of more) long

-- ---- an input of lines

left_of_lines : (kind : Input) (c : Cutter) (s : List ℕ) → IsOfLines kind →
    units_left kind c s ≡ line_units c.skips c.number c.place s
left_of_lines input.Lists c s h = refl
left_of_lines input.Differences c s h = refl
left_of_lines input.Unmet c s h = refl
left_of_lines input.Messages c s h = absurd h
left_of_lines input.Capture c s h = absurd h

pub units_on_lines : (c : Cutter) (s : List ℕ) → c.ended ≡ false → IsOfLines c.input →
    units_on c s ≡ line_units c.skips c.number c.place s
unfolding units_on
units_on_lines c s e h =
    ap (λ b. cond b [] (units_left c.input c s)) e ∙ left_of_lines c.input c s h

pub units_on_ended : (c : Cutter) (s : List ℕ) → c.ended ≡ true → units_on c s ≡ []
unfolding units_on
units_on_ended c s e = ap (λ b. cond b [] (units_left c.input c s)) e
