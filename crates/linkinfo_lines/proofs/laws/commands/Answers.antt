use Rattle.std.proofs.Common.{
  ◌≡◌,
  ◌≢◌,
  ℕ,
  eqb,
  Bool,
  true,
  false,
  if◌then◌else◌,
  List,
  [],
  ◌∷◌,
  ◌++◌,
  refl,
  ap,
  ◌∙◌,
  arith,
}
use Rattle.std.specs.Prelude.{All, codes, bytes_eq}
use Rattle.std.proofs.lemmas.Bool.{false_from_ne_true}
use Rattle.std.proofs.lemmas.Bool.Decides.{nat_tests}
use Rattle.std.proofs.lemmas.List.Elements.{All-weaker}
use Rattle.std.proofs.lemmas.List.Splits.{slice_split_at, slice_split_none}
use Rattle.std.proofs.lemmas.Slice.Eq.{bytes_eq-Decides}
use Rattle.linkinfo_lines.specs.Answers.{bad_line, comparison_answer, on_two, words_answer}
use Rattle.linkinfo_lines.specs.Lines.{words_of}
use Rattle.linkinfo_lines.proofs.Words.{on_one-words_of, on_two-words_of}
use Rattle.linkinfo_lines.proofs.laws.commands.Goals as goal

other : (b : ℕ) → b ≢ 32 → eqb b 32 ≡ false
other b h = grind (arith, nat_tests)

no_space : (word : List ℕ) → All (λ b. b ≢ 32) word → All (λ b. eqb b 32 ≡ false) word
no_space word h = All-weaker (λ b. b ≢ 32) (λ b. eqb b 32 ≡ false) other word h

-- no word but the three is a verb
refuses : (verb word : List ℕ) → verb ≢ word → bytes_eq verb word ≡ false
refuses verb word h = false_from_ne_true _ (λ e. h ((bytes_eq-Decides verb word).0 e))

pub returns-clause-check : goal.returns-clause-check
returns-clause-check c word = ap (λ (text : List ℕ). text ++ 10 ∷ []) (on_one-words_of _ word)

pub returns-clause-canon : goal.returns-clause-canon
returns-clause-canon c word = ap (λ (text : List ℕ). text ++ 10 ∷ []) (on_one-words_of _ word)

pub returns-clause-same : goal.returns-clause-same
returns-clause-same c first second h =
    let words : words_of (first ++ 32 ∷ second) ≡ first ∷ words_of second =
    slice_split_at (λ b. eqb b 32) first 32 second (no_space first h) refl in
    ap (λ (text : List ℕ). text ++ 10 ∷ [])
    (ap (on_two comparison_answer) words ∙ on_two-words_of first second)

pub returns-clause-one_word : goal.returns-clause-one_word
returns-clause-one_word c line h =
    let words : words_of line ≡ line ∷ [] =
    slice_split_none (λ b. eqb b 32) line (no_space line h) in
    ap (λ (text : List ℕ). text ++ 10 ∷ []) (ap words_answer words
    ∙ either (bytes_eq line (codes "check")) (bytes_eq line (codes "canon"))
    (bytes_eq line (codes "same")))
  where
    either : (a b c : Bool) →
        (if a then bad_line else if b then bad_line else if c then bad_line else bad_line)
        ≡ bad_line
    either true b c = refl
    either false true c = refl
    either false false true = refl
    either false false false = refl

pub returns-clause-other_verb : goal.returns-clause-other_verb
returns-clause-other_verb c verb operands h check canon same =
    let words : words_of (verb ++ 32 ∷ operands) ≡ verb ∷ words_of operands =
    slice_split_at (λ b. eqb b 32) verb 32 operands (no_space verb h) refl in
    let bad : words_answer (verb ∷ words_of operands) ≡ bad_line =
    rw (
      refuses verb (codes "check") check,
      refuses verb (codes "canon") canon,
      refuses verb (codes "same") same,
    ) refl in
    ap (λ (text : List ℕ). text ++ 10 ∷ []) (ap words_answer words ∙ bad)
