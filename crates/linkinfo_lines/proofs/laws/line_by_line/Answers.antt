use Rattle.std.proofs.Common.{
  ◌≡◌,
  ◌≢◌,
  ℕ,
  ◌<◌,
  eqb,
  false,
  List,
  [],
  ◌∷◌,
  ◌++◌,
  length,
  refl,
  ap,
  ◌∙◌,
  arith,
  append-nil,
}
use Rattle.std.specs.Prelude.{flat_map}
use Rattle.std.specs.List.{All}
use Rattle.std.proofs.lemmas.Bool.Decides.{nat_tests}
use Rattle.std.proofs.lemmas.List.Elements.{All-weaker}
use Rattle.std.proofs.lemmas.List.Splits.{slice_split_at, slice_split_none}
use Rattle.linkinfo_lines.specs.Answers.{line_answer}
use Rattle.linkinfo_lines.proofs.Parts.{lines_of-more, lines_of-last}
use Rattle.linkinfo_lines.proofs.laws.line_by_line.Goals as goal

other : (b : ℕ) → b ≢ 10 → eqb b 10 ≡ false
other b h = grind (arith, nat_tests)

others : (line : List ℕ) → All (λ b. b ≢ 10) line → All (λ b. eqb b 10 ≡ false) line
others line h = All-weaker (λ b. b ≢ 10) (λ b. eqb b 10 ≡ false) other line h

nonempty : (line : List ℕ) → line ≢ [] → 0 < length line
nonempty [] h = absurd (h refl)
nonempty (b ∷ line) h = omega arith

pub returns-clause-line : goal.returns-clause-line
returns-clause-line c line rest h =
    ap (flat_map line_answer) (lines_of-more (line ++ 10 ∷ rest) line rest
    (slice_split_at (λ b. eqb b 10) line 10 rest (others line h) refl))

pub returns-clause-last : goal.returns-clause-last
returns-clause-last c line h some =
    ap (flat_map line_answer) (lines_of-last line line (nonempty line some)
    (slice_split_none (λ b. eqb b 10) line (others line h)) refl) ∙ append-nil (line_answer line)
