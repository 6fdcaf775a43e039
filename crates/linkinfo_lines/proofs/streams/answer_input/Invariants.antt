use Rattle.std.proofs.Common.{ℕ, List}
use Rattle.std.specs.Io.KnownBytes.{Consumes}
use Rattle.linkinfo_lines.specs.Answers.{Answered}
use Rattle.linkinfo_lines.proofs.streams.answer_input.Given as goal

-- what was read is processed but for the line that has not ended
abbrev pub invariant-loop : goal.invariant-loop
invariant-loop g l =
    (input : List ℕ)
    × Consumes (g.R.Read.remaining l.initial.reader) (g.R.Read.remaining l.reader) input
    × Answered input l.answers.answers.text.items l.answers.line.items
