use Rattle.std.proofs.Common.{◌≡◌, ◌++◌, length}
use Rattle.linkinfo_lines.specs.Answers.{answer_of}
use Rattle.linkinfo_lines.proofs.answers.Answers.push_lines.Given as goal

-- the result lines so far, and then those for the rest
abbrev pub invariant-loop-rest : goal.invariant-loop-rest
invariant-loop-rest l =
    l.self.text.items ++ answer_of l.rest ≡ l.initial.self.text.items ++ answer_of l.text

abbrev pub decreases-loop-rest : goal.decreases-loop-rest
decreases-loop-rest l = length l.rest
