use Rattle.std.proofs.Common.{rules, ◌≡◌, ap, ◌∙◌}
use Rattle.linkinfo_lines.specs.Answers.{comparison_answer, on_two}
use Rattle.linkinfo_lines.specs.Lines.{words_of}
use Rattle.linkinfo_lines.proofs.Words.{on_two-words_of}
use Rattle.linkinfo_lines.proofs.answers.Answers.push_same.Goals as goal

pub returns : goal.returns
returns c =
    let first = c.cut.result.0.now in
    let second = c.in-Some.second.now in
    let two : on_two comparison_answer (words_of c.args.operands.now)
    ≡ comparison_answer first second =
    ap (on_two comparison_answer) (rw c.in-Some.is at c.cut.ensures.parts)
    ∙ on_two-words_of first second in
    rw two (search rules)
