use Rattle.std.proofs.Common.{rules, ◌≡◌}
use Rattle.linkinfo_lines.specs.Answers.{canon_answer, check_answer, on_one}
use Rattle.linkinfo_lines.specs.Lines.{words_of}
use Rattle.linkinfo_lines.proofs.Words.{on_one-words_of}
use Rattle.linkinfo_lines.proofs.answers.Answers.push_command.Goals as goal

pub returns-then-eq : goal.returns-then-eq
returns-then-eq c =
    let word = c.args.operands.now in
    let one : on_one check_answer (words_of word) ≡ check_answer word = on_one-words_of _ word in
    rw one (search rules)

pub returns-then-eq-2 : goal.returns-then-eq-2
returns-then-eq-2 c =
    let word = c.args.operands.now in
    let one : on_one canon_answer (words_of word) ≡ canon_answer word = on_one-words_of _ word in
    rw one (search rules)
