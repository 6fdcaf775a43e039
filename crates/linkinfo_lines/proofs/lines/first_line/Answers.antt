use Rattle.linkinfo_lines.proofs.Parts.{lines_of-more}
use Rattle.linkinfo_lines.proofs.lines.first_line.Goals as goal

pub returns-in-Some-clause-lines : goal.returns-in-Some-clause-lines
returns-in-Some-clause-lines c =
    lines_of-more c.args.text.now c.cut.result.0.now c.in-Some.more.now
    (rw c.in-Some.is at c.cut.ensures.parts)
