use Rattle.std.proofs.Common.{rules, ◌++◌, take}
use Rattle.std.proofs.KnownBytes.{Consumes-trans}
use Rattle.std.specs.Io.KnownBytes.{Consumes}
use Rattle.linkinfo_lines.specs.Answers.{Answered}
use Rattle.linkinfo_lines.specs.Streams.{GivesAll}
use Rattle.linkinfo_lines.proofs.streams.answer_input.Goals as goal

pub returns-then-n-eq0-clause-all : goal.returns-then-n-eq0-clause-all
returns-then-n-eq0-clause-all g c =
    let (input, consumed, answered) = c.loop.invariant in
    let all : GivesAll (g.R.Read.remaining c.args.reader.now) (g.R.Read.remaining c.read.new.self)
    input = search (rules, consumed) in
    (input, all, search (rules, answered))

pub loop-preserved : goal.loop-preserved
loop-preserved g c =
    let (input, consumed, answered) = c.loop.invariant in
    let part = take c.in_ok-n.n c.read.new.buf in
    let one : Consumes (g.R.Read.remaining c.loop.reader) (g.R.Read.remaining c.read.new.self)
    part = search rules in
    let ended : Answered (input ++ part) c.push.new.self.answers.text.items
    c.push.new.self.line.items = search (rules, answered) in
    (input ++ part, Consumes-trans _ _ _ input part consumed one, ended)
