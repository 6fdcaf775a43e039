use Rattle.std.proofs.Common.{rules, ◌≡◌, ◌+◌, ◌++◌, OnOk, take, drop}
use Rattle.std.proofs.lemmas.List.{take_rest}
use Rattle.std.proofs.lemmas.Result.{on_ok_weaker}
use Rattle.linkinfo_lines.specs.Answers.{answer_of}
use Rattle.linkinfo_lines.proofs.Parts.{answered_ended}
use Rattle.linkinfo_lines.proofs.answers.InputAnswers.push.Goals as goal

pub returns : goal.returns
returns c =
    let part = c.args.part.now in
    let text = c.args.self.now.answers.text.items in
    let line = c.args.self.now.line.items in
    let end = c.in-Some.end in
    let last = rw c.in-Some.is at c.memrchr.ensures in
    let texts : c.push_lines.new.self.text.items ≡ text ++ answer_of (line ++ take (end + 1) part) =
    search rules in
    let rest = take_rest part (end + 1) in
    let left : OnOk c.extend_from_slice-3.result
    (c.extend_from_slice-3.new.self.items ≡ drop (end + 1) part) = search (rules, rest) in
    on_ok_weaker c.extend_from_slice-3.result
    (λ lines input before.
    answered_ended input text line part _ _ end last.0.high last.1 texts lines before) left
