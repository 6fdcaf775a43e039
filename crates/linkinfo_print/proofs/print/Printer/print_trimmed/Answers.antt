use Rattle.std.proofs.Common.{None, Some, Err, ap, refl, sym, ◌∙◌}
use Rattle.std.proofs.lemmas.List.{take_rest}
use Rattle.std.proofs.lemmas.Result.{on_ok_weaker}
use Rattle.linkinfo_print.specs.Printing.{refusal}
use Rattle.linkinfo_print.specs.Sentences.{one_word}
use Rattle.linkinfo_print.specs.UnitAnswers.{without_front}
use Rattle.linkinfo_print.proofs.Answering.{pair_line, second_word}
use Rattle.linkinfo_print.proofs.print.Printer.print_trimmed.Goals as goal

pub returns-in_default : goal.returns-in_default
returns-in_default c =
    let single = sym c.has_single_lists.ensures ∙ c.if-has_single_lists.false in
    let space = rw c.in_default.is at c.memchr.ensures in
    on_ok_weaker c.refuse.result
    (λ prints. (Err (refusal one_word), pair_line _ _ _ None single space refl, prints))
    c.refuse.ensures

pub returns : goal.returns
returns c =
    let single = sym c.has_single_lists.ensures ∙ c.if-has_single_lists.false in
    let space = rw c.in-Some.is at c.memchr.ensures in
    let second =
    c.without_front.ensures
    ∙ ap (λ rest. without_front rest) (take_rest c.args.line.now c.in-Some.space) in
    on_ok_weaker c.print_pair_line.result
    (λ said.
    let (answer, is, prints) = said in (
      answer,
      pair_line _ _ answer (Some c.in-Some.space) single space
          (second_word _ _ answer second is),
      prints,
    )) c.print_pair_line.ensures
