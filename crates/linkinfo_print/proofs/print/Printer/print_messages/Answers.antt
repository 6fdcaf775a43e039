use Rattle.std.proofs.Common.{[], ◌∷◌, ◌++◌, Ok, Err, refl}
use Rattle.linkinfo_messages.specs.ErrorTexts.{message_error_text}
use Rattle.linkinfo_messages.specs.Views.{link_in}
use Rattle.linkinfo_print.specs.Printing.{breaking}
use Rattle.linkinfo_print.specs.Sentences.{message_error_from}
use Rattle.linkinfo_print.proofs.Answering.{links_more, one_further, prints_numbered}
use Rattle.linkinfo_print.proofs.print.Printer.print_messages.Goals as goal

pub loop-link-preserved-in-Continue-1 : goal.loop-link-preserved-in-Continue-1
loop-link-preserved-in-Continue-1 c =
    let moves = rw c.in-Ok.is at c.in-Some.ensures.steps in
    let (front, answers, split, are, prints) = c.loop-link.invariant in
    let (answer, is, more) = c.in_ok-print_link-in-Ok.ensures in (
      front ++ Ok (link_in c.in-Ok.link) ∷ [],
      answers ++ answer ∷ [],
      one_further _ front _ _ _ split moves.gives,
      links_more c.args.place c.args.time front answers _ answer are is,
      prints_numbered _ _ _ c.args.number answers (answer ∷ []) prints more,
    )

pub loop-link-preserved : goal.loop-link-preserved
loop-link-preserved c =
    let moves = rw c.in-Err.is at c.in-Some.ensures.steps in
    let (front, answers, split, are, prints) = c.loop-link.invariant in
    let error = c.in-Err.error in
    let answer = Err (breaking (message_error_text (message_error_from c.args.place error))) in (
      front ++ Err error ∷ [],
      answers ++ answer ∷ [],
      one_further _ front _ _ _ split moves.gives,
      links_more c.args.place c.args.time front answers (Err error) answer are refl,
      prints_numbered _ _ _ c.args.number answers (answer ∷ []) prints
          c.in_ok-refuse_message-in-Err.ensures,
    )
