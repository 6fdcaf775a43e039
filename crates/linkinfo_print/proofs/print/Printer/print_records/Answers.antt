use Rattle.std.proofs.Common.{[], ◌∷◌, ◌++◌, Ok, Err, refl}
use Rattle.linkinfo_messages.specs.Captures.{record_in}
use Rattle.linkinfo_messages.specs.ErrorTexts.{capture_error_text}
use Rattle.linkinfo_print.specs.Printing.{refusal}
use Rattle.linkinfo_print.specs.Sentences.{capture_error_from}
use Rattle.linkinfo_print.proofs.Answering.{one_further, prints_as, prints_numbered, records_more}
use Rattle.linkinfo_print.proofs.print.Printer.print_records.Goals as goal

pub loop-record-preserved-in-Continue-1 : goal.loop-record-preserved-in-Continue-1
loop-record-preserved-in-Continue-1 c =
    let moves = rw c.in-Ok.is at c.in-Some.ensures.steps in
    let (front, answers, split, are, prints) = c.loop-record.invariant in
    let (numbered, (more, are-more, is), prints-more) = c.in_ok-print_record-in-Ok.ensures in (
      front ++ Ok (record_in c.in-Ok.record) ∷ [],
      answers ++ more,
      one_further _ front _ _ _ split moves.gives,
      records_more c.args.place front answers _ more are are-more,
      prints_numbered _ _ _ c.args.number answers more prints
          (prints_as _ _ is prints-more),
    )

pub loop-record-preserved : goal.loop-record-preserved
loop-record-preserved c =
    let moves = rw c.in-Err.is at c.in-Some.ensures.steps in
    let (front, answers, split, are, prints) = c.loop-record.invariant in
    let error = c.in-Err.error in
    let answer = Err (refusal (capture_error_text (capture_error_from c.args.place error))) in (
      front ++ Err error ∷ [],
      answers ++ answer ∷ [],
      one_further _ front _ _ _ split moves.gives,
      records_more c.args.place front answers (Err error) (answer ∷ []) are refl,
      prints_numbered _ _ _ c.args.number answers (answer ∷ []) prints
          c.in_ok-refuse_record-in-Err.ensures,
    )
