use Rattle.std.proofs.Common.{[], ◌∷◌, Err, refl, subst}
use Rattle.std.proofs.lemmas.Result.{on_ok_weaker}
use Rattle.linkinfo_messages.specs.Captures.{record_in}
use Rattle.linkinfo_messages.specs.ErrorTexts.{capture_error_text}
use Rattle.linkinfo_print.specs.Printing.{refusal}
use Rattle.linkinfo_print.specs.Sentences.{capture_error_from}
use Rattle.linkinfo_print.specs.UnitAnswers.{ArePacketAnswers, with_number}
use Rattle.linkinfo_print.proofs.print.Printer.print_record.Goals as goal

pub returns-in-Err : goal.returns-in-Err
returns-in-Err c =
    let messages = rw c.in-Err.is at c.messages.ensures in
    let sentence = capture_error_text (capture_error_from c.args.place c.in-Err.error) in
    let answer = Err (refusal sentence) in
    let r = record_in c.args.packet.now in
    on_ok_weaker c.refuse_record.result
    (λ prints. (
      with_number c.args.self.now.options.input c.args.number answer ∷ [],
      (
        answer ∷ [],
        subst (λ m. ArePacketAnswers c.args.place r m (answer ∷ [])) messages refl,
        refl,
      ),
      prints,
    )) c.refuse_record.ensures
