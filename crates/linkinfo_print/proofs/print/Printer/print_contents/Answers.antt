use Rattle.std.proofs.Common.{◌++◌, Some, Ok, Err, ap}
use Rattle.std.proofs.lemmas.Result.{on_ok_weaker}
use Rattle.serde_json.specs.View.{view}
use Rattle.linkinfo_messages.specs.Views.{link_in}
use Rattle.linkinfo_print.specs.Printing.{refusal}
use Rattle.linkinfo_print.specs.Sentences.{list_error_text, list_of_link}
use Rattle.linkinfo_print.specs.UnitAnswers.{link_data}
use Rattle.linkinfo_print.specs.declared.report.Printed.TheVariants as printed
use Rattle.linkinfo_print.proofs.print.Printer.print_contents.Goals as goal

pub returns-in-Ok : goal.returns-in-Ok
returns-in-Ok c =
    let link = link_in c.args.link.now in
    on_ok_weaker c.print_message.result
    (λ prints. (
      Ok (printed.Message, link_data c.args.time link (Some (view c.in-Ok.list))),
      (
        c.in-Ok.ensures.accepted,
        ap (λ d. (printed.Message, link_data c.args.time link (Some d))) c.in-Ok.ensures.value,
      ),
      prints,
    )) c.print_message.ensures

pub returns-in-Err-Rejected : goal.returns-in-Err-Rejected
returns-in-Err-Rejected c =
    let at = c.in-Err-Rejected.at in
    let index = c.args.link.now.index in
    let is_error = rw c.in-Err-Rejected.field-0-is at c.in-Err-Rejected.ensures.error in
    let place = c.saturating_add-place.result in
    let refused = rw c.in-Err-Rejected.field-0-is at c.refuse_list.ensures in
    on_ok_weaker c.refuse_list.result
    (λ prints. (
      Err (refusal (list_of_link index place ++ list_error_text at.error at.inner)),
      record {
        error = at.error;
        place = at.place;
        inner = at.inner;
        is_error = is_error;
        is = ap
            (λ offset. refusal (list_of_link index offset ++ list_error_text at.error at.inner))
            c.saturating_add-place.ensures;
      },
      prints,
    )) refused
