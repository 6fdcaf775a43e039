use Rattle.std.proofs.Common.{Ok, Err, ap, refl, subst}
use Rattle.std.proofs.lemmas.Result.{on_ok_weaker}
use Rattle.serde_json.specs.View.{view}
use Rattle.linkinfo_print.specs.Printing.{refusal}
use Rattle.linkinfo_print.specs.Sentences.{list_error_text, not_hex}
use Rattle.linkinfo_print.specs.UnitAnswers.{IsWordAnswer}
use Rattle.linkinfo_print.specs.declared.report.Printed.TheVariants as printed
use Rattle.linkinfo_print.proofs.Answering.{printed as prints_value}
use Rattle.linkinfo_print.proofs.print.Printer.print_list_line.Goals as goal

pub returns-in_default : goal.returns-in_default
returns-in_default c =
    let word = rw c.in_default.is at c.in_ok-bytes.ensures in
    on_ok_weaker c.refuse.result
    (λ prints. (
      Err (refusal not_hex),
      subst (λ w. IsWordAnswer w (Err (refusal not_hex))) word refl,
      prints,
    ))
    c.refuse.ensures

pub returns-in-Ok : goal.returns-in-Ok
returns-in-Ok c =
    let word = rw c.in-Some.is at c.in_ok-bytes.ensures in
    let accepted = rw c.deref.ensures.value at c.in-Ok.ensures.accepted in
    let value = rw c.deref.ensures.value at c.in-Ok.ensures.value in
    let answer = Ok (printed.List, view c.in-Ok.list) in
    on_ok_weaker c.print.result
    (λ adds. (
      answer,
      subst (λ w. IsWordAnswer w answer) word (accepted, ap (λ d. (printed.List, d)) value),
      prints_value c.args.self.now _ _ adds refl refl,
    )) c.print.ensures.adds

pub returns : goal.returns
returns c =
    let word = rw c.in-Some.is at c.in_ok-bytes.ensures in
    let at = c.in-Err-Rejected.at in
    let rejected = rw c.deref.ensures.value at c.in-Err-Rejected.ensures.error in
    let is_error = rw c.in-Err-Rejected.field-0-is at rejected in
    let answer = Err (refusal (list_error_text at.error at.inner)) in
    on_ok_weaker c.refuse_list.result
    (λ prints. (
      answer,
      subst (λ w. IsWordAnswer w answer) word
          (record {
            error = at.error;
            place = at.place;
            inner = at.inner;
            is_error = is_error;
            is = refl;
          }),
      prints,
    )) c.refuse_list.ensures
