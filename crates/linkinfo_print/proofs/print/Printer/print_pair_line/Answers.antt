use Rattle.std.proofs.Common.{◌++◌, Ok, Err, ap, codes, inl, inr, refl}
use Rattle.std.proofs.lemmas.Result.{on_ok_weaker}
use Rattle.serde_json.specs.View.{view}
use Rattle.linkinfo_print.specs.Printing.{refusal}
use Rattle.linkinfo_print.specs.Sentences.{list_error_text, not_hex}
use Rattle.linkinfo_print.specs.declared.report.Printed.TheVariants as printed
use Rattle.linkinfo_print.proofs.Answering.{both_words, printed as prints_value}
use Rattle.linkinfo_print.proofs.print.Printer.print_pair_line.Goals as goal

pub returns-in_default : goal.returns-in_default
returns-in_default c =
    let first = rw c.in_default.is at c.in_ok-first.ensures in
    let answer = Err (refusal (codes "first list: " ++ not_hex)) in
    on_ok_weaker c.refuse.result
    (λ prints. (answer, both_words _ answer first refl refl, prints)) c.refuse.ensures

pub returns-in_default-2 : goal.returns-in_default-2
returns-in_default-2 c =
    let first = rw c.in-Some.is at c.in_ok-first.ensures in
    let second = rw c.in_default-2.is at c.in_ok-second.ensures in
    let answer = Err (refusal (codes "second list: " ++ not_hex)) in
    on_ok_weaker c.refuse-in_default-2.result
    (λ prints. (answer, both_words _ answer first second refl, prints))
    c.refuse-in_default-2.ensures

pub returns-in-Ok : goal.returns-in-Ok
returns-in-Ok c =
    let first = rw c.in-Some.is at c.in_ok-first.ensures in
    let second = rw c.in-Some-2.is at c.in_ok-second.ensures in
    let accepted-first = rw c.deref.ensures.value at c.in-Ok.ensures.accepted in
    let accepted = rw c.deref-2.ensures.value at accepted-first in
    let value-first = rw c.deref.ensures.value at c.in-Ok.ensures.value in
    let value-both = rw c.deref-2.ensures.value at value-first in
    let value = rw c.question_of-question.ensures at value-both in
    let answer = Ok (printed.Pair, view c.in-Ok.pair) in
    on_ok_weaker c.print.result
    (λ adds. (
      answer,
      both_words _ answer first second
          (accepted.0, accepted.1, ap (λ d. (printed.Pair, d)) value),
      prints_value c.args.self.now _ _ adds refl refl,
    )) c.print.ensures.adds

pub returns-in-Err-First : goal.returns-in-Err-First
returns-in-Err-First c =
    let first = rw c.in-Some.is at c.in_ok-first.ensures in
    let second = rw c.in-Some-2.is at c.in_ok-second.ensures in
    let at = c.in-Err-First.at in
    let error-first = rw c.deref.ensures.value at c.in-Err-First.ensures.error in
    let error-both = rw c.deref-2.ensures.value at error-first in
    let is_error = rw c.in-Err-First.field-0-is at error-both in
    let sentence = codes "first list: " ++ list_error_text at.error at.inner in
    let answer = Err (refusal sentence) in
    on_ok_weaker c.refuse_list.result
    (λ prints. (
      answer,
      both_words _ answer first second
          (inl
          (record {
            error = at.error;
            place = at.place;
            inner = at.inner;
            is_error = is_error;
            is = refl;
          })),
      prints,
    )) c.refuse_list.ensures

pub returns : goal.returns
returns c =
    let first = rw c.in-Some.is at c.in_ok-first.ensures in
    let second = rw c.in-Some-2.is at c.in_ok-second.ensures in
    let at = c.in-Err-Second.at in
    let error-first = rw c.deref.ensures.value at c.in-Err-Second.ensures.error in
    let error-both = rw c.deref-2.ensures.value at error-first in
    let is_error = rw c.in-Err-Second.field-0-is at error-both in
    let sentence = codes "second list: " ++ list_error_text at.error at.inner in
    let answer = Err (refusal sentence) in
    on_ok_weaker c.refuse_list-in-Err-Second.result
    (λ prints. (
      answer,
      both_words _ answer first second
          (inr (
            is_error.0,
            record {
              error = at.error;
              place = at.place;
              inner = at.inner;
              is_error = is_error.1;
              is = refl;
            },
          )),
      prints,
    )) c.refuse_list-in-Err-Second.ensures
