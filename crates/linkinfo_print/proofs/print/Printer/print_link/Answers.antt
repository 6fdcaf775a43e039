use Rattle.std.proofs.Common.{None, Ok, refl, subst, sym}
use Rattle.std.proofs.lemmas.Result.{on_ok_weaker}
use Rattle.linkinfo_messages.specs.Views.{info_seen, link_in}
use Rattle.linkinfo_print.specs.UnitAnswers.{IsContentsAnswer, link_data}
use Rattle.linkinfo_print.specs.declared.report.Printed.TheVariants as printed
use Rattle.linkinfo_print.proofs.print.Printer.print_link.Goals as goal

pub returns-in-None : goal.returns-in-None
returns-in-None c =
    let link = link_in c.args.link.now in
    let answer = Ok (printed.Message, link_data c.args.time link None) in
    on_ok_weaker c.print_message.result
    (λ prints. (
      answer,
      subst (λ info. IsContentsAnswer c.args.place c.args.time link (info_seen info) answer)
          (sym c.in-None.is) refl,
      prints,
    )) c.print_message.ensures
