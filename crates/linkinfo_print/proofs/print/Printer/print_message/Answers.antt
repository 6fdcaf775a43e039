use Rattle.std.proofs.Common.{ap, refl, ◌∙◌}
use Rattle.std.specs.Option.{option_map}
use Rattle.std.proofs.lemmas.Result.{on_ok_weaker}
use Rattle.serde_json.specs.View.{view}
use Rattle.linkinfo_print.specs.MessageData.{message_data, time_text}
use Rattle.linkinfo_print.specs.declared.report.Printed.TheVariants as printed
use Rattle.linkinfo_print.proofs.Answering.{copied_is, prints_data}
use Rattle.linkinfo_print.proofs.print.Printer.print_message.Goals as goal

pub returns : goal.returns
returns c =
    let link = c.args.link.now in
    let list = option_map view c.args.list in
    let name = option_map (λ n. n.now) link.name in
    let value =
    c.in_ok-message.ensures.value
    ∙ ap (λ time. message_data link.event link.flags link.index name list time)
    c.in_ok-time.ensures
    ∙ ap
    (λ name.
    message_data link.event link.flags link.index name list (option_map time_text c.args.time))
    (copied_is link.name) in
    on_ok_weaker c.print.result
    (λ adds. prints_data c.args.self.now _ printed.Message value adds refl refl)
    c.print.ensures.adds
