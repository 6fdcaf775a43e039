use Rattle.std.proofs.Common.{refl}
use Rattle.std.proofs.lemmas.Option.{IfSome_then}
use Rattle.std.proofs.lemmas.Result.{on_ok_weaker}
use Rattle.linkinfo_print.proofs.Answering.{refused}
use Rattle.linkinfo_print.proofs.print.Printer.refuse_whole.Goals as goal

pub returns : goal.returns
returns g c =
    let cutter = rw c.ends_at_error.ensures at c.end_if.ensures in
    on_ok_weaker c.refuse.result
    (λ said.
    IfSome_then (g.E.Display.output c.args.error) said
    (λ sentence adds.
    refused c.args.self.now _ (record { sentence = sentence; breaks = c.args.breaks }) adds refl
    cutter)) c.refuse.ensures.adds
