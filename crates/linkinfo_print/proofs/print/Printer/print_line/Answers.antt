use Rattle.std.proofs.Common.{◌<◌, [], ◌∷◌, length, refl, rules, subst}
use Rattle.std.proofs.lemmas.Result.{on_ok_weaker}
use Rattle.linkinfo_print.specs.UnitAnswers.{AreLineAnswers, with_number}
use Rattle.linkinfo_print.proofs.Answering.{one_answer}
use Rattle.linkinfo_print.proofs.print.Printer.print_line.Goals as goal

pub returns : goal.returns
returns c =
    let what = c.args.self.now.options.input in
    let some : 0 < length c.trimmed-line.result.now = search rules in
    on_ok_weaker c.print_trimmed.result
    (λ said.
    let (answer, is, prints) = said in (
      with_number what c.args.number answer ∷ [],
      (
        answer ∷ [],
        subst (λ line. AreLineAnswers what line (answer ∷ [])) c.trimmed-line.ensures
            (one_answer what _ answer some is),
        refl,
      ),
      prints,
    )) c.print_trimmed.ensures
