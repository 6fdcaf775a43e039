-- The first one from offset 0 on is the first of all.
use Rattle.std.proofs.Common.{ap, ◌∙◌, Option}
use Rattle.linkinfo_table.specs.declared.unmet.Unmet.{Unmet}
use Rattle.linkinfo.specs.Strings.{reading}
use Rattle.linkinfo.specs.Unmet.{unmet_answer}
use Rattle.linkinfo.proofs.AllUnmets.{strings_first}
use Rattle.linkinfo.proofs.request.first_unmet_of.Goals as goal

pub returns-clause-answer : goal.returns-clause-answer
returns-clause-answer g c =
    let layer = g.P.DataLayer.families in
    let have = c.args.have.now in
    let want = c.args.want.now in
    c.next_unmet_of.ensures.answer
    ∙ ap (λ (o : Option Unmet). unmet_answer (reading layer have) (reading layer want) o)
    (strings_first layer have want)
