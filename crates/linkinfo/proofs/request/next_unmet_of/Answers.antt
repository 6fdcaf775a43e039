use Rattle.std.proofs.Common.{sym, ◌∙◌}
use Rattle.std.proofs.lemmas.Slice.Eq.{bytes_eq-Decides}
use Rattle.linkinfo.proofs.AllUnmets.{equal_answer}
use Rattle.linkinfo.proofs.request.next_unmet_of.Goals as goal

pub returns-then-eq-clause-answer : goal.returns-then-eq-clause-answer
returns-then-eq-clause-answer g c =
    let same =
    (bytes_eq-Decides c.args.have.now c.args.want.now).0 (sym c.eq.ensures ∙ c.if-eq.true) in
    equal_answer g.P.DataLayer.families c.args.from c.args.have.now c.args.want.now same
    (c.in-Ok.ensures.answer)
