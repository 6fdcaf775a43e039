use Rattle.linkinfo.proofs.Whole.{checked_no_memory}
use Rattle.linkinfo.proofs.list.check_string.Goals as goal
use Rattle.linkinfo.specs.Strings.{reading}

pub returns-clause-no_memory : goal.returns-clause-no_memory
unfolding reading
returns-clause-no_memory g c =
    let answer = rw c.new-walk.ensures at c.check_rest-answer.ensures.answer in
    checked_no_memory g.P.DataLayer.families c.families_lawful.ensures c.args.bytes.now
    _ answer
