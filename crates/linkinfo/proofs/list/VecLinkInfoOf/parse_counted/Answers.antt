-- Each clause is that of `read_rest`, from the beginning of the bytes; the count is a sum.
use Rattle.std.proofs.Common.{◌∙◌, ap, arith, sym, List, Result, Ok}
use Rattle.nla_frame.specs.declared.error.DecodeError.{DecodeError}
use Rattle.linkinfo_data.specs.DataFamilies.{DataTypes}
use Rattle.linkinfo.specs.Layered.{LinkOf}
use Rattle.linkinfo.proofs.list.VecLinkInfoOf.parse_counted.Goals as goal
use Rattle.linkinfo.specs.Strings.{headers_of_string, reading, reading_needs_memory}

abbrev read : {L : DataTypes} → List (LinkOf L) → Result (List (LinkOf L)) DecodeError
read items = Ok items

pub returns-in-Ok-clause-answer : goal.returns-in-Ok-clause-answer
unfolding reading
returns-in-Ok-clause-answer g c =
    let answer = rw c.new-walk.ensures at c.in-Ok.ensures.answer in
    answer ∙ ap read (sym c.new.ensures)

pub returns-in-Ok-clause-certain : goal.returns-in-Ok-clause-certain
returns-in-Ok-clause-certain g c = λ _. returns-in-Ok-clause-answer g c

pub returns-in-Ok-clause-counted : goal.returns-in-Ok-clause-counted
unfolding headers_of_string
returns-in-Ok-clause-counted g c =
    let counted = rw c.new-walk.ensures at c.in-Ok.ensures.counted in
    omega (arith, counted, c.requires, c.add.ensures, c.examined.ensures.count)

pub returns-in-Ok-clause-quarter : goal.returns-in-Ok-clause-quarter
returns-in-Ok-clause-quarter g c =
    let quarter = rw c.new-walk.ensures at c.read_rest-answer.ensures.quarter in
    omega (arith, quarter, c.requires, c.add.ensures, c.examined.ensures.count)

pub returns-in-Err-clause-answer : goal.returns-in-Err-clause-answer
unfolding reading
returns-in-Err-clause-answer g c =
    let answer = rw c.new-walk.ensures at c.in-Err.ensures.answer in answer

pub returns-in-Err-clause-certain : goal.returns-in-Err-clause-certain
unfolding reading reading_needs_memory
returns-in-Err-clause-certain g c =
    let certain = rw c.new-walk.ensures at c.in-Err.ensures.certain in certain

pub returns-in-Err-clause-counted : goal.returns-in-Err-clause-counted
unfolding headers_of_string
returns-in-Err-clause-counted g c = λ ample.
    let counted = rw c.new-walk.ensures at c.in-Err.ensures.counted in
    omega (arith, counted ample, c.requires, c.add.ensures, c.examined.ensures.count)

pub returns-in-Err-clause-quarter : goal.returns-in-Err-clause-quarter
returns-in-Err-clause-quarter g c =
    let quarter = rw c.new-walk.ensures at c.read_rest-answer.ensures.quarter in
    omega (arith, quarter, c.requires, c.add.ensures, c.examined.ensures.count)
