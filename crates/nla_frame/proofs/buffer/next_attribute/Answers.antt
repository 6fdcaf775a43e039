use Rattle.std.proofs.Common.{arith, sym, ◌∙◌, ◌<◌, length}
use Rattle.std.proofs.lemmas.Bool.{eqb-true, eqb-false}
use Rattle.std.proofs.lemmas.List.{nil_from_length}
use Rattle.nla_frame.proofs.Stepping.{ended, goes_on, breaks}
use Rattle.nla_frame.proofs.buffer.next_attribute.Goals as goal

pub returns-then-is_empty : goal.returns-then-is_empty
returns-then-is_empty c =
    ended _ _ (nil_from_length _ (eqb-true _ _ (sym c.is_empty.ensures ∙ c.if-is_empty.true)))

pub returns-in-Ok : goal.returns-in-Ok
returns-in-Ok c =
    goes_on _ _ _ _ _ _ (sym c.in-Ok.ensures.answer) c.in-Ok.ensures.attribute
    c.new_counted.ensures.counted c.length.ensures c.rest_after-rest.ensures

pub returns-in-Err : goal.returns-in-Err
returns-in-Err c =
    let some : 0 < length c.args.bytes.now =
    omega (arith, eqb-false _ _ (sym c.is_empty.ensures ∙ c.if-is_empty.false)) in
    breaks _ _ _ _ (sym c.in-Err.ensures.answer) some c.new_counted.ensures.counted
