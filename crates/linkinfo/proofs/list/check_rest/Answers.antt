-- What the walk has left, after each step and at its end.
use Rattle.std.proofs.Common.{rules, arith, sym, ap, ◌∙◌}
use Rattle.nla_frame.specs.Answers.{verdict}
use Rattle.nla_frame.specs.NlaItems.{nla_items}
use Rattle.linkinfo.specs.Strings.{headers_from}
use Rattle.linkinfo.specs.Walks.{LinkWalk, left}
use Rattle.linkinfo.proofs.Steps.{
  entered,
  stopped,
  checked_value,
  checked_error,
  checked_on,
  checked_off,
}
use Rattle.linkinfo.proofs.Ending.{headers_end}
use Rattle.linkinfo.proofs.list.check_rest.Goals as goal

pub returns-in_err-nla : goal.returns-in_err-nla
returns-in_err-nla g c =
    let stop =
    stopped g.P.DataLayer.families _ _ _
    (rw c.in_err-nla.was at c.in-Some.ensures.step) in
    let inv = c.loop-next.invariant in
    let same = sym inv.answer ∙ ap verdict stop.values in
    record {
      answer = search rules;
      counted = omega (arith, stop.headers, inv.counted);
      rises = omega (arith, stop.headers, inv.counted);
      quarter = omega (arith, stop.room, inv.room);
    }

pub loop-next-preserved : goal.loop-next-preserved
loop-next-preserved g c =
    let step =
    entered g.P.DataLayer.families _ _ _ _
    (rw c.in_ok-nla.was at c.in-Some.ensures.step) in
    let checked = c.in_ok-check_item.ensures in
    let inv = c.loop-next.invariant in
    record {
      answer = checked_value _ _ _ _ inv.answer step.values checked.answer;
      counted = omega (
        arith,
        inv.counted,
        step.headers,
        checked_on _ (headers_from g.P.DataLayer.families c.advance.new.self.kinds
            (nla_items (left c.advance.new.self))) checked.answer,
        step.examined,
        checked.counted,
      );
      room = omega (arith, inv.room, step.room, step.examined, checked.quarter);
    }

pub loop-next-smaller : goal.loop-next-smaller
loop-next-smaller g c =
    let step =
    entered g.P.DataLayer.families _ _ _ _
    (rw c.in_ok-nla.was at c.in-Some.ensures.step) in
    omega (arith, step.room)

pub returns-in_err-check_item : goal.returns-in_err-check_item
returns-in_err-check_item g c =
    let step =
    entered g.P.DataLayer.families _ _ _ _
    (rw c.in_ok-nla.was at c.in-Some.ensures.step) in
    let checked = c.in_err-check_item.ensures in
    let inv = c.loop-next.invariant in
    let same = checked_error _ _ _ _ _ inv.answer step.values checked.answer in
    let off =
    checked_off _ _ (headers_from g.P.DataLayer.families c.advance.new.self.kinds
    (nla_items (left c.advance.new.self))) checked.answer in
    record {
      answer = search rules;
      counted = omega (arith, inv.counted, step.headers, step.examined, checked.counted, off);
      rises = omega (arith, inv.counted, step.headers, step.examined, checked.counted, off);
      quarter = omega (arith, inv.room, step.room, step.examined, checked.quarter);
    }

pub returns : goal.returns
returns g c =
    let inv = c.loop-next.invariant in
    let end = headers_end g.P.DataLayer.families c.loop-next.walk.kinds _
    c.in_default.ensures.step.1 in
    let examined = ap (λ (w : LinkWalk). w.attributes.examined) c.in_default.ensures.step.0 in
    record {
      answer = search rules;
      counted = omega (arith, inv.counted, end, examined);
      rises = omega (arith, inv.counted, end, examined);
      quarter = omega (arith, inv.room, examined);
    }
