-- The total of what the walk has visited, after each step and at its end.
use Rattle.std.proofs.Common.{sym, ap, ◌∙◌, rules, arith}
use Rattle.nla_frame.specs.Answers.{verdict}
use Rattle.linkinfo.proofs.Steps.{checked_error, checked_value, entered, stopped}
use Rattle.linkinfo.proofs.Writing.{measured_end, measured_step}
use Rattle.linkinfo.proofs.canonical_into.rest_measure.Goals as goal

pub returns-in_err-nla : goal.returns-in_err-nla
returns-in_err-nla g c =
    let stop =
    stopped g.P.DataLayer.families _ _ _
    (rw c.in_err-nla.was at c.in-Some.ensures.step) in
    let same = sym c.loop-next.invariant.answer ∙ ap verdict stop.values in
    search rules

pub returns-in_err-len : goal.returns-in_err-len
returns-in_err-len g c =
    let step =
    entered g.P.DataLayer.families _ _ _ _
    (rw c.in_ok-nla.was at c.in-Some.ensures.step) in
    let same =
    checked_error _ _ _ _ _ c.loop-next.invariant.answer step.values
    (sym c.in_err-len.ensures) in
    search rules

pub loop-next-preserved : goal.loop-next-preserved
loop-next-preserved g c =
    let layer = g.P.DataLayer.families in
    let step = entered layer _ _ _ _ (rw c.in_ok-nla.was at c.in-Some.ensures.step) in
    let inv = c.loop-next.invariant in
    let measured = c.in_ok-len.ensures in
    record {
      answer = checked_value _ _ _ _ inv.answer step.values (sym measured.0);
      so_far =
          measured_step layer c.families_lawful.ensures _ _ _ _ _ _ _ _ step inv.so_far
          (sym measured.0) measured.1 c.total_with-total.ensures;
    }

pub loop-next-smaller : goal.loop-next-smaller
loop-next-smaller g c =
    let step =
    entered g.P.DataLayer.families _ _ _ _
    (rw c.in_ok-nla.was at c.in-Some.ensures.step) in
    omega (arith, step.room)

pub returns : goal.returns
returns g c =
    let inv = c.loop-next.invariant in
    measured_end g.P.DataLayer.families c.loop-next.walk _ _
    c.in_default.ensures.step.1 inv.answer inv.so_far
