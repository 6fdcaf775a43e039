-- The attributes parsed so far, before those that the walk has left.
use Rattle.std.proofs.Common.{◌∙◌, rules, arith, sym, ap, Result, Ok}
use Rattle.nla_frame.specs.declared.error.DecodeError.{DecodeError}
use Rattle.linkinfo.specs.declared.role.CurrentKinds.{CurrentKinds}
use Rattle.nla_frame.specs.NlaItems.{nla_items}
use Rattle.linkinfo.specs.Strings.{headers_from}
use Rattle.linkinfo.specs.Walks.{LinkWalk, left}
use Rattle.linkinfo.proofs.Steps.{
  entered,
  stopped,
  on_value,
  on_error,
  on_error_unless,
  counted_error,
  headers_on,
  needs_off,
  value_needs,
}
use Rattle.linkinfo.proofs.Ending.{headers_end, read_end}
use Rattle.linkinfo.proofs.list.read_rest.Goals as goal

abbrev current_kinds : CurrentKinds → Result CurrentKinds DecodeError
current_kinds kinds = Ok kinds

pub read_item-requires-clause-entered : goal.read_item-requires-clause-entered
read_item-requires-clause-entered g c =
    let step =
    entered g.P.DataLayer.families _ _ _ _
    (rw c.in_ok-nla.was at c.in-Some.ensures.step) in
    (c.loop-next.walk.kinds, step.kinds_after ∙ ap current_kinds (sym c.current_kinds.ensures))

pub read_item-requires-clause-room : goal.read_item-requires-clause-room
read_item-requires-clause-room g c =
    let step =
    entered g.P.DataLayer.families _ _ _ _
    (rw c.in_ok-nla.was at c.in-Some.ensures.step) in
    omega (arith, c.requires, c.loop-next.invariant.room, step.room)

pub returns-in_err-nla : goal.returns-in_err-nla
returns-in_err-nla g c =
    let stop =
    stopped g.P.DataLayer.families _ _ _
    (rw c.in_err-nla.was at c.in-Some.ensures.step) in
    let inv = c.loop-next.invariant in
    record {
      answer = search rules;
      certain = search rules;
      counted = search (rules, arith);
      rises = omega (arith, stop.headers, inv.rises);
      quarter = omega (arith, stop.room, inv.room);
    }

pub loop-next-preserved : goal.loop-next-preserved
loop-next-preserved g c =
    let step =
    entered g.P.DataLayer.families _ _ _ _
    (rw c.in_ok-nla.was at c.in-Some.ensures.step) in
    let read = c.in-Ok.ensures in
    let inv = c.loop-next.invariant in
    record {
      answer =
          on_value _ _ _ _ _ _ _ inv.answer step.values read.answer
          c.in_ok-push-in-Ok.ensures.items;
      certain = λ none. absurd (value_needs _ _ _ _ step.memory read.answer (inv.certain none));
      counted = omega (
        arith,
        inv.counted,
        step.headers,
        headers_on _ _ (headers_from g.P.DataLayer.families c.advance.new.self.kinds
            (nla_items (left c.advance.new.self))) read.answer,
        step.examined,
        read.counted,
      );
      rises = omega (arith, inv.rises, step.examined, read.rises);
      room = omega (arith, inv.room, step.room, step.examined, read.quarter);
    }

pub loop-next-smaller : goal.loop-next-smaller
loop-next-smaller g c =
    let step =
    entered g.P.DataLayer.families _ _ _ _
    (rw c.in_ok-nla.was at c.in-Some.ensures.step) in
    omega (arith, step.room)

pub returns-in-Err : goal.returns-in-Err
returns-in-Err g c =
    let step =
    entered g.P.DataLayer.families _ _ _ _
    (rw c.in_ok-nla.was at c.in-Some.ensures.step) in
    let read = c.in-Err.ensures in
    let inv = c.loop-next.invariant in
    record {
      answer = on_error_unless _ _ _ _ _ _ inv.answer step.values read.answer;
      certain = λ none.
          on_error _ _ _ _ _ _ inv.answer step.values
          (read.certain (needs_off _ _ _ step.memory (inv.certain none)));
      counted =
          counted_error _ _ _ _ _ _ _ _ _ _ inv.counted step.headers step.examined
          read.answer read.counted;
      rises = omega (arith, inv.rises, step.examined, read.rises);
      quarter = omega (arith, inv.room, step.room, step.examined, read.quarter);
    }

pub returns-in_err-push-in-Ok : goal.returns-in_err-push-in-Ok
returns-in_err-push-in-Ok g c =
    let step =
    entered g.P.DataLayer.families _ _ _ _
    (rw c.in_ok-nla.was at c.in-Some.ensures.step) in
    let read = c.in-Ok.ensures in
    let inv = c.loop-next.invariant in
    record {
      answer = search rules;
      certain = λ none. absurd (value_needs _ _ _ _ step.memory read.answer (inv.certain none));
      counted = search rules;
      rises = omega (arith, inv.rises, step.examined, read.rises);
      quarter = omega (arith, inv.room, step.room, step.examined, read.quarter);
    }

pub returns : goal.returns
returns g c =
    let inv = c.loop-next.invariant in
    let examined = ap (λ (w : LinkWalk). w.attributes.examined) c.in_default.ensures.step.0 in
    let answer = read_end g.P.DataLayer.families _ _ c.in_default.ensures.step.1 _ _ inv.answer in
    record {
      answer = answer;
      certain = λ _. answer;
      counted =
          omega (
            arith,
            inv.counted,
            headers_end g.P.DataLayer.families c.loop-next.walk.kinds _ c.in_default.ensures.step.1,
            examined,
          );
      rises = omega (arith, inv.rises, examined);
      quarter = omega (arith, inv.room, examined);
    }
