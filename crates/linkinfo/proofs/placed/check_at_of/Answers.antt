use Rattle.std.proofs.Common.{◌+◌, ◌*◌, ◌≤◌, length, sym, ap, subst, arith}
use Rattle.linkinfo.specs.Walks.{LinkWalk, left, place_of}
use Rattle.linkinfo.proofs.Placing.{
  Went,
  begins,
  ends,
  goes_on,
  inside_at,
  reads_error,
  rejected_at,
  stops_at,
}
use Rattle.linkinfo.proofs.Whole.{rejected_no_memory}
use Rattle.linkinfo.proofs.placed.check_at_of.Goals as goal

pub loop-next-init : goal.loop-next-init
loop-next-init g c =
    let start = c.new-walk.ensures in
    let s = c.args.bytes.now in
    record {
      went =
          subst (λ (w : LinkWalk). Went g.P.DataLayer.families s w) (sym start)
          (begins g.P.DataLayer.families s);
      place = ap place_of (sym start);
      room =
          subst (λ (w : LinkWalk). 4 * (c.new-count.result + w.attributes.examined)
          + length (left w) ≤ length s) (sym start) (omega (arith, c.new-count.ensures));
    }

pub loop-next-preserved : goal.loop-next-preserved
loop-next-preserved g c =
    let enters = rw c.in-Ok.is at c.in-Some.ensures.step in
    let inv = c.loop-next.invariant in
    record {
      went =
          goes_on g.P.DataLayer.families _ _ _ _ _ inv.went enters
          c.in-Some.ensures.source c.in-Ok-check_item.ensures.answer;
      place = c.place-place.ensures;
      room = omega (
        arith,
        inv.room,
        enters.room,
        enters.examined,
        c.in-Ok-check_item.ensures.quarter,
      );
    }

pub returns-in-Err-check_item-clause-inner : goal.returns-in-Err-check_item-clause-inner
returns-in-Err-check_item-clause-inner g c =
    let layer = g.P.DataLayer.families in
    let enters = rw c.in-Ok.is at c.in-Some.ensures.step in
    let inv = c.loop-next.invariant in
    let at =
    inside_at layer _ _ _ _ _ _ (λ i. omega (arith, c.type_inv.bytes i)) inv.went enters
    c.in-Err-check_item.ensures.answer in
    rw (inv.place, c.error_in.ensures.offset, enters.role) at

pub returns-in-Err-check_item-clause-place : goal.returns-in-Err-check_item-clause-place
returns-in-Err-check_item-clause-place g c =
    rejected_at g.P.DataLayer.families c.args.bytes.now c.in-Err-check_item.error _ _
    (returns-in-Err-check_item-clause-inner g c)

pub returns-in-Err-check_item-clause-answer : goal.returns-in-Err-check_item-clause-answer
returns-in-Err-check_item-clause-answer g c =
    reads_error g.P.DataLayer.families c.args.bytes.now _
    (λ i. omega (arith, c.type_inv.bytes i)) (returns-in-Err-check_item-clause-place g c).0

pub returns-in-Err-clause-inner : goal.returns-in-Err-clause-inner
returns-in-Err-clause-inner g c =
    let stops = rw c.in-Err.is at c.in-Some.ensures.step in
    let inv = c.loop-next.invariant in
    let at =
    stops_at g.P.DataLayer.families _ _ _ _ (λ i. omega (arith, c.type_inv.bytes i))
    inv.went stops in
    rw inv.place at

pub returns-in-Err-clause-place : goal.returns-in-Err-clause-place
returns-in-Err-clause-place g c =
    rejected_at g.P.DataLayer.families c.args.bytes.now c.in-Err.error _ _
    (returns-in-Err-clause-inner g c)

pub returns-in-Err-check_item-clause-no_memory : goal.returns-in-Err-check_item-clause-no_memory
returns-in-Err-check_item-clause-no_memory g c =
    rejected_no_memory g.P.DataLayer.families c.families_lawful.ensures c.args.bytes.now _
    (returns-in-Err-check_item-clause-answer g c)

pub returns-in-Err-clause-answer : goal.returns-in-Err-clause-answer
returns-in-Err-clause-answer g c =
    reads_error g.P.DataLayer.families c.args.bytes.now _
    (λ i. omega (arith, c.type_inv.bytes i)) (returns-in-Err-clause-place g c).0

pub returns-in-Err-clause-no_memory : goal.returns-in-Err-clause-no_memory
returns-in-Err-clause-no_memory g c =
    rejected_no_memory g.P.DataLayer.families c.families_lawful.ensures c.args.bytes.now _
    (returns-in-Err-clause-answer g c)

pub returns-clause-answer : goal.returns-clause-answer
returns-clause-answer g c =
    ends g.P.DataLayer.families c.args.bytes.now c.loop-next.walk
    c.loop-next.invariant.went c.in_default.ensures.step.1
