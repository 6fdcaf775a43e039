use Rattle.std.proofs.Common.{arith}
use Rattle.std.proofs.lemmas.List.{take_rest}
use Rattle.std.proofs.lemmas.Result.{err_from_is_err_and}
use Rattle.linkinfo_messages.proofs.Linking.{
  Ahead,
  ahead,
  visits,
  passes,
  finds_link,
  finds_bad_link,
  finds_bad_message,
  finds_end,
}
use Rattle.linkinfo_messages.proofs.links.next_link.Goals as goal

pub returns-in_err-message : goal.returns-in_err-message
returns-in_err-message c =
    let p = err_from_is_err_and c.from_residual.result c.from_residual.ensures.1 in
    rw (p.1, p.2) (finds_bad_message _ _ _ _ _ _ _ _ c.loop-place.invariant
    c.loop-place-test.true (take_rest c.args.bytes.now c.loop-place.place)
    c.in_err-message.ensures.reads c.in_err-message.ensures.counted)

pub overflow_add-place : goal.overflow_add-place
overflow_add-place c =
    let h : Ahead c.args.bytes.now c.loop-place.place c.in_ok-message.message c.in_ok-message.len =
    ahead _ _ _ _ _ c.loop-place-test.true (take_rest c.args.bytes.now c.loop-place.place)
    c.in_ok-message.ensures.reads in
    omega (arith, h.within)

pub returns-in_err-link : goal.returns-in_err-link
returns-in_err-link c =
    let p = err_from_is_err_and c.from_residual-in_err-link.result
    c.from_residual-in_err-link.ensures.1 in
    let h : Ahead c.args.bytes.now c.loop-place.place c.in_ok-message.message c.in_ok-message.len =
    ahead _ _ _ _ _ c.loop-place-test.true (take_rest c.args.bytes.now c.loop-place.place)
    c.in_ok-message.ensures.reads in
    let v = visits _ _ _ _ _ _ _ _ _ c.loop-place.invariant h c.in_ok-message.ensures.counted
    c.in_err-link.ensures.counted c.in_err-link.ensures.quarter in
    rw (p.1, p.2) (finds_bad_link _ _ _ _ _ _ _ _ v c.in_err-link.ensures.link)

pub returns-in-Some : goal.returns-in-Some
returns-in-Some c =
    let h : Ahead c.args.bytes.now c.loop-place.place c.in_ok-message.message c.in_ok-message.len =
    ahead _ _ _ _ _ c.loop-place-test.true (take_rest c.args.bytes.now c.loop-place.place)
    c.in_ok-message.ensures.reads in
    let v = visits _ _ _ _ _ _ _ _ _ c.loop-place.invariant h c.in_ok-message.ensures.counted
    c.in_ok-link.ensures.counted c.in_ok-link.ensures.quarter in
    let says = rw c.in-Some.is at c.in_ok-link.ensures.link in
    let slices = rw c.in-Some.is at c.in_ok-link.ensures.slices in
    finds_link _ _ _ _ _ _ _ _ v says slices

pub loop-place-smaller : goal.loop-place-smaller
loop-place-smaller c =
    let h : Ahead c.args.bytes.now c.loop-place.place c.in_ok-message.message c.in_ok-message.len =
    ahead _ _ _ _ _ c.loop-place-test.true (take_rest c.args.bytes.now c.loop-place.place)
    c.in_ok-message.ensures.reads in
    omega (arith, h.within, h.some)

pub loop-place-preserved : goal.loop-place-preserved
loop-place-preserved c =
    let h : Ahead c.args.bytes.now c.loop-place.place c.in_ok-message.message c.in_ok-message.len =
    ahead _ _ _ _ _ c.loop-place-test.true (take_rest c.args.bytes.now c.loop-place.place)
    c.in_ok-message.ensures.reads in
    let v = visits _ _ _ _ _ _ _ _ _ c.loop-place.invariant h c.in_ok-message.ensures.counted
    c.in_ok-link.ensures.counted c.in_ok-link.ensures.quarter in
    let says = rw c.in_default.is at c.in_ok-link.ensures.link in
    passes _ _ _ _ _ _ _ v says

pub returns : goal.returns
returns c = finds_end _ _ _ _ _ c.loop-place.invariant c.loop-place-test.false
