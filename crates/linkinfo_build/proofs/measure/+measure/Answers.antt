use Rattle.std.proofs.Common.{arith, rules, sym, ap, length, ◌∙◌, ◌+◌}
use Rattle.std.proofs.lemmas.List.{length-drop, take_rest}
use Rattle.linkinfo_build.specs.Build.{list_up_to}
use Rattle.linkinfo_build.proofs.Listing.{measured_fault, measured_step}
use Rattle.linkinfo_build.proofs.measure.+measure.Goals as goal

pub list_len-returns-in-Err-clause-answer : goal.list_len-returns-in-Err-clause-answer
list_len-returns-in-Err-clause-answer t c =
    sym
    (c.loop-at.invariant.so_far
    ∙ measured_fault (list_up_to c.args.depth) c.args.rows c.args.values.now c.loop-at.at
    c.loop-at.total _ c.loop-at-test.true _ (take_rest c.args.values.now (c.loop-at.at + 1))
    c.in-Err.error c.moved.result (sym c.in-Err.ensures.answer) c.moved.ensures)

pub list_len-loop-at-preserved : goal.list_len-loop-at-preserved
list_len-loop-at-preserved t c = record {
  so_far =
      c.loop-at.invariant.so_far
      ∙ measured_step (list_up_to c.args.depth) c.args.rows c.args.values.now c.loop-at.at
      c.loop-at.total _ c.loop-at-test.true _ (take_rest c.args.values.now (c.loop-at.at + 1))
      c.in-Ok.len (4 + c.next_multiple_of-size.result)
      c.inside_count.result (sym c.in-Ok.ensures.answer) (search (rules, arith))
      (omega (arith, c.if-total-size-gt-PAYLOAD_LEN_MAX.false)) c.inside_count.ensures
      (c.in-Ok.ensures.inside);
  within =
      omega (
        arith,
        c.loop-at-test.true,
        c.in-Ok.ensures.inside,
        c.inside_count.ensures,
        ap length (take_rest c.args.values.now (c.loop-at.at + 1)),
        length-drop (c.loop-at.at + 1) c.args.values.now,
      );
  short = omega (arith, c.if-total-size-gt-PAYLOAD_LEN_MAX.false);
}
