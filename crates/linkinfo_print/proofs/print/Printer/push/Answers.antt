use Rattle.std.proofs.Common.{◌+◌, ◌∙◌, ap, arith, drop, length, length-drop, refl, subst, sym}
use Rattle.std.proofs.lemmas.List.{drop-drop, take_rest}
use Rattle.linkinfo_print.specs.InputAnswers.{PrintsUpTo}
use Rattle.linkinfo_print.proofs.InputAnswering.{up_to_more, up_to_nothing, up_to_rest}
use Rattle.linkinfo_print.proofs.print.Printer.push.Goals as goal

pub loop-taken-init : goal.loop-taken-init
loop-taken-init c =
    record {
      taken = 0;
      rest = refl;
      within = omega arith;
      prints = up_to_nothing c.args.self.now c.args.bytes.now c.args.is_end;
    }

pub loop-taken-preserved : goal.loop-taken-preserved
loop-taken-preserved c =
    let bytes = c.args.bytes.now in
    let rest = c.loop-taken.rest.now in
    let before = c.loop-taken.invariant in
    let n = c.in_ok-taken.taken in
    record {
      taken = before.taken + n;
      rest = take_rest rest n ∙ ap (drop n) before.rest ∙ drop-drop n before.taken bytes;
      within = omega (
        arith,
        before.within,
        ap length before.rest,
        length-drop before.taken bytes,
        c.in_ok-taken.ensures.within,
      );
      prints = subst (PrintsUpTo c.args.self.now bytes c.args.is_end c.print_next.new.self)
          (sym (take_rest rest n))
          (up_to_more c.args.self.now c.loop-taken.self c.print_next.new.self bytes rest
          (drop n rest) c.args.is_end before.prints c.in_ok-taken.ensures.prints);
    }

pub returns-then-taken-eq0-clause-prints : goal.returns-then-taken-eq0-clause-prints
returns-then-taken-eq0-clause-prints c =
    let before = c.loop-taken.invariant in
    up_to_rest c.args.self.now c.loop-taken.self c.print_next.new.self c.args.bytes.now
    c.loop-taken.rest.now c.args.is_end before.taken c.in_ok-taken.taken before.rest
    before.within before.prints c.in_ok-taken.ensures.prints c.if-taken-eq0.true
