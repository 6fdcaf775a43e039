use Rattle.std.proofs.Common.{length, arith, ap, sym, ◌∙◌}
use Rattle.std.proofs.lemmas.Bool.{eqb-false, eqb-true}
use Rattle.std.proofs.lemmas.List.{nil_from_length}
use Rattle.linkinfo_print.proofs.Cutting.{cuts_last_line, cuts_long_line, cuts_no_line}
use Rattle.linkinfo_print.proofs.units.Cutter.cut_open_line.Goals as goal

pub returns-then-is_empty : goal.returns-then-is_empty
returns-then-is_empty c =
    let none = nil_from_length _ (eqb-true _ _ (sym c.is_empty.ensures ∙ c.if-is_empty.true)) in
    cuts_no_line c.args.self.now c.args.bytes.now c.args.is_end c.nothing.result
    c.requires.goes_on c.requires.lines c.requires.no_feed (omega (arith, ap length none))
    (λ _. none) c.nothing.ensures.unit c.nothing.ensures.taken

pub returns-then-is_end : goal.returns-then-is_end
returns-then-is_end c =
    cuts_last_line c.args.self.now c.args.bytes.now c.args.is_end c.end_line.result
    c.end_line.new.self c.requires.goes_on c.requires.lines c.requires.no_feed c.if-is_end.true
    (omega (arith, eqb-false _ _ (sym c.is_empty.ensures ∙ c.if-is_empty.false)))
    c.end_line.ensures.unit c.end_line.ensures.taken c.end_line.ensures.next

pub returns-then-bytes-gt-MOST_BYTES : goal.returns-then-bytes-gt-MOST_BYTES
returns-then-bytes-gt-MOST_BYTES c =
    cuts_long_line c.args.self.now c.args.bytes.now c.args.is_end c.begin_long_line.result
    c.begin_long_line.new.self c.requires.goes_on c.requires.lines c.requires.no_feed
    c.if-bytes-gt-MOST_BYTES.true c.begin_long_line.ensures.unit c.begin_long_line.ensures.taken
    c.begin_long_line.ensures.next

pub returns : goal.returns
returns c =
    cuts_no_line c.args.self.now c.args.bytes.now c.args.is_end c.nothing-2.result
    c.requires.goes_on c.requires.lines c.requires.no_feed c.if-bytes-gt-MOST_BYTES.false
    (λ e. cc (e, c.if-is_end.false)) c.nothing-2.ensures.unit c.nothing-2.ensures.taken
