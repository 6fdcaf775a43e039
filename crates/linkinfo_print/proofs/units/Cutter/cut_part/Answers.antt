use Rattle.std.proofs.Common.{◌∷◌, [], arith, ap, sym, ◌∙◌}
use Rattle.linkinfo_print.specs.Units.{portion}
use Rattle.std.proofs.lemmas.Bool.{eqb-false, eqb-true}
use Rattle.std.proofs.lemmas.List.{nil_from_length}
use Rattle.linkinfo_print.proofs.Cutting.{cuts_no_frame, cuts_part}
use Rattle.linkinfo_print.proofs.units.Cutter.cut_part.Goals as goal

pub returns-then-is_empty : goal.returns-then-is_empty
returns-then-is_empty c =
    let none = nil_from_length _ (eqb-true _ _ (sym c.is_empty.ensures ∙ c.if-is_empty.true)) in
    cuts_no_frame c.args.self.now c.args.bytes.now c.args.is_end c.nothing.result c.args.framing
    c.requires.frames c.requires.part (λ _. none) c.nothing.ensures.unit
    c.nothing.ensures.taken

pub returns-then-is_end : goal.returns-then-is_end
returns-then-is_end c =
    let old = c.args.self.now in
    cuts_part old c.args.bytes.now c.args.is_end c.take_last.result c.take_last.new.self
    c.args.framing c.requires.frames c.requires.part c.if-is_end.true
    (omega (arith, eqb-false _ _ (sym c.is_empty.ensures ∙ c.if-is_empty.false)))
    c.take_last.ensures.ended
    (c.take_last.ensures.unit ∙ ap (λ p. portion old.number old.place p ∷ []) c.part.ensures)
    c.take_last.ensures.taken

pub returns : goal.returns
returns c =
    cuts_no_frame c.args.self.now c.args.bytes.now c.args.is_end c.nothing-2.result c.args.framing
    c.requires.frames c.requires.part (λ e. cc (e, c.if-is_end.false)) c.nothing-2.ensures.unit
    c.nothing-2.ensures.taken
