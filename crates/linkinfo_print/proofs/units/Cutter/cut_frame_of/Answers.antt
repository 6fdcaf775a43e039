use Rattle.std.proofs.Common.{◌∷◌, [], ap, ◌∙◌}
use Rattle.linkinfo_print.specs.Units.{portion}
use Rattle.linkinfo_print.proofs.Cutting.{cuts_long_frame, cuts_whole_frame}
use Rattle.linkinfo_print.proofs.units.Cutter.cut_frame_of.Goals as goal

pub returns-then-len-gt-MOST_BYTES : goal.returns-then-len-gt-MOST_BYTES
returns-then-len-gt-MOST_BYTES c =
    cuts_long_frame c.args.self.now c.args.bytes.now c.args.is_end c.take_last.result
    c.take_last.new.self c.args.framing c.args.len c.requires.frames c.requires.len
    c.if-len-gt-MOST_BYTES.true c.take_last.ensures.ended c.take_last.ensures.unit
    c.take_last.ensures.taken

pub returns : goal.returns
returns c =
    let old = c.args.self.now in
    cuts_whole_frame old c.args.bytes.now c.args.is_end c.take.result c.take.new.self
    c.args.framing c.args.len c.requires.frames c.requires.len c.if-len-gt-MOST_BYTES.false
    c.if-len-bytes.false
    (c.take.ensures.unit ∙ ap (λ p. portion old.number old.place p ∷ []) c.part.ensures)
    c.take.ensures.taken c.take.ensures.next
