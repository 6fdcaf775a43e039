use Rattle.std.proofs.Common.{sym}
use Rattle.linkinfo_print.proofs.Cutting.{cuts_bad_message}
use Rattle.linkinfo_print.proofs.units.Cutter.cut_frame.Goals as goal

pub returns-in-Err : goal.returns-in-Err
returns-in-Err c =
    cuts_bad_message c.args.self.now c.args.bytes.now c.args.is_end c.take_last.result
    c.take_last.new.self c.args.framing c.in-Err.error c.requires (sym c.in-Err.ensures)
    c.take_last.ensures.ended c.take_last.ensures.unit c.take_last.ensures.taken
