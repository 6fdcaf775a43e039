use Rattle.linkinfo_print.proofs.Cutting.{cuts_ended_line}
use Rattle.linkinfo_print.proofs.units.Cutter.cut_line.Goals as goal

pub returns-in-Some : goal.returns-in-Some
returns-in-Some c =
    cuts_ended_line c.args.self.now c.args.bytes.now c.args.is_end c.end_line.result
    c.end_line.new.self c.in-Some.end c.requires.goes_on c.requires.lines c.in-Some.ensures
    c.end_line.ensures.unit c.end_line.ensures.taken c.end_line.ensures.next
