use Rattle.linkinfo_print.proofs.InputAnswering.{none_left, still_waits, up_to_unit}
use Rattle.linkinfo_print.proofs.print.Printer.print_next.Goals as goal

pub returns-clause-prints : goal.returns-clause-prints
returns-clause-prints c =
    up_to_unit c.args.self.now c.print_unit.new.self c.args.bytes.now c.args.is_end
    c.cut-cut.result c.cut-cut.new.self c.in-Some.unit c.cut-cut.ensures c.in-Some.is
    c.in_ok-print_unit.ensures

pub returns-clause-waits : goal.returns-clause-waits
returns-clause-waits c = λ z.
    still_waits c.args.self.now c.print_unit.new.self c.cut-cut.new.self c.args.bytes.now _
    c.in_ok-print_unit.ensures (c.cut-cut.ensures.waits z)

pub returns-clause-all : goal.returns-clause-all
returns-clause-all c = λ e z.
    none_left c.args.self.now c.print_unit.new.self c.cut-cut.new.self c.args.bytes.now _
    c.in_ok-print_unit.ensures (c.cut-cut.ensures.all e z)
