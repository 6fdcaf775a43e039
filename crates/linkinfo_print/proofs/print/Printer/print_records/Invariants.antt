use Rattle.std.proofs.Common.{◌≡◌, List, Result, ◌++◌, length, map}
use Rattle.linkinfo_messages.specs.Captures.{RecordParts, records, records_left}
use Rattle.linkinfo_messages.specs.declared.capture_error.CaptureError.{CaptureError}
use Rattle.linkinfo_print.specs.Printing.{Answer}
use Rattle.linkinfo_print.specs.UnitAnswers.{AreRecordsAnswers, Prints, with_number}
use Rattle.linkinfo_print.proofs.print.Printer.print_records.Given as goal

-- the records but for those that are left are printed
abbrev pub invariant-loop-record : goal.invariant-loop-record
invariant-loop-record l =
    (front : List (Result RecordParts CaptureError))
    × (answers : List Answer)
    × (records l.fn.format 0 l.bytes ≡ front ++ records_left l.records)
    × AreRecordsAnswers l.place front answers
    × Prints l.initial.self (map (with_number l.initial.self.options.input l.number) answers) l.self

abbrev pub decreases-loop-record : goal.decreases-loop-record
decreases-loop-record l = length (records_left l.records)
