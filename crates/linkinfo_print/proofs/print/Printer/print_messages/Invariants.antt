use Rattle.std.proofs.Common.{◌≡◌, List, Result, ◌++◌, length, map}
use Rattle.linkinfo_messages.specs.Links.{Link, links_of}
use Rattle.linkinfo_messages.specs.Messages.{messages}
use Rattle.linkinfo_messages.specs.Walks.{links_left}
use Rattle.linkinfo_messages.specs.declared.error.MessageError.{MessageError}
use Rattle.linkinfo_print.specs.Printing.{Answer}
use Rattle.linkinfo_print.specs.UnitAnswers.{AreLinkAnswers, Prints, with_number}
use Rattle.linkinfo_print.proofs.print.Printer.print_messages.Given as goal

-- the links but for those that are left are printed
abbrev pub invariant-loop-link : goal.invariant-loop-link
invariant-loop-link l =
    (front : List (Result Link MessageError))
    × (answers : List Answer)
    × (links_of (messages 0 l.bytes) ≡ front ++ links_left l.links)
    × AreLinkAnswers l.place l.time front answers
    × Prints l.initial.self (map (with_number l.initial.self.options.input l.number) answers) l.self

abbrev pub decreases-loop-link : goal.decreases-loop-link
decreases-loop-link l = length (links_left l.links)
