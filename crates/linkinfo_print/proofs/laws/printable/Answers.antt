use Rattle.linkinfo_print.proofs.PrintableAnswers.{
  list_printable,
  message_printable,
  pair_printable,
}
use Rattle.linkinfo_print.proofs.PrintableTexts.{prints_unchanged}
use Rattle.linkinfo_print.specs.ListData.{list_data}
use Rattle.linkinfo_print.specs.MessageData.{message_data, time_text}
use Rattle.linkinfo_print.specs.PairData.{pair_data}
use Rattle.linkinfo_print.specs.declared.report.Printed.TheVariants as printed
use Rattle.std.specs.Option.{option_map}
use Rattle.linkinfo_print.proofs.laws.printable.Goals as goal

pub returns-clause-data : goal.returns-clause-data
returns-clause-data c = prints_unchanged

pub returns-clause-list : goal.returns-clause-list
returns-clause-list c = λ s bytes.
    prints_unchanged printed.List (list_data s) (list_printable s bytes)

pub returns-clause-pair : goal.returns-clause-pair
returns-clause-pair c = λ q a b pair first second.
    prints_unchanged printed.Pair (pair_data q a b pair) (pair_printable q a b pair first second)

pub returns-clause-message : goal.returns-clause-message
returns-clause-message c = λ event flags index name list time bytes.
    prints_unchanged printed.Message
    (message_data event flags index name (option_map list_data list) (option_map time_text time))
    (message_printable event flags index name list time bytes)
