use Rattle.linkinfo_view.proofs.PrintableData.{attributes_printable}
use Rattle.linkinfo_view.proofs.laws.printable.Goals as goal

pub returns : goal.returns
returns c = attributes_printable
