use Rattle.linkinfo_view.proofs.Printable.{escaped_printable}
use Rattle.linkinfo_view.proofs.laws.escaped_texts.Goals as goal

pub returns : goal.returns
returns c = escaped_printable
