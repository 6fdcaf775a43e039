use Rattle.linkinfo_view.proofs.Meant.{reads_meant}
use Rattle.std.proofs.Common.{rules}
use Rattle.linkinfo_view.proofs.value.datum_of.Goals as goal

pub returns-in_default : goal.returns-in_default
returns-in_default c = reads_meant _ _ _ (search rules) c.read_datum.ensures
