use Rattle.linkinfo_table.proofs.Differences.{none_where}
use Rattle.linkinfo.proofs.Differences.{strings_none}
use Rattle.linkinfo.proofs.laws.differences.Goals as goal

pub returns : goal.returns
returns g c a b first second =
    none_where _ _
    (strings_none g.P.DataLayer.families c.families_lawful.ensures a b first second)
