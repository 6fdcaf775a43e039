use Rattle.linkinfo.proofs.MetInside.{inside_stays}
use Rattle.linkinfo.proofs.MetStays.{data_stays, string_stays}
use Rattle.linkinfo.proofs.unmet_laws.stays_met.Goals as goal

pub returns-clause-data : goal.returns-clause-data
returns-clause-data g c = λ l inside have more want stay e.
    data_stays l inside have more want stay e

pub returns-clause-list : goal.returns-clause-list
returns-clause-list g c = λ have more want same e.
    string_stays g.P.DataLayer.families have more want same e

pub returns-clause-inside : goal.returns-clause-inside
returns-clause-inside g c = λ have more want gained e.
    inside_stays g.P.DataLayer.families have more want gained e
