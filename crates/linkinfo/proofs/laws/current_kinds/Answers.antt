use Rattle.linkinfo.proofs.Places.{kinds_by_place}
use Rattle.linkinfo.proofs.laws.current_kinds.Goals as goal

pub returns : goal.returns
returns g c = λ front xs h. kinds_by_place g.P.DataLayer.families front xs h
