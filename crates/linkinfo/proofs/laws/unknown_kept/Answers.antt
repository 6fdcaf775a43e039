use Rattle.linkinfo.proofs.Places.{unknown_is_kept}
use Rattle.linkinfo.proofs.laws.unknown_kept.Goals as goal

pub returns : goal.returns
returns g c = λ t a e. unknown_is_kept g.P.DataLayer.families t a e
