use Rattle.linkinfo_build.proofs.Suited.{suited, suits_passes}
use Rattle.linkinfo_build.proofs.laws.suited.Goals as goal

pub returns : goal.returns
returns c = λ shape value. (suited shape value, suits_passes shape value)
