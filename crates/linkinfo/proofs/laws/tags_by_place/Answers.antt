use Rattle.linkinfo.proofs.Places.{tags_by_place}
use Rattle.linkinfo.proofs.laws.tags_by_place.Goals as goal

pub returns : goal.returns
returns c = λ before item u v led gave. tags_by_place c.args.bytes.now before item u v led gave
