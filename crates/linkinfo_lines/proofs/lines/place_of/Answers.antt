use Rattle.linkinfo_lines.proofs.Places.{place_is}
use Rattle.linkinfo_lines.proofs.lines.place_of.Goals as goal

pub returns : goal.returns
returns c = place_is _ _ _ c.memchr.ensures
