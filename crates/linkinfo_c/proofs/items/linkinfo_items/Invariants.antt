use Rattle.std.proofs.Common.{length}
use Rattle.linkinfo.specs.Walks.{items_left}
use Rattle.linkinfo_c.proofs.Walked.{Walked}
use Rattle.linkinfo_c.proofs.items.linkinfo_items.Given as goal

abbrev pub invariant-loop-next : goal.invariant-loop-next
invariant-loop-next l = Walked l.bytes l.initial.items l.items l.count l.place l.walk

abbrev pub decreases-loop-next : goal.decreases-loop-next
decreases-loop-next l = length (items_left l.walk)
