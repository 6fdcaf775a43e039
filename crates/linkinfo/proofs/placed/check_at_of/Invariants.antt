use Rattle.std.proofs.Common.{◌≡◌, ◌+◌, ◌*◌, ◌≤◌, length}
use Rattle.linkinfo.specs.Walks.{left, place_of}
use Rattle.linkinfo.proofs.Placing.{Went}
use Rattle.linkinfo.proofs.placed.check_at_of.Given as goal

abbrev pub invariant-loop-next : goal.invariant-loop-next
invariant-loop-next g l = record {
  went : Went g.P.DataLayer.families l.bytes l.walk;
  place : l.place ≡ place_of l.walk;
  room : 4 * (l.count + l.walk.attributes.examined) + length (left l.walk) ≤ length l.bytes;
}

abbrev pub decreases-loop-next : goal.decreases-loop-next
decreases-loop-next g l = length (left l.walk)
