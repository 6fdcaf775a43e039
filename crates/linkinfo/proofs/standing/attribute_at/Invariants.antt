use Rattle.std.specs.Prelude.{◌≡◌, ◌*◌, ◌+◌, ◌≤◌, length}
use Rattle.linkinfo.specs.Standing.{link_stands_at, stands_from}
use Rattle.linkinfo.proofs.standing.attribute_at.Given as goal

abbrev pub invariant-loop-step : goal.invariant-loop-step
invariant-loop-step l = record {
  left : stands_from l.kinds l.rest l.left ≡ link_stands_at l.fn.list l.fn.offset;
  room : 4 * l.count + length l.rest ≤ length l.list;
}

abbrev pub decreases-loop-step : goal.decreases-loop-step
decreases-loop-step l = length l.rest
