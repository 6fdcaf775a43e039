use Rattle.std.specs.Prelude.{◌≡◌, ◌*◌, ◌+◌, ◌≤◌, length}
use Rattle.linkinfo_names.specs.Standing.{stands_at}
use Rattle.linkinfo_names.proofs.standing.list_attribute_at.Given as goal

abbrev pub invariant-loop-step : goal.invariant-loop-step
invariant-loop-step l = record {
  left : stands_at l.family l.rest l.left ≡ stands_at l.fn.family l.fn.bytes l.fn.offset;
  room : 4 * l.count + length l.rest ≤ length l.bytes;
}

abbrev pub decreases-loop-step : goal.decreases-loop-step
decreases-loop-step l = length l.rest
