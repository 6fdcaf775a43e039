use Rattle.std.proofs.Common.{◌≡◌, ◌+◌, ◌*◌, ◌≤◌, length}
use Rattle.nla_frame.specs.NlaItems.{nla_items}
use Rattle.linkinfo_build.specs.Bytes.{are_addresses, is_address_list}
use Rattle.linkinfo_build.proofs.bytes.is_address_list.Given as goal

abbrev pub invariant-loop-step : goal.invariant-loop-step
invariant-loop-step l = record {
  same : are_addresses l.width l.number (nla_items l.rest) ≡ is_address_list l.width l.fn.bytes;
  room : 4 * l.count + length l.rest ≤ length l.bytes;
  counted : l.number ≤ l.count;
}

abbrev pub decreases-loop-step : goal.decreases-loop-step
decreases-loop-step l = length l.rest
