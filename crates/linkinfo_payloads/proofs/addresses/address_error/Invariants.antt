use Rattle.std.proofs.Common.{◌≡◌, ◌*◌, ◌+◌, ◌-◌, ◌≤◌, length}
use Rattle.nla_frame.specs.NlaItems.{nla_items}
use Rattle.linkinfo_payloads.proofs.AddressSteps.{error_from}
use Rattle.linkinfo_payloads.proofs.addresses.address_error.Given as goal

abbrev pub invariant-loop-next : goal.invariant-loop-next
invariant-loop-next g l =
    let width = g.A.Fixed.WIDTH in
    let of = g.A.Fixed.value_of in
    record {
      left :
          error_from width of (length l.payload - length l.rest) (nla_items l.rest)
          ≡ error_from width of 0 (nla_items l.payload);
      room : 4 * l.count + length l.rest ≤ length l.payload;
    }

abbrev pub decreases-loop-next : goal.decreases-loop-next
decreases-loop-next g l = length l.rest
