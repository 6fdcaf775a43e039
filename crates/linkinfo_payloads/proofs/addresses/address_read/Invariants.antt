use Rattle.std.proofs.Common.{◌≡◌, ◌+◌, ◌*◌, ◌≤◌, false, length}
use Rattle.nla_frame.specs.NlaItems.{nla_items}
use Rattle.linkinfo_payloads.specs.Addresses.{address_headers, address_memory, addresses}
use Rattle.linkinfo_payloads.proofs.AddressSteps.{with_front}
use Rattle.linkinfo_payloads.proofs.addresses.address_read.Given as goal

abbrev pub invariant-loop-next : goal.invariant-loop-next
invariant-loop-next g l =
    let width = g.A.Fixed.WIDTH in
    let of = g.A.Fixed.value_of in
    record {
      answer : with_front l.items.items (addresses width of (nla_items l.rest))
          ≡ addresses width of (nla_items l.payload);
      certain : address_memory width (nla_items l.payload) ≡ false →
          nla_items l.rest ≡ nla_items l.payload;
      counted : l.count + address_headers width (nla_items l.rest)
          ≡ l.fn.count + address_headers width (nla_items l.payload);
      rises : l.fn.count ≤ l.count;
      room : 4 * l.count + length l.rest ≤ 4 * l.fn.count + length l.payload;
    }

abbrev pub decreases-loop-next : goal.decreases-loop-next
decreases-loop-next g l = length l.rest
