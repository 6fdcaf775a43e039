use Rattle.std.proofs.Common.{◌+◌, ◌*◌, ◌≤◌, length}
use Rattle.std.specs.Prelude.{IsOk}
use Rattle.nla_frame.specs.NlaItems.{nla_items}
use Rattle.nla_frame.proofs.Emitting.{Written}
use Rattle.linkinfo_payloads.specs.Addresses.{addresses}
use Rattle.linkinfo_payloads.proofs.AddressSteps.{written_from}
use Rattle.linkinfo_payloads.proofs.addresses.address_write.Given as goal

abbrev pub invariant-loop-next : goal.invariant-loop-next
invariant-loop-next g l =
    let width = g.A.Fixed.WIDTH in
    let of = g.A.Fixed.value_of in
    let bytes = g.A.Fixed.bytes_of in
    record {
      accepted : IsOk (addresses width of (nla_items l.rest));
      so_far : Written (written_from width of bytes 0 (nla_items l.payload))
          (written_from width of bytes l.index (nla_items l.rest)) l.place l.fn.buffer
          l.buffer;
      few : 8 * l.index ≤ l.place;
      room : 4 * l.count + length l.rest ≤ length l.payload;
    }

abbrev pub decreases-loop-next : goal.decreases-loop-next
decreases-loop-next g l = length l.rest
