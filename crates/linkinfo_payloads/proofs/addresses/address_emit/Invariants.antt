use Rattle.std.proofs.Common.{◌*◌, ◌≤◌, drop}
use Rattle.nla_frame.specs.Attribute.{list_string}
use Rattle.nla_frame.proofs.Emitting.{Written}
use Rattle.linkinfo_payloads.specs.Addresses.{address_string, numbered}
use Rattle.linkinfo_payloads.proofs.addresses.address_emit.Given as goal

abbrev pub invariant-loop-item : goal.invariant-loop-item
invariant-loop-item g l =
    let bytes = g.A.Fixed.bytes_of in
    record {
      so_far : Written (address_string bytes l.items)
          (list_string (numbered bytes l.index (drop l.item-index l.items))) l.place l.fn.buffer
          l.buffer;
      few : 8 * l.index ≤ l.place;
    }
