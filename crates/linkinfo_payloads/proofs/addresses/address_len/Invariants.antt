use Rattle.std.proofs.Common.{◌≡◌, ◌+◌, ◌<◌, ◌^◌, drop, length}
use Rattle.nla_frame.specs.Attribute.{list_string}
use Rattle.linkinfo_payloads.specs.Addresses.{address_string, numbered}
use Rattle.linkinfo_payloads.proofs.addresses.address_len.Given as goal

abbrev pub invariant-loop-item : goal.invariant-loop-item
invariant-loop-item g l =
    let bytes = g.A.Fixed.bytes_of in
    let i = l.item-index in
    record {
      small : l.total < 2 ^ 64;
      so_far : l.total + length (list_string (numbered bytes i (drop i l.items)))
          ≡ length (address_string bytes l.items);
    }
