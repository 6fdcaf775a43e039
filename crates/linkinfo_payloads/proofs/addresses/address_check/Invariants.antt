use Rattle.std.proofs.Common.{◌≡◌, ◌+◌, ◌*◌, ◌≤◌, length}
use Rattle.nla_frame.specs.Answers.{verdict}
use Rattle.nla_frame.specs.NlaItems.{nla_items}
use Rattle.linkinfo_table.specs.Payloads.{placed}
use Rattle.linkinfo_payloads.specs.Addresses.{address_headers, addresses}
use Rattle.linkinfo_payloads.proofs.addresses.address_check.Given as goal

abbrev pub invariant-loop-next : goal.invariant-loop-next
invariant-loop-next g l =
    let width = g.A.Fixed.WIDTH in
    let of = g.A.Fixed.value_of in
    record {
      answer : verdict (placed l.family l.kind (addresses width of (nla_items l.rest)))
          ≡ verdict (placed l.family l.kind (addresses width of (nla_items l.payload)));
      counted : l.count + address_headers width (nla_items l.rest)
          ≡ l.fn.count + address_headers width (nla_items l.payload);
      rises : l.fn.count ≤ l.count;
      room : 4 * l.count + length l.rest ≤ 4 * l.fn.count + length l.payload;
    }

abbrev pub decreases-loop-next : goal.decreases-loop-next
decreases-loop-next g l = length l.rest
