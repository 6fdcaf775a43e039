use Rattle.std.proofs.Common.{◌≡◌, ◌+◌, ◌*◌, ◌≤◌, List, ℕ, length}
use Rattle.std.specs.Prelude.{IsOk}
use Rattle.nla_frame.specs.NlaItems.{nla_items}
use Rattle.linkinfo_table.specs.Lists.{alike_pairs}
use Rattle.linkinfo_payloads.specs.Addresses.{address_headers, addresses, same_payload}
use Rattle.linkinfo_payloads.proofs.addresses.address_same.Given as goal

abbrev pub invariant-loop-next : goal.invariant-loop-next
invariant-loop-next g l =
    let width = g.A.Fixed.WIDTH in
    let of = g.A.Fixed.value_of in
    let headers = λ (p : List ℕ). address_headers width (nla_items p) in
    record {
      first : IsOk (addresses width of (nla_items l.x));
      second : IsOk (addresses width of (nla_items l.y));
      same : alike_pairs same_payload (nla_items l.x) (nla_items l.y)
          ≡ alike_pairs same_payload (nla_items l.a) (nla_items l.b);
      counted : l.count + (headers l.x + headers l.y) ≡ l.fn.count + (headers l.a + headers l.b);
      rises : l.fn.count ≤ l.count;
      room : 4 * l.count + (length l.x + length l.y) ≤ 4 * l.fn.count + (length l.a + length l.b);
    }

abbrev pub decreases-loop-next : goal.decreases-loop-next
decreases-loop-next g l = length l.x
