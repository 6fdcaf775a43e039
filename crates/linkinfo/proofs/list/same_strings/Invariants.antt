use Rattle.std.proofs.Common.{◌≡◌, ◌+◌, ◌*◌, ◌≤◌, length}
use Rattle.std.specs.Prelude.{IsOk}
use Rattle.nla_frame.specs.NlaItems.{nla_items}
use Rattle.linkinfo.specs.Roles.{no_kinds}
use Rattle.linkinfo.specs.Strings.{alike_from, headers_from, values_from}
use Rattle.linkinfo.proofs.list.same_strings.Given as goal

abbrev pub invariant-loop-next : goal.invariant-loop-next
invariant-loop-next g l =
    let layer = g.P.DataLayer.families in
    record {
      first : IsOk (values_from layer l.kinds (nla_items l.x));
      second : IsOk (values_from layer l.kinds (nla_items l.y));
      same : alike_from layer l.kinds (nla_items l.x) (nla_items l.y)
          ≡ alike_from layer no_kinds (nla_items l.a) (nla_items l.b);
      counted : l.count
          + (headers_from layer l.kinds (nla_items l.x) + headers_from layer l.kinds
          (nla_items l.y))
          ≡ l.fn.count + (headers_from layer no_kinds (nla_items l.a)
          + headers_from layer no_kinds (nla_items l.b));
      rises : l.fn.count ≤ l.count;
      room : 4 * l.count + (length l.x + length l.y) ≤ 4 * l.fn.count + (length l.a + length l.b);
    }

abbrev pub decreases-loop-next : goal.decreases-loop-next
decreases-loop-next g l = length l.x
