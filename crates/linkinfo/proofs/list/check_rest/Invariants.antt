use Rattle.std.proofs.Common.{◌≡◌, ◌+◌, ◌*◌, ◌≤◌, length}
use Rattle.nla_frame.specs.Answers.{verdict}
use Rattle.nla_frame.specs.NlaItems.{nla_items}
use Rattle.linkinfo.specs.Strings.{headers_from, values_from}
use Rattle.linkinfo.specs.Walks.{left}
use Rattle.linkinfo.proofs.list.check_rest.Given as goal

abbrev pub invariant-loop-next : goal.invariant-loop-next
invariant-loop-next g l =
    let layer = g.P.DataLayer.families in
    let first = l.initial.walk in
    record {
      answer : verdict (values_from layer l.walk.kinds (nla_items (left l.walk)))
          ≡ verdict (values_from layer first.kinds (nla_items (left first)));
      counted : (l.count + l.walk.attributes.examined)
          + headers_from layer l.walk.kinds (nla_items (left l.walk))
          ≡ (l.initial.count + first.attributes.examined)
          + headers_from layer first.kinds (nla_items (left first));
      room : 4 * (l.count + l.walk.attributes.examined) + length (left l.walk)
          ≤ 4 * (l.initial.count + first.attributes.examined) + length (left first);
    }

abbrev pub decreases-loop-next : goal.decreases-loop-next
decreases-loop-next g l = length (left l.walk)
