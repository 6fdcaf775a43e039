use Rattle.std.proofs.Common.{◌≡◌, ◌+◌, ◌*◌, ◌≤◌, length}
use Rattle.std.specs.Prelude.{IsOk}
use Rattle.nla_frame.specs.Answers.{verdict}
use Rattle.nla_frame.specs.Canonical.{attributes_for}
use Rattle.nla_frame.specs.NlaItems.{nla_items}
use Rattle.linkinfo_table.specs.Lists.{values}
use Rattle.linkinfo_table.proofs.Measuring.{Remains}
use Rattle.linkinfo_table.proofs.list.list_measure.Given as goal

abbrev pub invariant-loop-next : goal.invariant-loop-next
invariant-loop-next g l =
    let m = g.F.LinkFamily.meaning l.ctx in
    let attribute = g.F.Nla.attribute in
    record {
      answer : verdict (values m (nla_items l.rest)) ≡ verdict (values m (nla_items l.bytes));
      so_far : IsOk (values m (nla_items l.rest)) →
          Remains l.total (attributes_for attribute (values m (nla_items l.rest)))
          (attributes_for attribute (values m (nla_items l.bytes)));
      room : 4 * l.count + length l.rest ≤ length l.bytes;
    }

abbrev pub decreases-loop-next : goal.decreases-loop-next
decreases-loop-next g l = length l.rest
