use Rattle.std.proofs.Common.{◌≡◌, length}
use Rattle.std.specs.Prelude.{IsOk}
use Rattle.nla_frame.specs.Answers.{verdict}
use Rattle.nla_frame.specs.Canonical.{attributes_for}
use Rattle.nla_frame.specs.NlaItems.{nla_items}
use Rattle.linkinfo_table.proofs.Measuring.{Remains}
use Rattle.linkinfo.specs.Items.{link_attribute}
use Rattle.linkinfo.specs.Strings.{values_from}
use Rattle.linkinfo.specs.Walks.{left}
use Rattle.linkinfo.proofs.canonical_into.rest_measure.Given as goal

abbrev pub invariant-loop-next : goal.invariant-loop-next
invariant-loop-next g l =
    let layer = g.P.DataLayer.families in
    let first = l.initial.walk in
    let all = values_from layer first.kinds (nla_items (left first)) in
    let now = values_from layer l.walk.kinds (nla_items (left l.walk)) in
    record {
      answer : verdict now ≡ verdict all;
      so_far : IsOk now →
          Remains l.total (attributes_for (link_attribute layer) now)
          (attributes_for (link_attribute layer) all);
    }

abbrev pub decreases-loop-next : goal.decreases-loop-next
decreases-loop-next g l = length (left l.walk)
