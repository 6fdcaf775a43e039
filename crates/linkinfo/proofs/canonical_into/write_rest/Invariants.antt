use Rattle.std.proofs.Common.{length}
use Rattle.std.specs.Prelude.{IsOk}
use Rattle.std.specs.List.{AllByRecursion}
use Rattle.nla_frame.specs.Attribute.{Fits, list_string}
use Rattle.nla_frame.specs.Canonical.{attributes_for}
use Rattle.nla_frame.specs.NlaItems.{nla_items}
use Rattle.nla_frame.proofs.Emitting.{Written}
use Rattle.linkinfo.specs.Items.{link_attribute}
use Rattle.linkinfo.specs.Strings.{values_from}
use Rattle.linkinfo.specs.Walks.{left}
use Rattle.linkinfo.proofs.canonical_into.write_rest.Given as goal

abbrev pub invariant-loop-next : goal.invariant-loop-next
invariant-loop-next g l =
    let layer = g.P.DataLayer.families in
    let first = l.initial.walk in
    let all =
    attributes_for (link_attribute layer) (values_from layer first.kinds (nla_items (left first)))
    in
    let now =
    attributes_for (link_attribute layer)
    (values_from layer l.walk.kinds (nla_items (left l.walk))) in
    record {
      accepted : IsOk (values_from layer l.walk.kinds (nla_items (left l.walk)));
      each : AllByRecursion Fits now;
      so_far : Written (list_string all) (list_string now) l.place l.fn.buffer l.buffer;
    }

abbrev pub decreases-loop-next : goal.decreases-loop-next
decreases-loop-next g l = length (left l.walk)
