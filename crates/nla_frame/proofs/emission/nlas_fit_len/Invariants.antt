use Rattle.std.proofs.Common.{◌≡◌, ◌+◌, ◌<◌, ◌^◌, length, drop, map}
use Rattle.std.specs.List.{AllByRecursion}
use Rattle.nla_frame.specs.Attribute.{Fits, list_string}
use Rattle.nla_frame.proofs.emission.nlas_fit_len.Given as goal

abbrev pub invariant-loop-item : goal.invariant-loop-item
invariant-loop-item g l =
    let attributes = map g.T.Nla.attribute l.items in
    let left = map g.T.Nla.attribute (drop l.item-index l.items) in
    record {
      small : l.total < 2 ^ 64;
      so_far : l.total + length (list_string left) ≡ length (list_string attributes);
      each : AllByRecursion Fits left → AllByRecursion Fits attributes;
      needed : AllByRecursion Fits attributes → AllByRecursion Fits left;
    }
