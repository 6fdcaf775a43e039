use Rattle.std.proofs.Common.{◌≡◌, ◌+◌, length, drop, map}
use Rattle.std.specs.List.{AllByRecursion}
use Rattle.nla_frame.specs.Attribute.{Fits, list_string}
use Rattle.nla_frame.proofs.emission.nlas_buffer_len.Given as goal

abbrev pub invariant-loop-item : goal.invariant-loop-item
invariant-loop-item g l =
    let left = map g.T.Nla.attribute (drop l.item-index l.items) in
    record {
      so_far : l.total + length (list_string left)
          ≡ length (list_string (map g.T.Nla.attribute l.items));
      each : AllByRecursion Fits left;
    }
