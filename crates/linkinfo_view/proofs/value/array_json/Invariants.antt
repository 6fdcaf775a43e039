use Rattle.std.proofs.Common.{◌≡◌, ◌%◌, ◌++◌, length, map}
use Rattle.serde_json.specs.View.{view}
use Rattle.linkinfo_view.proofs.Parts.{parts_of}
use Rattle.linkinfo_view.proofs.value.array_json.Given as goal

abbrev pub invariant-loop-rest : goal.invariant-loop-rest
invariant-loop-rest l =
    (map view l.items.items ++ parts_of l.width l.shape l.rest
    ≡ parts_of l.width l.shape l.payload)
    × (length l.rest % l.width ≡ 0)

abbrev pub decreases-loop-rest : goal.decreases-loop-rest
decreases-loop-rest l = length l.rest
