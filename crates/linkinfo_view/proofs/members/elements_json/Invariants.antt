use Rattle.std.proofs.Common.{◌≡◌, ◌+◌, ◌++◌, ◌≤◌, length, map}
use Rattle.serde_json.specs.View.{view}
use Rattle.linkinfo_view.specs.Attributes.{attributes, rest_of}
use Rattle.linkinfo_view.specs.View.{elements_from}
use Rattle.linkinfo_view.proofs.members.elements_json.Given as goal

abbrev pub invariant-loop-attribute : goal.invariant-loop-attribute
invariant-loop-attribute l =
    (map view l.items.items ++ elements_from l.elements l.place (attributes l.rest)
    ≡ elements_from l.elements 0 (attributes l.payload))
    × (rest_of l.rest ≡ rest_of l.payload)
    × (l.place + length l.rest ≤ length l.payload)

abbrev pub decreases-loop-attribute : goal.decreases-loop-attribute
decreases-loop-attribute l = length l.rest
