use Rattle.std.proofs.Common.{◌≡◌, length}
use Rattle.linkinfo_view.specs.Attributes.{attributes, has_type}
use Rattle.linkinfo_view.proofs.attributes.has_type.Given as goal

abbrev pub invariant-loop-attribute : goal.invariant-loop-attribute
invariant-loop-attribute l =
    has_type l.kind (attributes l.rest) ≡ has_type l.kind (attributes l.bytes)

abbrev pub decreases-loop-attribute : goal.decreases-loop-attribute
decreases-loop-attribute l = length l.rest
