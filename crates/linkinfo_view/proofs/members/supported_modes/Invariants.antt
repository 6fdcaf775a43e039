use Rattle.std.proofs.Common.{◌≡◌, None, length}
use Rattle.linkinfo_view.specs.Attributes.{attributes}
use Rattle.linkinfo_view.specs.View.{supported_modes}
use Rattle.linkinfo_view.proofs.members.supported_modes.Given as goal

abbrev pub invariant-loop-attribute : goal.invariant-loop-attribute
invariant-loop-attribute l =
    supported_modes l.modes (attributes l.rest) ≡ supported_modes None (attributes l.bytes)

abbrev pub decreases-loop-attribute : goal.decreases-loop-attribute
decreases-loop-attribute l = length l.rest
