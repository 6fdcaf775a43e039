use Rattle.std.proofs.Common.{◌≡◌, length}
use Rattle.linkinfo.specs.Walks.{items_left}
use Rattle.linkinfo_print.specs.ListData.{comes_again}
use Rattle.linkinfo_print.proofs.list.comes_again.Given as goal

abbrev pub invariant-loop-item : goal.invariant-loop-item
invariant-loop-item l =
    comes_again l.kind (items_left l.rest) ≡ comes_again l.kind (items_left l.walk)

abbrev pub decreases-loop-item : goal.decreases-loop-item
decreases-loop-item l = length (items_left l.rest)
