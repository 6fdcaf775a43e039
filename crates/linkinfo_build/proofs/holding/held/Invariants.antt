use Rattle.std.proofs.Common.{take}
use Rattle.std.specs.List.{AllByRecursion}
use Rattle.linkinfo_build.specs.Reading.{IsHeld}
use Rattle.linkinfo_build.proofs.holding.held.Given as goal

abbrev pub invariant-loop-value : goal.invariant-loop-value
invariant-loop-value l = AllByRecursion IsHeld (take l.value-index l.values)
