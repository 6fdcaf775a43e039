use Rattle.std.proofs.Common.{◌≡◌, length}
use Rattle.linkinfo_table.specs.Difference.{first_or}
use Rattle.linkinfo.specs.Strings.{last_kind}
use Rattle.linkinfo_view.specs.Attributes.{attributes}
use Rattle.linkinfo_print.specs.PairData.{kind_before}
use Rattle.linkinfo_print.proofs.compare.kind_before.Given as goal

abbrev pub invariant-loop-attribute : goal.invariant-loop-attribute
invariant-loop-attribute l =
    first_or (last_kind (attributes l.rest)) l.tag ≡ kind_before l.bytes l.offset

abbrev pub decreases-loop-attribute : goal.decreases-loop-attribute
decreases-loop-attribute l = length l.rest
