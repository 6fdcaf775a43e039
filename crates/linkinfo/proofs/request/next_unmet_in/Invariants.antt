use Rattle.std.proofs.Common.{◌≡◌, ◌-◌, nat_lt, Option}
use Rattle.linkinfo_table.specs.Last.{attributes_of}
use Rattle.linkinfo_table.specs.Unmet.{counted_unmet, first_told}
use Rattle.linkinfo_table.specs.Unmets.{first_at}
use Rattle.linkinfo_table.specs.declared.last.PlacedNla.{PlacedNla}
use Rattle.linkinfo.specs.Unmets.{linked_unmets}
use Rattle.linkinfo.proofs.request.next_unmet_in.Given as goal

abbrev pub invariant-loop-block : goal.invariant-loop-block
invariant-loop-block g l =
    let layer = g.P.DataLayer.families in
    let unmet =
    counted_unmet
    (λ (found : Option PlacedNla) (p : PlacedNla).
    first_at l.from (linked_unmets layer l.have l.want found p))
    (attributes_of l.have) (attributes_of l.want) in
    record { first : l.first ≡ first_told (λ k. nat_lt k l.block) unmet (attributes_of l.want) }

abbrev pub decreases-loop-block : goal.decreases-loop-block
decreases-loop-block g l = l.end - l.block
