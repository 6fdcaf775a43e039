use Rattle.std.specs.List.{AllByRecursion}
use Rattle.std.proofs.Common.{◌≡◌, ◌*◌, ◌+◌, ◌≤◌, length, Option}
use Rattle.linkinfo_table.specs.Last.{attributes_of, covers}
use Rattle.linkinfo_table.proofs.Lasts.{left_of}
use Rattle.linkinfo_table.specs.Unmet.{counted_unmet, first_told}
use Rattle.linkinfo_table.specs.Unmets.{first_at}
use Rattle.linkinfo_table.specs.declared.last.PlacedNla.{PlacedNla}
use Rattle.linkinfo.specs.Unmet.{link_at}
use Rattle.linkinfo.specs.Unmets.{linked_unmets}
use Rattle.linkinfo.specs.UnmetSteps.{IsAcceptedLink}
use Rattle.linkinfo.proofs.request.unmet_of_types.Given as goal

abbrev pub invariant-loop-nla : goal.invariant-loop-nla
invariant-loop-nla g l =
    let layer = g.P.DataLayer.families in
    let unmet =
    counted_unmet
    (λ (found : Option PlacedNla) (p : PlacedNla).
    first_at l.from (linked_unmets layer l.have l.want found p))
    (attributes_of l.have) (attributes_of l.want) in
    record {
      accepted : AllByRecursion (λ p. IsAcceptedLink layer (link_at l.want p))
          (left_of l.want l.rest);
      left :
          first_told (covers l.start) unmet (left_of l.want l.rest)
          ≡ first_told (covers l.start) unmet (attributes_of l.want);
      room : 4 * l.count + length l.rest ≤ length l.want;
    }

abbrev pub decreases-loop-nla : goal.decreases-loop-nla
decreases-loop-nla g l = length l.rest
