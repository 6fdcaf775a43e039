use Rattle.std.specs.Prelude.{IfSome}
use Rattle.std.proofs.Common.{◌≡◌, ◌-◌, length, nat_lt, Option}
use Rattle.linkinfo_table.specs.Last.{attributes_of}
use Rattle.linkinfo_table.specs.Unmet.{IsUnmetWithin, counted_unmet, first_told}
use Rattle.linkinfo_table.specs.Unmets.{attribute_unmets, first_at, found_unmets}
use Rattle.linkinfo_table.specs.declared.last.PlacedNla.{PlacedNla}
use Rattle.linkinfo_table.proofs.unmet.lasts_unmet.Given as goal

abbrev pub invariant-loop-block : goal.invariant-loop-block
invariant-loop-block g l =
    let family = g.F.LinkFamily in
    let unmet =
    λ (found : Option PlacedNla) (p : PlacedNla). first_at l.from
    (found_unmets family.FAMILY
    (attribute_unmets (family.contents l.ctx) family.FAMILY (family.alike l.ctx)) found p) in
    record {
      first :
          l.first
          ≡ first_told (λ k. nat_lt k l.block)
          (counted_unmet unmet (attributes_of l.have) (attributes_of l.want))
          (attributes_of l.want);
      within : IfSome l.first (λ told. IsUnmetWithin (length l.want) (length l.have) told.unmet);
    }

abbrev pub decreases-loop-block : goal.decreases-loop-block
decreases-loop-block g l = l.end - l.block
