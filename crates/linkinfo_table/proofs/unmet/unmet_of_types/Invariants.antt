use Rattle.std.specs.Prelude.{IsOk}
use Rattle.std.specs.List.{AllByRecursion}
use Rattle.std.proofs.Common.{◌≡◌, ◌*◌, ◌+◌, ◌≤◌, length, Option}
use Rattle.nla_frame.specs.NlaItems.{nla_items}
use Rattle.linkinfo_table.specs.Last.{StandsIn, attributes_of, covers}
use Rattle.linkinfo_table.specs.Lists.{values}
use Rattle.linkinfo_table.specs.Unmet.{counted_unmet, first_told}
use Rattle.linkinfo_table.specs.Unmets.{attribute_unmets, first_at, found_unmets}
use Rattle.linkinfo_table.specs.declared.last.PlacedNla.{PlacedNla}
use Rattle.linkinfo_table.proofs.Lasts.{left_of}
use Rattle.linkinfo_table.proofs.unmet.unmet_of_types.Given as goal

abbrev pub invariant-loop-nla : goal.invariant-loop-nla
invariant-loop-nla g l =
    let family = g.F.LinkFamily in
    let unmet =
    λ (found : Option PlacedNla) (p : PlacedNla). first_at l.from
    (found_unmets family.FAMILY
    (attribute_unmets (family.contents l.ctx) family.FAMILY (family.alike l.ctx)) found p) in
    let counted = counted_unmet unmet (attributes_of l.have) (attributes_of l.want) in
    record {
      accepted : IsOk (values (family.meaning l.ctx) (nla_items l.rest));
      stand : AllByRecursion (StandsIn l.want) (left_of l.want l.rest);
      left :
          first_told (covers l.start) counted (left_of l.want l.rest)
          ≡ first_told (covers l.start) counted (attributes_of l.want);
      room : 4 * l.count + length l.rest ≤ length l.want;
    }

abbrev pub decreases-loop-nla : goal.decreases-loop-nla
decreases-loop-nla g l = length l.rest
