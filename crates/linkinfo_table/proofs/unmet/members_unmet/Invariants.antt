use Rattle.std.specs.Prelude.{IsOk}
use Rattle.std.specs.List.{AllByRecursion}
use Rattle.std.proofs.Common.{◌≡◌, ◌*◌, ◌+◌, ◌≤◌, length, List}
use Rattle.nla_frame.specs.NlaItems.{nla_items}
use Rattle.linkinfo_table.specs.Last.{StandsIn, attributes_of}
use Rattle.linkinfo_table.specs.Lists.{values}
use Rattle.linkinfo_table.specs.Unmets.{first_at, members_unmets}
use Rattle.linkinfo_table.specs.declared.last.PlacedNla.{PlacedNla}
use Rattle.linkinfo_table.proofs.Lasts.{left_of}
use Rattle.linkinfo_table.proofs.unmet.members_unmet.Given as goal

abbrev pub invariant-loop-nla : goal.invariant-loop-nla
invariant-loop-nla g l =
    let family = g.F.LinkFamily in
    let unmet =
    λ (list : List PlacedNla). first_at l.from
    (members_unmets family.FAMILY (family.alike l.ctx) (attributes_of l.have) list) in
    record {
      accepted : IsOk (values (family.meaning l.ctx) (nla_items l.rest));
      stand : AllByRecursion (StandsIn l.want) (left_of l.want l.rest);
      left : unmet (left_of l.want l.rest) ≡ unmet (attributes_of l.want);
      room : 4 * l.count + length l.rest ≤ length l.want;
    }

abbrev pub decreases-loop-nla : goal.decreases-loop-nla
decreases-loop-nla g l = length l.rest
