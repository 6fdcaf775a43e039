use Rattle.std.specs.Prelude.{IsOk}
use Rattle.std.proofs.Common.{◌≡◌, ◌*◌, ◌+◌, ◌≤◌, length}
use Rattle.nla_frame.specs.NlaItems.{nla_items}
use Rattle.nla_frame.specs.declared.error.Family.TheVariants as family
use Rattle.linkinfo_table.proofs.Lasts.{left_of}
use Rattle.linkinfo_table.specs.Difference.{pairs_difference}
use Rattle.linkinfo.specs.Difference.{link_difference, strings_difference}
use Rattle.linkinfo.specs.Strings.{next_kinds, values_from}
use Rattle.linkinfo.proofs.difference.first_difference_in.Given as goal

abbrev pub invariant-loop-nla : goal.invariant-loop-nla
invariant-loop-nla g l =
    let layer = g.P.DataLayer.families in
    record {
      first : IsOk (values_from layer l.kinds (nla_items l.x));
      second : IsOk (values_from layer l.kinds (nla_items l.y));
      left :
          pairs_difference family.LinkInfo (link_difference layer) next_kinds l.kinds
          (left_of l.a l.x) (left_of l.b l.y)
          ≡ strings_difference layer l.a l.b;
      room : 4 * l.count + (length l.x + length l.y) ≤ length l.a + length l.b;
      left_a : length l.x ≤ length l.a;
      left_b : length l.y ≤ length l.b;
    }

abbrev pub decreases-loop-nla : goal.decreases-loop-nla
decreases-loop-nla g l = length l.x
