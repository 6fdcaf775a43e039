use Rattle.std.specs.Prelude.{IsOk}
use Rattle.std.specs.List.{list_any}
use Rattle.std.proofs.Common.{◌≡◌, ◌*◌, ◌+◌, ◌≤◌, length}
use Rattle.nla_frame.specs.NlaItems.{nla_items}
use Rattle.linkinfo_table.specs.Last.{attributes_of}
use Rattle.linkinfo_table.specs.Lists.{values}
use Rattle.linkinfo_table.specs.Unmet.{is_like}
use Rattle.linkinfo_table.proofs.Lasts.{left_of}
use Rattle.linkinfo_table.proofs.unmet.has_one_like.Given as goal

abbrev pub invariant-loop-nla : goal.invariant-loop-nla
invariant-loop-nla g l =
    let family = g.F.LinkFamily in
    let like = is_like (family.alike l.ctx) l.fn.wanted in
    record {
      accepted : IsOk (values (family.meaning l.ctx) (nla_items l.rest));
      left : list_any like (left_of l.have l.rest) ≡ list_any like (attributes_of l.have);
      room : 4 * l.count + length l.rest ≤ length l.have;
    }

abbrev pub decreases-loop-nla : goal.decreases-loop-nla
decreases-loop-nla g l = length l.rest
