use Rattle.std.proofs.Common.{◌≡◌, ◌*◌, ◌+◌, ◌-◌, ◌≤◌, length}
use Rattle.nla_frame.specs.NlaItems.{nla_items}
use Rattle.linkinfo_table.specs.Contents.{listed}
use Rattle.linkinfo_table.proofs.Differences.{error_left}
use Rattle.linkinfo_table.proofs.located.list_error.Given as goal

abbrev pub invariant-loop-next : goal.invariant-loop-next
invariant-loop-next g l =
    let family = g.F.LinkFamily in
    let of_list =
    listed family.FAMILY (family.meaning l.ctx) (family.alike l.ctx) family.IS_SET in
    record {
      left :
          error_left of_list (family.contents l.ctx) (length l.bytes - length l.rest)
          (nla_items l.rest)
          ≡ error_left of_list (family.contents l.ctx) 0 (nla_items l.bytes);
      room : 4 * l.count + length l.rest ≤ length l.bytes;
    }

abbrev pub decreases-loop-next : goal.decreases-loop-next
decreases-loop-next g l = length l.rest
