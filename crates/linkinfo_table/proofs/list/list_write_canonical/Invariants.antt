use Rattle.std.proofs.Common.{◌+◌, ◌*◌, ◌≤◌, length}
use Rattle.std.specs.Prelude.{IsOk}
use Rattle.nla_frame.specs.NlaItems.{nla_items}
use Rattle.nla_frame.proofs.Emitting.{Written}
use Rattle.linkinfo_table.specs.Lists.{canonical_list, values}
use Rattle.linkinfo_table.proofs.list.list_write_canonical.Given as goal

abbrev pub invariant-loop-next : goal.invariant-loop-next
invariant-loop-next g l =
    let m = g.F.LinkFamily.meaning l.ctx in
    let attribute = g.F.Nla.attribute in
    record {
      accepted : IsOk (values m (nla_items l.rest));
      so_far : Written (canonical_list attribute m (nla_items l.bytes))
          (canonical_list attribute m (nla_items l.rest)) l.place l.fn.buffer l.buffer;
      room : 4 * l.count + length l.rest ≤ length l.bytes;
    }

abbrev pub decreases-loop-next : goal.decreases-loop-next
decreases-loop-next g l = length l.rest
