use Rattle.std.proofs.Common.{length}
use Rattle.nla_frame.specs.Walk.{items_left}
use Rattle.linkinfo_c.proofs.Framed.{Framed}
use Rattle.linkinfo_c.proofs.attributes.write_attributes.Given as goal

abbrev pub invariant-loop-next : goal.invariant-loop-next
invariant-loop-next g l =
    Framed g.R.AttributeRecord.record_at l.bytes l.contents l.initial.records l.records l.count
    l.place l.nlas

abbrev pub decreases-loop-next : goal.decreases-loop-next
decreases-loop-next g l = length (items_left l.nlas)
