use Rattle.nla_frame.proofs.Emitting.{WrittenUpTo}
use Rattle.nla_frame.proofs.emission.write_attributes.Given as goal

abbrev pub invariant-loop-item : goal.invariant-loop-item
invariant-loop-item g l =
    WrittenUpTo g.T.Nla.attribute l.items l.item-index l.place l.fn.buffer l.buffer
