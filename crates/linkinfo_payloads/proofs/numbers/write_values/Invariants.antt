use Rattle.std.proofs.Common.{drop}
use Rattle.std.specs.List.{flat_map}
use Rattle.nla_frame.proofs.Emitting.{Written}
use Rattle.linkinfo_payloads.proofs.numbers.write_values.Given as goal

abbrev pub invariant-loop-item : goal.invariant-loop-item
invariant-loop-item g l =
    let bytes = g.N.Fixed.bytes_of in
    Written (flat_map bytes l.items) (flat_map bytes (drop l.item-index l.items)) l.place
    l.fn.buffer l.buffer
