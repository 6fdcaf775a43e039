use Rattle.std.proofs.Common.{arith, drop, ◌-◌}
use Rattle.std.proofs.lemmas.List.{length-take}
use Rattle.nla_frame.proofs.ByteLists.{IsBytes-take, IsBytes-drop}
use Rattle.nla_frame.proofs.buffer.NlaBuffer.new_checked.Goals as goal

pub invariant_of-result : goal.invariant_of-result
invariant_of-result c =
    let bytes = c.args.bytes.now in
    let n = c.from_le_bytes-length.result - 4 in
    record {
      kind = omega (arith, c.from_le_bytes-kind.ensures, c.type_inv.bytes 2, c.type_inv.bytes 3);
      short = omega (
        arith,
        length-take n (drop 4 bytes),
        c.from_le_bytes-length.ensures,
        c.type_inv.bytes 0,
        c.type_inv.bytes 1,
      );
      bytes =
          IsBytes-take n (drop 4 bytes)
          (IsBytes-drop 4 bytes (λ i. omega (arith, c.type_inv.bytes i)));
    }

pub returns-clause-attribute : goal.returns-clause-attribute
returns-clause-attribute c = invariant_of-result c
