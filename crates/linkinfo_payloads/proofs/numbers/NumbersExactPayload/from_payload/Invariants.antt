use Rattle.std.proofs.Common.{◌≡◌, ◌%◌, ◌++◌, length, true}
use Rattle.linkinfo_payloads.specs.Arrays.{array_memory, array_of}
use Rattle.linkinfo_payloads.proofs.numbers.NumbersExactPayload.from_payload.Given as goal

abbrev pub invariant-loop-rest : goal.invariant-loop-rest
invariant-loop-rest g l =
    let width = g.N.Fixed.WIDTH in
    let of = g.N.Fixed.value_of in
    record {
      so_far : l.items.items ++ array_of width of l.rest ≡ array_of width of l.payload;
      whole : length l.rest % width ≡ 0;
      memory : array_memory width l.payload ≡ true;
    }

abbrev pub decreases-loop-rest : goal.decreases-loop-rest
decreases-loop-rest g l = length l.rest
