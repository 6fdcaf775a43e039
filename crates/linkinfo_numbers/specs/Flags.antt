-- Flag sets with a last entry that has every bit.
use Rattle.std.specs.Prelude.{◌≡◌, ◌<◌, ◌^◌, ℕ, List}
use Rattle.std.specs.Int.RustNames.{bit_and}
use Rattle.std.proofs.Common.{◌∙◌, ap, arith}
use Rattle.std.proofs.lemmas.Nat.{and_mask}
use Rattle.bitflags.specs.Sets.{known_bits}

-- a number converted to a set of its width keeps all its bits
pub every_bit_8 : (table : List (List ℕ × ℕ)) → known_bits table ≡ 0xff → (n : ℕ) → n < 2 ^ 8 →
    bit_and n (known_bits table) ≡ n
every_bit_8 table known n h = ap (bit_and n) known ∙ (and_mask n 8 ∙ (omega arith))

pub every_bit_16 : (table : List (List ℕ × ℕ)) → known_bits table ≡ 0xffff → (n : ℕ) → n < 2 ^ 16 →
    bit_and n (known_bits table) ≡ n
every_bit_16 table known n h = ap (bit_and n) known ∙ (and_mask n 16 ∙ (omega arith))

pub every_bit_32 : (table : List (List ℕ × ℕ)) → known_bits table ≡ 0xffffffff → (n : ℕ) →
    n < 2 ^ 32 →
    bit_and n (known_bits table) ≡ n
every_bit_32 table known n h = ap (bit_and n) known ∙ (and_mask n 32 ∙ (omega arith))
