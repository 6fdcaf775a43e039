-- Integers in byte strings.
use Rattle.std.specs.Prelude.{ℕ, ◌+◌, ◌*◌, List, slice_index}

-- the 16-bit little-endian integer at an offset
abbrev pub le16 : List ℕ → ℕ → ℕ
le16 s at = slice_index s at + slice_index s (at + 1) * 256

-- the 32-bit little-endian integer at an offset
abbrev pub le32 : List ℕ → ℕ → ℕ
le32 s at = le16 s at + le16 s (at + 2) * 65536

-- the big-endian ones
abbrev pub be16 : List ℕ → ℕ → ℕ
be16 s at = slice_index s at * 256 + slice_index s (at + 1)

abbrev pub be32 : List ℕ → ℕ → ℕ
be32 s at = be16 s at * 65536 + be16 s (at + 2)
