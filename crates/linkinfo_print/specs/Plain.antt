-- Bytes that a terminal shows as they are.
use Rattle.std.specs.Prelude.{
  ◌==◌,
  ◌&&◌,
  ◌||◌,
  ℕ,
  Bool,
  nat_le,
  if◌then◌else◌,
  List,
  map,
}
use Rattle.std.specs.List.{AllPass}

-- printable ASCII, or a line feed
abbrev pub is_plain : ℕ → Bool
is_plain byte = nat_le 32 byte && nat_le byte 126 || byte == 10

-- the byte, or a question mark in place of one that is not plain
abbrev pub plain_byte : ℕ → ℕ
plain_byte byte = if is_plain byte then byte else 63

abbrev pub plain : List ℕ → List ℕ
plain bytes = map plain_byte bytes

-- each byte is printable ASCII, or a line feed
abbrev pub IsPlain : List ℕ → Type 0
IsPlain bytes = AllPass is_plain bytes
