-- Whether a datum is one of a shape, by computing.
use Rattle.std.specs.Prelude.{
  ℕ,
  ◌^◌,
  Bool,
  true,
  false,
  nat_lt,
  ◌&&◌,
}
use Rattle.linkinfo_shapes.specs.Data.{
  Value,
  bytes,
  empty,
  mac,
  number,
  pair,
  signed,
  text,
  truth,
  v4,
  v6,
}
use Rattle.linkinfo_shapes.specs.declared.shape.Shape.{Shape}
use Rattle.linkinfo_shapes.specs.declared.shape.Shape.TheVariants.{
  U8,
  Le16,
  Le32,
  Le64,
  Be16,
  Be32,
  Be64,
  I32,
  Truth,
  TruthOne,
  Mark,
  Name,
  V4,
  V6,
  GeneveV4,
  GeneveV6,
  Ip,
  Mac,
  BePair,
  FlagPair,
  EmptyOrByte,
  Scrub,
  Raw,
}

-- the variants of values, and the bounds of their numbers
abbrev pub is_number_below : ℕ → Value → Bool
is_number_below bound (number n) = nat_lt n bound
is_number_below bound _ = false

abbrev pub is_signed : Value → Bool
is_signed (signed z) = true
is_signed _ = false

abbrev pub is_truth : Value → Bool
is_truth (truth b) = true
is_truth _ = false

abbrev pub is_empty : Value → Bool
is_empty empty = true
is_empty _ = false

abbrev pub is_text : Value → Bool
is_text (text s) = true
is_text _ = false

abbrev pub is_v4 : Value → Bool
is_v4 (v4 a) = true
is_v4 _ = false

abbrev pub is_v6 : Value → Bool
is_v6 (v6 a) = true
is_v6 _ = false

abbrev pub is_ip : Value → Bool
is_ip (v4 a) = true
is_ip (v6 a) = true
is_ip _ = false

abbrev pub is_mac : Value → Bool
is_mac (mac s) = true
is_mac _ = false

abbrev pub is_pair_below : ℕ → Value → Bool
is_pair_below bound (pair a b) = nat_lt a bound && nat_lt b bound
is_pair_below bound _ = false

abbrev pub is_empty_or_byte : Value → Bool
is_empty_or_byte empty = true
is_empty_or_byte (number n) = nat_lt n 256
is_empty_or_byte _ = false

abbrev pub is_bytes : Value → Bool
is_bytes (bytes s) = true
is_bytes _ = false

-- whether the value is a datum of the shape, as `Suits` says it
unfoldable pub is_suited : Shape → Value → Bool
is_suited U8 value = is_number_below 256 value
is_suited Le16 value = is_number_below (2 ^ 16) value
is_suited Le32 value = is_number_below (2 ^ 32) value
is_suited Le64 value = is_number_below (2 ^ 64) value
is_suited Be16 value = is_number_below (2 ^ 16) value
is_suited Be32 value = is_number_below (2 ^ 32) value
is_suited Be64 value = is_number_below (2 ^ 64) value
is_suited I32 value = is_signed value
is_suited Truth value = is_truth value
is_suited TruthOne value = is_truth value
is_suited Mark value = is_empty value
is_suited Name value = is_text value
is_suited V4 value = is_v4 value
is_suited V6 value = is_v6 value
is_suited GeneveV4 value = is_v4 value
is_suited GeneveV6 value = is_v6 value
is_suited Ip value = is_ip value
is_suited Mac value = is_mac value
is_suited BePair value = is_pair_below (2 ^ 16) value
is_suited FlagPair value = is_pair_below (2 ^ 32) value
is_suited EmptyOrByte value = is_empty_or_byte value
is_suited Scrub value = is_truth value
is_suited Raw value = is_bytes value
is_suited _ value = false
