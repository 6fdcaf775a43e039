-- Attributes, and the canonical byte string of each.
use Rattle.std.specs.Prelude.{
  ℕ,
  ◌+◌,
  ◌-◌,
  ◌%◌,
  ◌^◌,
  ◌<◌,
  ◌≤◌,
  List,
  ◌++◌,
  length,
  slice_index,
  replicate,
}
use Rattle.std.specs.Int.{w16, to_le_bytes}
use Rattle.std.specs.List.{flat_map, AllByRecursion}

-- a 16-bit type, flag bits included, and a payload
pub record Attribute : Type 0 where
  pub kind : ℕ
  pub value : List ℕ

-- each element is a byte
abbrev pub IsBytes : List ℕ → Type 0
IsBytes bytes = (i : ℕ) → slice_index bytes i < 256

-- the type has 16 bits, and the payload fits a 16-bit length field
pub record IsAttribute (a : Attribute) : Type 0 where
  pub kind : a.kind < 65536
  pub short : length a.value ≤ 65531
  pub bytes : IsBytes a.value

-- the type without its flags `NLA_F_NESTED` (0x8000) and `NLA_F_NET_BYTEORDER` (0x4000)
abbrev pub masked : ℕ → ℕ
masked kind = kind % 16384

-- the number of bytes missing to a multiple of four
abbrev pub pad : ℕ → ℕ
pad n = (4 - n % 4) % 4

-- the next multiple of four
abbrev pub aligned : ℕ → ℕ
aligned n = n + pad n

-- the header: the length of the payload plus four, then the type, each little-endian
abbrev pub header : Attribute → List ℕ
header a = to_le_bytes w16 (4 + length a.value) ++ to_le_bytes w16 a.kind

-- the byte string of an attribute: header, payload, and zeros up to a multiple of four
abbrev pub canonical_string : Attribute → List ℕ
canonical_string a = header a ++ (a.value ++ replicate (pad (length a.value)) 0)

-- the length of that byte string
abbrev pub buffer_len_of : Attribute → ℕ
buffer_len_of a = 4 + aligned (length a.value)

-- the byte string of a list: those of its attributes, one after another
abbrev pub list_string : List Attribute → List ℕ
list_string attributes = flat_map canonical_string attributes

-- the length field can count the payload
abbrev pub Fits : Attribute → Type 0
Fits a = length a.value ≤ 65531

-- each attribute fits, and the length of the list's byte string is a usize
pub record ListFits (attributes : List Attribute) : Type 0 where
  pub each : AllByRecursion Fits attributes
  pub total : length (list_string attributes) < 2 ^ 64
