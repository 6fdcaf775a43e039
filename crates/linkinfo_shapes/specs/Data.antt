-- Data as the program holds them: one type for all shapes, where `Carrier` gives one type per
-- shape.
use Rattle.std.specs.Prelude.{
  ◌≡◌,
  ℕ,
  ◌+◌,
  ◌^◌,
  ◌<◌,
  ℤ,
  pos,
  Bool,
  false,
  List,
  [],
  length,
  Option,
  Some,
  None,
  Result,
  Ok,
  Err,
}
use Rattle.std.specs.Net.Addr.{octets_of}
use Rattle.std.specs.declared.net.ip_addr.IpAddr.{IpAddr}
use Rattle.std.specs.declared.net.ip_addr.IpAddr.TheVariants as ip
use Rattle.std.specs.declared.net.ipv4_addr.Ipv4Addr.{Ipv4Addr}
use Rattle.std.specs.declared.net.ipv6_addr.Ipv6Addr.{Ipv6Addr}
use Rattle.nla_frame.specs.declared.error.Cause.{Cause}
use Rattle.linkinfo_shapes.specs.Shapes.{Carrier, means, canon}
use Rattle.linkinfo_shapes.specs.declared.shape.Shape.{Shape}
use Rattle.linkinfo_shapes.specs.declared.shape.Shape.TheVariants.{
  U8,
  Le16,
  Le32,
  Le64,
  Be16,
  Be32,
  Be64,
  I32,
  Truth,
  TruthOne,
  Mark,
  Name,
  V4,
  V6,
  GeneveV4,
  GeneveV6,
  Ip,
  Mac,
  BePair,
  FlagPair,
  EmptyOrByte,
  Scrub,
  Raw,
}
use Rattle.linkinfo_shapes.specs.declared.datum.Datum.{Datum}
use Rattle.linkinfo_shapes.specs.declared.datum.Datum.TheVariants as datum

-- the value of a `Datum`, without references
pub data Value : Type 0 where
  number : ℕ → Value
  signed : ℤ → Value
  truth : Bool → Value
  empty : Value
  text : List ℕ → Value
  v4 : Ipv4Addr → Value
  v6 : Ipv6Addr → Value
  mac : List ℕ → Value
  pair : ℕ → ℕ → Value
  bytes : List ℕ → Value

abbrev pub value_of : Datum → Value
value_of (datum.Number n) = number n
value_of (datum.Signed z) = signed z
value_of (datum.Truth b) = truth b
value_of datum.Empty = empty
value_of (datum.Text s) = text s.now
value_of (datum.V4 a) = v4 a
value_of (datum.V6 a) = v6 a
value_of (datum.Mac s) = mac s
value_of (datum.Pair a b) = pair a b
value_of (datum.Bytes s) = bytes s.now

-- an address as a value
abbrev pub ip_value : IpAddr → Value
ip_value (ip.V4 a) = v4 a
ip_value (ip.V6 a) = v6 a

-- no byte, or one
abbrev pub byte_value : Option ℕ → Value
byte_value None = empty
byte_value (Some b) = number b

-- the datum of a shape as a value
abbrev pub wrap : (shape : Shape) → Carrier shape → Value
wrap U8 n = number n
wrap Le16 n = number n
wrap Le32 n = number n
wrap Le64 n = number n
wrap Be16 n = number n
wrap Be32 n = number n
wrap Be64 n = number n
wrap I32 z = signed z
wrap Truth b = truth b
wrap TruthOne b = truth b
wrap Mark x = empty
wrap Name s = text s
wrap V4 a = v4 a
wrap V6 a = v6 a
wrap GeneveV4 a = v4 a
wrap GeneveV6 a = v6 a
wrap Ip a = ip_value a
wrap Mac s = mac s
wrap BePair x = pair x.0 x.1
wrap FlagPair x = pair x.0 x.1
wrap EmptyOrByte x = byte_value x
wrap Scrub b = truth b
wrap Raw s = bytes s
wrap _ x = empty

-- the content of a value of each variant; any other value gives zero, false, or nothing
abbrev pub number_in : Value → ℕ
number_in (number n) = n
number_in _ = 0

abbrev pub signed_in : Value → ℤ
signed_in (signed z) = z
signed_in _ = pos 0

abbrev pub truth_in : Value → Bool
truth_in (truth b) = b
truth_in _ = false

abbrev pub text_in : Value → List ℕ
text_in (text s) = s
text_in _ = []

abbrev pub v4_in : Value → Ipv4Addr
v4_in (v4 a) = a
v4_in _ = record { octets = [] }

abbrev pub v6_in : Value → Ipv6Addr
v6_in (v6 a) = a
v6_in _ = record { segments = [] }

abbrev pub ip_in : Value → IpAddr
ip_in (v4 a) = ip.V4 a
ip_in value = ip.V6 (v6_in value)

abbrev pub mac_in : Value → List ℕ
mac_in (mac s) = s
mac_in _ = []

abbrev pub pair_in : Value → ℕ × ℕ
pair_in (pair a b) = (a, b)
pair_in _ = (0, 0)

abbrev pub byte_in : Value → Option ℕ
byte_in (number n) = Some n
byte_in _ = None

abbrev pub bytes_in : Value → List ℕ
bytes_in (bytes s) = s
bytes_in _ = []

-- the datum of a shape in a value that suits it
abbrev pub unwrap : (shape : Shape) → Value → Carrier shape
unwrap U8 value = number_in value
unwrap Le16 value = number_in value
unwrap Le32 value = number_in value
unwrap Le64 value = number_in value
unwrap Be16 value = number_in value
unwrap Be32 value = number_in value
unwrap Be64 value = number_in value
unwrap I32 value = signed_in value
unwrap Truth value = truth_in value
unwrap TruthOne value = truth_in value
unwrap Mark value = tt
unwrap Name value = text_in value
unwrap V4 value = v4_in value
unwrap V6 value = v6_in value
unwrap GeneveV4 value = v4_in value
unwrap GeneveV6 value = v6_in value
unwrap Ip value = ip_in value
unwrap Mac value = mac_in value
unwrap BePair value = pair_in value
unwrap FlagPair value = pair_in value
unwrap EmptyOrByte value = byte_in value
unwrap Scrub value = truth_in value
unwrap Raw value = bytes_in value
unwrap _ value = tt

-- the variants of values, and the bounds of their numbers
abbrev pub IsNumberBelow : ℕ → Value → Type 0
IsNumberBelow bound (number n) = n < bound
IsNumberBelow bound _ = ⊥

abbrev pub IsSignedValue : Value → Type 0
IsSignedValue (signed z) = Unit {0}
IsSignedValue _ = ⊥

abbrev pub IsTruthValue : Value → Type 0
IsTruthValue (truth b) = Unit {0}
IsTruthValue _ = ⊥

abbrev pub IsEmptyValue : Value → Type 0
IsEmptyValue empty = Unit {0}
IsEmptyValue _ = ⊥

abbrev pub IsTextValue : Value → Type 0
IsTextValue (text s) = Unit {0}
IsTextValue _ = ⊥

abbrev pub IsV4Value : Value → Type 0
IsV4Value (v4 a) = Unit {0}
IsV4Value _ = ⊥

abbrev pub IsV6Value : Value → Type 0
IsV6Value (v6 a) = Unit {0}
IsV6Value _ = ⊥

abbrev pub IsIpValue : Value → Type 0
IsIpValue (v4 a) = Unit {0}
IsIpValue (v6 a) = Unit {0}
IsIpValue _ = ⊥

abbrev pub IsMacValue : Value → Type 0
IsMacValue (mac s) = Unit {0}
IsMacValue _ = ⊥

abbrev pub IsPairBelow : ℕ → Value → Type 0
IsPairBelow bound (pair a b) = (a < bound) × (b < bound)
IsPairBelow bound _ = ⊥

abbrev pub IsEmptyOrByte : Value → Type 0
IsEmptyOrByte empty = Unit {0}
IsEmptyOrByte (number n) = n < 256
IsEmptyOrByte _ = ⊥

abbrev pub IsBytesValue : Value → Type 0
IsBytesValue (bytes s) = Unit {0}
IsBytesValue _ = ⊥

-- the value is a datum of the shape
unfoldable pub Suits : Shape → Value → Type 0
Suits U8 value = IsNumberBelow 256 value
Suits Le16 value = IsNumberBelow (2 ^ 16) value
Suits Le32 value = IsNumberBelow (2 ^ 32) value
Suits Le64 value = IsNumberBelow (2 ^ 64) value
Suits Be16 value = IsNumberBelow (2 ^ 16) value
Suits Be32 value = IsNumberBelow (2 ^ 32) value
Suits Be64 value = IsNumberBelow (2 ^ 64) value
Suits I32 value = IsSignedValue value
Suits Truth value = IsTruthValue value
Suits TruthOne value = IsTruthValue value
Suits Mark value = IsEmptyValue value
Suits Name value = IsTextValue value
Suits V4 value = IsV4Value value
Suits V6 value = IsV6Value value
Suits GeneveV4 value = IsV4Value value
Suits GeneveV6 value = IsV6Value value
Suits Ip value = IsIpValue value
Suits Mac value = IsMacValue value
Suits BePair value = IsPairBelow (2 ^ 16) value
Suits FlagPair value = IsPairBelow (2 ^ 32) value
Suits EmptyOrByte value = IsEmptyOrByte value
Suits Scrub value = IsTruthValue value
Suits Raw value = IsBytesValue value
Suits _ value = ⊥

-- `x` is the shape's datum in `d` if `d` suits the shape, and the value `other` otherwise
abbrev pub IsDatumOr : (shape : Shape) → Carrier shape → Datum → Carrier shape → Type 0
IsDatumOr shape other d x =
    (Suits shape (value_of d) → x ≡ unwrap shape (value_of d))
    × ((Suits shape (value_of d) → ⊥) → x ≡ other)

-- what a payload means, as a value
abbrev pub wrapped : (shape : Shape) → Result (Carrier shape) Cause → Result Value Cause
wrapped shape (Ok x) = Ok (wrap shape x)
wrapped shape (Err e) = Err e

unfoldable pub reads : Shape → List ℕ → Result Value Cause
reads shape payload = wrapped shape (means shape payload)

-- the payload that is written for a value
unfoldable pub written : Shape → Value → List ℕ
written shape value = canon shape (unwrap shape value)

-- the result is the datum of the payload, which suits the shape, or why the payload is rejected
unfoldable pub ReadsAs : Shape → List ℕ → Result Datum Cause → Type 0
ReadsAs shape payload (Ok d) = (reads shape payload ≡ Ok (value_of d)) × Suits shape (value_of d)
ReadsAs shape payload (Err e) = reads shape payload ≡ Err e

-- the length of every payload that is written under the shape, if they all have one length
abbrev pub fixed_length : Shape → Option ℕ
fixed_length U8 = Some 1
fixed_length Le16 = Some 2
fixed_length Le32 = Some 4
fixed_length Le64 = Some 8
fixed_length Be16 = Some 2
fixed_length Be32 = Some 4
fixed_length Be64 = Some 8
fixed_length I32 = Some 4
fixed_length Truth = Some 1
fixed_length TruthOne = Some 1
fixed_length Mark = Some 0
fixed_length Name = None
fixed_length V4 = None
fixed_length V6 = None
fixed_length GeneveV4 = None
fixed_length GeneveV6 = None
fixed_length Ip = None
fixed_length Mac = None
fixed_length BePair = Some 4
fixed_length FlagPair = Some 8
fixed_length EmptyOrByte = None
fixed_length Scrub = Some 4
fixed_length Raw = None
fixed_length _ = None

-- the length of the payload that is written for a value under any other shape
abbrev pub value_length : Value → ℕ
value_length (number n) = 1
value_length (text s) = length s + 1
value_length (v4 a) = length a.octets
value_length (v6 a) = length (octets_of a.segments)
value_length (mac s) = length s
value_length (bytes s) = length s
value_length _ = 0
