-- The shapes of payloads: what a payload means, the canonical payload that is written, which
-- payloads are equivalent.
use Rattle.std.specs.Prelude.{
  ◌≡◌,
  ℕ,
  ◌^◌,
  ◌<◌,
  ◌==◌,
  ℤ,
  Bool,
  true,
  false,
  not,
  if◌then◌else◌,
  List,
  [],
  ◌∷◌,
  ◌++◌,
  length,
  take,
  drop,
  slice_index,
  Option,
  Some,
  None,
  Result,
  Ok,
  Err,
  IsOk,
  FitsSigned,
}
use Rattle.std.specs.Bool.{beq}
use Rattle.std.specs.Int.{
  w16,
  w32,
  w64,
  cast_signed,
  cast_unsigned,
  from_be_bytes,
  from_le_bytes,
  to_be_bytes,
  to_le_bytes,
}
use Rattle.std.specs.Net.Addr.{octets_of}
use Rattle.std.specs.Str.{bytes_eq, is_utf8}
use Rattle.std.specs.declared.net.ip_addr.IpAddr.{IpAddr}
use Rattle.std.specs.declared.net.ip_addr.IpAddr.TheVariants as ip
use Rattle.std.specs.declared.net.ipv4_addr.Ipv4Addr.{Ipv4Addr}
use Rattle.std.specs.declared.net.ipv6_addr.Ipv6Addr.{Ipv6Addr}
use Rattle.nla_frame.specs.Attribute.{IsBytes}
use Rattle.nla_frame.specs.Canonical.{bytes_for}
use Rattle.nla_frame.specs.Payload.{of_length, ip_of, ipv4_of, ipv6_of, stripped}
use Rattle.nla_frame.specs.declared.error.Cause.{Cause}
use Rattle.nla_frame.specs.declared.error.Cause.TheVariants as cause
use Rattle.linkinfo_shapes.specs.declared.shape.Shape.{Shape}
use Rattle.linkinfo_shapes.specs.declared.shape.Shape.TheVariants.{
  U8,
  Le16,
  Le32,
  Le64,
  Be16,
  Be32,
  Be64,
  I32,
  Truth,
  TruthOne,
  Mark,
  Name,
  V4,
  V6,
  GeneveV4,
  GeneveV6,
  Ip,
  Mac,
  BePair,
  FlagPair,
  EmptyOrByte,
  Scrub,
  Raw,
  SelfList,
  Peer,
  Nested,
  BridgeId,
  LePair16,
  Le32x8,
  CanBitTimingConst,
  Le16s,
  Le32s,
  V4List,
  V6List,
}

-- a shape whose payloads are read here, and not by the family itself
abbrev pub IsPlain : Shape → Type 0
IsPlain SelfList = ⊥
IsPlain Peer = ⊥
IsPlain (Nested family) = ⊥
IsPlain BridgeId = ⊥
IsPlain LePair16 = ⊥
IsPlain Le32x8 = ⊥
IsPlain CanBitTimingConst = ⊥
IsPlain Le16s = ⊥
IsPlain Le32s = ⊥
IsPlain V4List = ⊥
IsPlain V6List = ⊥
IsPlain _ = Unit {0}

-- the data of a shape; for the shapes that a family reads itself, no payload is accepted here, and
-- nothing is a datum (`Holds`)
abbrev pub Carrier : Shape → Type 0
Carrier U8 = ℕ
Carrier Le16 = ℕ
Carrier Le32 = ℕ
Carrier Le64 = ℕ
Carrier Be16 = ℕ
Carrier Be32 = ℕ
Carrier Be64 = ℕ
Carrier I32 = ℤ
Carrier Truth = Bool
Carrier TruthOne = Bool
Carrier Mark = Unit {0}
Carrier Name = List ℕ
Carrier V4 = Ipv4Addr
Carrier V6 = Ipv6Addr
Carrier GeneveV4 = Ipv4Addr
Carrier GeneveV6 = Ipv6Addr
Carrier Ip = IpAddr
Carrier Mac = List ℕ
Carrier BePair = ℕ × ℕ
Carrier FlagPair = ℕ × ℕ
Carrier EmptyOrByte = Option ℕ
Carrier Scrub = Bool
Carrier Raw = List ℕ
Carrier _ = Unit {0}

-- the text of a name, or the cause Utf8
abbrev pub text_of : List ℕ → Result (List ℕ) Cause
text_of bytes = if is_utf8 bytes then Ok bytes else Err cause.Utf8

-- an address of `size` bytes; the length of the other version gives the cause AddressKind
abbrev pub of_version : {X : Type 0} → ℕ → ℕ → List ℕ → X → Result X Cause
of_version size other payload address = if length payload == other then Err cause.AddressKind
    else of_length size payload address

-- the datum of a payload, or why the payload is rejected
abbrev pub means : (shape : Shape) → List ℕ → Result (Carrier shape) Cause
means U8 payload = of_length 1 payload (slice_index payload 0)
means Le16 payload = of_length 2 payload (from_le_bytes w16 payload)
means Le32 payload = of_length 4 payload (from_le_bytes w32 payload)
means Le64 payload = of_length 8 payload (from_le_bytes w64 payload)
means Be16 payload = of_length 2 payload (from_be_bytes w16 payload)
means Be32 payload = of_length 4 payload (from_be_bytes w32 payload)
means Be64 payload = of_length 8 payload (from_be_bytes w64 payload)
means I32 payload = of_length 4 payload (cast_signed w32 (from_le_bytes w32 payload))
means Truth payload = of_length 1 payload (not (slice_index payload 0 == 0))
means TruthOne payload = of_length 1 payload (slice_index payload 0 == 1)
means Mark payload = Ok tt
means Name payload = text_of (stripped payload)
means V4 payload = of_length 4 payload (ipv4_of payload)
means V6 payload = of_length 16 payload (ipv6_of payload)
means GeneveV4 payload = of_version 4 16 payload (ipv4_of payload)
means GeneveV6 payload = of_version 16 4 payload (ipv6_of payload)
means Ip payload = ip_of payload
means Mac payload = of_length 6 payload payload
means BePair payload = of_length 4 payload (
  from_be_bytes w16 (take 2 payload),
  from_be_bytes w16 (drop 2 payload),
)
means FlagPair payload = of_length 8 payload (
  from_le_bytes w32 (take 4 payload),
  from_le_bytes w32 (drop 4 payload),
)
means EmptyOrByte payload = if length payload == 0 then Ok None
    else of_length 1 payload (Some (slice_index payload 0))
means Scrub payload = of_length 4 payload (not (from_le_bytes w32 payload == 0))
means Raw payload = Ok payload
means _ payload = Err cause.Length

-- the result without its datum
abbrev pub verdict : {X : Type 0} → Result X Cause → Result (Unit {0}) Cause
verdict (Ok x) = Ok tt
verdict (Err e) = Err e

-- the length of every accepted payload, if they all have one length
abbrev pub accepted_length : Shape → Option ℕ
accepted_length U8 = Some 1
accepted_length Le16 = Some 2
accepted_length Le32 = Some 4
accepted_length Le64 = Some 8
accepted_length Be16 = Some 2
accepted_length Be32 = Some 4
accepted_length Be64 = Some 8
accepted_length I32 = Some 4
accepted_length Truth = Some 1
accepted_length TruthOne = Some 1
accepted_length V4 = Some 4
accepted_length V6 = Some 16
accepted_length Mac = Some 6
accepted_length BePair = Some 4
accepted_length FlagPair = Some 8
accepted_length Scrub = Some 4
accepted_length _ = None

-- the payload means a datum
unfoldable pub IsAccepted : Shape → List ℕ → Type 0
IsAccepted shape payload = IsOk (means shape payload)

-- 1 for true, 0 for false
abbrev pub truth_number : Bool → ℕ
truth_number b = if b then 1 else 0

-- the octets of an address, in network byte order
abbrev pub ip_octets : IpAddr → List ℕ
ip_octets (ip.V4 a) = a.octets
ip_octets (ip.V6 a) = octets_of a.segments

-- the canonical payload of a datum
abbrev pub canon : (shape : Shape) → Carrier shape → List ℕ
canon U8 n = n ∷ []
canon Le16 n = to_le_bytes w16 n
canon Le32 n = to_le_bytes w32 n
canon Le64 n = to_le_bytes w64 n
canon Be16 n = to_be_bytes w16 n
canon Be32 n = to_be_bytes w32 n
canon Be64 n = to_be_bytes w64 n
canon I32 z = to_le_bytes w32 (cast_unsigned w32 z)
canon Truth b = truth_number b ∷ []
canon TruthOne b = truth_number b ∷ []
canon Mark x = []
canon Name text = text ++ 0 ∷ []
canon V4 a = a.octets
canon V6 a = octets_of a.segments
canon GeneveV4 a = a.octets
canon GeneveV6 a = octets_of a.segments
canon Ip a = ip_octets a
canon Mac octets = octets
canon BePair x = to_be_bytes w16 x.0 ++ to_be_bytes w16 x.1
canon FlagPair x = to_le_bytes w32 x.0 ++ to_le_bytes w32 x.1
canon EmptyOrByte None = []
canon EmptyOrByte (Some b) = b ∷ []
canon Scrub b = to_le_bytes w32 (truth_number b)
canon Raw bytes = bytes
canon _ x = []

-- the canonical payload of what an accepted payload means
unfoldable pub canonical : Shape → List ℕ → List ℕ
canonical shape payload = bytes_for (canon shape) (means shape payload)

-- an address of four octets
abbrev pub IsIpv4 : Ipv4Addr → Type 0
IsIpv4 a = (length a.octets ≡ 4) × IsBytes a.octets

-- an address of eight 16-bit segments
abbrev pub IsIpv6 : Ipv6Addr → Type 0
IsIpv6 a = (length a.segments ≡ 8) × ((i : ℕ) → slice_index a.segments i < 2 ^ 16)

-- an address of either version
abbrev pub IsIp : IpAddr → Type 0
IsIp (ip.V4 a) = IsIpv4 a
IsIp (ip.V6 a) = IsIpv6 a

-- the data that a Rust value can hold
abbrev pub Holds : (shape : Shape) → Carrier shape → Type 0
Holds U8 n = n < 256
Holds Le16 n = n < 2 ^ 16
Holds Le32 n = n < 2 ^ 32
Holds Le64 n = n < 2 ^ 64
Holds Be16 n = n < 2 ^ 16
Holds Be32 n = n < 2 ^ 32
Holds Be64 n = n < 2 ^ 64
Holds I32 z = FitsSigned w32 z
Holds Truth b = Unit {0}
Holds TruthOne b = Unit {0}
Holds Mark x = Unit {0}
Holds Name text = (is_utf8 text ≡ true) × IsBytes text
Holds V4 a = IsIpv4 a
Holds V6 a = IsIpv6 a
Holds GeneveV4 a = IsIpv4 a
Holds GeneveV6 a = IsIpv6 a
Holds Ip a = IsIp a
Holds Mac octets = (length octets ≡ 6) × IsBytes octets
Holds BePair x = (x.0 < 2 ^ 16) × (x.1 < 2 ^ 16)
Holds FlagPair x = (x.0 < 2 ^ 32) × (x.1 < 2 ^ 32)
Holds EmptyOrByte None = Unit {0}
Holds EmptyOrByte (Some b) = b < 256
Holds Scrub b = Unit {0}
Holds Raw bytes = IsBytes bytes
Holds _ x = ⊥

-- whether four bytes are the number 0
abbrev pub is_zero : List ℕ → Bool
is_zero payload = bytes_eq payload (0 ∷ 0 ∷ 0 ∷ 0 ∷ [])

-- whether two accepted payloads are equivalent, without decoding a datum
abbrev pub payload_alike : Shape → List ℕ → List ℕ → Bool
payload_alike Truth p q = beq (slice_index p 0 == 0) (slice_index q 0 == 0)
payload_alike TruthOne p q = beq (slice_index p 0 == 1) (slice_index q 0 == 1)
payload_alike Mark p q = true
payload_alike Name p q = bytes_eq (stripped p) (stripped q)
payload_alike Scrub p q = beq (is_zero p) (is_zero q)
payload_alike _ p q = bytes_eq p q

-- whether a value read from this payload owns memory: bytes and texts do
abbrev pub needs_memory : Shape → List ℕ → Bool
needs_memory Raw payload = true
needs_memory Name payload = is_utf8 (stripped payload)
needs_memory _ payload = false
