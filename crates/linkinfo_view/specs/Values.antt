-- What one payload is shown as: JSON of its value, by a format.
use Rattle.std.specs.Prelude.{
  ◌≡◌,
  ℕ,
  ◌-◌,
  ◌/◌,
  ◌%◌,
  ◌==◌,
  ◌&&◌,
  zero,
  suc,
  Bool,
  true,
  false,
  if◌then◌else◌,
  nat_le,
  bit_and,
  List,
  [],
  ◌∷◌,
  ◌++◌,
  length,
  take,
  drop,
  slice_index,
  Option,
  Some,
  None,
  Result,
  Ok,
  Err,
  codes,
}
use Rattle.std.specs.Int.{w16, w32, from_le_bytes}
use Rattle.std.specs.List.{list_all, flat_map, before_first}
use Rattle.std.specs.Net.Text.{ipv4_text, ipv6_text}
use Rattle.nla_frame.specs.declared.error.Cause.{Cause}
use Rattle.linkinfo_shapes.specs.Data.{
  Value,
  number,
  signed,
  truth,
  empty,
  text,
  v4,
  v6,
  mac,
  pair,
  bytes,
  reads,
  value_of,
}
use Rattle.linkinfo_shapes.specs.declared.datum.Datum.{Datum}
use Rattle.linkinfo_shapes.specs.declared.shape.Shape.{Shape}
use Rattle.linkinfo_shapes.specs.declared.shape.Shape.TheVariants as shape
use Rattle.serde_json.specs.Data as json
use Rattle.serde_json.specs.Data.{Data, Members, put}
use Rattle.serde_json.specs.Find.{of_integer}
use Rattle.serde_json.specs.View.{items_of}
use Rattle.linkinfo_view.specs.Text.{
  byte_digits,
  escaped_text,
  four_digits,
  hex_data,
  hex_text,
  hex_or_zero,
  octets_text,
  thousandths_text,
  with_comma,
}
use Rattle.linkinfo_view.specs.Words.{FlagRow, flag_at, word}
use Rattle.linkinfo_view.specs.declared.format.Format.{Format}
use Rattle.linkinfo_view.specs.declared.format.Format.TheVariants as format
use Rattle.linkinfo_view.specs.declared.format.Flags.{Flags}
use Rattle.linkinfo_view.specs.declared.text.OctetDigits.TheVariants as octet

-- what a payload means under a shape; a payload that a family reads itself is its bytes
abbrev pub meant : Shape → List ℕ → Result Value Cause
meant shape.SelfList payload = Ok (bytes payload)
meant shape.Peer payload = Ok (bytes payload)
meant (shape.Nested family) payload = Ok (bytes payload)
meant shape.BridgeId payload = Ok (bytes payload)
meant shape.LePair16 payload = Ok (bytes payload)
meant shape.Le32x8 payload = Ok (bytes payload)
meant shape.CanBitTimingConst payload = Ok (bytes payload)
meant shape.Le16s payload = Ok (bytes payload)
meant shape.Le32s payload = Ok (bytes payload)
meant shape.V4List payload = Ok (bytes payload)
meant shape.V6List payload = Ok (bytes payload)
meant sh payload = reads sh payload

-- a number, and an object of two members
abbrev pub number_data : ℕ → Data
number_data n = json.number (json.unsigned n)

abbrev pub two : List ℕ → Data → List ℕ → Data → Data
two first d second e = json.object (put second e (put first d json.no_members))

-- a value by its kind
abbrev pub plain_data : Value → Data
plain_data (number n) = number_data n
plain_data (signed z) = json.number (of_integer z)
plain_data (truth b) = json.boolean b
plain_data empty = json.null
plain_data (text s) = json.string (escaped_text s)
plain_data (v4 a) = json.string (ipv4_text a.octets)
plain_data (v6 a) = json.string (ipv6_text a.segments)
plain_data (mac s) = json.string (octets_text octet.Two s)
plain_data (pair a b) = two (codes "low") (number_data a) (codes "high") (number_data b)
plain_data (bytes s) = hex_data s

-- the same of what a payload means, or its bytes in hex
abbrev pub plain_or_hex : List ℕ → Result Value Cause → Data
plain_or_hex payload (Ok value) = plain_data value
plain_or_hex payload (Err e) = hex_data payload

abbrev pub plain_as : Shape → List ℕ → Data
plain_as sh payload = plain_or_hex payload (meant sh payload)

-- the number in a value, the first of two, and the second
abbrev pub first_of : Value → ℕ
first_of (number n) = n
first_of (truth b) = if b then 1 else 0
first_of (pair a b) = a
first_of _ = 0

abbrev pub second_of : Value → ℕ
second_of (pair a b) = b
second_of _ = 0

-- a name of a number, or the number
abbrev pub named : Option (List ℕ) → ℕ → Data
named (Some name) n = json.string name
named None n = number_data n

-- the unspecified address has only zero bytes
abbrev pub is_unspecified : List ℕ → Bool
is_unspecified payload = list_all (λ b. b == 0) payload

-- a multicast address: of four bytes 224.0.0.0/4, else ff00::/8
abbrev pub is_multicast : List ℕ → Bool
is_multicast payload = if length payload == 4
    then nat_le 224 (slice_index payload 0) && nat_le (slice_index payload 0) 239
    else slice_index payload 0 == 255

-- priority and hardware address, of which no octet has a leading zero
abbrev pub bridge_id_data : List ℕ → Data
bridge_id_data payload = if length payload == 8
    then json.string (flat_map byte_digits (take 2 payload)
    ++ 46 ∷ octets_text octet.Fewest (drop 2 payload))
    else hex_data payload

-- the little-endian number of 32 bits at an offset
abbrev pub number_at : List ℕ → ℕ → ℕ
number_at payload offset = from_le_bytes w32 (take 4 (drop offset payload))

-- the eight numbers of a `struct can_bittiming`
abbrev pub bit_timing : List ℕ → Members
bit_timing p =
    put (codes "brp") (number_data (number_at p 28))
    (put (codes "sjw") (number_data (number_at p 24))
    (put (codes "phase_seg2") (number_data (number_at p 20))
    (put (codes "phase_seg1") (number_data (number_at p 16))
    (put (codes "prop_seg") (number_data (number_at p 12))
    (put (codes "tq") (number_data (number_at p 8))
    (put (codes "sample_point") (json.string (thousandths_text (number_at p 4)))
    (put (codes "bitrate") (number_data (number_at p 0)) json.no_members)))))))

abbrev pub bit_timing_data : List ℕ → Data
bit_timing_data payload = if length payload == 32 then json.object (bit_timing payload)
    else hex_data payload

-- the bytes before the first NUL
abbrev pub before_nul : List ℕ → List ℕ
before_nul s = before_first (λ b. b == 0) s

-- a limit: its least and its greatest number
abbrev pub limit_data : ℕ → ℕ → Data
limit_data least greatest =
    two (codes "min") (number_data least) (codes "max") (number_data greatest)

-- the name and the limits of a `struct can_bittiming_const`; the least jump width is 1
abbrev pub bit_timing_const : List ℕ → Members
bit_timing_const p =
    put (codes "brp_inc") (number_data (number_at p 44))
    (put (codes "brp") (limit_data (number_at p 36) (number_at p 40))
    (put (codes "sjw") (limit_data 1 (number_at p 32))
    (put (codes "tseg2") (limit_data (number_at p 24) (number_at p 28))
    (put (codes "tseg1") (limit_data (number_at p 16) (number_at p 20))
    (put (codes "name") (json.string (escaped_text (before_nul (take 16 p)))) json.no_members)))))

abbrev pub bit_timing_const_data : List ℕ → Data
bit_timing_const_data payload = if length payload == 48
    then json.object (bit_timing_const payload)
    else hex_data payload

-- the two numbers of a `struct can_berr_counter`: errors in transmission, and in reception
abbrev pub error_counters_data : List ℕ → Data
error_counters_data payload = if length payload == 4
    then two (codes "tx") (number_data (from_le_bytes w16 (take 2 payload)))
    (codes "rx") (number_data (from_le_bytes w16 (drop 2 payload)))
    else hex_data payload

-- so many parts of a payload, each of a width, by a shape
unfoldable pub parts_data : ℕ → ℕ → Shape → List ℕ → List Data
parts_data zero width sh payload = []
parts_data (suc n) width sh payload =
    plain_as sh (take width payload) ∷ parts_data n width sh (drop width payload)

-- all of them, of a payload whose length is a multiple of the width
abbrev pub array_data : ℕ → Shape → List ℕ → Data
array_data width sh payload = if length payload % width == 0
    then json.array (items_of (parts_data (length payload / width) width sh payload))
    else hex_data payload

-- a number as a boolean if it is 0 or 1
abbrev pub switch_data : ℕ → Data
switch_data n = if n == 0 then json.boolean false
    else if n == 1 then json.boolean true
    else number_data n

-- a value by a format of one member
abbrev pub format_data : Format → Value → List ℕ → Data
format_data format.Present value payload = json.boolean true
format_data format.Switch value payload = switch_data (first_of value)
format_data format.Hex value payload = json.string (hex_text (first_of value))
format_data format.HexOrZero value payload = json.string (hex_or_zero (first_of value))
format_data format.KeyHex value payload =
    json.string (codes "0x" ++ four_digits (first_of value))
format_data format.FourDigits value payload = json.string (four_digits (first_of value))
format_data format.Octets value payload = hex_data payload
format_data format.HardwareAddress value payload = json.string (octets_text octet.Two payload)
format_data format.Quad value payload = plain_as shape.V4 payload
format_data (format.Word words) value payload = named (word words (first_of value)) (first_of value)
format_data format.Address value payload =
    if is_unspecified payload then json.string (codes "any") else plain_data value
format_data format.BridgeId value payload = bridge_id_data payload
format_data format.BitTiming value payload = bit_timing_data payload
format_data format.BitTimingConst value payload = bit_timing_const_data payload
format_data format.ErrorCounters value payload = error_counters_data payload
format_data format.Le16s value payload = array_data 2 shape.Le16 payload
format_data format.Le32s value payload = array_data 4 shape.Le32 payload
format_data _ value payload = plain_data value

-- the flags of a number in hex; of two numbers both, with a slash between them
abbrev pub flags_data : Value → Data
flags_data (pair a b) = json.string (hex_text a ++ codes "/" ++ hex_text b)
flags_data value = json.string (hex_text (first_of value))

-- a named value
abbrev pub Named : Type 0
Named = List ℕ × Data

-- whether a flag is set
abbrev pub is_set : FlagRow → ℕ → Bool
is_set flag n = bit_and n flag.mask == flag.value

-- a boolean for a flag, if there is one
abbrev pub with_bit : Option FlagRow → ℕ → List Named → List Named
with_bit None n more = more
with_bit (Some flag) n more = (flag.name, json.boolean (is_set flag n)) ∷ more

-- the same for the flags of so many places
unfoldable pub bits_from : ℕ → ℕ → Flags → ℕ → List Named
bits_from zero place flags n = []
bits_from (suc k) place flags n =
    with_bit (flag_at flags place) n (bits_from k (suc place) flags n)

-- 0 or 1 for a flag that the mask has
abbrev pub with_option : Option FlagRow → ℕ → ℕ → List Named → List Named
with_option None n mask more = more
with_option (Some flag) n mask more = if is_set flag mask
    then (flag.name, number_data (if is_set flag n then 1 else 0)) ∷ more else more

unfoldable pub options_from : ℕ → ℕ → Flags → ℕ → ℕ → List Named
options_from zero place flags n mask = []
options_from (suc k) place flags n mask =
    with_option (flag_at flags place) n mask (options_from k (suc place) flags n mask)

-- the names of the flags that are set
abbrev pub with_name : Option FlagRow → ℕ → List Data → List Data
with_name None n more = more
with_name (Some flag) n more = if is_set flag n then json.string flag.name ∷ more else more

unfoldable pub names_from : ℕ → ℕ → Flags → ℕ → List Data
names_from zero place flags n = []
names_from (suc k) place flags n =
    with_name (flag_at flags place) n (names_from k (suc place) flags n)

-- a number without the flags that are set and have a name
abbrev pub without : Option FlagRow → ℕ → ℕ → ℕ
without None n left = left
without (Some flag) n left = if is_set flag n then left - flag.value else left

-- a step with each flag of so many places, in order
unfoldable pub over_flags : {A : Type 0} → (Option FlagRow → ℕ → A → A) → ℕ → ℕ → Flags → ℕ → A → A
over_flags step zero place flags n x = x
over_flags step (suc k) place flags n x =
    over_flags step k (suc place) flags n (step (flag_at flags place) n x)

-- other flags in hex, if there are any
abbrev pub unnamed_data : ℕ → List Data
unnamed_data left = if left == 0 then [] else json.string (hex_text left) ∷ []

abbrev pub names_data : Flags → ℕ → Data
names_data flags n =
    json.array
    (items_of (names_from 16 0 flags n ++ unnamed_data (over_flags without 16 0 flags n n)))

-- the names of the flags that are set as one text, with commas between them; `0x0` if none is
abbrev pub listed : Option FlagRow → ℕ → List ℕ → List ℕ
listed None n s = s
listed (Some flag) n s = if is_set flag n then with_comma s ++ flag.name else s

abbrev pub or_zero : List ℕ → List ℕ
or_zero [] = codes "0x0"
or_zero (c ∷ s) = c ∷ s

abbrev pub listed_text : Flags → ℕ → List ℕ
listed_text flags n = or_zero (over_flags listed 16 0 flags n [])

-- the result is what the payload means, or why its shape rejects it
abbrev pub IsMeant : Shape → List ℕ → Result Datum Cause → Type 0
IsMeant sh payload (Ok d) = meant sh payload ≡ Ok (value_of d)
IsMeant sh payload (Err e) = meant sh payload ≡ Err e
