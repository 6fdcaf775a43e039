-- Bytes as texts of printable ASCII.
use Rattle.std.specs.Prelude.{
  ℕ,
  ◌+◌,
  ◌/◌,
  ◌%◌,
  ◌==◌,
  ◌&&◌,
  Bool,
  false,
  not,
  if◌then◌else◌,
  nat_le,
  nat_lt,
  List,
  [],
  ◌∷◌,
  ◌++◌,
  codes,
}
use Rattle.std.specs.Fmt.{decimal, digits}
use Rattle.std.specs.List.{flat_map}
use Rattle.hex.specs.Hex.{encode_lower}
use Rattle.serde_json.specs.Data.{Data, string}
use Rattle.linkinfo_view.specs.declared.text.OctetDigits.{OctetDigits}
use Rattle.linkinfo_view.specs.declared.text.OctetDigits.TheVariants as octet

-- one hex digit, and a byte as two
abbrev pub digit : ℕ → ℕ
digit n = if nat_lt n 10 then 48 + n else 87 + n

abbrev pub byte_digits : ℕ → List ℕ
byte_digits b = digit (b / 16 % 16) ∷ digit (b % 16) ∷ []

-- a byte that a text holds unchanged: printable ASCII but for the backslash
abbrev pub is_plain : ℕ → Bool
is_plain b = nat_le 32 b && (nat_le b 126 && not (b == 92))

-- every other byte is a backslash, `x` and two hex digits
abbrev pub escaped_byte : ℕ → List ℕ
escaped_byte b = if is_plain b then b ∷ [] else 92 ∷ 120 ∷ byte_digits b

unfoldable pub escaped_text : List ℕ → List ℕ
escaped_text bytes = flat_map escaped_byte bytes

-- printable ASCII
abbrev pub is_printable : ℕ → Bool
is_printable c = nat_le 32 c && nat_le c 126

-- a byte as two hex digits, or without a leading zero
abbrev pub octet_digits : OctetDigits → ℕ → List ℕ
octet_digits octet.Two b = byte_digits b
octet_digits octet.Fewest b = if nat_lt b 16 then digit b ∷ [] else byte_digits b

-- bytes in hex, with colons between them
abbrev pub after_colon : OctetDigits → ℕ → List ℕ
after_colon digits_of b = 58 ∷ octet_digits digits_of b

unfoldable pub octets_text : OctetDigits → List ℕ → List ℕ
octets_text digits_of [] = []
octets_text digits_of (b ∷ bytes) =
    octet_digits digits_of b ++ flat_map (after_colon digits_of) bytes

-- a number in hex, after `0x`
abbrev pub hex_text : ℕ → List ℕ
hex_text n = codes "0x" ++ digits 16 false n

-- the same, but `0` for 0
abbrev pub hex_or_zero : ℕ → List ℕ
hex_or_zero n = if n == 0 then codes "0" else hex_text n

-- 16 bits as four hex digits
abbrev pub four_digits : ℕ → List ℕ
four_digits n = byte_digits (n / 256 % 256) ++ byte_digits (n % 256)

-- 8 and 20 bits in hex, after `0x`: two digits and five
abbrev pub class_text : ℕ → List ℕ
class_text n = codes "0x" ++ byte_digits (n % 256)

abbrev pub label_text : ℕ → List ℕ
label_text n = codes "0x" ++ digit (n / 65536 % 16) ∷ four_digits n

-- thousandths, as `0.875`
abbrev pub thousandths_text : ℕ → List ℕ
thousandths_text n = decimal (n / 1000) ++ codes "." ++ decimal (n / 100 % 10)
    ++ decimal (n / 10 % 10) ++ decimal (n % 10)

-- bytes in hex, as a JSON string
abbrev pub hex_data : List ℕ → Data
hex_data bytes = string (encode_lower bytes)

-- a comma after a text that is not empty
abbrev pub with_comma : List ℕ → List ℕ
with_comma [] = []
with_comma (c ∷ s) = (c ∷ s) ++ codes ","
