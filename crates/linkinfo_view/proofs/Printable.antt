-- Texts of printable ASCII: escaped texts, hex, numbers and addresses.
use Rattle.std.proofs.Common.{
  ◌≡◌,
  ℕ,
  zero,
  suc,
  ◌+◌,
  ◌/◌,
  ◌%◌,
  ◌≤◌,
  ◌<◌,
  ◌==◌,
  Bool,
  true,
  false,
  cond,
  ◌&&◌,
  not,
  eqb,
  leb,
  ltb,
  List,
  [],
  ◌∷◌,
  ◌++◌,
  ℤ,
  pos,
  negsuc,
  codes,
  decimal,
  drop,
  slice_index,
  take,
  refl,
  arith,
  bytes_eq,
  lit≤,
}
use Rattle.std.proofs.Math.Nat.{mod-lt}
use Rattle.std.proofs.lemmas.Bool.{and_from, and_parts, le-leb, ltb-true}
use Rattle.std.proofs.lemmas.List.Elements.{All-from_recursion}
use Rattle.std.proofs.lemmas.List.Sums.{AllPass-from_list_all}
use Rattle.std.specs.Fmt.{digits, digits_onto, signed_decimal}
use Rattle.std.specs.List.{AllByRecursion, AllPass, flat_map, list_all}
use Rattle.std.specs.Net.Addr.{octets_of, segments_of}
use Rattle.std.specs.Net.Text.{
  compressed_text,
  groups_text,
  hex as segment_text,
  hex_groups_text,
  ipv4_text,
  ipv6_text,
  leading_zero_digits,
  longest_zero_run,
}
use Rattle.hex.specs.Hex.{encode_lower, encode_with, lower_digits}
use Rattle.nla_frame.specs.Attribute.{IsBytes}
use Rattle.linkinfo_view.specs.Text.{
  after_colon,
  byte_digits,
  class_text,
  digit,
  escaped_byte,
  escaped_text,
  four_digits,
  hex_text,
  is_plain,
  is_printable,
  label_text,
  hex_or_zero,
  octet_digits,
  octets_text,
  thousandths_text,
}
use Rattle.linkinfo_view.specs.declared.text.OctetDigits.{OctetDigits}
use Rattle.linkinfo_view.specs.declared.text.OctetDigits.TheVariants as octet

abbrev pub Printable : List ℕ → Type 0
Printable s = AllByRecursion (λ (c : ℕ). is_printable c ≡ true) s

-- a text that is known, by computing
pub known : (s : List ℕ) → list_all is_printable s ≡ true → Printable s
known [] h = tt
known (c ∷ s) h =
    let parts = and_parts (is_printable c) (list_all is_printable s) h in
    (parts.0, known s parts.1)

pub known_passes : (s : List ℕ) → list_all is_printable s ≡ true → AllPass is_printable s
known_passes s h = AllPass-from_list_all is_printable s h

pub passes : (s : List ℕ) → Printable s → AllPass is_printable s
passes s h = All-from_recursion _ s h

-- one of two texts, and two after one another
pub either_printable : (b : Bool) (xs ys : List ℕ) → Printable xs → Printable ys →
    Printable (cond b xs ys)
either_printable true xs ys h g = h
either_printable false xs ys h g = g

pub both_printable : (xs ys : List ℕ) → Printable xs → Printable ys → Printable (xs ++ ys)
both_printable [] ys h g = g
both_printable (x ∷ xs) ys h g = (h.0, both_printable xs ys h.1 g)

drop_printable : (n : ℕ) (s : List ℕ) → Printable s → Printable (drop n s)
drop_printable zero s h = h
drop_printable (suc n) [] h = tt
drop_printable (suc n) (c ∷ s) h = drop_printable n s h.1

-- ---- digits

in_range : (c : ℕ) → 32 ≤ c → c ≤ 126 → is_printable c ≡ true
in_range c low high = and_from _ _ (le-leb 32 c low) (le-leb c 126 high)

chosen_digit : (n : ℕ) (b : Bool) → n < 16 → ltb n 10 ≡ b →
    is_printable (cond b (48 + n) (87 + n)) ≡ true
chosen_digit n true small e =
    let below = ltb-true n 10 e in in_range (48 + n) (omega arith) (omega arith)
chosen_digit n false small e = in_range (87 + n) (omega arith) (omega arith)

pub digit_printable : (n : ℕ) → n < 16 → is_printable (digit n) ≡ true
digit_printable n small = chosen_digit n (ltb n 10) small refl

byte_printable : (b : ℕ) → Printable (byte_digits b)
byte_printable b =
    (digit_printable (b / 16 % 16) (omega arith), (digit_printable (b % 16) (omega arith), tt))

onto_printable : (k base n : ℕ) (acc : List ℕ) → 2 ≤ base → base ≤ 16 → Printable acc →
    Printable (digits_onto k base false n acc)
onto_printable zero base n acc low high h = h
onto_printable (suc k) base n acc low high h =
    let some : 0 < base = omega arith in
    let first = digit_printable (n % base) (omega (arith, mod-lt n some)) in
    either_printable (eqb (n / base) 0) _ _ (first, h)
    (onto_printable k base (n / base) _ low high (first, h))

number_printable : (base n : ℕ) → 2 ≤ base → base ≤ 16 → Printable (digits base false n)
unfolding digits
number_printable base n low high = onto_printable 64 base n [] low high tt

pub decimal_printable : (n : ℕ) → Printable (decimal n)
decimal_printable n = number_printable 10 n (lit≤ tt) (lit≤ tt)

pub signed_printable : (z : ℤ) → Printable (signed_decimal z)
signed_printable (pos n) = decimal_printable n
signed_printable (negsuc n) = (refl, decimal_printable (suc n))

pub hex_printable : (n : ℕ) → Printable (hex_text n)
hex_printable n =
    both_printable (codes "0x") _ (known (codes "0x") refl)
    (number_printable 16 n (lit≤ tt) (lit≤ tt))

pub hex_or_zero_printable : (n : ℕ) → Printable (hex_or_zero n)
hex_or_zero_printable n =
    either_printable (n == 0) (codes "0") (hex_text n) (known (codes "0") refl) (hex_printable n)

pub four_printable : (n : ℕ) → Printable (four_digits n)
four_printable n =
    both_printable (byte_digits (n / 256 % 256)) (byte_digits (n % 256))
    (byte_printable (n / 256 % 256)) (byte_printable (n % 256))

pub key_printable : (n : ℕ) → Printable (codes "0x" ++ four_digits n)
key_printable n =
    both_printable (codes "0x") (four_digits n) (known (codes "0x") refl) (four_printable n)

pub class_printable : (n : ℕ) → Printable (class_text n)
class_printable n =
    both_printable (codes "0x") (byte_digits (n % 256)) (known (codes "0x") refl)
    (byte_printable (n % 256))

pub label_printable : (n : ℕ) → Printable (label_text n)
label_printable n =
    both_printable (codes "0x") (digit (n / 65536 % 16) ∷ four_digits n) (known (codes "0x") refl)
    (digit_printable (n / 65536 % 16) (omega arith), four_printable n)

pub thousandths_printable : (n : ℕ) → Printable (thousandths_text n)
thousandths_printable n =
    let whole = decimal (n / 1000) in
    let tenth = decimal (n / 100 % 10) in
    let hundredth = decimal (n / 10 % 10) in
    both_printable (whole ++ codes "." ++ tenth ++ hundredth) (decimal (n % 10))
    (both_printable (whole ++ codes "." ++ tenth) hundredth
    (both_printable (whole ++ codes ".") tenth
    (both_printable whole (codes ".") (decimal_printable (n / 1000)) (known (codes ".") refl))
    (decimal_printable (n / 100 % 10)))
    (decimal_printable (n / 10 % 10)))
    (decimal_printable (n % 10))

-- ---- bytes

chosen_byte : (b : ℕ) (t : Bool) → is_plain b ≡ t →
    Printable (cond t (b ∷ []) (92 ∷ 120 ∷ byte_digits b))
chosen_byte b true e =
    let high = leb b 126 in
    let parts = and_parts (leb 32 b) (high && not (eqb b 92)) e in
    let others = and_parts high (not (eqb b 92)) parts.1 in
    (and_from (leb 32 b) high parts.0 others.0, tt)
chosen_byte b false e = (refl, (refl, byte_printable b))

each_printable : (s : List ℕ) → Printable (flat_map escaped_byte s)
each_printable [] = tt
each_printable (b ∷ s) = both_printable (escaped_byte b) (flat_map escaped_byte s)
    (chosen_byte b (is_plain b) refl) (each_printable s)

pub text_printable : (s : List ℕ) → Printable (escaped_text s)
unfolding escaped_text
text_printable s = each_printable s

pub escaped_printable : (s : List ℕ) → AllPass is_printable (escaped_text s)
escaped_printable s = passes (escaped_text s) (text_printable s)

lower_digit : (n : ℕ) → n < 16 → is_printable (slice_index lower_digits n) ≡ true
lower_digit n small = known_passes lower_digits refl n 0 small

encoded_printable : (s : List ℕ) → IsBytes s → Printable (encode_with lower_digits s)
unfolding encode_with
encoded_printable [] h = tt
encoded_printable (b ∷ s) h =
    let byte : b < 256 = h 0 in (
      lower_digit (b / 16) (omega arith),
      (lower_digit (b % 16) (omega arith), encoded_printable s (λ i. h (suc i))),
    )

pub encode_printable : (s : List ℕ) → IsBytes s → Printable (encode_lower s)
encode_printable s h = encoded_printable s h

fewest_printable : (b : ℕ) (t : Bool) → ltb b 16 ≡ t →
    Printable (cond t (digit b ∷ []) (byte_digits b))
fewest_printable b true e = (digit_printable b (ltb-true b 16 e), tt)
fewest_printable b false e = byte_printable b

octet_printable : (d : OctetDigits) (b : ℕ) → Printable (octet_digits d b)
octet_printable octet.Two b = byte_printable b
octet_printable octet.Fewest b = fewest_printable b (ltb b 16) refl

colons_printable : (d : OctetDigits) (s : List ℕ) → Printable (flat_map (after_colon d) s)
colons_printable d [] = tt
colons_printable d (b ∷ s) =
    both_printable (after_colon d b) _ (refl, octet_printable d b) (colons_printable d s)

pub octets_printable : (d : OctetDigits) (s : List ℕ) → Printable (octets_text d s)
unfolding octets_text
octets_printable d [] = tt
octets_printable d (b ∷ s) =
    both_printable (octet_digits d b) _ (octet_printable d b) (colons_printable d s)

bytes_printable : (s : List ℕ) → Printable (flat_map byte_digits s)
bytes_printable [] = tt
bytes_printable (b ∷ s) =
    both_printable (byte_digits b) _ (byte_printable b) (bytes_printable s)

pub bridge_printable : (s : List ℕ) →
    Printable (flat_map byte_digits (take 2 s) ++ 46 ∷ octets_text octet.Fewest (drop 2 s))
bridge_printable s =
    both_printable (flat_map byte_digits (take 2 s)) _ (bytes_printable (take 2 s))
    (refl, octets_printable octet.Fewest (drop 2 s))

-- ---- addresses

dotted_printable : (s : List ℕ) (n : ℕ) → Printable s →
    Printable (s ++ codes "." ++ decimal n)
dotted_printable s n h =
    both_printable (s ++ codes ".") (decimal n)
    (both_printable s (codes ".") h (known (codes ".") refl)) (decimal_printable n)

pub v4_printable : (s : List ℕ) → Printable (ipv4_text s)
v4_printable s =
    let one = decimal (slice_index s 0) in
    let two = one ++ codes "." ++ decimal (slice_index s 1) in
    let three = two ++ codes "." ++ decimal (slice_index s 2) in
    dotted_printable three (slice_index s 3)
    (dotted_printable two (slice_index s 2)
    (dotted_printable one (slice_index s 1) (decimal_printable (slice_index s 0))))

-- each segment has 16 bits
abbrev pub AreSegments : List ℕ → Type 0
AreSegments segments = AllByRecursion (λ (n : ℕ). n < 65536) segments

pub are_segments : (octets : List ℕ) → IsBytes octets → AreSegments (segments_of octets)
are_segments [] h = tt
are_segments (a ∷ []) h = tt
are_segments (a ∷ b ∷ octets) h =
    let high : a < 256 = h 0 in
    let low : b < 256 = h 1 in
    (omega arith, are_segments octets (λ i. h (suc (suc i))))

segments_take : (n : ℕ) (s : List ℕ) → AreSegments s → AreSegments (take n s)
segments_take zero s h = tt
segments_take (suc n) [] h = tt
segments_take (suc n) (x ∷ s) h = (h.0, segments_take n s h.1)

segments_drop : (n : ℕ) (s : List ℕ) → AreSegments s → AreSegments (drop n s)
segments_drop zero s h = h
segments_drop (suc n) [] h = tt
segments_drop (suc n) (x ∷ s) h = segments_drop n s h.1

segment_printable : (n : ℕ) → n < 65536 → Printable (segment_text n)
unfolding segment_text
segment_printable n h =
    drop_printable (leading_zero_digits n) _ (
      digit_printable (n / 0x1000) (omega arith),
      (
        digit_printable (n / 0x100 % 16) (omega arith),
        (
          digit_printable (n / 0x10 % 16) (omega arith),
          (digit_printable (n % 16) (omega arith), tt),
        ),
      ),
    )

later_groups : (s : List ℕ) → AreSegments s →
    Printable (flat_map (λ t. codes ":" ++ segment_text t) s)
later_groups [] h = tt
later_groups (x ∷ s) h =
    both_printable (codes ":" ++ segment_text x) _ (refl, segment_printable x h.0)
    (later_groups s h.1)

groups_printable : (s : List ℕ) → AreSegments s → Printable (groups_text s)
groups_printable [] h = tt
groups_printable (x ∷ s) h =
    both_printable (segment_text x) _ (segment_printable x h.0) (later_groups s h.1)

compressed_printable : (s : List ℕ) (run : ℕ × ℕ) → AreSegments s →
    Printable (compressed_text s run)
compressed_printable s run h =
    let front = take run.0 s in
    let later = drop (run.0 + run.1) s in
    either_printable (ltb 1 run.1) (groups_text front ++ codes "::" ++ groups_text later)
    (groups_text s)
    (both_printable (groups_text front ++ codes "::") (groups_text later)
    (both_printable (groups_text front) (codes "::")
    (groups_printable front (segments_take run.0 s h)) (known (codes "::") refl))
    (groups_printable later (segments_drop (run.0 + run.1) s h)))
    (groups_printable s h)

pub v6_printable : (s : List ℕ) → AreSegments s → Printable (ipv6_text s)
unfolding ipv6_text hex_groups_text
v6_printable s h =
    let mapped = ipv4_text (octets_of (drop 6 s)) in
    either_printable (bytes_eq (take 6 s) (0 ∷ 0 ∷ 0 ∷ 0 ∷ 0 ∷ 0xffff ∷ []))
    (codes "::ffff:" ++ mapped) (compressed_text s (longest_zero_run s))
    (both_printable (codes "::ffff:") mapped (known (codes "::ffff:") refl)
    (v4_printable (octets_of (drop 6 s))))
    (compressed_printable s (longest_zero_run s) h)
