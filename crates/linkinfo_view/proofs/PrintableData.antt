-- The JSON of a list of attributes has only printable texts.
use Rattle.std.proofs.Common.{
  ◌≡◌,
  ℕ,
  zero,
  suc,
  ◌+◌,
  ◌/◌,
  ◌%◌,
  ◌==◌,
  Bool,
  true,
  false,
  cond,
  length,
  eqb,
  IfOk,
  List,
  [],
  ◌∷◌,
  ◌++◌,
  Option,
  Some,
  None,
  Ordering,
  Less,
  Equal,
  Greater,
  Result,
  Ok,
  Err,
  codes,
  drop,
  nat_cmp,
  refl,
  ap,
  sym,
  subst,
  take,
  ◌∙◌,
}
use Rattle.std.proofs.lemmas.Bool.{and_parts}
use Rattle.std.proofs.lemmas.List.Elements.{All-append}
use Rattle.std.specs.Cmp.Lexicographic.{slice_cmp}
use Rattle.std.specs.List.{AllByRecursion, AllPass, flat_map, list_all}
use Rattle.std.specs.Option.{IfSome}
use Rattle.std.specs.Ordering.{match_ordering}
use Rattle.std.specs.declared.net.ip_addr.IpAddr.TheVariants as ip
use Rattle.nla_frame.specs.Attribute.{Attribute, IsAttribute, IsBytes, aligned, masked}
use Rattle.nla_frame.specs.NlaItems.{nla_items, nla_items_of, split}
use Rattle.nla_frame.specs.Payload.{ipv4_of, ipv6_of, of_length}
use Rattle.nla_frame.specs.declared.error.Cause.{Cause}
use Rattle.nla_frame.specs.declared.error.Cause.TheVariants as cause
use Rattle.nla_frame.specs.declared.error.Family.{Family}
use Rattle.nla_frame.specs.declared.error.Family.TheVariants as family
use Rattle.nla_frame.proofs.ByteLists.{IsBytes-drop, IsBytes-take}
use Rattle.nla_frame.proofs.Framing.{split_is, splits_attributes}
use Rattle.nla_frame.proofs.Stepping.{nla_items_split}
use Rattle.linkinfo_shapes.specs.Data as value
use Rattle.linkinfo_shapes.specs.Data.{byte_value, reads, wrap, wrapped}
use Rattle.linkinfo_shapes.specs.Shapes.{Carrier, means}
use Rattle.linkinfo_shapes.specs.declared.shape.Shape.{Shape}
use Rattle.linkinfo_shapes.specs.declared.shape.Shape.TheVariants as shape
use Rattle.serde_json.specs.Data.{
  Data,
  Members,
  array,
  boolean,
  member,
  no_members,
  object,
  put,
  string,
}
use Rattle.serde_json.specs.View.{items_of}
use Rattle.linkinfo_view.specs.Attributes.{after_whole, attributes, rest_of, whole}
use Rattle.linkinfo_view.specs.Lines.{Line}
use Rattle.linkinfo_view.specs.Printable.{IsPrintable, ItemsArePrintable, MembersArePrintable}
use Rattle.linkinfo_view.specs.Table.{found, row_of, rows_of}
use Rattle.linkinfo_view.specs.Text.{
  byte_digits,
  class_text,
  four_digits,
  hex_data,
  hex_text,
  is_printable,
  label_text,
  hex_or_zero,
  octets_text,
  thousandths_text,
  with_comma,
}
use Rattle.linkinfo_view.specs.Values.{
  Named,
  array_data,
  before_nul,
  bit_timing,
  bit_timing_const,
  bits_from,
  error_counters_data,
  first_of,
  flags_data,
  format_data,
  is_multicast,
  is_set,
  limit_data,
  listed,
  listed_text,
  meant,
  named,
  names_data,
  names_from,
  number_at,
  number_data,
  options_from,
  or_zero,
  over_flags,
  parts_data,
  plain_data,
  plain_or_hex,
  second_of,
  switch_data,
  with_bit,
  with_name,
  with_option,
  without,
}
use Rattle.linkinfo_view.specs.View.{
  attributes_data,
  element_payload,
  element_type,
  elements_data,
  elements_from,
  format_members,
  hex_nested,
  label_of,
  list_data,
  mapping,
  members_meant,
  nested_data,
  other_data,
  others_in,
  others_member,
  others_with,
  put_all,
  put_shown,
  rest_data,
  rest_member,
  row_before,
  row_unless,
  shown_in,
  supported_members,
  supported_modes,
}
use Rattle.linkinfo_view.specs.Words.{
  FlagRow,
  flag_at,
  flag_found,
  flag_of,
  word,
  word_found,
  word_rows,
}
use Rattle.linkinfo_view.specs.declared.format.Elements.{Elements}
use Rattle.linkinfo_view.specs.declared.format.Elements.TheVariants as elements
use Rattle.linkinfo_view.specs.declared.format.Flags.{Flags}
use Rattle.linkinfo_view.specs.declared.format.Flags.TheVariants as flags
use Rattle.linkinfo_view.specs.declared.format.Format.{Format}
use Rattle.linkinfo_view.specs.declared.format.Format.TheVariants as format
use Rattle.linkinfo_view.specs.declared.format.Table.{Table}
use Rattle.linkinfo_view.specs.declared.format.Table.TheVariants as table
use Rattle.linkinfo_view.specs.declared.format.Words.{Words}
use Rattle.linkinfo_view.specs.declared.format.Words.TheVariants as words
use Rattle.linkinfo_view.specs.declared.text.OctetDigits.TheVariants as octet
use Rattle.linkinfo_view.proofs.Printable.{
  AreSegments,
  Printable,
  are_segments,
  bridge_printable,
  both_printable,
  class_printable,
  either_printable,
  encode_printable,
  escaped_printable,
  four_printable,
  hex_printable,
  key_printable,
  known,
  known_passes,
  label_printable,
  hex_or_zero_printable,
  octets_printable,
  passes,
  thousandths_printable,
  v4_printable,
  v6_printable,
}

-- ---- objects and arrays

abbrev pub Passes : List ℕ → Type 0
Passes s = AllPass is_printable s

one_more : (k : List ℕ) (d : Data) (ms : Members) → Passes k → IsPrintable d →
    MembersArePrintable ms → MembersArePrintable (member k d ms)
one_more k d ms name h g = (name, h, g)

one_of : (o : Ordering) (a b c : Members) → MembersArePrintable a → MembersArePrintable b →
    MembersArePrintable c → MembersArePrintable (match_ordering o a b c)
one_of Less a b c p q r = p
one_of Equal a b c p q r = q
one_of Greater a b c p q r = r

pub put_printable : (k : List ℕ) (d : Data) (ms : Members) → Passes k → IsPrintable d →
    MembersArePrintable ms → MembersArePrintable (put k d ms)
put_printable k d no_members name h g = one_more k d no_members name h g
put_printable k d (member l e ms) name h g =
    one_of (slice_cmp nat_cmp k l) _ _ _
    (one_more k d (member l e ms) name h g)
    (one_more l d ms g.0 h g.2)
    (one_more l e (put k d ms) g.0 g.1 (put_printable k d ms name h g.2))

abbrev pub AllPrintable : List Data → Type 0
AllPrintable ds = AllByRecursion IsPrintable ds

pub items_printable : (ds : List Data) → AllPrintable ds → ItemsArePrintable (items_of ds)
items_printable [] h = tt
items_printable (d ∷ ds) h = (h.0, items_printable ds h.1)

pub all_printable : (xs ys : List Data) → AllPrintable xs → AllPrintable ys →
    AllPrintable (xs ++ ys)
all_printable [] ys h g = g
all_printable (x ∷ xs) ys h g = (h.0, all_printable xs ys h.1 g)

-- ---- what is found in rows

pub some_or : {X : Type 0} (P : X → Type 0) (b : Bool) (x : X) (rest : Option X) → P x →
    IfSome rest P → IfSome (cond b (Some x) rest) P
some_or P true x rest h g = h
some_or P false x rest h g = g

-- each row's name, by computing
abbrev line_passes : Line → Bool
line_passes row = list_all is_printable row.name

abbrev flag_passes : FlagRow → Bool
flag_passes flag = list_all is_printable flag.name

abbrev Passing : {X : Type 0} → (X → Bool) → List (ℕ × X) → Bool
Passing test rows = list_all (λ row. test row.1) rows

found_passes : (rows : List (ℕ × Line)) (n : ℕ) → Passing line_passes rows ≡ true →
    IfSome (found rows n) (λ row. line_passes row ≡ true)
found_passes [] n h = tt
found_passes (row ∷ rows) n h =
    let parts = and_parts (line_passes row.1) (Passing line_passes rows) h in
    some_or (λ (x : Line). line_passes x ≡ true) (eqb n row.0) row.1 (found rows n) parts.0
    (found_passes rows n parts.1)

word_passes : (rows : List (ℕ × List ℕ)) (n : ℕ) → Passing (list_all is_printable) rows ≡ true →
    IfSome (word_found rows n) (λ name. list_all is_printable name ≡ true)
word_passes [] n h = tt
word_passes (row ∷ rows) n h =
    let parts = and_parts (list_all is_printable row.1) (Passing (list_all is_printable) rows) h in
    some_or (λ (x : List ℕ). list_all is_printable x ≡ true) (eqb n row.0) row.1
    (word_found rows n) parts.0 (word_passes rows n parts.1)

flag_found_passes : (rows : List (ℕ × FlagRow)) (n : ℕ) → Passing flag_passes rows ≡ true →
    IfSome (flag_found rows n) (λ flag. flag_passes flag ≡ true)
flag_found_passes [] n h = tt
flag_found_passes (row ∷ rows) n h =
    let parts = and_parts (flag_passes row.1) (Passing flag_passes rows) h in
    some_or (λ (x : FlagRow). flag_passes x ≡ true) (eqb n row.0) row.1 (flag_found rows n)
    parts.0 (flag_found_passes rows n parts.1)

family_passes : (f : Family) → Passing line_passes (rows_of (table.Family f)) ≡ true
family_passes family.Amt = refl
family_passes _ = refl

rows_pass : (t : Table) → Passing line_passes (rows_of t) ≡ true
rows_pass (table.Family f) = family_passes f
rows_pass _ = refl

words_pass : (w : Words) → Passing (list_all is_printable) (word_rows w) ≡ true
words_pass words.AdSelect = refl
words_pass _ = refl

flags_pass : (f : Flags) → Passing flag_passes (flag_of f) ≡ true
flags_pass flags.Vlan = refl
flags_pass _ = refl

line_named : (o : Option Line) → IfSome o (λ row. line_passes row ≡ true) →
    IfSome o (λ row. Passes row.name)
line_named None h = tt
line_named (Some row) h = known_passes row.name h

row_named : (t : Table) (n : ℕ) → IfSome (row_of t n) (λ row. Passes row.name)
row_named t n = line_named (row_of t n) (found_passes (rows_of t) n (rows_pass t))

flag_named : (f : Flags) (n : ℕ) → IfSome (flag_at f n) (λ flag. flag_passes flag ≡ true)
flag_named f n = flag_found_passes (flag_of f) n (flags_pass f)

-- ---- values

hex_passes : (n : ℕ) → AllPass is_printable (hex_text n)
hex_passes n = passes (hex_text n) (hex_printable n)

pub hex_data_printable : (s : List ℕ) → IsBytes s → IsPrintable (hex_data s)
hex_data_printable s h = passes _ (encode_printable s h)

-- what is shown of a value in hex is bytes, and an address has segments of 16 bits
abbrev Held : value.Value → Type 0
Held (value.v6 a) = AreSegments a.segments
Held (value.bytes s) = IsBytes s
Held _ = Unit {0}

any_held : (sh : Shape) → ((x : Carrier sh) → Held (wrap sh x)) → (r : Result (Carrier sh) Cause) →
    IfOk (wrapped sh r) Held
any_held sh h (Ok x) = h x
any_held sh h (Err e) = tt

either_held : (sh : Shape) (b : Bool) (r q : Result (Carrier sh) Cause) → IfOk (wrapped sh r) Held →
    IfOk (wrapped sh q) Held → IfOk (wrapped sh (cond b r q)) Held
either_held sh true r q h g = h
either_held sh false r q h g = g

byte_held : (o : Option ℕ) → Held (byte_value o)
byte_held None = tt
byte_held (Some b) = tt

reads_held : (sh : Shape) (payload : List ℕ) → IsBytes payload → IfOk (reads sh payload) Held
unfolding reads
reads_held shape.V6 payload h =
    either_held shape.V6 (length payload == 16) (Ok (ipv6_of payload)) (Err cause.Length)
    (are_segments payload h) tt
reads_held shape.GeneveV6 payload h =
    either_held shape.GeneveV6 (length payload == 4) (Err cause.AddressKind)
    (of_length 16 payload (ipv6_of payload)) tt
    (either_held shape.GeneveV6 (length payload == 16) (Ok (ipv6_of payload)) (Err cause.Length)
    (are_segments payload h) tt)
reads_held shape.Ip payload h =
    either_held shape.Ip (length payload == 4) (Ok (ip.V4 (ipv4_of payload)))
    (of_length 16 payload (ip.V6 (ipv6_of payload))) tt
    (either_held shape.Ip (length payload == 16) (Ok (ip.V6 (ipv6_of payload))) (Err cause.Length)
    (are_segments payload h) tt)
reads_held shape.Raw payload h = h
reads_held shape.EmptyOrByte payload h =
    any_held shape.EmptyOrByte byte_held (means shape.EmptyOrByte payload)
reads_held sh payload h = any_held sh (λ x. tt) (means sh payload)

meant_held : (sh : Shape) (payload : List ℕ) → IsBytes payload → IfOk (meant sh payload) Held
meant_held shape.SelfList payload h = h
meant_held shape.Peer payload h = h
meant_held (shape.Nested family) payload h = h
meant_held shape.BridgeId payload h = h
meant_held shape.LePair16 payload h = h
meant_held shape.Le32x8 payload h = h
meant_held shape.CanBitTimingConst payload h = h
meant_held shape.Le16s payload h = h
meant_held shape.Le32s payload h = h
meant_held shape.V4List payload h = h
meant_held shape.V6List payload h = h
meant_held sh payload h = reads_held sh payload h

plain_printable : (v : value.Value) → Held v → IsPrintable (plain_data v)
plain_printable (value.number n) h = tt
plain_printable (value.signed z) h = tt
plain_printable (value.truth b) h = tt
plain_printable value.empty h = tt
plain_printable (value.text s) h = escaped_printable s
plain_printable (value.v4 a) h = passes _ (v4_printable a.octets)
plain_printable (value.v6 a) h = passes _ (v6_printable a.segments h)
plain_printable (value.mac s) h = passes _ (octets_printable octet.Two s)
plain_printable (value.pair a b) h =
    (known_passes (codes "high") refl, tt, (known_passes (codes "low") refl, tt, tt))
plain_printable (value.bytes s) h = hex_data_printable s h

plain_or_hex_printable : (payload : List ℕ) (r : Result value.Value Cause) → IsBytes payload →
    IfOk r Held → IsPrintable (plain_or_hex payload r)
plain_or_hex_printable payload (Ok v) h g = plain_printable v g
plain_or_hex_printable payload (Err e) h g = hex_data_printable payload h

plain_as_printable : (sh : Shape) (payload : List ℕ) → IsBytes payload →
    IsPrintable (plain_or_hex payload (meant sh payload))
plain_as_printable sh payload h =
    plain_or_hex_printable payload (meant sh payload) h (meant_held sh payload h)

either_data : (b : Bool) (d e : Data) → IsPrintable d → IsPrintable e → IsPrintable (cond b d e)
either_data true d e h g = h
either_data false d e h g = g

named_printable : (o : Option (List ℕ)) (n : ℕ) →
    IfSome o (λ name. list_all is_printable name ≡ true) → IsPrintable (named o n)
named_printable (Some name) n h = known_passes name h
named_printable None n h = tt

switch_printable : (n : ℕ) → IsPrintable (switch_data n)
switch_printable n =
    either_data (n == 0) (boolean false) _ tt
    (either_data (n == 1) (boolean true) (number_data n) tt tt)

bit_timing_printable : (payload : List ℕ) → MembersArePrintable (bit_timing payload)
bit_timing_printable payload =
    let number = number_at payload 4 in (
      known_passes (codes "bitrate") refl,
      tt,
      (
        known_passes (codes "brp") refl,
        tt,
        (
          known_passes (codes "phase_seg1") refl,
          tt,
          (
            known_passes (codes "phase_seg2") refl,
            tt,
            (
              known_passes (codes "prop_seg") refl,
              tt,
              (
                known_passes (codes "sample_point") refl,
                passes (thousandths_text number) (thousandths_printable number),
                (
                  known_passes (codes "sjw") refl,
                  tt,
                  (known_passes (codes "tq") refl, tt, tt),
                ),
              ),
            ),
          ),
        ),
      ),
    )

limit_printable : (least greatest : ℕ) → IsPrintable (limit_data least greatest)
limit_printable least greatest =
    (known_passes (codes "max") refl, tt, (known_passes (codes "min") refl, tt, tt))

bit_timing_const_printable : (payload : List ℕ) → MembersArePrintable (bit_timing_const payload)
bit_timing_const_printable payload = (
  known_passes (codes "brp") refl,
  limit_printable (number_at payload 36) (number_at payload 40),
  (
    known_passes (codes "brp_inc") refl,
    tt,
    (
      known_passes (codes "name") refl,
      escaped_printable (before_nul (take 16 payload)),
      (
        known_passes (codes "sjw") refl,
        limit_printable 1 (number_at payload 32),
        (
          known_passes (codes "tseg1") refl,
          limit_printable (number_at payload 16) (number_at payload 20),
          (
            known_passes (codes "tseg2") refl,
            limit_printable (number_at payload 24) (number_at payload 28),
            tt,
          ),
        ),
      ),
    ),
  ),
)

error_counters_printable : (payload : List ℕ) → IsBytes payload →
    IsPrintable (error_counters_data payload)
error_counters_printable payload h =
    either_data (length payload == 4) _ (hex_data payload)
    (known_passes (codes "rx") refl, tt, (known_passes (codes "tx") refl, tt, tt))
    (hex_data_printable payload h)

parts_printable : (n width : ℕ) (sh : Shape) (payload : List ℕ) → IsBytes payload →
    AllPrintable (parts_data n width sh payload)
unfolding parts_data
parts_printable zero width sh payload h = tt
parts_printable (suc n) width sh payload h = (
  plain_as_printable sh (take width payload) (IsBytes-take width payload h),
  parts_printable n width sh (drop width payload) (IsBytes-drop width payload h),
)

array_printable : (width : ℕ) (sh : Shape) (payload : List ℕ) → IsBytes payload →
    IsPrintable (array_data width sh payload)
array_printable width sh payload h =
    let parts = parts_data (length payload / width) width sh payload in
    either_data (length payload % width == 0) (array (items_of parts)) (hex_data payload)
    (items_printable parts (parts_printable (length payload / width) width sh payload h))
    (hex_data_printable payload h)

format_printable : (f : Format) (v : value.Value) (payload : List ℕ) → IsBytes payload → Held v →
    IsPrintable (format_data f v payload)
format_printable format.Present v payload h g = tt
format_printable format.Switch v payload h g = switch_printable (first_of v)
format_printable format.Hex v payload h g = hex_passes (first_of v)
format_printable format.HexOrZero v payload h g =
    passes (hex_or_zero (first_of v)) (hex_or_zero_printable (first_of v))
format_printable format.KeyHex v payload h g =
    passes (codes "0x" ++ four_digits (first_of v)) (key_printable (first_of v))
format_printable format.FourDigits v payload h g =
    passes (four_digits (first_of v)) (four_printable (first_of v))
format_printable format.Octets v payload h g = hex_data_printable payload h
format_printable format.HardwareAddress v payload h g =
    passes (octets_text octet.Two payload) (octets_printable octet.Two payload)
format_printable format.Quad v payload h g = plain_as_printable shape.V4 payload h
format_printable (format.Word w) v payload h g =
    named_printable (word w (first_of v)) (first_of v)
    (word_passes (word_rows w) (first_of v) (words_pass w))
format_printable format.Address v payload h g =
    either_data _ (string (codes "any")) _ (known_passes (codes "any") refl) (plain_printable v g)
format_printable format.BridgeId v payload h g =
    either_data (length payload == 8) (string _) _ (
    passes
    (flat_map byte_digits (take 2 payload) ++ 46 ∷ octets_text octet.Fewest (drop 2 payload))
    (bridge_printable payload)
    )
    (hex_data_printable payload h)
format_printable format.BitTiming v payload h g =
    either_data (length payload == 32) (object (bit_timing payload)) _
    (bit_timing_printable payload) (hex_data_printable payload h)
format_printable format.BitTimingConst v payload h g =
    either_data (length payload == 48) (object (bit_timing_const payload)) _
    (bit_timing_const_printable payload) (hex_data_printable payload h)
format_printable format.ErrorCounters v payload h g = error_counters_printable payload h
format_printable format.Le16s v payload h g = array_printable 2 shape.Le16 payload h
format_printable format.Le32s v payload h g = array_printable 4 shape.Le32 payload h
format_printable _ v payload h g = plain_printable v g

flags_printable : (v : value.Value) → IsPrintable (flags_data v)
flags_printable (value.pair a b) =
    passes (hex_text a ++ codes "/" ++ hex_text b)
    (both_printable (hex_text a ++ codes "/") (hex_text b)
    (both_printable (hex_text a) (codes "/") (hex_printable a) (known (codes "/") refl))
    (hex_printable b))
flags_printable v = hex_passes (first_of v)

-- ---- named values

abbrev NamedPrintable : List Named → Type 0
NamedPrintable xs = AllByRecursion (λ (x : Named). Passes x.0 × IsPrintable x.1) xs

bit_printable : (o : Option FlagRow) (n : ℕ) (more : List Named) →
    IfSome o (λ flag. flag_passes flag ≡ true) → NamedPrintable more →
    NamedPrintable (with_bit o n more)
bit_printable None n more h g = g
bit_printable (Some flag) n more h g = ((known_passes flag.name h, tt), g)

bits_printable : (k place : ℕ) (f : Flags) (n : ℕ) → NamedPrintable (bits_from k place f n)
unfolding bits_from
bits_printable zero place f n = tt
bits_printable (suc k) place f n =
    bit_printable (flag_at f place) n _ (flag_named f place) (bits_printable k (suc place) f n)

if_named : (b : Bool) (x : Named) (more : List Named) → Passes x.0 × IsPrintable x.1 →
    NamedPrintable more → NamedPrintable (cond b (x ∷ more) more)
if_named true x more h g = (h, g)
if_named false x more h g = g

option_printable : (o : Option FlagRow) (n mask : ℕ) (more : List Named) →
    IfSome o (λ flag. flag_passes flag ≡ true) → NamedPrintable more →
    NamedPrintable (with_option o n mask more)
option_printable None n mask more h g = g
option_printable (Some flag) n mask more h g =
    if_named _ _ more (known_passes flag.name h, tt) g

options_printable : (k place : ℕ) (f : Flags) (n mask : ℕ) →
    NamedPrintable (options_from k place f n mask)
unfolding options_from
options_printable zero place f n mask = tt
options_printable (suc k) place f n mask =
    option_printable (flag_at f place) n mask _ (flag_named f place)
    (options_printable k (suc place) f n mask)

pub if_data : (b : Bool) (x : Data) (more : List Data) → IsPrintable x → AllPrintable more →
    AllPrintable (cond b (x ∷ more) more)
if_data true x more h g = (h, g)
if_data false x more h g = g

name_printable : (o : Option FlagRow) (n : ℕ) (more : List Data) →
    IfSome o (λ flag. flag_passes flag ≡ true) → AllPrintable more →
    AllPrintable (with_name o n more)
name_printable None n more h g = g
name_printable (Some flag) n more h g =
    if_data _ (string flag.name) more (known_passes flag.name h) g

names_printable : (k place : ℕ) (f : Flags) (n : ℕ) → AllPrintable (names_from k place f n)
unfolding names_from
names_printable zero place f n = tt
names_printable (suc k) place f n =
    name_printable (flag_at f place) n _ (flag_named f place) (names_printable k (suc place) f n)

pub no_or_one : (b : Bool) (d : Data) → IsPrintable d → AllPrintable (cond b [] (d ∷ []))
no_or_one true d h = tt
no_or_one false d h = (h, tt)

names_data_printable : (f : Flags) (n : ℕ) → IsPrintable (names_data f n)
names_data_printable f n =
    let left = over_flags without 16 0 f n n in
    items_printable _ (
    all_printable _ _ (names_printable 16 0 f n)
    (no_or_one (left == 0) (string (hex_text left)) (hex_passes left))
    )

comma_printable : (s : List ℕ) → Printable s → Printable (with_comma s)
comma_printable [] h = tt
comma_printable (c ∷ s) h = both_printable (c ∷ s) (codes ",") h (known (codes ",") refl)

listed_printable : (o : Option FlagRow) (n : ℕ) (s : List ℕ) →
    IfSome o (λ flag. flag_passes flag ≡ true) → Printable s → Printable (listed o n s)
listed_printable None n s h g = g
listed_printable (Some flag) n s h g =
    either_printable (is_set flag n) (with_comma s ++ flag.name) s
    (both_printable (with_comma s) flag.name (comma_printable s g) (known flag.name h)) g

all_listed : (k place : ℕ) (f : Flags) (n : ℕ) (s : List ℕ) → Printable s →
    Printable (over_flags listed k place f n s)
unfolding over_flags
all_listed zero place f n s h = h
all_listed (suc k) place f n s h =
    all_listed k (suc place) f n (listed (flag_at f place) n s)
    (listed_printable (flag_at f place) n s (flag_named f place) h)

zero_printable : (s : List ℕ) → Printable s → Printable (or_zero s)
zero_printable [] h = known (codes "0x0") refl
zero_printable (c ∷ s) h = h

listed_passes : (f : Flags) (n : ℕ) → Passes (listed_text f n)
listed_passes f n = passes (listed_text f n) (zero_printable _ (all_listed 16 0 f n [] tt))

-- ---- lists

other_printable : (o : Option (List ℕ)) (a : Attribute) → IfSome o Passes → IsBytes a.value →
    IsPrintable (other_data o a)
other_printable None a h g = (
  known_passes (codes "hex") refl,
  hex_data_printable a.value g,
  (known_passes (codes "type") refl, tt, tt),
)
other_printable (Some name) a h g = (
  known_passes (codes "hex") refl,
  hex_data_printable a.value g,
  (known_passes (codes "name") refl, h, (known_passes (codes "type") refl, tt, tt)),
)

rest_printable : (s : List ℕ) (ms : Members) → IsBytes s → MembersArePrintable ms →
    MembersArePrintable (rest_member s ms)
rest_printable [] ms h g = g
rest_printable (b ∷ s) ms h g =
    put_printable (codes "rest") (hex_data (b ∷ s)) ms (known_passes (codes "rest") refl)
    (hex_data_printable (b ∷ s) h) g

-- the attributes have payloads of bytes
abbrev pub HaveBytes : List Attribute → Type 0
HaveBytes xs = AllByRecursion (λ (a : Attribute). IsBytes a.value) xs

mapping_printable : (r : Result value.Value Cause) (payload : List ℕ) → IsBytes payload →
    IsPrintable (mapping r payload)
mapping_printable (Ok (value.pair a b)) payload h =
    (known_passes (codes "from") refl, tt, (known_passes (codes "to") refl, tt, tt))
mapping_printable (Ok _) payload h = hex_data_printable payload h
mapping_printable (Err e) payload h = hex_data_printable payload h

payload_printable : (el : Elements) (payload : List ℕ) → IsBytes payload →
    IsPrintable (element_payload el payload)
payload_printable elements.HardwareAddresses payload h = plain_as_printable shape.Mac payload h
payload_printable elements.Addresses payload h = plain_as_printable shape.Ip payload h
payload_printable elements.PriorityPairs payload h = mapping_printable _ payload h

elements_printable : (el : Elements) (place : ℕ) (xs : List Attribute) → HaveBytes xs →
    AllPrintable (elements_from el place xs)
elements_printable el place [] h = tt
elements_printable el place (a ∷ more) h = (
  either_data (a.kind == element_type el place) (element_payload el a.value) (other_data None a)
      (payload_printable el a.value h.0) (other_printable None a tt h.0),
  elements_printable el (suc place) more h.1,
)

rest_data_printable : (s : List ℕ) → IsBytes s → AllPrintable (rest_data s)
rest_data_printable [] h = tt
rest_data_printable (b ∷ s) h = (rest_printable (b ∷ s) no_members h tt, tt)

-- the payloads of a byte string are bytes, and what follows them
whole_front : (front : List Attribute) (left : List ℕ) → whole (nla_items_of front left) ≡ front
whole_front [] [] = refl
whole_front [] (b ∷ r) = refl
whole_front (a ∷ more) r = ap (λ (xs : List Attribute). a ∷ xs) (whole_front more r)

payloads : (front : List Attribute) → AllByRecursion IsAttribute front → HaveBytes front
payloads [] h = tt
payloads (a ∷ more) h = (h.0.bytes, payloads more h.1)

pub front_bytes : (s : List ℕ) → IsBytes s → HaveBytes (split s).front
front_bytes s h =
    payloads (split s).front (splits_attributes s (split s).front (split s).left (split_is s h))

attributes_bytes : (s : List ℕ) → IsBytes s → HaveBytes (attributes s)
attributes_bytes s h =
    subst HaveBytes
    (sym (ap whole (nla_items_split s) ∙ whole_front (split s).front (split s).left))
    (front_bytes s h)

after_bytes : (items : List (Result Attribute ℕ)) (s : List ℕ) → IsBytes s →
    IsBytes (after_whole items s)
after_bytes [] s h = h
after_bytes ((Ok a) ∷ more) s h =
    after_bytes more _ (IsBytes-drop (aligned (4 + length a.value)) s h)
after_bytes ((Err n) ∷ more) s h = h

rest_bytes : (s : List ℕ) → IsBytes s → IsBytes (rest_of s)
rest_bytes s h = after_bytes (nla_items s) s h

elements_data_printable : (el : Elements) (payload : List ℕ) → IsBytes payload →
    IsPrintable (elements_data el payload)
elements_data_printable el payload h = items_printable _ (
    all_printable _ _ (elements_printable el 0 (attributes payload) (attributes_bytes payload h))
    (rest_data_printable (rest_of payload) (rest_bytes payload h))
    )

-- the members of an attribute, where a nested list has printable texts
either_name : (b : Bool) (x y : List ℕ) → Passes x → Passes y → Passes (cond b x y)
either_name true x y h g = h
either_name false x y h g = g

str_passes : (name : List ℕ) → Passes name → Passes (name ++ codes "_str")
str_passes name h =
    All-append (λ (c : ℕ). is_printable c ≡ true) name (codes "_str") h
    (known_passes (codes "_str") refl)

abbrev NestedPrintable : (Table → List ℕ → Data) → Type 0
NestedPrintable nested = (t : Table) (s : List ℕ) → IsBytes s → IsPrintable (nested t s)

supported_printable : (o : Option ℕ) → NamedPrintable (supported_members o)
supported_printable None = tt
supported_printable (Some n) =
    ((known_passes (codes "ctrlmode_supported") refl, names_data_printable flags.Can n), tt)

members_printable : (nested : Table → List ℕ → Data) → NestedPrintable nested → (name : List ℕ)
    (f : Format) (v : value.Value) (payload : List ℕ) → Passes name → IsBytes payload → Held v →
    NamedPrintable (format_members nested name f v payload)
members_printable nested all name (format.Mask flags) v payload p h g = (
  (p, passes (hex_or_zero (first_of v)) (hex_or_zero_printable (first_of v))),
  ((known_passes (codes "group_fwd_mask_str") refl, listed_passes flags (first_of v)), tt),
)
members_printable nested all name format.FlowInfo v payload p h g = (
  (p, hex_passes (first_of v)),
  (
    (
      known_passes (codes "tclass") refl,
      passes (class_text (first_of v / 0x100000)) (class_printable (first_of v / 0x100000)),
    ),
    (
      (
        known_passes (codes "flowlabel") refl,
        passes (label_text (first_of v)) (label_printable (first_of v)),
      ),
      tt,
    ),
  ),
)
members_printable nested all name format.Group v payload p h g = (
  (
    either_name (is_multicast payload) name (codes "remote") p (known_passes (codes "remote") refl),
    plain_printable v g,
  ),
  tt,
)
members_printable nested all name format.Group6 v payload p h g = (
  (
    either_name (is_multicast payload) name (codes "remote6") p
        (known_passes (codes "remote6") refl),
    plain_printable v g,
  ),
  tt,
)
members_printable nested all name (format.Bits f) v payload p h g =
    ((p, flags_printable v), bits_printable 16 0 f (first_of v))
members_printable nested all name (format.Options f) v payload p h g =
    ((p, flags_printable v), options_printable 16 0 f (first_of v) (second_of v))
members_printable nested all name (format.Names f) v payload p h g = (
  (p, names_data_printable f _),
  ((known_passes (codes "flags_mask") refl, hex_passes (second_of v)), tt),
)
members_printable nested all name (format.SecondNames f) v payload p h g = (
  (p, names_data_printable f _),
  ((known_passes (codes "ctrlmode_mask") refl, hex_passes (first_of v)), tt),
)
members_printable nested all name (format.FlagNames f) v payload p h g =
    ((p, names_data_printable f _), tt)
members_printable nested all name format.LacpState v payload p h g = (
  (p, tt),
  (
    (str_passes name p, names_data_printable flags.LacpState (first_of v % 256)),
    tt,
  ),
)
members_printable nested all name (format.List el) v payload p h g =
    ((p, elements_data_printable el payload h), tt)
members_printable nested all name (format.Nested f) v payload p h g =
    ((p, all (table.Family f) payload h), tt)
members_printable nested all name format.Supported v payload p h g = (
  (p, all (table.Family family.CanCtrlModeExt) payload h),
  supported_printable (supported_modes None (attributes payload)),
)
members_printable nested all name f v payload p h g =
    ((p, format_printable f v payload h g), tt)

meant_printable : (nested : Table → List ℕ → Data) → NestedPrintable nested → (row : Line)
    (payload : List ℕ) (r : Result value.Value Cause) → Passes row.name → IsBytes payload →
    IfOk r Held → NamedPrintable (members_meant nested row payload r)
meant_printable nested all row payload (Ok v) p h g =
    members_printable nested all row.name row.format v payload p h g
meant_printable nested all row payload (Err e) p h g = ((p, hex_data_printable payload h), tt)

put_all_printable : (xs : List Named) (ms : Members) → NamedPrintable xs →
    MembersArePrintable ms → MembersArePrintable (put_all xs ms)
put_all_printable [] ms h g = g
put_all_printable (x ∷ xs) ms h g =
    put_all_printable xs (put x.0 x.1 ms) h.1 (put_printable x.0 x.1 ms h.0.0 h.0.1 g)

unless_named : (b : Bool) (t : Table) (n : ℕ) → IfSome (row_unless b t n) (λ row. Passes row.name)
unless_named true t n = tt
unless_named false t n = row_named t n

put_shown_printable : (nested : Table → List ℕ → Data) → NestedPrintable nested →
    (o : Option Line) (payload : List ℕ) (ms : Members) → IfSome o (λ row. Passes row.name) →
    IsBytes payload → MembersArePrintable ms → MembersArePrintable (put_shown nested o payload ms)
put_shown_printable nested all None payload ms p h g = g
put_shown_printable nested all (Some row) payload ms p h g =
    put_all_printable _ ms (meant_printable nested all row payload (meant row.shape payload) p h
    (meant_held row.shape payload h)) g

shown_printable : (nested : Table → List ℕ → Data) → NestedPrintable nested → (t : Table)
    (xs : List Attribute) (ms : Members) → HaveBytes xs → MembersArePrintable ms →
    MembersArePrintable (shown_in nested t xs ms)
shown_printable nested all t [] ms h g = g
shown_printable nested all t (a ∷ more) ms h g =
    shown_printable nested all t more (put_shown nested (row_before t a more) a.value ms) h.1
    (put_shown_printable nested all (row_before t a more) a.value ms (unless_named _ t _) h.0 g)

label_printable_of : (o : Option Line) → IfSome o (λ row. Passes row.name) →
    IfSome (label_of o) Passes
label_printable_of None h = tt
label_printable_of (Some row) h = h

others_with_printable : (o : Option Line) (t : Table) (a : Attribute) (more : List Data) →
    IsBytes a.value → AllPrintable more → AllPrintable (others_with o t a more)
others_with_printable None t a more h g = (
  other_printable (label_of (row_of t (masked a.kind))) a
      (label_printable_of (row_of t (masked a.kind)) (row_named t (masked a.kind))) h,
  g,
)
others_with_printable (Some row) t a more h g = g

others_printable : (t : Table) (xs : List Attribute) → HaveBytes xs →
    AllPrintable (others_in t xs)
others_printable t [] h = tt
others_printable t (a ∷ more) h =
    others_with_printable (row_before t a more) t a _ h.0 (others_printable t more h.1)

others_member_printable : (ds : List Data) (ms : Members) → AllPrintable ds →
    MembersArePrintable ms → MembersArePrintable (others_member ds ms)
others_member_printable [] ms h g = g
others_member_printable (d ∷ ds) ms h g =
    put_printable (codes "others") (array (items_of (d ∷ ds))) ms
    (known_passes (codes "others") refl) (items_printable (d ∷ ds) h) g

list_printable : (nested : Table → List ℕ → Data) → NestedPrintable nested → (t : Table)
    (s : List ℕ) → IsBytes s → IsPrintable (list_data nested t s)
unfolding list_data
list_printable nested all t s h =
    let xs = attributes s in
    let bytes = attributes_bytes s h in
    rest_printable (rest_of s) (others_member (others_in t xs) (shown_in nested t xs no_members))
    (rest_bytes s h)
    (others_member_printable (others_in t xs) (shown_in nested t xs no_members)
    (others_printable t xs bytes) (shown_printable nested all t xs no_members bytes tt))

nested_printable : (t : Table) (s : List ℕ) → IsBytes s → IsPrintable (nested_data t s)
unfolding nested_data
nested_printable t s h = list_printable hex_nested (λ u p g. hex_data_printable p g) t s h

pub attributes_printable : (t : Table) (s : List ℕ) → IsBytes s →
    IsPrintable (attributes_data t s)
unfolding attributes_data
attributes_printable t s h = list_printable nested_data nested_printable t s h
