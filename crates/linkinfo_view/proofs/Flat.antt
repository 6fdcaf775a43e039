-- How deep the JSON of a list of attributes is, and that it has no float.
use Rattle.std.proofs.Common.{
  ◌≡◌,
  ℕ,
  zero,
  suc,
  ℤ,
  pos,
  negsuc,
  ◌≤◌,
  ◌==◌,
  Bool,
  true,
  false,
  ◌||◌,
  cond,
  List,
  [],
  ◌∷◌,
  ◌++◌,
  Option,
  Some,
  None,
  Result,
  Ok,
  Err,
  Ordering,
  Less,
  Equal,
  Greater,
  IfOk,
  refl,
  ap,
  subst,
  sym,
  ◌∙◌,
  arith,
  lit≤,
  nat_cmp,
  codes,
  drop,
  length,
  take,
}
use Rattle.std.specs.Cmp.Lexicographic.{slice_cmp}
use Rattle.std.specs.Int.{from_le_bytes, w16}
use Rattle.std.specs.List.{AllByRecursion}
use Rattle.std.specs.Ordering.{match_ordering}
use Rattle.nla_frame.specs.Attribute.{Attribute}
use Rattle.nla_frame.specs.declared.error.Cause.{Cause}
use Rattle.linkinfo_shapes.specs.Data as value
use Rattle.linkinfo_shapes.specs.declared.shape.Shape.{Shape}
use Rattle.linkinfo_shapes.specs.declared.shape.Shape.TheVariants as shape
use Rattle.serde_json.specs.Data.{
  Data,
  Members,
  array,
  boolean,
  depth,
  items_depth,
  member,
  members_depth,
  no_members,
  number,
  object,
  put,
  string,
}
use Rattle.serde_json.specs.Find.{of_integer}
use Rattle.serde_json.specs.View.{items_of, view}
use Rattle.serde_json.specs.declared.value.Value.{Value}
use Rattle.std.specs.declared.alloc.AllocError.{AllocError}
use Rattle.serde_json.specs.Written.{has_float, items_have_float, members_have_float}
use Rattle.linkinfo_view.specs.Attributes.{attributes, rest_of}
use Rattle.linkinfo_view.specs.Lines.{Line}
use Rattle.linkinfo_view.specs.Text.{hex_data}
use Rattle.linkinfo_view.specs.Values.{
  Named,
  array_data,
  bit_timing,
  bit_timing_const,
  bits_from,
  error_counters_data,
  first_of,
  flags_data,
  format_data,
  meant,
  named,
  names_data,
  names_from,
  number_data,
  options_from,
  parts_data,
  second_of,
  plain_data,
  plain_or_hex,
  switch_data,
  two,
  with_bit,
  with_name,
  with_option,
}
use Rattle.nla_frame.specs.declared.error.Family.TheVariants as family
use Rattle.linkinfo_view.specs.View.{
  attributes_data,
  element_payload,
  elements_data,
  elements_from,
  format_members,
  hex_nested,
  list_data,
  mapping,
  members_meant,
  nested_data,
  other_data,
  others_in,
  others_member,
  others_with,
  put_all,
  put_shown,
  rest_data,
  rest_member,
  row_before,
  shown_in,
  supported_members,
  supported_modes,
  with_label,
}
use Rattle.linkinfo_view.specs.Words.{FlagRow, flag_at, word}
use Rattle.linkinfo_view.specs.declared.format.Elements.{Elements}
use Rattle.linkinfo_view.specs.declared.format.Elements.TheVariants as elements
use Rattle.linkinfo_view.specs.declared.format.Flags.{Flags}
use Rattle.linkinfo_view.specs.declared.format.Format.{Format}
use Rattle.linkinfo_view.specs.declared.format.Format.TheVariants as format
use Rattle.linkinfo_view.specs.declared.format.Table.{Table}
use Rattle.linkinfo_view.specs.declared.format.Table.TheVariants as tables

-- not deeper than a number, and without a float
pub record IsFlat (n : ℕ) (d : Data) : Type 0 where
  pub within : depth d ≤ n
  pub whole : has_float d ≡ false

pub record AreFlat (n : ℕ) (ms : Members) : Type 0 where
  pub within : members_depth ms ≤ n
  pub whole : members_have_float ms ≡ false

pub deeper : (m n : ℕ) (d : Data) → m ≤ n → IsFlat m d → IsFlat n d
deeper m n d le h = let within = h.within in record { within = omega arith; whole = h.whole }

neither : (a b : Bool) → a ≡ false → b ≡ false → (a || b) ≡ false
neither a b p q = ap (λ (x : Bool). x || b) p ∙ q

left_of : (a b : Bool) → (a || b) ≡ false → a ≡ false
left_of true b h = h
left_of false b h = refl

right_of : (a b : Bool) → (a || b) ≡ false → b ≡ false
right_of true b h = absurd (cc)
right_of false b h = h

one_more : (n : ℕ) (k : List ℕ) (d : Data) (ms : Members) → IsFlat n d → AreFlat n ms →
    AreFlat n (member k d ms)
one_more n k d ms h g = let first = h.within in let others = g.within in
    record { within = omega arith; whole = neither (has_float d) _ h.whole g.whole }

first_flat : (n : ℕ) (k : List ℕ) (d : Data) (ms : Members) → AreFlat n (member k d ms) → IsFlat n d
first_flat n k d ms h = let within = h.within in
    record { within = omega arith; whole = left_of (has_float d) (members_have_float ms) h.whole }

others_flat : (n : ℕ) (k : List ℕ) (d : Data) (ms : Members) → AreFlat n (member k d ms) →
    AreFlat n ms
others_flat n k d ms h = let within = h.within in
    record { within = omega arith; whole = right_of (has_float d) (members_have_float ms) h.whole }

one_of : (n : ℕ) (o : Ordering) (a b c : Members) → AreFlat n a → AreFlat n b → AreFlat n c →
    AreFlat n (match_ordering o a b c)
one_of n Less a b c p q r = p
one_of n Equal a b c p q r = q
one_of n Greater a b c p q r = r

pub put_flat : (n : ℕ) (k : List ℕ) (d : Data) (ms : Members) → IsFlat n d → AreFlat n ms →
    AreFlat n (put k d ms)
put_flat n k d no_members h g = one_more n k d no_members h g
put_flat n k d (member l e ms) h g =
    let first = first_flat n l e ms g in
    let later = others_flat n l e ms g in
    one_of n (slice_cmp nat_cmp k l) _ _ _
    (one_more n k d (member l e ms) h g)
    (one_more n l d ms h later)
    (one_more n l e (put k d ms) first (put_flat n k d ms h later))

none_flat : (n : ℕ) → AreFlat n no_members
none_flat n = record { within = omega arith; whole = refl }

object_flat : (n : ℕ) (ms : Members) → AreFlat n ms → IsFlat (suc n) (object ms)
object_flat n ms h = let within = h.within in record { within = omega arith; whole = h.whole }

-- items of an array
items_within : (n : ℕ) (ds : List Data) → AllByRecursion (IsFlat n) ds →
    items_depth (items_of ds) ≤ n
items_within n [] h = omega arith
items_within n (d ∷ ds) h =
    let first = (h.0).within in let others = items_within n ds h.1 in omega arith

items_whole : (n : ℕ) (ds : List Data) → AllByRecursion (IsFlat n) ds →
    items_have_float (items_of ds) ≡ false
items_whole n [] h = refl
items_whole n (d ∷ ds) h = neither (has_float d) _ ((h.0).whole) (items_whole n ds h.1)

pub array_flat : (n : ℕ) (ds : List Data) → AllByRecursion (IsFlat n) ds →
    IsFlat (suc n) (array (items_of ds))
array_flat n ds h = let within = items_within n ds h in
    record { within = omega arith; whole = items_whole n ds h }

both_flat : (n : ℕ) (xs ys : List Data) → AllByRecursion (IsFlat n) xs →
    AllByRecursion (IsFlat n) ys → AllByRecursion (IsFlat n) (xs ++ ys)
both_flat n [] ys h g = g
both_flat n (x ∷ xs) ys h g = (h.0, both_flat n xs ys h.1 g)

-- single values
text_flat : (n : ℕ) (s : List ℕ) → IsFlat n (string s)
text_flat n s = record { within = omega arith; whole = refl }

number_flat : (n k : ℕ) → IsFlat n (number_data k)
number_flat n k = record { within = omega arith; whole = refl }

truth_flat : (n : ℕ) (b : Bool) → IsFlat n (boolean b)
truth_flat n b = record { within = omega arith; whole = refl }

signed_flat : (n : ℕ) (z : ℤ) → IsFlat n (number (of_integer z))
signed_flat n (pos k) = record { within = omega arith; whole = refl }
signed_flat n (negsuc k) = record { within = omega arith; whole = refl }

plain_flat : (v : value.Value) → IsFlat 1 (plain_data v)
plain_flat (value.number n) = number_flat 1 n
plain_flat (value.signed z) = signed_flat 1 z
plain_flat (value.truth b) = truth_flat 1 b
plain_flat value.empty = record { within = lit≤ tt; whole = refl }
plain_flat (value.text s) = text_flat 1 _
plain_flat (value.v4 a) = text_flat 1 _
plain_flat (value.v6 a) = text_flat 1 _
plain_flat (value.mac s) = text_flat 1 _
plain_flat (value.pair a b) = record { within = lit≤ tt; whole = refl }
plain_flat (value.bytes s) = text_flat 1 _

plain_or_hex_flat : (payload : List ℕ) (r : Result value.Value Cause) →
    IsFlat 1 (plain_or_hex payload r)
plain_or_hex_flat payload (Ok v) = plain_flat v
plain_or_hex_flat payload (Err e) = text_flat 1 _

named_flat : (o : Option (List ℕ)) (n : ℕ) → IsFlat 1 (named o n)
named_flat (Some name) n = text_flat 1 _
named_flat None n = number_flat 1 n

either_flat : (n : ℕ) (b : Bool) (d e : Data) → IsFlat n d → IsFlat n e → IsFlat n (cond b d e)
either_flat n true d e h g = h
either_flat n false d e h g = g

switch_flat : (n : ℕ) → IsFlat 1 (switch_data n)
switch_flat n =
    either_flat 1 (n == 0) (boolean false) _ (truth_flat 1 false)
    (either_flat 1 (n == 1) (boolean true) (number_data n) (truth_flat 1 true) (number_flat 1 n))

bit_timing_flat : (payload : List ℕ) → IsFlat 1 (object (bit_timing payload))
bit_timing_flat payload = record { within = lit≤ tt; whole = refl }

bit_timing_const_flat : (payload : List ℕ) → IsFlat 2 (object (bit_timing_const payload))
bit_timing_const_flat payload = record { within = lit≤ tt; whole = refl }

error_counters_flat : (payload : List ℕ) → IsFlat 1 (error_counters_data payload)
error_counters_flat payload =
    let sent = from_le_bytes w16 (take 2 payload) in
    let received = from_le_bytes w16 (drop 2 payload) in
    either_flat 1 (length payload == 4)
    (two (codes "tx") (number_data sent) (codes "rx") (number_data received)) (hex_data payload)
    (record { within = lit≤ tt; whole = refl }) (text_flat 1 _)

parts_flat : (n width : ℕ) (sh : Shape) (payload : List ℕ) →
    AllByRecursion (IsFlat 1) (parts_data n width sh payload)
unfolding parts_data
parts_flat zero width sh payload = tt
parts_flat (suc n) width sh payload = (
  plain_or_hex_flat (take width payload) (meant sh (take width payload)),
  parts_flat n width sh (drop width payload),
)

array_data_flat : (width : ℕ) (sh : Shape) (payload : List ℕ) →
    IsFlat 2 (array_data width sh payload)
array_data_flat width sh payload =
    either_flat 2 _ _ _ (array_flat 1 _ (parts_flat _ width sh payload)) (text_flat 2 _)

up : (d : Data) → IsFlat 1 d → IsFlat 2 d
up d h = deeper 1 2 d (lit≤ tt) h

format_flat : (f : Format) (v : value.Value) (payload : List ℕ) →
    IsFlat 2 (format_data f v payload)
format_flat format.Present v payload = truth_flat 2 _
format_flat format.Switch v payload = up _ (switch_flat (first_of v))
format_flat format.Hex v payload = text_flat 2 _
format_flat format.HexOrZero v payload = text_flat 2 _
format_flat format.KeyHex v payload = text_flat 2 _
format_flat format.FourDigits v payload = text_flat 2 _
format_flat format.Octets v payload = text_flat 2 _
format_flat format.HardwareAddress v payload = text_flat 2 _
format_flat format.Quad v payload = up _ (plain_or_hex_flat payload (meant shape.V4 payload))
format_flat (format.Word words) v payload = up _ (named_flat (word words (first_of v)) (first_of v))
format_flat format.Address v payload =
    either_flat 2 _ _ _ (text_flat 2 _) (up _ (plain_flat v))
format_flat format.BridgeId v payload = either_flat 2 _ _ _ (text_flat 2 _) (text_flat 2 _)
format_flat format.BitTiming v payload =
    either_flat 2 _ _ _ (up _ (bit_timing_flat payload)) (text_flat 2 _)
format_flat format.BitTimingConst v payload =
    either_flat 2 _ _ _ (bit_timing_const_flat payload) (text_flat 2 _)
format_flat format.ErrorCounters v payload = up _ (error_counters_flat payload)
format_flat format.Le16s v payload = array_data_flat 2 shape.Le16 payload
format_flat format.Le32s v payload = array_data_flat 4 shape.Le32 payload
format_flat _ v payload = up _ (plain_flat v)

flags_flat : (v : value.Value) → IsFlat 1 (flags_data v)
flags_flat (value.pair a b) = text_flat 1 _
flags_flat _ = text_flat 1 _

-- named values
abbrev pub NamedFlat : ℕ → List Named → Type 0
NamedFlat n xs = AllByRecursion (λ (x : Named). IsFlat n x.1) xs

with_bit_flat : (o : Option FlagRow) (n : ℕ) (more : List Named) → NamedFlat 1 more →
    NamedFlat 1 (with_bit o n more)
with_bit_flat None n more h = h
with_bit_flat (Some flag) n more h = (truth_flat 1 _, h)

bits_flat : (k place : ℕ) (flags : Flags) (n : ℕ) → NamedFlat 1 (bits_from k place flags n)
unfolding bits_from
bits_flat zero place flags n = tt
bits_flat (suc k) place flags n =
    with_bit_flat (flag_at flags place) n _ (bits_flat k (suc place) flags n)

if_named : (b : Bool) (x : Named) (more : List Named) → IsFlat 1 x.1 → NamedFlat 1 more →
    NamedFlat 1 (cond b (x ∷ more) more)
if_named true x more h g = (h, g)
if_named false x more h g = g

with_option_flat : (o : Option FlagRow) (n mask : ℕ) (more : List Named) → NamedFlat 1 more →
    NamedFlat 1 (with_option o n mask more)
with_option_flat None n mask more h = h
with_option_flat (Some flag) n mask more h = if_named _ _ more (number_flat 1 _) h

options_flat : (k place : ℕ) (flags : Flags) (n mask : ℕ) →
    NamedFlat 1 (options_from k place flags n mask)
unfolding options_from
options_flat zero place flags n mask = tt
options_flat (suc k) place flags n mask =
    with_option_flat (flag_at flags place) n mask _ (options_flat k (suc place) flags n mask)

abbrev AllFlat : ℕ → List Data → Type 0
AllFlat n xs = AllByRecursion (IsFlat n) xs

if_data : (b : Bool) (n : ℕ) (x : Data) (more : List Data) → IsFlat n x → AllFlat n more →
    AllFlat n (cond b (x ∷ more) more)
if_data true n x more h g = (h, g)
if_data false n x more h g = g

with_name_flat : (o : Option FlagRow) (n : ℕ) (more : List Data) → AllFlat 0 more →
    AllFlat 0 (with_name o n more)
with_name_flat None n more h = h
with_name_flat (Some flag) n more h = if_data _ 0 _ more (text_flat 0 _) h

names_flat : (k place : ℕ) (flags : Flags) (n : ℕ) → AllFlat 0 (names_from k place flags n)
unfolding names_from
names_flat zero place flags n = tt
names_flat (suc k) place flags n =
    with_name_flat (flag_at flags place) n _ (names_flat k (suc place) flags n)

no_or_one : (b : Bool) (d : Data) → IsFlat 0 d → AllFlat 0 (cond b [] (d ∷ []))
no_or_one true d h = tt
no_or_one false d h = (h, tt)

names_data_flat : (flags : Flags) (n : ℕ) → IsFlat 1 (names_data flags n)
names_data_flat flags n = array_flat 0 _ (
    both_flat 0 _ _ (names_flat 16 0 flags n) (no_or_one _ _ (text_flat 0 _))
    )

-- lists
label_flat : (o : Option (List ℕ)) (ms : Members) → AreFlat 0 ms → AreFlat 0 (with_label o ms)
label_flat None ms h = h
label_flat (Some name) ms h = put_flat 0 _ _ ms (text_flat 0 _) h

other_flat : (o : Option (List ℕ)) (a : Attribute) → IsFlat 1 (other_data o a)
other_flat o a = object_flat 0 _ (label_flat o _ (
    put_flat 0 (codes "type") (number_data a.kind) (put (codes "hex") (hex_data a.value) no_members)
    (number_flat 0 a.kind)
    (put_flat 0 (codes "hex") (hex_data a.value) no_members (text_flat 0 _) (none_flat 0))
    ))

rest_flat : (n : ℕ) (s : List ℕ) (ms : Members) → AreFlat n ms → AreFlat n (rest_member s ms)
rest_flat n [] ms h = h
rest_flat n (b ∷ s) ms h = put_flat n _ _ ms (text_flat n _) h

mapping_flat : (r : Result value.Value Cause) (payload : List ℕ) → IsFlat 1 (mapping r payload)
mapping_flat (Ok (value.pair a b)) payload = record { within = lit≤ tt; whole = refl }
mapping_flat (Ok _) payload = text_flat 1 _
mapping_flat (Err e) payload = text_flat 1 _

element_payload_flat : (el : Elements) (payload : List ℕ) → IsFlat 1 (element_payload el payload)
element_payload_flat elements.HardwareAddresses payload = plain_or_hex_flat payload _
element_payload_flat elements.Addresses payload = plain_or_hex_flat payload _
element_payload_flat elements.PriorityPairs payload = mapping_flat _ payload

elements_flat : (el : Elements) (place : ℕ) (xs : List Attribute) →
    AllFlat 1 (elements_from el place xs)
elements_flat el place [] = tt
elements_flat el place (a ∷ more) = (
  either_flat 1 _ _ _ (element_payload_flat el a.value) (other_flat None a),
  elements_flat el (suc place) more,
)

rest_data_flat : (s : List ℕ) → AllFlat 1 (rest_data s)
rest_data_flat [] = tt
rest_data_flat (b ∷ s) = (object_flat 0 _ (rest_flat 0 (b ∷ s) no_members (none_flat 0)), tt)

elements_data_flat : (el : Elements) (payload : List ℕ) → IsFlat 2 (elements_data el payload)
elements_data_flat el payload = array_flat 1 _ (
    both_flat 1 _ _ (elements_flat el 0 (attributes payload)) (rest_data_flat (rest_of payload))
    )

-- the members of an attribute, where a nested list is at most so deep
deeper_all : (n : ℕ) (xs : List Named) → 1 ≤ n → NamedFlat 1 xs → NamedFlat n xs
deeper_all n [] le h = tt
deeper_all n (x ∷ xs) le h = (deeper 1 n x.1 le h.0, deeper_all n xs le h.1)

abbrev first_named : List ℕ → value.Value → List Named → List Named
first_named name v more = (name, flags_data v) ∷ more

supported_flat : (n : ℕ) → 2 ≤ n → (o : Option ℕ) → NamedFlat n (supported_members o)
supported_flat n le None = tt
supported_flat n le (Some modes) = (deeper 1 n _ (omega arith) (names_data_flat _ _), tt)

members_flat : (nested : Table → List ℕ → Data) (n : ℕ) → 2 ≤ n →
    ((t : Table) (s : List ℕ) → IsFlat n (nested t s)) → (name : List ℕ) (f : Format)
    (v : value.Value) (payload : List ℕ) → NamedFlat n (format_members nested name f v payload)
members_flat nested n le all name (format.Mask flags) v payload =
    (text_flat n _, (text_flat n _, tt))
members_flat nested n le all name format.FlowInfo v payload =
    (text_flat n _, (text_flat n _, (text_flat n _, tt)))
members_flat nested n le all name format.Group v payload =
    (deeper 1 n (plain_data v) (omega arith) (plain_flat v), tt)
members_flat nested n le all name format.Group6 v payload =
    (deeper 1 n (plain_data v) (omega arith) (plain_flat v), tt)
members_flat nested n le all name (format.Bits flags) v payload =
    deeper_all n (first_named name v (bits_from 16 0 flags (first_of v))) (omega arith)
    (flags_flat v, bits_flat 16 0 flags (first_of v))
members_flat nested n le all name (format.Options flags) v payload =
    deeper_all n
    (first_named name v (options_from 16 0 flags (first_of v) (second_of v)))
    (omega arith)
    (flags_flat v, options_flat 16 0 flags (first_of v) (second_of v))
members_flat nested n le all name (format.Names flags) v payload =
    (deeper 1 n _ (omega arith) (names_data_flat flags _), (text_flat n _, tt))
members_flat nested n le all name (format.SecondNames flags) v payload =
    (deeper 1 n _ (omega arith) (names_data_flat flags _), (text_flat n _, tt))
members_flat nested n le all name (format.FlagNames flags) v payload =
    (deeper 1 n _ (omega arith) (names_data_flat flags _), tt)
members_flat nested n le all name format.LacpState v payload =
    (number_flat n _, (deeper 1 n _ (omega arith) (names_data_flat _ _), tt))
members_flat nested n le all name (format.List el) v payload =
    (deeper 2 n _ le (elements_data_flat el payload), tt)
members_flat nested n le all name (format.Nested f) v payload =
    (all (tables.Family f) payload, tt)
members_flat nested n le all name format.Supported v payload = (
  all (tables.Family family.CanCtrlModeExt) payload,
  supported_flat n le (supported_modes None (attributes payload)),
)
members_flat nested n le all name f v payload =
    (deeper 2 n (format_data f v payload) le (format_flat f v payload), tt)

meant_flat : (nested : Table → List ℕ → Data) (n : ℕ) → 2 ≤ n →
    ((t : Table) (s : List ℕ) → IsFlat n (nested t s)) → (row : Line) (payload : List ℕ)
    (r : Result value.Value Cause) → NamedFlat n (members_meant nested row payload r)
meant_flat nested n le all row payload (Ok v) =
    members_flat nested n le all row.name row.format v payload
meant_flat nested n le all row payload (Err e) = (text_flat n _, tt)

put_all_flat : (n : ℕ) (xs : List Named) (ms : Members) → NamedFlat n xs → AreFlat n ms →
    AreFlat n (put_all xs ms)
put_all_flat n [] ms h g = g
put_all_flat n (x ∷ xs) ms h g = put_all_flat n xs _ h.1 (put_flat n x.0 x.1 ms h.0 g)

put_shown_flat : (nested : Table → List ℕ → Data) (n : ℕ) → 2 ≤ n →
    ((t : Table) (s : List ℕ) → IsFlat n (nested t s)) → (o : Option Line) (payload : List ℕ)
    (ms : Members) → AreFlat n ms → AreFlat n (put_shown nested o payload ms)
put_shown_flat nested n le all None payload ms h = h
put_shown_flat nested n le all (Some row) payload ms h =
    put_all_flat n _ ms (meant_flat nested n le all row payload (meant row.shape payload)) h

shown_flat : (nested : Table → List ℕ → Data) (n : ℕ) → 2 ≤ n →
    ((t : Table) (s : List ℕ) → IsFlat n (nested t s)) → (table : Table) (xs : List Attribute)
    (ms : Members) → AreFlat n ms → AreFlat n (shown_in nested table xs ms)
shown_flat nested n le all table [] ms h = h
shown_flat nested n le all table (a ∷ more) ms h =
    shown_flat nested n le all table more _
    (put_shown_flat nested n le all (row_before table a more) a.value ms h)

others_with_flat : (o : Option Line) (table : Table) (a : Attribute) (more : List Data) →
    AllFlat 1 more → AllFlat 1 (others_with o table a more)
others_with_flat None table a more h = (other_flat _ a, h)
others_with_flat (Some row) table a more h = h

others_flat_all : (table : Table) (xs : List Attribute) → AllFlat 1 (others_in table xs)
others_flat_all table [] = tt
others_flat_all table (a ∷ more) =
    others_with_flat (row_before table a more) table a _ (others_flat_all table more)

others_member_flat : (n : ℕ) → 2 ≤ n → (ds : List Data) (ms : Members) → AllFlat 1 ds →
    AreFlat n ms → AreFlat n (others_member ds ms)
others_member_flat n le [] ms h g = g
others_member_flat n le (d ∷ ds) ms h g =
    put_flat n _ _ ms (deeper 2 n _ le (array_flat 1 (d ∷ ds) h)) g

list_flat : (nested : Table → List ℕ → Data) (n : ℕ) → 2 ≤ n →
    ((t : Table) (s : List ℕ) → IsFlat n (nested t s)) → (table : Table) (s : List ℕ) →
    IsFlat (suc n) (list_data nested table s)
unfolding list_data
list_flat nested n le all table s = object_flat n _ (rest_flat n (rest_of s) _ (
    others_member_flat n le (others_in table (attributes s)) _
    (others_flat_all table (attributes s))
    (shown_flat nested n le all table (attributes s) no_members (none_flat n))
    ))

nested_flat : (table : Table) (s : List ℕ) → IsFlat 3 (nested_data table s)
unfolding nested_data
nested_flat table s = list_flat hex_nested 2 (lit≤ tt) (λ t p. text_flat 2 _) table s

-- a list of attributes is at most four levels deep, and has no float
pub attributes_flat : (table : Table) (s : List ℕ) → IsFlat 4 (attributes_data table s)
unfolding attributes_data
attributes_flat table s = list_flat nested_data 3 (lit≤ tt) nested_flat table s

-- so is a value that shows it
pub shown_within : (r : Result Value AllocError) (table : Table) (s : List ℕ) →
    IfOk r (λ v. view v ≡ attributes_data table s) → IfOk r (λ v. depth (view v) ≤ 4)
shown_within (Ok v) table s e =
    subst (λ (d : Data). depth d ≤ 4) (sym e) ((attributes_flat table s).within)
shown_within (Err x) table s e = tt

pub shown_whole : (r : Result Value AllocError) (table : Table) (s : List ℕ) →
    IfOk r (λ v. view v ≡ attributes_data table s) → IfOk r (λ v. has_float (view v) ≡ false)
shown_whole (Ok v) table s e =
    subst (λ (d : Data). has_float d ≡ false) (sym e) ((attributes_flat table s).whole)
shown_whole (Err x) table s e = tt
