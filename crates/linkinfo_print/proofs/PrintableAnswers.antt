-- The JSON of lists, pairs and messages has only printable texts.
use Rattle.std.proofs.Common.{
  ◌≡◌,
  ℕ,
  zero,
  suc,
  ◌-◌,
  ◌*◌,
  ◌+◌,
  ◌/◌,
  ℤ,
  pos,
  negsuc,
  Bool,
  true,
  false,
  cond,
  eqb,
  length,
  ltb,
  IfOk,
  List,
  [],
  ◌∷◌,
  ◌++◌,
  Option,
  Some,
  None,
  Result,
  Ok,
  Err,
  codes,
  decimal,
  drop,
  replicate,
  take,
  refl,
  subst,
  sym,
}
use Rattle.std.proofs.lemmas.Bool.{and_parts}
use Rattle.std.specs.Fmt.{digits}
use Rattle.std.specs.List.{AllByRecursion, flat_map, list_all}
use Rattle.std.specs.Option.{IfSome, option_map}
use Rattle.nla_frame.specs.Attribute.{Attribute, IsAttribute, IsBytes, masked}
use Rattle.nla_frame.specs.Error.{family_name}
use Rattle.nla_frame.specs.NlaItems.{attribute_at, nla_items, nla_items_of, split}
use Rattle.nla_frame.specs.declared.error.DecodeError.{DecodeError}
use Rattle.nla_frame.specs.declared.error.Family.{Family}
use Rattle.nla_frame.specs.declared.error.Family.TheVariants as family
use Rattle.nla_frame.proofs.ByteLists.{IsBytes-drop, IsBytes-take}
use Rattle.nla_frame.proofs.Stepping.{is_attribute, nla_items_split}
use Rattle.linkinfo.specs.Roles.{kinds_after, no_kinds, role_at}
use Rattle.linkinfo.specs.Strings.{next_kinds}
use Rattle.linkinfo.specs.Walks.{item_or_error, walk_items}
use Rattle.linkinfo.specs.declared.role.CurrentKinds.{CurrentKinds}
use Rattle.linkinfo.specs.declared.role.Role.{Role}
use Rattle.linkinfo.specs.declared.role.Role.TheVariants as role
use Rattle.linkinfo_messages.specs.declared.link.LinkEvent.{LinkEvent}
use Rattle.linkinfo_view.specs.Printable.{IsPrintable, MembersArePrintable}
use Rattle.linkinfo_view.specs.Text.{hex_data, hex_text, is_printable}
use Rattle.linkinfo_view.specs.declared.format.Table.{Table}
use Rattle.linkinfo_view.proofs.Printable.{
  Printable,
  both_printable,
  decimal_printable,
  escaped_printable,
  hex_printable,
  known_passes,
  passes,
}
use Rattle.linkinfo_view.proofs.PrintableData.{
  AllPrintable,
  HaveBytes,
  Passes,
  all_printable,
  attributes_printable,
  front_bytes,
  hex_data_printable,
  if_data,
  items_printable,
  no_or_one,
  put_printable,
  some_or,
}
use Rattle.linkinfo_print.specs.ListData.{
  if_other,
  items_data,
  list_data,
  member_name,
  members_on,
  named_after,
  other_data,
  others_in,
  port_table_of,
  put_if,
  role_data,
  rows_or,
  rows_data,
  shown_as,
  table_of,
  with_others,
}
use Rattle.linkinfo_print.specs.MembersData.{put_some}
use Rattle.linkinfo_print.specs.MessageData.{
  flags_data,
  is_deleted,
  is_set,
  lacks_carrier,
  link_flags,
  message_data,
  name_of,
  nine_digits,
  no_carrier,
  one_flag,
  time_of,
  time_text,
  unnamed,
}
use Rattle.linkinfo_print.specs.PairData.{
  answer_key,
  first_key,
  front_data,
  if_attribute,
  kind_before,
  member_or_other,
  offset_data,
  pair_data,
  second_key,
  side_data,
  table_under,
}
use Rattle.linkinfo_print.specs.declared.compare.Pair.{Pair}
use Rattle.linkinfo_print.specs.declared.compare.Question.{Question}
use Rattle.linkinfo_print.specs.declared.compare.Question.TheVariants as question
use Rattle.serde_json.specs.Data.{
  Data,
  Members,
  array,
  boolean,
  no_members,
  number,
  put,
  string,
  unsigned,
}
use Rattle.serde_json.specs.Find.{of_integer}
use Rattle.serde_json.specs.View.{items_of}

put_some_printable : (k : List ℕ) (d : Option Data) (ms : Members) → Passes k →
    IfSome d IsPrintable → MembersArePrintable ms → MembersArePrintable (put_some k d ms)
put_some_printable k (Some d) ms p h g = put_printable k d ms p h g
put_some_printable k None ms p h g = g

-- ---- a list

rows_printable : (t : Option Table) (payload : List ℕ) → IsBytes payload →
    IsPrintable (rows_data t payload)
rows_printable (Some t) payload h = attributes_printable t payload h
rows_printable None payload h = hex_data_printable payload h

role_printable : (r : Role) (named : Option Table) (payload : List ℕ) → IsBytes payload →
    IsPrintable (role_data r named payload)
role_printable role.Kind named payload h = escaped_printable _
role_printable (role.Data tag) named payload h =
    rows_printable (rows_or (table_of tag) named) payload h
role_printable role.Xstats named payload h = hex_data_printable payload h
role_printable role.PortKind named payload h = escaped_printable _
role_printable (role.PortData tag) named payload h = rows_printable (port_table_of tag) payload h
role_printable role.Misplaced named payload h = hex_data_printable payload h
role_printable role.Unknown named payload h = hex_data_printable payload h

member_named : (n : ℕ) → IfSome (member_name n) Passes
member_named n =
    some_or Passes (eqb n 1) (codes "info_kind") _ (known_passes (codes "info_kind") refl)
    (some_or Passes (eqb n 2) (codes "info_data") _ (known_passes (codes "info_data") refl)
    (some_or Passes (eqb n 3) (codes "info_xstats") _ (known_passes (codes "info_xstats") refl)
    (some_or Passes (eqb n 4) (codes "info_slave_kind") _
    (known_passes (codes "info_slave_kind") refl)
    (some_or Passes (eqb n 5) (codes "info_slave_data") None
    (known_passes (codes "info_slave_data") refl) tt))))

maybe_string : (o : Option (List ℕ)) → IfSome o Passes → IfSome (option_map string o) IsPrintable
maybe_string None h = tt
maybe_string (Some s) h = h

other_printable : (a : Attribute) → IsBytes a.value → IsPrintable (other_data a)
other_printable a h =
    let typed = put (codes "type") (number (unsigned a.kind)) no_members in
    put_some_printable (codes "name") (option_map string (member_name (masked a.kind)))
    (put (codes "hex") (hex_data a.value) typed)
    (known_passes (codes "name") refl)
    (maybe_string (member_name (masked a.kind)) (member_named (masked a.kind))) (
      known_passes (codes "hex") refl,
      hex_data_printable a.value h,
      (known_passes (codes "type") refl, tt, tt),
    )

-- the payloads of a list are bytes
abbrev HoldsBytes : Result Attribute DecodeError → Type 0
HoldsBytes r = IfOk r (λ a. IsBytes a.value)

abbrev HoldBytes : List (Result Attribute DecodeError) → Type 0
HoldBytes items = AllByRecursion HoldsBytes items

item_bytes : (a : Attribute) (r : Result CurrentKinds DecodeError)
    (later : CurrentKinds → List (Result Attribute DecodeError)) → IsBytes a.value →
    ((u : CurrentKinds) → HoldBytes (later u)) → HoldBytes (item_or_error a r later)
item_bytes a (Ok u) later h g = (h, g u)
item_bytes a (Err e) later h g = (tt, tt)

walk_bytes : (t : CurrentKinds) (front : List Attribute) (left : List ℕ) → HaveBytes front →
    HoldBytes (walk_items t (nla_items_of front left))
walk_bytes t [] [] h = tt
walk_bytes t [] (b ∷ r) h = (tt, tt)
walk_bytes t (a ∷ more) r h =
    item_bytes a (kinds_after t a) (λ u. walk_items u (nla_items_of more r)) h.0
    (λ u. walk_bytes u more r h.1)

list_bytes : (s : List ℕ) → IsBytes s → HoldBytes (walk_items no_kinds (nla_items s))
list_bytes s h =
    subst (λ (ps : List (Result Attribute ℕ)). HoldBytes (walk_items no_kinds ps))
    (sym (nla_items_split s)) (walk_bytes no_kinds (split s).front (split s).left (front_bytes s h))

unless_named : (b : Bool) (o : Option (List ℕ)) → IfSome o Passes → IfSome (cond b None o) Passes
unless_named true o h = tt
unless_named false o h = h

shown_named : (a : Attribute) (more : List (Result Attribute DecodeError)) →
    IfSome (shown_as a more) Passes
shown_named a more = unless_named _ (member_name (masked a.kind)) (member_named (masked a.kind))

put_if_printable : (name : Option (List ℕ)) (d : Data) (ms : Members) → IfSome name Passes →
    IsPrintable d → MembersArePrintable ms → MembersArePrintable (put_if name d ms)
put_if_printable (Some name) d ms p h g = put_printable name d ms p h g
put_if_printable None d ms p h g = g

members_printable : (items : List (Result Attribute DecodeError)) (ms : Members)
    (t : CurrentKinds) (named : Option Table) → HoldBytes items → MembersArePrintable ms →
    MembersArePrintable (members_on ms t named items)
members_printable [] ms t named h g = g
members_printable ((Ok a) ∷ more) ms t named h g =
    members_printable more (put_if (shown_as a more) (role_data (role_at t a) named a.value) ms)
    (next_kinds t a) (named_after named a) h.1
    (put_if_printable (shown_as a more) (role_data (role_at t a) named a.value) ms
    (shown_named a more) (role_printable (role_at t a) named a.value h.0) g)
members_printable ((Err e) ∷ more) ms t named h g = g

if_other_printable : (name : Option (List ℕ)) (d : Data) (ds : List Data) → IsPrintable d →
    AllPrintable ds → AllPrintable (if_other name d ds)
if_other_printable (Some name) d ds h g = g
if_other_printable None d ds h g = (h, g)

others_printable : (items : List (Result Attribute DecodeError)) → HoldBytes items →
    AllPrintable (others_in items)
others_printable [] h = tt
others_printable ((Ok a) ∷ more) h =
    if_other_printable (shown_as a more) (other_data a) (others_in more)
    (other_printable a h.0) (others_printable more h.1)
others_printable ((Err e) ∷ more) h = tt

with_others_printable : (ds : List Data) (ms : Members) → AllPrintable ds →
    MembersArePrintable ms → MembersArePrintable (with_others ds ms)
with_others_printable [] ms h g = g
with_others_printable (d ∷ ds) ms h g =
    put_printable (codes "others") (array (items_of (d ∷ ds))) ms
    (known_passes (codes "others") refl) (items_printable (d ∷ ds) h) g

items_data_printable : (items : List (Result Attribute DecodeError)) → HoldBytes items →
    IsPrintable (items_data items)
items_data_printable items h =
    with_others_printable (others_in items) (members_on no_members no_kinds None items)
    (others_printable items h) (members_printable items no_members no_kinds None h tt)

pub list_printable : (s : List ℕ) → IsBytes s → IsPrintable (list_data s)
unfolding list_data
list_printable s h = items_data_printable (walk_items no_kinds (nla_items s)) (list_bytes s h)

-- ---- two lists

whole_printable : (name : Option (List ℕ)) (a : Attribute) → IfSome name Passes →
    IsBytes a.value → IsPrintable (member_or_other name a)
whole_printable (Some name) a p h = (p, role_printable (role_at no_kinds a) None a.value h, tt)
whole_printable None a p h = other_printable a h

front_printable : (f : Family) (t : Table) (rest : List ℕ) (a : Attribute) → IsBytes rest →
    IsBytes a.value → IsPrintable (front_data f t rest a)
front_printable family.LinkInfo t rest a h g =
    whole_printable (member_name (masked a.kind)) a (member_named (masked a.kind)) g
front_printable f t rest a h g =
    attributes_printable t (take (4 + length a.value) rest)
    (IsBytes-take (4 + length a.value) rest h)

if_attribute_printable : (r : Result Attribute DecodeError) (f : Family) (t : Table)
    (rest : List ℕ) → IsBytes rest → IfOk r IsAttribute →
    IsPrintable (if_attribute r (front_data f t rest))
if_attribute_printable (Ok a) f t rest h g = front_printable f t rest a h g.bytes
if_attribute_printable (Err e) f t rest h g = tt

side_printable : (f : Family) (s : List ℕ) (offset : Option ℕ) → IsBytes s →
    IsPrintable (side_data f s offset)
side_printable f s None h = tt
side_printable f s (Some n) h =
    let rest = IsBytes-drop n s h in
    if_attribute_printable (attribute_at (drop n s)) f (table_under f (kind_before s n)) (drop n s)
    rest (is_attribute (drop n s) (attribute_at (drop n s)) rest refl)

family_passes : (f : Family) → list_all is_printable (family_name f) ≡ true
family_passes family.Amt = refl
family_passes _ = refl

offset_printable : (offset : Option ℕ) → IfSome (offset_data offset) IsPrintable
offset_printable (Some n) = tt
offset_printable None = tt

answer_passes : (q : Question) → Passes (answer_key q)
answer_passes question.Equal = known_passes (codes "equal") refl
answer_passes question.Met = known_passes (codes "met") refl

first_passes : (q : Question) → Passes (first_key q)
first_passes question.Equal = known_passes (codes "first") refl
first_passes question.Met = known_passes (codes "have") refl

second_passes : (q : Question) → Passes (second_key q)
second_passes question.Equal = known_passes (codes "second") refl
second_passes question.Met = known_passes (codes "want") refl

first_offset_passes : (q : Question) → Passes (first_key q ++ codes "_offset")
first_offset_passes question.Equal = known_passes (codes "first_offset") refl
first_offset_passes question.Met = known_passes (codes "have_offset") refl

second_offset_passes : (q : Question) → Passes (second_key q ++ codes "_offset")
second_offset_passes question.Equal = known_passes (codes "second_offset") refl
second_offset_passes question.Met = known_passes (codes "want_offset") refl

pub pair_printable : (q : Question) (a b : List ℕ) (pair : Option Pair) → IsBytes a → IsBytes b →
    IsPrintable (pair_data q a b pair)
pair_printable q a b None h g = (answer_passes q, tt, tt)
pair_printable q a b (Some pair) h g =
    let answered = put (answer_key q) (boolean false) no_members in
    let named = put (codes "family") (string (family_name pair.family)) answered in
    let one = put (first_key q) (side_data pair.family a pair.first) named in
    let two = put (second_key q) (side_data pair.family b pair.second) one in
    let placed = put_some (first_key q ++ codes "_offset") (offset_data pair.first) two in
    put_some_printable (second_key q ++ codes "_offset") (offset_data pair.second) placed
    (second_offset_passes q) (offset_printable pair.second)
    (put_some_printable (first_key q ++ codes "_offset") (offset_data pair.first) two
    (first_offset_passes q) (offset_printable pair.first)
    (put_printable (second_key q) (side_data pair.family b pair.second) one (second_passes q)
    (side_printable pair.family b pair.second g)
    (put_printable (first_key q) (side_data pair.family a pair.first) named (first_passes q)
    (side_printable pair.family a pair.first h)
    (put_printable (codes "family") (string (family_name pair.family)) answered
    (known_passes (codes "family") refl)
    (known_passes (family_name pair.family) (family_passes pair.family))
    (answer_passes q, tt, tt)))))

-- ---- a message

-- the name of each flag, by computing
abbrev named : List ℕ × ℕ → Bool
named f = list_all is_printable f.0

flags_named : (fs : List (List ℕ × ℕ)) (flags : ℕ) → list_all named fs ≡ true →
    AllPrintable (flat_map (one_flag flags) fs)
flags_named [] flags h = tt
flags_named (f ∷ fs) flags h =
    let parts = and_parts (named f) (list_all named fs) h in
    all_printable (one_flag flags f) (flat_map (one_flag flags) fs)
    (if_data (is_set flags f.1) (string f.0) [] (known_passes f.0 parts.0) tt)
    (flags_named fs flags parts.1)

link_flags_named : list_all named link_flags ≡ true
unfolding link_flags
link_flags_named = refl

flags_printable : (flags : ℕ) → IsPrintable (flags_data flags)
flags_printable flags =
    items_printable (no_carrier flags ++ (flat_map (one_flag flags) link_flags ++ unnamed flags))
    (all_printable (no_carrier flags) (flat_map (one_flag flags) link_flags ++ unnamed flags)
    (if_data (lacks_carrier flags) (string (codes "NO-CARRIER")) []
    (known_passes (codes "NO-CARRIER") refl) tt)
    (all_printable (flat_map (one_flag flags) link_flags) (unnamed flags)
    (flags_named link_flags flags link_flags_named)
    (no_or_one (ltb flags 0x80000)
    (string (codes "0x" ++ digits 16 false (flags / 0x80000 * 0x80000)))
    (passes (hex_text (flags / 0x80000 * 0x80000)) (hex_printable (flags / 0x80000 * 0x80000))))))

name_printable : (name : Option (List ℕ)) → IfSome (name_of name) IsPrintable
name_printable (Some s) = escaped_printable s
name_printable None = tt

zeros_printable : (n : ℕ) → Printable (replicate n 48)
zeros_printable zero = tt
zeros_printable (suc n) = (refl, zeros_printable n)

digits_printable : (n : ℕ) → Printable (nine_digits n)
digits_printable n =
    both_printable (replicate (9 - length (decimal n)) 48) (decimal n)
    (zeros_printable (9 - length (decimal n))) (decimal_printable n)

time_passes : (time : ℕ × ℕ) → Passes (time_text time)
time_passes (seconds, nanoseconds) =
    passes (decimal seconds ++ (codes "." ++ nine_digits nanoseconds))
    (both_printable (decimal seconds) (codes "." ++ nine_digits nanoseconds)
    (decimal_printable seconds) (refl, digits_printable nanoseconds))

time_printable : (time : Option (ℕ × ℕ)) →
    IfSome (time_of (option_map time_text time)) IsPrintable
time_printable (Some t) = time_passes t
time_printable None = tt

integer_printable : (z : ℤ) → IsPrintable (number (of_integer z))
integer_printable (pos n) = tt
integer_printable (negsuc n) = tt

maybe_list : (list : Option (List ℕ)) → IfSome list IsBytes →
    IfSome (option_map list_data list) IsPrintable
maybe_list (Some s) h = list_printable s h
maybe_list None h = tt

pub message_printable : (event : LinkEvent) (flags : ℕ) (index : ℤ) (name list : Option (List ℕ))
    (time : Option (ℕ × ℕ)) → IfSome list IsBytes →
    IsPrintable (message_data event flags index name (option_map list_data list)
    (option_map time_text time))
message_printable event flags index name list time h =
    let one = put (codes "deleted") (boolean (is_deleted event)) no_members in
    let two = put (codes "flags") (flags_data flags) one in
    let three = put (codes "ifindex") (number (of_integer index)) two in
    let four = put_some (codes "ifname") (name_of name) three in
    let five = put_some (codes "linkinfo") (option_map list_data list) four in
    put_some_printable (codes "time") (time_of (option_map time_text time)) five
    (known_passes (codes "time") refl) (time_printable time)
    (put_some_printable (codes "linkinfo") (option_map list_data list) four
    (known_passes (codes "linkinfo") refl) (maybe_list list h)
    (put_some_printable (codes "ifname") (name_of name) three (known_passes (codes "ifname") refl)
    (name_printable name)
    (put_printable (codes "ifindex") (number (of_integer index)) two
    (known_passes (codes "ifindex") refl) (integer_printable index)
    (put_printable (codes "flags") (flags_data flags) one (known_passes (codes "flags") refl)
    (flags_printable flags)
    (known_passes (codes "deleted") refl, tt, tt)))))
