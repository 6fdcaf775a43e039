-- How deep the JSON of lists, pairs and messages is, and that it has no float.
use Rattle.std.proofs.Common.{
  ◌≡◌,
  ℕ,
  suc,
  ℤ,
  pos,
  negsuc,
  ◌+◌,
  ◌*◌,
  ◌/◌,
  ◌≤◌,
  true,
  false,
  Bool,
  List,
  [],
  ◌∷◌,
  ◌++◌,
  length,
  drop,
  take,
  Option,
  Some,
  None,
  Result,
  Ok,
  Err,
  IfOk,
  refl,
  subst,
  sym,
  arith,
  lit≤,
  nat_lt,
  codes,
}
use Rattle.std.specs.Prelude.{IfSome, if◌then◌else◌}
use Rattle.std.specs.Fmt.{digits}
use Rattle.std.specs.List.{AllByRecursion, flat_map}
use Rattle.std.specs.Option.{option_map}
use Rattle.hex.specs.Hex.{encode_lower}
use Rattle.nla_frame.specs.Attribute.{Attribute, masked}
use Rattle.nla_frame.specs.Error.{family_name}
use Rattle.nla_frame.specs.NlaItems.{attribute_at, nla_items}
use Rattle.nla_frame.specs.declared.error.DecodeError.{DecodeError}
use Rattle.nla_frame.specs.declared.error.Family.{Family}
use Rattle.nla_frame.specs.declared.error.Family.TheVariants as family
use Rattle.linkinfo.specs.Roles.{no_kinds, role_at}
use Rattle.linkinfo.specs.Strings.{next_kinds}
use Rattle.linkinfo.specs.Walks.{walk_items}
use Rattle.linkinfo.specs.declared.role.CurrentKinds.{CurrentKinds}
use Rattle.linkinfo.specs.declared.role.Role.{Role}
use Rattle.linkinfo.specs.declared.role.Role.TheVariants as role
use Rattle.linkinfo_messages.specs.declared.link.LinkEvent.{LinkEvent}
use Rattle.linkinfo_view.proofs.Flat.{
  AreFlat,
  IsFlat,
  array_flat,
  attributes_flat,
  deeper,
  put_flat,
}
use Rattle.linkinfo_view.specs.Text.{escaped_text, hex_data}
use Rattle.linkinfo_view.specs.View.{attributes_data}
use Rattle.linkinfo_view.specs.declared.format.Table.{Table}
use Rattle.linkinfo_print.specs.ListData.{
  if_other,
  items_data,
  list_data,
  member_name,
  members_on,
  named_after,
  other_data,
  others_in,
  port_table_of,
  put_if,
  role_data,
  rows_or,
  rows_data,
  shown_as,
  table_of,
  with_others,
}
use Rattle.linkinfo_print.specs.MembersData.{put_some}
use Rattle.linkinfo_print.specs.MessageData.{
  flags_data,
  is_deleted,
  is_set,
  lacks_carrier,
  link_flags,
  message_data,
  name_of,
  no_carrier,
  one_flag,
  time_of,
  unnamed,
}
use Rattle.linkinfo_print.specs.PairData.{
  answer_key,
  first_key,
  front_data,
  if_attribute,
  member_or_other,
  offset_data,
  pair_data,
  second_key,
  kind_before,
  side_data,
  table_under,
}
use Rattle.linkinfo_print.specs.declared.compare.Pair.{Pair}
use Rattle.linkinfo_print.specs.declared.compare.Question.{Question}
use Rattle.serde_json.specs.Data.{
  Data,
  Members,
  array,
  boolean,
  depth,
  no_members,
  null,
  number,
  object,
  put,
  string,
  unsigned,
}
use Rattle.serde_json.specs.Find.{of_integer}
use Rattle.serde_json.specs.View.{items_of, view}
use Rattle.serde_json.specs.Written.{has_float}
use Rattle.serde_json.specs.declared.value.Value.{Value}

-- a string is flat at any depth
pub string_flat : (n : ℕ) (s : List ℕ) → IsFlat n (string s)
string_flat n s = record { within = omega arith; whole = refl }

pub none_flat : (n : ℕ) → AreFlat n no_members
none_flat n = record { within = omega arith; whole = refl }

pub object_flat : (n : ℕ) (ms : Members) → AreFlat n ms → IsFlat (suc n) (object ms)
object_flat n ms h = let within = h.within in record { within = omega arith; whole = h.whole }

-- what is there is flat
abbrev pub MaybeFlat : ℕ → Option Data → Type 0
MaybeFlat n (Some d) = IsFlat n d
MaybeFlat n None = Unit {0}

pub put_some_flat : (n : ℕ) (k : List ℕ) (d : Option Data) (ms : Members) → MaybeFlat n d →
    AreFlat n ms → AreFlat n (put_some k d ms)
put_some_flat n k (Some d) ms h g = put_flat n k d ms h g
put_some_flat n k None ms h g = g

-- ---- a list

rows_flat : (t : Option Table) (payload : List ℕ) → IsFlat 4 (rows_data t payload)
rows_flat (Some t) payload = attributes_flat t payload
rows_flat None payload = string_flat 4 _

pub role_flat : (r : Role) (named : Option Table) (payload : List ℕ) →
    IsFlat 4 (role_data r named payload)
role_flat role.Kind named payload = string_flat 4 _
role_flat (role.Data tag) named payload = rows_flat (rows_or (table_of tag) named) payload
role_flat role.Xstats named payload = string_flat 4 _
role_flat role.PortKind named payload = string_flat 4 _
role_flat (role.PortData tag) named payload = rows_flat (port_table_of tag) payload
role_flat role.Misplaced named payload = string_flat 4 _
role_flat role.Unknown named payload = string_flat 4 _

maybe_string : (n : ℕ) (name : Option (List ℕ)) →
    MaybeFlat n (option_map string name)
maybe_string n (Some s) = string_flat n s
maybe_string n None = tt

number_flat : (n k : ℕ) → IsFlat n (number (unsigned k))
number_flat n k = record { within = omega arith; whole = refl }

pub other_flat : (a : Attribute) → IsFlat 1 (other_data a)
other_flat a =
    let typed = put (codes "type") (number (unsigned a.kind)) no_members in
    let full = put (codes "hex") (hex_data a.value) typed in
    let name = option_map string (member_name (masked a.kind)) in
    object_flat 0 (put_some (codes "name") name full)
    (put_some_flat 0 (codes "name") name full (maybe_string 0 (member_name (masked a.kind)))
    (put_flat 0 (codes "hex") (hex_data a.value) typed (string_flat 0 (encode_lower a.value))
    (put_flat 0 (codes "type") (number (unsigned a.kind)) no_members (number_flat 0 a.kind)
    (none_flat 0))))

put_if_flat : (n : ℕ) (name : Option (List ℕ)) (d : Data) (ms : Members) → IsFlat n d →
    AreFlat n ms → AreFlat n (put_if name d ms)
put_if_flat n (Some name) d ms h g = put_flat n name d ms h g
put_if_flat n None d ms h g = g

members_flat : (items : List (Result Attribute DecodeError)) (ms : Members) (t : CurrentKinds)
    (named : Option Table) → AreFlat 4 ms → AreFlat 4 (members_on ms t named items)
members_flat [] ms t named h = h
members_flat ((Ok a) ∷ more) ms t named h =
    members_flat more
    (put_if (shown_as a more) (role_data (role_at t a) named a.value) ms) (next_kinds t a)
    (named_after named a)
    (put_if_flat 4 (shown_as a more) (role_data (role_at t a) named a.value) ms
    (role_flat (role_at t a) named a.value) h)
members_flat ((Err e) ∷ more) ms t named h = h

if_other_flat : (name : Option (List ℕ)) (a : Attribute) (ds : List Data) →
    AllByRecursion (IsFlat 1) ds → AllByRecursion (IsFlat 1) (if_other name (other_data a) ds)
if_other_flat (Some name) a ds h = h
if_other_flat None a ds h = (other_flat a, h)

others_flat : (items : List (Result Attribute DecodeError)) →
    AllByRecursion (IsFlat 1) (others_in items)
others_flat [] = tt
others_flat ((Ok a) ∷ more) = if_other_flat (shown_as a more) a (others_in more) (others_flat more)
others_flat ((Err e) ∷ more) = tt

with_others_flat : (ds : List Data) (ms : Members) → AllByRecursion (IsFlat 1) ds →
    AreFlat 4 ms → AreFlat 4 (with_others ds ms)
with_others_flat [] ms h g = g
with_others_flat (d ∷ ds) ms h g =
    put_flat 4 (codes "others") (array (items_of (d ∷ ds))) ms
    (deeper 2 4 (array (items_of (d ∷ ds))) (lit≤ tt) (array_flat 1 (d ∷ ds) h)) g

items_flat : (items : List (Result Attribute DecodeError)) → IsFlat 5 (items_data items)
items_flat items =
    object_flat 4 (with_others (others_in items) (members_on no_members no_kinds None items))
    (with_others_flat (others_in items) (members_on no_members no_kinds None items)
    (others_flat items) (members_flat items no_members no_kinds None (none_flat 4)))

pub list_flat : (s : List ℕ) → IsFlat 5 (list_data s)
unfolding list_data
list_flat s = items_flat (walk_items no_kinds (nla_items s))

-- ---- two lists

whole_flat : (name : Option (List ℕ)) (a : Attribute) → IsFlat 5 (member_or_other name a)
whole_flat (Some name) a =
    object_flat 4 (put name (role_data (role_at no_kinds a) None a.value) no_members)
    (put_flat 4 name (role_data (role_at no_kinds a) None a.value) no_members
    (role_flat (role_at no_kinds a) None a.value) (none_flat 4))
whole_flat None a = deeper 1 5 (other_data a) (lit≤ tt) (other_flat a)

front_flat : (f : Family) (t : Table) (rest : List ℕ) (a : Attribute) →
    IsFlat 5 (front_data f t rest a)
front_flat family.LinkInfo t rest a = whole_flat (member_name (masked a.kind)) a
front_flat f t rest a =
    deeper 4 5 (attributes_data t (take (4 + length a.value) rest)) (lit≤ tt)
    (attributes_flat t (take (4 + length a.value) rest))

null_flat : (n : ℕ) → IsFlat n null
null_flat n = record { within = omega arith; whole = refl }

if_attribute_flat : (r : Result Attribute DecodeError) (f : Family) (t : Table) (rest : List ℕ) →
    IsFlat 5 (if_attribute r (front_data f t rest))
if_attribute_flat (Ok a) f t rest = front_flat f t rest a
if_attribute_flat (Err e) f t rest = null_flat 5

side_flat : (f : Family) (s : List ℕ) (offset : Option ℕ) → IsFlat 5 (side_data f s offset)
side_flat f s None = null_flat 5
side_flat f s (Some n) =
    if_attribute_flat (attribute_at (drop n s)) f (table_under f (kind_before s n)) (drop n s)

offset_flat : (n : ℕ) (offset : Option ℕ) → MaybeFlat n (offset_data offset)
offset_flat n (Some k) = number_flat n k
offset_flat n None = tt

boolean_flat : (n : ℕ) (b : Bool) → IsFlat n (boolean b)
boolean_flat n b = record { within = omega arith; whole = refl }

pub pair_flat : (q : Question) (a b : List ℕ) (pair : Option Pair) → IsFlat 6 (pair_data q a b pair)
pair_flat q a b None =
    object_flat 5 (put (answer_key q) (boolean true) no_members)
    (put_flat 5 (answer_key q) (boolean true) no_members (boolean_flat 5 true) (none_flat 5))
pair_flat q a b (Some pair) =
    let answered = put (answer_key q) (boolean false) no_members in
    let named = put (codes "family") (string (family_name pair.family)) answered in
    let one = put (first_key q) (side_data pair.family a pair.first) named in
    let two = put (second_key q) (side_data pair.family b pair.second) one in
    let placed =
    put_some (first_key q ++ codes "_offset") (offset_data pair.first) two in
    object_flat 5 (put_some (second_key q ++ codes "_offset") (offset_data pair.second) placed)
    (put_some_flat 5 (second_key q ++ codes "_offset") (offset_data pair.second) placed
    (offset_flat 5 pair.second)
    (put_some_flat 5 (first_key q ++ codes "_offset") (offset_data pair.first) two
    (offset_flat 5 pair.first)
    (put_flat 5 (second_key q) (side_data pair.family b pair.second) one
    (side_flat pair.family b pair.second)
    (put_flat 5 (first_key q) (side_data pair.family a pair.first) named
    (side_flat pair.family a pair.first)
    (put_flat 5 (codes "family") (string (family_name pair.family)) answered
    (string_flat 5 (family_name pair.family))
    (put_flat 5 (answer_key q) (boolean false) no_members (boolean_flat 5 false)
    (none_flat 5)))))))

-- ---- a message

one_flat : (b : Bool) (s : List ℕ) →
    AllByRecursion (IsFlat 0) (if b then string s ∷ [] else [])
one_flat true s = (string_flat 0 s, tt)
one_flat false s = tt

none_or_flat : (b : Bool) (s : List ℕ) →
    AllByRecursion (IsFlat 0) (if b then [] else string s ∷ [])
none_or_flat true s = tt
none_or_flat false s = (string_flat 0 s, tt)

both_flat : (xs ys : List Data) → AllByRecursion (IsFlat 0) xs →
    AllByRecursion (IsFlat 0) ys → AllByRecursion (IsFlat 0) (xs ++ ys)
both_flat [] ys h g = g
both_flat (x ∷ xs) ys h g = (h.0, both_flat xs ys h.1 g)

named_flat : (fs : List (List ℕ × ℕ)) (flags : ℕ) →
    AllByRecursion (IsFlat 0) (flat_map (one_flag flags) fs)
named_flat [] flags = tt
named_flat (f ∷ fs) flags =
    both_flat (one_flag flags f) (flat_map (one_flag flags) fs)
    (one_flat (is_set flags f.1) f.0) (named_flat fs flags)

pub flags_flat : (flags : ℕ) → IsFlat 1 (flags_data flags)
flags_flat flags =
    array_flat 0 (no_carrier flags ++ (flat_map (one_flag flags) link_flags ++ unnamed flags))
    (both_flat (no_carrier flags) (flat_map (one_flag flags) link_flags ++ unnamed flags)
    (one_flat (lacks_carrier flags) (codes "NO-CARRIER"))
    (both_flat (flat_map (one_flag flags) link_flags) (unnamed flags)
    (named_flat link_flags flags)
    (none_or_flat (nat_lt flags 0x80000)
    (codes "0x" ++ digits 16 false (flags / 0x80000 * 0x80000)))))

integer_flat : (n : ℕ) (z : ℤ) → IsFlat n (number (of_integer z))
integer_flat n (pos k) = record { within = omega arith; whole = refl }
integer_flat n (negsuc k) = record { within = omega arith; whole = refl }

name_flat : (n : ℕ) (name : Option (List ℕ)) → MaybeFlat n (name_of name)
name_flat n (Some s) = string_flat n (escaped_text s)
name_flat n None = tt

time_flat : (n : ℕ) (time : Option (List ℕ)) → MaybeFlat n (time_of time)
time_flat n (Some s) = string_flat n s
time_flat n None = tt

pub message_flat : (event : LinkEvent) (flags : ℕ) (index : ℤ) (name : Option (List ℕ))
    (list : Option Data) (time : Option (List ℕ)) → MaybeFlat 5 list →
    IsFlat 6 (message_data event flags index name list time)
message_flat event flags index name list time h =
    let one = put (codes "deleted") (boolean (is_deleted event)) no_members in
    let two = put (codes "flags") (flags_data flags) one in
    let three = put (codes "ifindex") (number (of_integer index)) two in
    let four = put_some (codes "ifname") (name_of name) three in
    let five = put_some (codes "linkinfo") list four in
    object_flat 5 (put_some (codes "time") (time_of time) five)
    (put_some_flat 5 (codes "time") (time_of time) five (time_flat 5 time)
    (put_some_flat 5 (codes "linkinfo") list four h
    (put_some_flat 5 (codes "ifname") (name_of name) three (name_flat 5 name)
    (put_flat 5 (codes "ifindex") (number (of_integer index)) two (integer_flat 5 index)
    (put_flat 5 (codes "flags") (flags_data flags) one
    (deeper 1 5 (flags_data flags) (lit≤ tt) (flags_flat flags))
    (put_flat 5 (codes "deleted") (boolean (is_deleted event)) no_members
    (boolean_flat 5 (is_deleted event)) (none_flat 5)))))))

-- a list that is there, of a value
pub list_there : (list : Option Value) → IfSome list (λ v. depth (view v) ≤ 5) →
    IfSome list (λ v. has_float (view v) ≡ false) → MaybeFlat 5 (option_map view list)
list_there (Some v) h g = record { within = h; whole = g }
list_there None h g = tt

-- a value of flat data is flat
pub value_within : {E : Type 0} (n : ℕ) (d : Data) (r : Result Value E) → IsFlat n d →
    IfOk r (λ v. view v ≡ d) → IfOk r (λ v. depth (view v) ≤ n)
value_within n d (Ok v) h e = subst (λ (x : Data). depth x ≤ n) (sym e) (h.within)
value_within n d (Err x) h e = tt

pub value_whole : {E : Type 0} (n : ℕ) (d : Data) (r : Result Value E) → IsFlat n d →
    IfOk r (λ v. view v ≡ d) → IfOk r (λ v. has_float (view v) ≡ false)
value_whole n d (Ok v) h e = subst (λ (x : Data). has_float x ≡ false) (sym e) (h.whole)
value_whole n d (Err x) h e = tt
