-- Iteration over the attributes of a list, with the current kinds before each.
use Rattle.std.specs.Prelude.{
  ◌≡◌,
  ◌≤◌,
  ℕ,
  Bool,
  ◌+◌,
  ◌*◌,
  min,
  false,
  if◌then◌else◌,
  List,
  [],
  ◌∷◌,
  length,
  map,
  slice_range,
  Option,
  Some,
  None,
  is_some,
  unwrap_or,
  Result,
  Ok,
  Err,
}
use Rattle.std.specs.Iterator.{YieldsFirst}
use Rattle.nla_frame.specs.Attribute.{Attribute, IsAttribute, aligned}
use Rattle.nla_frame.specs.Error.{header_error}
use Rattle.nla_frame.specs.NlaItems.{nla_items}
use Rattle.nla_frame.specs.Walk.{Walk, unread}
use Rattle.nla_frame.specs.declared.error.DecodeError.{DecodeError}
use Rattle.linkinfo_numbers.specs.declared.tags.KindTag.{KindTag}
use Rattle.linkinfo_numbers.specs.declared.tags.PortTag.{PortTag}
use Rattle.linkinfo_data.specs.DataFamilies.{DataFamilies, DataTypes}
use Rattle.linkinfo.specs.Layered.{LinkOf}
use Rattle.linkinfo.specs.declared.role.CurrentKinds.{CurrentKinds}
use Rattle.linkinfo.specs.declared.role.Role.{Role}
use Rattle.linkinfo.specs.declared.walk.LinkInfoItem.{LinkInfoItem}
use Rattle.linkinfo.specs.Roles.{kinds_after, no_kinds, role_at}
use Rattle.linkinfo.specs.Strings.{
  headers_from,
  last_kind,
  last_port,
  memory_from,
  values_from,
}

-- the attributes of the byte string, the current kinds before the next one, and the offset of the
-- attribute that has the error, once the walk has met one
pub record LinkWalk : Type 0 where
  pub attributes : Walk
  pub kinds : CurrentKinds
  pub error : Option ℕ

-- a walk before the first attribute of a byte string
abbrev pub link_walk : List ℕ → LinkWalk
link_walk s = record {
  attributes = record { source = s; place = 0; examined = 0; failed = false };
  kinds = no_kinds;
  error = None;
}

-- the bytes that a walk has not visited
abbrev pub left : LinkWalk → List ℕ
left w = if is_some w.error then [] else unread w.attributes

-- the offset of the next header, or of the attribute that has the error
abbrev pub place_of : LinkWalk → ℕ
place_of w = unwrap_or w.error w.attributes.place

-- an attribute without an error of its own is an item, and the walk continues after it; otherwise
-- the error is the last item
abbrev pub item_or_error : Attribute → Result CurrentKinds DecodeError →
    (CurrentKinds → List (Result Attribute DecodeError)) → List (Result Attribute DecodeError)
item_or_error a (Ok t) more = Ok a ∷ more t
item_or_error a (Err e) more = Err e ∷ []

-- The attributes in order, up to the first one that has no header, no current kind that it needs,
-- or a name that is not UTF-8; then that error.
abbrev pub walk_items : CurrentKinds → List (Result Attribute ℕ) →
    List (Result Attribute DecodeError)
walk_items t [] = []
walk_items t ((Err n) ∷ more) = Err header_error ∷ []
walk_items t ((Ok a) ∷ more) = item_or_error a (kinds_after t a) (λ u. walk_items u more)

-- what the attributes to come mean: their values in order, or the first error
abbrev pub values_left : {L : DataTypes} → DataFamilies L → LinkWalk →
    Result (List (LinkOf L)) DecodeError
values_left layer w = values_from layer w.kinds (nla_items (left w))

-- whether parsing them may allocate
abbrev pub memory_left : {L : DataTypes} → DataFamilies L → LinkWalk → Bool
memory_left layer w = memory_from layer w.kinds (nla_items (left w))

-- the headers examined for them, up to the first error
abbrev pub headers_left : {L : DataTypes} → DataFamilies L → LinkWalk → ℕ
headers_left layer w = headers_from layer w.kinds (nla_items (left w))

-- the items to come
abbrev pub items_left : LinkWalk → List (Result Attribute DecodeError)
items_left w = walk_items w.kinds (nla_items (left w))

-- the offset of the next header after an attribute: after its padding, or at the end
abbrev pub next_place : LinkWalk → Attribute → ℕ
next_place s a = min (length s.attributes.source) (place_of s + aligned (4 + length a.value))

-- One step of a walk is to an attribute without an error of its own, ..
pub record Enters (s : LinkWalk) (a : Attribute) (r : Role) (t : LinkWalk) : Type 0 where
  pub nla_items_are : nla_items (left s) ≡ Ok a ∷ nla_items (left t)
  pub attribute : IsAttribute a
  pub role : r ≡ role_at s.kinds a
  pub kinds_after : kinds_after s.kinds a ≡ Ok t.kinds
  pub value_is : a.value
      ≡ slice_range s.attributes.source (place_of s + 4) (place_of s + (4 + length a.value))
  pub place : place_of t ≡ next_place s a
  pub examined : t.attributes.examined ≡ s.attributes.examined + 1
  pub room : length (left t) + (4 + length a.value) ≤ length (left s)

-- .. or to an error, after which nothing is left, ..
abbrev pub ErrorOf : CurrentKinds → List (Result Attribute ℕ) → DecodeError → ℕ → Type 0
ErrorOf t [] e n = ⊥
ErrorOf t ((Err k) ∷ more) e n = (e ≡ header_error) × (n ≡ k)
ErrorOf t ((Ok a) ∷ more) e n = (kinds_after t a ≡ Err e) × (n ≡ 1)

pub record Stops (s : LinkWalk) (e : DecodeError) (t : LinkWalk) : Type 0 where
  pub seen : ℕ
  pub error : ErrorOf s.kinds (nla_items (left s)) e seen
  pub at : t.error ≡ Some (place_of s)
  pub kinds : t.kinds ≡ s.kinds
  pub examined : t.attributes.examined ≡ s.attributes.examined + seen
  pub room : 4 * seen ≤ length (left s)

-- .. or to the end.
abbrev pub Advances : LinkWalk → Option (Result (Attribute × Role) DecodeError) → LinkWalk → Type 0
Advances s None t = (t ≡ s) × (nla_items (left s) ≡ [])
Advances s (Some (Ok x)) t = Enters s x.0 x.1 t
Advances s (Some (Err e)) t = Stops s e t

-- ---- the items in memory

abbrev pub attribute_of_item : LinkInfoItem → Attribute
attribute_of_item item = record { kind = item.raw_kind; value = item.value.now }

abbrev pub item_of_answer : Result LinkInfoItem DecodeError → Result Attribute DecodeError
item_of_answer (Ok item) = Ok (attribute_of_item item)
item_of_answer (Err e) = Err e

abbrev pub item_of_answers : Option (Result LinkInfoItem DecodeError) →
    Option (Result Attribute DecodeError)
item_of_answers None = None
item_of_answers (Some r) = Some (item_of_answer r)

-- An item is the slice of the source at its offset, with the current kinds before it. After it the
-- current kinds are those that it leaves, and the next header is after its padding, or at the end.
pub record ItemAt (s : LinkWalk) (item : LinkInfoItem) (t : LinkWalk) : Type 0 where
  pub place : item.place ≡ place_of s
  pub value_is : item.value.now
      ≡ slice_range s.attributes.source (item.place + 4) (item.place + (4 + length item.value.now))
  pub kind_tag : item.kind_tag ≡ s.kinds.kind
  pub port_tag : item.port_tag ≡ s.kinds.port
  pub kinds_after : kinds_after s.kinds (attribute_of_item item) ≡ Ok t.kinds
  pub passes : place_of t ≡ next_place s (attribute_of_item item)

-- an error is that of the attribute at the walk's offset, and leaves the current kinds unchanged;
-- the end leaves the walk unchanged
abbrev pub Holds : LinkWalk → Option (Result LinkInfoItem DecodeError) → LinkWalk → Type 0
Holds s None t = t ≡ s
Holds s (Some (Ok item)) t = ItemAt s item t
Holds s (Some (Err e)) t = (t.error ≡ Some (place_of s)) × (t.kinds ≡ s.kinds)

-- the headers that a step examines
abbrev pub seen_of : Option (Result LinkInfoItem DecodeError) → LinkWalk → ℕ → Type 0
seen_of None s n = n ≡ s.attributes.examined
seen_of (Some (Ok item)) s n = n ≡ s.attributes.examined + 1
seen_of (Some (Err e)) s n =
    (k : ℕ) × ErrorOf s.kinds (nla_items (left s)) e k × (n ≡ s.attributes.examined + k)

-- One call returns the first of the items left. It keeps the byte string, has the current kinds
-- after the item, and counts each header that it examines.
pub record Moves (s : LinkWalk) (r : Option (Result LinkInfoItem DecodeError)) (t : LinkWalk) : Type
    0 where
  pub gives : YieldsFirst items_left s (item_of_answers r) t
  pub holds : Holds s r t
  pub source : t.attributes.source ≡ s.attributes.source
  pub examined : seen_of r s t.attributes.examined

-- ---- the items that calls have returned, from the beginning of a byte string

-- the tags of an item are those of the last names among the items before it
pub record TagsByPlace (before : List LinkInfoItem) (item : LinkInfoItem) : Type 0 where
  pub kind_tag : item.kind_tag ≡ last_kind (map attribute_of_item before)
  pub port_tag : item.port_tag ≡ last_port (map attribute_of_item before)

-- the results of calls that each return an item
abbrev pub given : List LinkInfoItem → List (Result LinkInfoItem DecodeError)
given [] = []
given (item ∷ more) = Ok item ∷ given more

-- ---- the contents of an item, whatever bytes its payload is borrowed from

pub record HeldItem : Type 0 where
  pub place : ℕ
  pub raw_kind : ℕ
  pub value : List ℕ
  pub kind_tag : Option KindTag
  pub port_tag : Option PortTag

abbrev pub held : LinkInfoItem → HeldItem
held item = record {
  place = item.place;
  raw_kind = item.raw_kind;
  value = item.value.now;
  kind_tag = item.kind_tag;
  port_tag = item.port_tag;
}
