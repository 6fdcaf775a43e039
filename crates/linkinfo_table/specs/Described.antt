-- What the shape of a type says of what its attributes contain: where their errors are looked for,
-- and in which lists they are compared.
use Rattle.std.specs.Prelude.{
  ◌≡◌,
  ◌==◌,
  ◌+◌,
  ◌&&◌,
  ◌||◌,
  ℕ,
  Bool,
  true,
  false,
  if◌then◌else◌,
  List,
  [],
  ◌∷◌,
  Option,
  None,
  Some,
  Result,
  Ok,
  Err,
  is_ok,
  length,
  refl,
}
use Rattle.std.proofs.Common.{ap, subst, sym, ◌∙◌}
use Rattle.std.proofs.lemmas.Bool.{eqb-true}
use Rattle.nla_frame.specs.Attribute.{Attribute, masked}
use Rattle.nla_frame.specs.NlaItems.{nla_items}
use Rattle.nla_frame.specs.declared.default_nla.DefaultNla.{DefaultNla}
use Rattle.nla_frame.specs.declared.error.Cause.{Cause}
use Rattle.nla_frame.specs.declared.error.DecodeError.{DecodeError}
use Rattle.nla_frame.specs.declared.error.Family.{Family}
use Rattle.linkinfo_shapes.specs.Shapes.{Carrier, IsPlain, means}
use Rattle.linkinfo_shapes.specs.declared.shape.Shape.{Shape}
use Rattle.linkinfo_shapes.specs.declared.shape.Shape.TheVariants.{Nested, SelfList, V4List, V6List}
use Rattle.linkinfo_table.specs.Contents.{
  Contents,
  ListOf,
  Listed,
  NoList,
  contents_either,
  counted_in,
  payload_headers,
  single_value,
}
use Rattle.linkinfo_table.specs.Difference.{each_error}
use Rattle.linkinfo_table.specs.FamilyRows.{
  Absent,
  Custom,
  FamilyRow,
  IsFlat,
  Plain,
  Refuses,
  lookup_of,
  own,
  row_of,
}
use Rattle.linkinfo_table.specs.Lists.{headers_of, if_read}
use Rattle.linkinfo_table.specs.Lookups.{LookupSays, MeansDatum}
use Rattle.linkinfo_table.specs.Payloads.{
  IsAddresses,
  IsExact,
  all_addresses,
  exact_length,
}
use Rattle.linkinfo_table.specs.Rows.{labelled, row_meaning}
use Rattle.linkinfo_table.specs.TypedRows.{addresses_not_plain, exact_not_plain}
use Rattle.linkinfo_table.specs.declared.lookup.Lookup.{Lookup}
use Rattle.linkinfo_table.specs.declared.lookup.Lookup.TheVariants as lookup

-- ---- where a list of addresses is rejected

-- the attributes up to the end, or to a rest without a header, pass the test
abbrev pub each_framed : (Attribute → Bool) → List (Result Attribute ℕ) → Bool
each_framed test [] = true
each_framed test ((Err seen) ∷ more) = true
each_framed test ((Ok a) ∷ more) = test a && each_framed test more

abbrev pub or_zero : Option ℕ → ℕ
or_zero None = 0
or_zero (Some n) = n

-- the offset where a list has no header, which it has where it is rejected and each attribute in it
-- is accepted
abbrev pub unframed : List ℕ → ℕ
unframed p = or_zero (each_error (λ _. None) p)

-- The place of the error of a list of addresses of this width, from the header of the attribute
-- that has it: at that header if an address has another width, otherwise where no header is
-- accepted.
abbrev pub address_place : ℕ → List ℕ → ℕ
address_place width p =
    if each_framed (λ a. length a.value == width) (nla_items p) then 4 + unframed p else 0

-- the headers examined in a list of addresses of this width
abbrev pub address_count : ℕ → List ℕ → ℕ
address_count width p = counted_in (λ a. length a.value == width) (λ _. 0) (nla_items p)

-- ---- by shapes

-- What an attribute contains that has no list of a family in it: a list of addresses, or a single
-- value. An attribute that is rejected by its type, or has an unknown one, has a single value.
abbrev pub SaysNoList : Lookup → Contents → Type 0
SaysNoList (lookup.Is SelfList) contents = ⊥
SaysNoList (lookup.Is (Nested inner)) contents = ⊥
SaysNoList (lookup.Is V4List) contents = contents ≡ NoList (address_place 4) (address_count 4)
SaysNoList (lookup.Is V6List) contents = contents ≡ NoList (address_place 16) (address_count 16)
SaysNoList _ contents = contents ≡ single_value

-- The list in an attribute of the family: its own attributes, which a request asks for as a whole,
-- or those of another family, one after the other.
abbrev pub SaysList : Family → Lookup → Listed → Type 0
SaysList family (lookup.Is SelfList) l = (l.family ≡ family) × (l.is_whole ≡ true)
SaysList family (lookup.Is (Nested inner)) l = (l.family ≡ inner) × (l.is_whole ≡ false)
SaysList family _ l = ⊥

-- Whether a payload of a shape is accepted: as the table of shapes reads it, a record or an array
-- by its length, and a list of addresses if each attribute in it is an address. (A list of
-- attributes of a family is accepted if each of them is: `IsContent`. Peers are their type's.)
pub record ShapeAccepts (shape : Shape) (p : List ℕ) (accepted : Bool) : Type 0 where
  pub plain : IsPlain shape → accepted ≡ is_ok (means shape p)
  pub exact : IsExact shape → accepted ≡ exact_length shape (length p)
  pub addresses : IsAddresses shape → accepted ≡ all_addresses shape p

-- Whether an attribute is accepted, by the lookup of its type: by its shape; never with a type that
-- is rejected; always with an unknown one.
abbrev pub AcceptsBy : Attribute → Lookup → Bool → Type 0
AcceptsBy a (lookup.Is shape) accepted = ShapeAccepts shape a.value accepted
AcceptsBy a (lookup.Refused cause) accepted = accepted ≡ false
AcceptsBy a lookup.Unknown accepted = accepted ≡ true

-- What attributes of a type contain, by the lookup of the type, in attributes of the family. In a
-- list, at every depth, each type has a lookup in turn, by which its attributes are accepted, and
-- that says what they contain.
abbrev pub LookupContains : Family → Lookup → Contents → Type 0
LookupContains family says (NoList place count) = SaysNoList says (NoList place count)
LookupContains family says (ListOf l inside) =
    SaysList family says l
    × ((number : ℕ) →
    (within : Lookup)
    × ((a : Attribute) → masked a.kind ≡ number → AcceptsBy a within (l.accepts a))
    × LookupContains l.family within (inside number))

-- what payloads of a shape contain, in attributes of the family
abbrev pub ShapeContains : Family → Shape → Contents → Type 0
ShapeContains family shape contents = LookupContains family (lookup.Is shape) contents

-- ---- of rows

-- a payload that the table of shapes reads is a single value
plain_contains : (family : Family) (shape : Shape) → IsPlain shape →
    ShapeContains family shape single_value
plain_contains family SelfList h = absurd h
plain_contains family (Nested inner) h = absurd h
plain_contains family V4List h = absurd h
plain_contains family V6List h = absurd h
plain_contains family _ h = refl

-- so are records and arrays
pub exact_contains : (family : Family) (shape : Shape) → IsExact shape →
    ShapeContains family shape single_value
exact_contains family SelfList h = absurd h
exact_contains family (Nested inner) h = absurd h
exact_contains family V4List h = absurd h
exact_contains family V6List h = absurd h
exact_contains family _ h = refl

pub flat_contains : {F : Type 0} (family : Family) (r : FamilyRow F) → IsFlat r →
    LookupContains family (lookup_of r) single_value
flat_contains family (Plain shape label) h = plain_contains family shape h
flat_contains family (Custom shape nested codec label) h = absurd h
flat_contains family (Refuses cause) h = refl
flat_contains family Absent h = refl

-- a row at the front, and one of the others
pub either_contains : {F : Type 0} (family : Family) (rows : ℕ → FamilyRow F) (number : ℕ)
    (shape : Shape) (here : Contents) (owned : ℕ → Bool) (others : ℕ → Contents) →
    lookup_of (rows number) ≡ lookup.Is shape → ShapeContains family shape here → (n : ℕ) →
    ((owned n ≡ false → IsFlat (rows n)) → LookupContains family (lookup_of (rows n)) (others n)) →
    (((n == number) || owned n) ≡ false → IsFlat (rows n)) →
    LookupContains family (lookup_of (rows n)) (contents_either number here others n)
either_contains family rows number shape here owned others is contains n there flat =
    go (n == number) refl flat
  where
    go : (b : Bool) → (n == number) ≡ b → ((b || owned n) ≡ false → IsFlat (rows n)) →
        LookupContains family (lookup_of (rows n)) (if b then here else others n)
    go true e elsewhere =
        subst (λ (m : ℕ). LookupContains family (lookup_of (rows m)) here)
        (sym (eqb-true n number e))
        (subst (λ (l : Lookup). LookupContains family l here) (sym is) contains)
    go false e elsewhere = there elsewhere

-- the rows of one list of rows, and those of another
pub both_contain : {F : Type 0} (family : Family) (r : FamilyRow F) (owned others : Bool)
    (first second : Contents) →
    ((owned ≡ false → IsFlat r) → LookupContains family (lookup_of r) first) →
    ((others ≡ false → IsFlat r) → LookupContains family (lookup_of r) second) →
    ((owned || others) ≡ false → IsFlat r) →
    LookupContains family (lookup_of r) (if owned then first else second)
both_contain family r true others first second here there flat = here (λ e. absurd cc)
both_contain family r false others first second here there flat = there flat

-- an attribute is accepted by a row that has a shape of the table, rejects it, or is none
pub flat_accepts : {X : Type 0} (f : Family) (other : DefaultNla → X) (r : FamilyRow X)
    (a : Attribute) → IsFlat r →
    AcceptsBy a (lookup_of r) (is_ok (row_meaning f other (row_of r) a))
flat_accepts f other (Plain shape label) a h = record {
  plain = λ _. go (means shape a.value);
  exact = λ i. absurd (exact_not_plain shape i h);
  addresses = λ i. absurd (addresses_not_plain shape i h);
}
  where
    go : (m : Result (Carrier shape) Cause) →
        is_ok (labelled f (masked a.kind) label (own m)) ≡ is_ok m
    go (Ok u) = refl
    go (Err c) = refl
flat_accepts f other (Custom shape nested codec label) a h = absurd h
flat_accepts f other (Refuses cause) a h = refl
flat_accepts f other Absent a h = refl

-- ---- in a list of a family

-- what the lookup of its type says of an attribute says whether it is accepted
pub says_accepts : {C X : Type 0} (f : Family) (among : List Family) (keeping : DefaultNla → X)
    (attribute : X → Attribute) (meaning : C → Attribute → Result X DecodeError) (a : Attribute)
    (says : Lookup) (m : Result X DecodeError) →
    LookupSays f among keeping attribute meaning a says m → AcceptsBy a says (is_ok m)
says_accepts {X = X} f among keeping attribute meaning a (lookup.Is shape) m says = record {
  plain = λ plain. go (means shape a.value) (says.plain plain);
  exact = says.exact_accepted;
  addresses = says.addresses_accepted;
}
  where
    go : (r : Result (Carrier shape) Cause) → MeansDatum f attribute a shape r m →
        is_ok m ≡ is_ok r
    go (Ok u) h = ap (λ (z : Result X DecodeError). is_ok z) h.1
    go (Err c) h = ap (λ (z : Result X DecodeError). is_ok z) h
says_accepts {X = X} f among keeping attribute meaning a (lookup.Refused cause) m says =
    ap (λ (z : Result X DecodeError). is_ok z) says
says_accepts {X = X} f among keeping attribute meaning a lookup.Unknown m says =
    ap (λ (z : Result X DecodeError). is_ok z) says

-- each type in a list of attributes of a family contains what the family's lookup says
pub list_describes : {C X : Type 0} (f : Family) (among : List Family) (keeping : DefaultNla → X)
    (attribute : X → Attribute) (meaning : C → Attribute → Result X DecodeError)
    (lookup : C → ℕ → Lookup) (contents : C → ℕ → Contents) (c : C) →
    ((a : Attribute) →
    LookupSays f among keeping attribute meaning a (lookup c (masked a.kind)) (meaning c a)) →
    ((number : ℕ) → LookupContains f (lookup c number) (contents c number)) →
    (number : ℕ) →
    (within : Lookup)
    × ((a : Attribute) → masked a.kind ≡ number → AcceptsBy a within (is_ok (meaning c a)))
    × LookupContains f within (contents c number)
list_describes f among keeping attribute meaning lookup contents c says describes number = (
  lookup c number,
  λ a typed.
      subst (λ (n : ℕ). AcceptsBy a (lookup c n) (is_ok (meaning c a))) typed
      (says_accepts f among keeping attribute meaning a (lookup c (masked a.kind)) (meaning c a)
      (says a)),
  describes number,
)

-- ---- headers

-- of the rows of one list of rows, and of another
pub both_count : (owned : Bool) (x y : ℕ) (first second : Contents) (p : List ℕ) →
    x ≡ payload_headers first p → y ≡ payload_headers second p →
    (if owned then x else y) ≡ payload_headers (if owned then first else second) p
both_count true x y first second p here there = here
both_count false x y first second p here there = there

-- of the attributes in a list of a family
pub list_counts : {X : Type 0} (m : Attribute → Result X DecodeError) (h : Attribute → ℕ)
    (contents : ℕ → Contents) →
    ((a : Attribute) → h a ≡ payload_headers (contents (masked a.kind)) a.value) →
    (ps : List (Result Attribute ℕ)) →
    headers_of m h ps
    ≡ counted_in (λ a. is_ok (m a)) (λ a. payload_headers (contents (masked a.kind)) a.value) ps
list_counts m h contents each [] = refl
list_counts m h contents each ((Err n) ∷ more) = refl
list_counts {X = X} m h contents each ((Ok a) ∷ more) =
    ap (λ (n : ℕ). 1 + (n + if_read (m a) (headers_of m h more))) (each a)
    ∙ ap (λ (n : ℕ). 1 + (payload_headers (contents (masked a.kind)) a.value + n))
    (read (m a) ∙ ap (λ (n : ℕ). if is_ok (m a) then n else 0) (list_counts m h contents each more))
  where
    read : (r : Result X DecodeError) →
        if_read r (headers_of m h more) ≡ (if is_ok r then headers_of m h more else 0)
    read (Ok x) = refl
    read (Err e) = refl
