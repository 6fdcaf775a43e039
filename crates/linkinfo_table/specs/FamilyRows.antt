-- The rows of a family, as its table defines them: by shape, or by a codec of the family's own.
use Rattle.std.specs.Prelude.{
  ◌≡◌,
  ◌≢◌,
  ℕ,
  ◌<◌,
  ◌==◌,
  Bool,
  true,
  false,
  if◌then◌else◌,
  List,
  [],
  ◌∷◌,
  map,
  Option,
  Some,
  None,
  Result,
  Ok,
  Err,
}
use Rattle.nla_frame.specs.Attribute.{Attribute}
use Rattle.nla_frame.specs.declared.default_nla.DefaultNla.{DefaultNla}
use Rattle.nla_frame.specs.declared.error.Cause.{Cause}
use Rattle.nla_frame.specs.declared.error.Cause.TheVariants as cause
use Rattle.linkinfo_shapes.specs.declared.shape.Shape.{Shape}
use Rattle.linkinfo_shapes.specs.declared.shape.Shape.TheVariants.{Name, Raw}
use Rattle.linkinfo_shapes.specs.Shapes.{
  IsPlain,
  Carrier,
  means,
  canon,
  Holds,
  payload_alike,
  needs_memory,
}
use Rattle.linkinfo_shapes.specs.Data.{Value, text, bytes, value_of, unwrap, written, Suits}
use Rattle.linkinfo_table.specs.declared.lookup.Lookup.{Lookup}
use Rattle.linkinfo_table.specs.declared.lookup.Lookup.TheVariants as lookup
use Rattle.linkinfo_table.specs.declared.encodable.Encodable.{Encodable}
use Rattle.linkinfo_table.specs.declared.encodable.Encodable.TheVariants as encodable
use Rattle.linkinfo_table.specs.declared.decoded.Decoded.{Decoded}
use Rattle.linkinfo_table.specs.declared.decoded.Decoded.TheVariants as decoded
use Rattle.linkinfo_table.specs.Codecs.{Codec, Own, PayloadError}
use Rattle.linkinfo_table.specs.Rows.{Row, Is, Refused, Unknown, IsRow}

abbrev pub own : {X : Type 0} → Result X Cause → Result X PayloadError
own (Ok x) = Ok x
own (Err cause) = Err (Own cause)

-- a shape as a codec
abbrev pub shape_codec : Shape → Codec
shape_codec shape = record {
  Carrier = Carrier shape;
  means = λ p. own (means shape p);
  canon = canon shape;
  Holds = Holds shape;
  alike = payload_alike shape;
  headers = λ _. 0;
  needs_memory = needs_memory shape;
}

pub data FamilyRow (F : Type 0) : Type 1 where
  -- a payload of this shape, and the label of its datum
  Plain : (shape : Shape) → (Carrier shape → F) → FamilyRow F
  -- a payload that the family reads itself: a list of its own attributes, or a payload of a type of
  -- its own; whether it is written with NLA_F_NESTED
  Custom : Shape → Bool → (codec : Codec) → (codec.Carrier → F) → FamilyRow F
  Refuses : Cause → FamilyRow F
  Absent : FamilyRow F

abbrev pub row_of : {F : Type 0} → FamilyRow F → Row F
row_of (Plain shape label) =
    Is (record { nested = false; codec = shape_codec shape; label = label })
row_of (Custom shape nested codec label) =
    Is (record { nested = nested; codec = codec; label = label })
row_of (Refuses cause) = Refused cause
row_of Absent = Unknown

-- the result of `LinkFamily::shape`
abbrev pub lookup_of : {F : Type 0} → FamilyRow F → Lookup
lookup_of (Plain shape label) = lookup.Is shape
lookup_of (Custom shape nested codec label) = lookup.Is shape
lookup_of (Refuses cause) = lookup.Refused cause
lookup_of Absent = lookup.Unknown

-- a row that the table of shapes reads
abbrev pub IsFlat : {F : Type 0} → FamilyRow F → Type 0
IsFlat (Plain shape label) = IsPlain shape
IsFlat (Custom shape nested codec label) = ⊥
IsFlat _ = Unit {0}

-- what a row owes
abbrev pub RowOwes : {F : Type 0} → (F → Attribute) → ℕ → Row F → Type 0
RowOwes attribute number (Is e) = IsRow attribute number e
RowOwes attribute number (Refused c) = c ≢ cause.Memory
RowOwes attribute number Unknown = Unit {0}

-- ---- a table: its rows by type

pub record PlainRow (F : Type 0) : Type 0 where
  pub number : ℕ
  pub shape : Shape
  pub label : Carrier shape → F

abbrev pub row : {F : Type 0} (number : ℕ) (shape : Shape) → (Carrier shape → F) → PlainRow F
row number shape label = record { number = number; shape = shape; label = label }

abbrev pub find : {F : Type 0} → List (PlainRow F) → ℕ → Option (PlainRow F)
find [] number = None
find (r ∷ rows) number = if number == r.number then Some r else find rows number

abbrev pub plain_or_absent : {F : Type 0} → Option (PlainRow F) → FamilyRow F
plain_or_absent (Some r) = Plain r.shape r.label
plain_or_absent None = Absent

-- the row of a type in a table of shapes
abbrev pub table_row : {F : Type 0} → List (PlainRow F) → ℕ → FamilyRow F
table_row rows number = plain_or_absent (find rows number)

-- a type that no row has
abbrev pub IsNoRow : {F : Type 0} → List (PlainRow F) → ℕ → Type 0
IsNoRow [] number = Unit {0}
IsNoRow (r ∷ rows) number = (number ≢ r.number) × IsNoRow rows number

-- one row or another
abbrev pub row_if : {F : Type 0} → Bool → FamilyRow F → FamilyRow F → FamilyRow F
row_if true x y = x
row_if false x y = y

-- the rows without their labels
abbrev pub without_labels : {F : Type 0} → List (PlainRow F) → List (ℕ × Shape)
without_labels rows = map (λ r. (r.number, r.shape)) rows

-- the lookup of the table of all families
abbrev pub lookup_in : Option Shape → Lookup
lookup_in (Some shape) = lookup.Is shape
lookup_in None = lookup.Unknown

-- the canonical attribute of a row's datum
abbrev pub typed : (number : ℕ) (shape : Shape) → Carrier shape → Attribute
typed number shape x = record { kind = number; value = canon shape x }

-- a label keeps the type and the datum of its row
pub record Keeps {F : Type 0} (attribute : F → Attribute) (r : PlainRow F) : Type 0 where
  pub low : r.number < 16384
  pub plain : IsPlain r.shape
  pub keeps : (x : Carrier r.shape) →
      attribute (r.label x) ≡ record { kind = r.number; value = canon r.shape x }

abbrev pub EachKeeps : {F : Type 0} → (F → Attribute) → List (PlainRow F) → Type 0
EachKeeps attribute [] = Unit {0}
EachKeeps attribute (r ∷ rows) = Keeps attribute r × EachKeeps attribute rows

-- ---- data of rows, as the program holds them

-- the datum belongs to the row's shape
abbrev pub SuitsRow : {F : Type 0} → FamilyRow F → Value → Type 0
SuitsRow (Plain shape label) value = Suits shape value
SuitsRow _ value = ⊥

-- a value is the row's label of a datum
abbrev pub IsLabelled : {F : Type 0} → FamilyRow F → Value → F → Type 0
IsLabelled (Plain shape label) value x = x ≡ label (unwrap shape value)
IsLabelled _ value x = ⊥

-- building a value of this shape copies text or bytes, which allocates memory
abbrev pub owns_memory : Shape → Bool
owns_memory Name = true
owns_memory Raw = true
owns_memory _ = false

-- so does building a value of this datum
abbrev pub is_copied : Value → Bool
is_copied (text s) = true
is_copied (bytes s) = true
is_copied _ = false

-- the decoded content of an attribute: a datum belongs to the row of its type
abbrev pub SuitsDecoded : {F : Type 0} → (ℕ → FamilyRow F) → Decoded → Type 0
SuitsDecoded rows (decoded.Typed number datum) = SuitsRow (rows number) (value_of datum)
SuitsDecoded rows (decoded.Kept nla) = Unit {0}

-- what a slot holds once the row's label of a datum is stored
abbrev pub StoresLabelled : {F H : Type 0} → (F → H) → FamilyRow F → Value → H → Type 0
StoresLabelled with (Plain shape label) value held = held ≡ with (label (unwrap shape value))
StoresLabelled with _ value held = ⊥

-- what a slot holds once the value of the decoded content is stored
abbrev pub Stores : {F H : Type 0} → (F → H) → (DefaultNla → F) → (ℕ → FamilyRow F) → Decoded → H →
    Type 0
Stores with other rows (decoded.Typed number datum) held =
    StoresLabelled with (rows number) (value_of datum) held
Stores with other rows (decoded.Kept nla) held = held ≡ with (other nla)

-- building a value of the decoded content needs memory
abbrev pub decoded_needs_memory : Decoded → Bool
decoded_needs_memory (decoded.Typed number datum) = is_copied (value_of datum)
decoded_needs_memory (decoded.Kept nla) = false

-- what a value shows of its canonical attribute: type, shape and datum, or that it is opaque
abbrev pub Shows : Encodable → Attribute → Bool → Type 0
Shows (encodable.Typed number shape datum) a is_custom =
    (a ≡ record { kind = number; value = written shape (value_of datum) })
    × Suits shape (value_of datum)
    × (is_custom ≡ false)
Shows (encodable.Kept nla) a is_custom =
    (a ≡ record { kind = nla.now.kind; value = nla.now.value }) × (is_custom ≡ false)
Shows encodable.Custom a is_custom = is_custom ≡ true

-- ---- equality of these data, wherever they borrow from

-- equal types and data, or equal opaque attributes
abbrev pub SameDecoded : Decoded → Decoded → Type 0
SameDecoded (decoded.Typed n d) (decoded.Typed k e) = (n ≡ k) × (value_of d ≡ value_of e)
SameDecoded (decoded.Kept x) (decoded.Kept y) = x ≡ y
SameDecoded _ _ = ⊥

-- equal types, shapes and data, or equal opaque attributes
abbrev pub SameEncodable : Encodable → Encodable → Type 0
SameEncodable (encodable.Typed n s d) (encodable.Typed k t e) = (n ≡ k) × (s ≡ t)
    × (value_of d ≡ value_of e)
SameEncodable (encodable.Kept x) (encodable.Kept y) = x.now ≡ y.now
SameEncodable encodable.Custom encodable.Custom = Unit {0}
SameEncodable _ _ = ⊥
