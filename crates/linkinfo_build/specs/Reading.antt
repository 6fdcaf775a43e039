-- Reading the values of a list: the array that it was built from.
use Rattle.std.specs.Prelude.{
  ◌≡◌,
  ℕ,
  zero,
  suc,
  ◌^◌,
  ◌<◌,
  true,
  List,
  [],
  ◌∷◌,
  ◌++◌,
  length,
  FitsSigned,
  Option,
  Some,
  None,
  Result,
  Ok,
  Err,
}
use Rattle.std.specs.Int.{w32}
use Rattle.std.specs.Str.{is_utf8}
use Rattle.nla_frame.specs.Attribute.{Attribute, IsBytes, masked}
use Rattle.nla_frame.specs.NlaItems.{nla_items}
use Rattle.nla_frame.specs.declared.error.Cause.{Cause}
use Rattle.linkinfo_shapes.specs.Data.{
  Value,
  bytes,
  empty,
  mac,
  number,
  pair,
  reads,
  signed,
  text,
  truth,
  v4,
  v6,
  value_of,
}
use Rattle.linkinfo_shapes.specs.Shapes.{IsIpv4, IsIpv6}
use Rattle.linkinfo_shapes.specs.declared.shape.Shape.{Shape}
use Rattle.linkinfo_build.specs.Rows.{rows_in, shape_in}
use Rattle.linkinfo_build.specs.declared.rows.Rows.{Rows}
use Rattle.linkinfo_build.specs.declared.value.BuildDatum.{BuildDatum}
use Rattle.linkinfo_build.specs.declared.value.BuildDatum.TheVariants as given
use Rattle.linkinfo_build.specs.declared.value.BuildValue.{BuildValue}

-- what a payload means: a datum, bytes, or how many of the values that follow are inside it
pub data Meaning : Type 0 where
  datum : Value → Meaning
  raw : List ℕ → Meaning
  list : ℕ → Meaning

-- a value, without references
pub record Entry : Type 0 where
  pub kind : ℕ
  pub meaning : Meaning

abbrev pub meaning_of : BuildDatum → Meaning
meaning_of (given.Datum d) = datum (value_of d)
meaning_of (given.Raw b) = raw b.now
meaning_of (given.List n) = list n

abbrev pub entry_of : BuildValue → Entry
entry_of value = record { kind = value.kind; meaning = meaning_of value.value }

-- ---- reading

-- a payload that is no list: its datum, or its bytes if the type has no row, or a shape that has no
-- data
abbrev pub datum_or_bytes : List ℕ → Result Value Cause → Meaning
datum_or_bytes payload (Ok value) = datum value
datum_or_bytes payload (Err c) = raw payload

abbrev pub payload_meaning : Option Shape → List ℕ → Meaning
payload_meaning None payload = raw payload
payload_meaning (Some shape) payload = datum_or_bytes payload (reads shape payload)

-- the values of an attribute: itself, and if its payload is a list, those inside it
abbrev pub entries_of : (Rows → List ℕ → List Entry) → ℕ → Option Rows → Option Shape →
    List ℕ → List Entry
entries_of inside kind None shape payload =
    record { kind = kind; meaning = payload_meaning shape payload } ∷ []
entries_of inside kind (Some inner) shape payload =
    record { kind = kind; meaning = list (length (inside inner payload)) } ∷ inside inner payload

abbrev pub entries_in : (Rows → List ℕ → List Entry) → Rows → ℕ → List ℕ → List Entry
entries_in inside f kind payload =
    entries_of inside kind (rows_in f (shape_in f kind)) (shape_in f kind) payload

abbrev pub entries_among : (Rows → List ℕ → List Entry) → Rows → List (Result Attribute ℕ) →
    List Entry
entries_among inside f [] = []
entries_among inside f ((Err seen) ∷ more) = entries_among inside f more
entries_among inside f ((Ok a) ∷ more) =
    entries_in inside f (masked a.kind) a.value ++ entries_among inside f more

-- the values of a list of attributes of a family, so many lists deep
unfoldable pub values_up_to : ℕ → Rows → List ℕ → List Entry
values_up_to zero f string = []
values_up_to (suc k) f string = entries_among (values_up_to k) f (nla_items string)

-- the list itself, and those in it up to eight deep
unfoldable pub values_of : Rows → List ℕ → List Entry
values_of f string = values_up_to 9 f string

-- ---- values that a program can hold

abbrev pub IsHeldValue : Value → Type 0
IsHeldValue (number n) = n < 2 ^ 64
IsHeldValue (signed z) = FitsSigned w32 z
IsHeldValue (truth b) = Unit {0}
IsHeldValue empty = Unit {0}
IsHeldValue (text s) = (is_utf8 s ≡ true) × IsBytes s
IsHeldValue (v4 a) = IsIpv4 a
IsHeldValue (v6 a) = IsIpv6 a
IsHeldValue (mac s) = (length s ≡ 6) × IsBytes s
IsHeldValue (pair a b) = (a < 2 ^ 32) × (b < 2 ^ 32)
IsHeldValue (bytes s) = IsBytes s

abbrev pub IsHeldDatum : BuildDatum → Type 0
IsHeldDatum (given.Datum d) = IsHeldValue (value_of d)
IsHeldDatum (given.Raw b) = IsBytes b.now
IsHeldDatum (given.List n) = Unit {0}

-- numbers in the widths of their types, bytes and texts of bytes
abbrev pub IsHeld : BuildValue → Type 0
IsHeld value = IsHeldDatum value.value
