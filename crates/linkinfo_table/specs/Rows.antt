-- A family by its rows: what an attribute means, which attributes are equivalent, and which values
-- are well formed.
use Rattle.std.specs.Prelude.{◌≡◌, ℕ, ◌+◌, ◌<◌, ◌==◌, ◌&&◌, Bool, true, false, Result, Ok, Err}
use Rattle.std.specs.Str.{bytes_eq}
use Rattle.nla_frame.specs.Attribute.{Attribute, IsBytes, masked}
use Rattle.nla_frame.specs.Kept.{kept}
use Rattle.nla_frame.specs.declared.error.Cause.{Cause}
use Rattle.nla_frame.specs.declared.error.Family.{Family}
use Rattle.nla_frame.specs.declared.error.DecodeError.{DecodeError}
use Rattle.nla_frame.specs.declared.default_nla.DefaultNla.{DefaultNla}
use Rattle.linkinfo_table.specs.Codecs.{Codec, PayloadError, Own, Inside, IsCodec}

-- a label, and the codec of what it holds; whether attributes are written with NLA_F_NESTED
pub record Entry (F : Type 0) : Type 1 where
  pub nested : Bool
  pub codec : Codec
  pub label : codec.Carrier → F

-- the type that attributes of a row are written with: its number, and NLA_F_NESTED (0x8000) if the
-- row says so
abbrev pub written_kind : Bool → ℕ → ℕ
written_kind true number = number + 32768
written_kind false number = number

-- how a family reads a masked type
pub data Row (F : Type 0) : Type 1 where
  Is : Entry F → Row F
  Refused : Cause → Row F
  Unknown : Row F

-- a cause of the attribute's own has its family and masked type
abbrev pub error_at : Family → ℕ → PayloadError → DecodeError
error_at family number (Own cause) = record { family = family; kind = number; cause = cause }
error_at family number (Inside error) = error

abbrev pub labelled : {X F : Type 0} → Family → ℕ → (X → F) → Result X PayloadError →
    Result F DecodeError
labelled family number label (Ok x) = Ok (label x)
labelled family number label (Err error) = Err (error_at family number error)

abbrev pub row_meaning : {F : Type 0} → Family → (DefaultNla → F) → Row F → Attribute →
    Result F DecodeError
row_meaning family other (Is e) a = labelled family (masked a.kind) e.label (e.codec.means a.value)
row_meaning family other (Refused cause) a = Err (error_at family (masked a.kind) (Own cause))
row_meaning family other Unknown a = Ok (other (kept a))

-- the meaning of an attribute in a family: its row's label and datum, the cause of a rejection, or
-- an opaque attribute
unfoldable pub meaning_in : {F : Type 0} → Family → (DefaultNla → F) → (ℕ → Row F) → Attribute →
    Result F DecodeError
meaning_in family other rows a = row_meaning family other (rows (masked a.kind)) a

abbrev pub row_alike : {F : Type 0} → Row F → Attribute → Attribute → Bool
row_alike (Is e) a b = (masked b.kind == masked a.kind) && e.codec.alike a.value b.value
row_alike (Refused cause) a b = false
row_alike Unknown a b = (b.kind == a.kind) && bytes_eq a.value b.value

-- Two accepted attributes are equivalent if they have one row and equivalent payloads, or no row,
-- equal 16-bit types and equal payloads.
unfoldable pub alike_in : {F : Type 0} → (ℕ → Row F) → Attribute → Attribute → Bool
alike_in rows a b = row_alike (rows (masked a.kind)) a b

abbrev pub row_headers : {F : Type 0} → Row F → Attribute → ℕ
row_headers (Is e) a = e.codec.headers a.value
row_headers (Refused cause) a = 0
row_headers Unknown a = 0

-- the number of headers examined inside an attribute
unfoldable pub headers_inside : {F : Type 0} → (ℕ → Row F) → Attribute → ℕ
headers_inside rows a = row_headers (rows (masked a.kind)) a

abbrev pub row_needs_memory : {F : Type 0} → Row F → Attribute → Bool
row_needs_memory (Is e) a = e.codec.needs_memory a.value
row_needs_memory (Refused cause) a = false
row_needs_memory Unknown a = true

-- whether reading an attribute may need memory
unfoldable pub memory_in : {F : Type 0} → (ℕ → Row F) → Attribute → Bool
memory_in rows a = row_needs_memory (rows (masked a.kind)) a

-- A typed value is what its row makes of a datum that the program can hold. An opaque attribute has
-- a 16-bit type, a payload of bytes, and a type with neither row nor rejection.
abbrev pub WellAt : {F : Type 0} → (DefaultNla → F) → Row F → F → Type 0
WellAt other (Is e) x = (u : e.codec.Carrier) × e.codec.Holds u × (e.label u ≡ x)
WellAt other (Refused cause) x = ⊥
WellAt other Unknown x = (d : DefaultNla) × (d.kind < 65536) × IsBytes d.value × (other d ≡ x)

unfoldable pub WellFormed : {F : Type 0} → (DefaultNla → F) → (F → Attribute) → (ℕ → Row F) → F →
    Type 0
WellFormed other attribute rows x = WellAt other (rows (masked (attribute x).kind)) x

-- What each row of a family owes: its number is a masked type, its codec is lawful, its label keeps
-- the type that is written and the datum.
pub record IsRow {F : Type 0} (attribute : F → Attribute) (number : ℕ) (e : Entry F) : Type 0 where
  pub low : number < 16384
  pub codec : IsCodec e.codec
  pub keeps : (x : e.codec.Carrier) →
      attribute (e.label x)
      ≡ record { kind = written_kind e.nested number; value = e.codec.canon x }
  pub same : (x y : e.codec.Carrier) → e.codec.Holds x → e.codec.Holds y → e.label x ≡ e.label y →
      x ≡ y
