-- Payloads of types of their own: what such a payload owes, and its errors as those of the
-- attribute around it.
use Rattle.std.specs.Prelude.{
  ◌≡◌,
  ◌≢◌,
  ◌⊎◌,
  ◌==◌,
  ◌%◌,
  ℕ,
  ltb,
  Bool,
  true,
  false,
  List,
  length,
  Result,
  Ok,
  Err,
  is_ok,
}
use Rattle.nla_frame.specs.Error.{header_error}
use Rattle.nla_frame.specs.NlaItems.{nla_items}
use Rattle.nla_frame.specs.declared.error.Cause.{Cause}
use Rattle.nla_frame.specs.declared.error.Cause.TheVariants as cause
use Rattle.nla_frame.specs.declared.error.DecodeError.{DecodeError}
use Rattle.nla_frame.specs.declared.error.Family.{Family}
use Rattle.linkinfo_shapes.specs.declared.shape.Shape.{Shape}
use Rattle.linkinfo_shapes.specs.declared.shape.Shape.TheVariants.{
  BridgeId,
  CanBitTimingConst,
  Le16s,
  Le32s,
  Le32x8,
  LePair16,
  Nested,
  Peer,
  SelfList,
  V4List,
  V6List,
}
use Rattle.linkinfo_table.specs.Codecs.{Codec, IsCodec, PayloadError, Inside, Own}
use Rattle.linkinfo_table.specs.Contents.{each_accepted}
use Rattle.linkinfo_table.specs.Named.{IsNamed}
use Rattle.linkinfo_table.specs.Rows.{labelled}

-- the shapes of records and of arrays of numbers: each accepted payload is canonical
abbrev pub IsExact : Shape → Type 0
IsExact BridgeId = Unit {0}
IsExact LePair16 = Unit {0}
IsExact Le32x8 = Unit {0}
IsExact CanBitTimingConst = Unit {0}
IsExact Le16s = Unit {0}
IsExact Le32s = Unit {0}
IsExact _ = ⊥

-- the lengths of records, and of arrays of such numbers
abbrev pub exact_length : Shape → ℕ → Bool
exact_length BridgeId len = len == 8
exact_length LePair16 len = len == 4
exact_length Le32x8 len = len == 32
exact_length CanBitTimingConst len = len == 48
exact_length Le16s len = (len % 2) == 0
exact_length Le32s len = (len % 4) == 0
exact_length _ len = false

-- the shapes of lists of addresses
abbrev pub IsAddresses : Shape → Type 0
IsAddresses V4List = Unit {0}
IsAddresses V6List = Unit {0}
IsAddresses _ = ⊥

-- the number of bytes of an address in such a list
abbrev pub address_width : Shape → ℕ
address_width V4List = 4
address_width V6List = 16
address_width _ = 0

-- Whether a list of addresses is accepted: each of its attributes is an address, and nothing is
-- left over.
abbrev pub all_addresses : Shape → List ℕ → Bool
all_addresses shape p =
    each_accepted (λ a. length a.value == address_width shape) (nla_items p)

-- the shapes of such payloads: a list of attributes of another family, a peer, a record, an array
-- of numbers, or a list of addresses
abbrev pub IsPayloadShape : Shape → Type 0
IsPayloadShape (Nested family) = Unit {0}
IsPayloadShape Peer = Unit {0}
IsPayloadShape BridgeId = Unit {0}
IsPayloadShape LePair16 = Unit {0}
IsPayloadShape Le32x8 = Unit {0}
IsPayloadShape CanBitTimingConst = Unit {0}
IsPayloadShape Le16s = Unit {0}
IsPayloadShape Le32s = Unit {0}
IsPayloadShape V4List = Unit {0}
IsPayloadShape V6List = Unit {0}
IsPayloadShape _ = ⊥

-- the shapes of attributes that contain neither other attributes nor a peer
abbrev pub IsSingle : Shape → Type 0
IsSingle SelfList = ⊥
IsSingle Peer = ⊥
IsSingle (Nested family) = ⊥
IsSingle V4List = ⊥
IsSingle V6List = ⊥
IsSingle _ = Unit {0}

-- a payload by its parts
abbrev pub codec_with : {X : Type 0} → (List ℕ → Result X PayloadError) → (X → List ℕ) →
    (X → Type 0) → (List ℕ → List ℕ → Bool) → (List ℕ → ℕ) → (List ℕ → Bool) → Codec
codec_with {X = X} means canon holds alike headers needs_memory = record {
  Carrier = X;
  means = means;
  canon = canon;
  Holds = holds;
  alike = alike;
  headers = headers;
  needs_memory = needs_memory;
}

-- What such a payload owes: the laws of a codec, and which errors it has. Errors inside a list are
-- those of the families inside, and a list has no others. The only error of a peer is the cause
-- Peer. Records and arrays are accepted by their length; their only error is the cause Length, for
-- which no memory is needed. A list of addresses is accepted if each attribute in it is an address;
-- it has the cause Length, or the error of a header.
pub record IsPayload (shape : Shape) (inside : List Family) (c : Codec) : Type 0 where
  pub shaped : IsPayloadShape shape
  pub codec : IsCodec c
  pub named : (p : List ℕ) (e : DecodeError) → c.means p ≡ Err (Inside e) → IsNamed inside e
  pub nest : (family : Family) → shape ≡ Nested family → (p : List ℕ) (own : Cause) →
      c.means p ≢ Err (Own own)
  pub peer : shape ≡ Peer → (p : List ℕ) (error : PayloadError) → c.means p ≡ Err error →
      error ≡ Own cause.Peer
  pub exact : IsExact shape → (p : List ℕ) (error : PayloadError) → c.means p ≡ Err error →
      (error ≡ Own cause.Length) × (c.needs_memory p ≡ false)
  pub exact_accepted : IsExact shape → (p : List ℕ) →
      is_ok (c.means p) ≡ exact_length shape (length p)
  pub addresses_accepted : IsAddresses shape → (p : List ℕ) →
      is_ok (c.means p) ≡ all_addresses shape p
  pub addresses : IsAddresses shape → (p : List ℕ) (error : PayloadError) →
      c.means p ≡ Err error → (error ≡ Own cause.Length) ⊎ (error ≡ Inside header_error)

-- The number of a row is a masked type, and a peer is written without flag bits.
abbrev pub is_payload_row : Shape → Bool → ℕ → Bool
is_payload_row Peer true number = false
is_payload_row _ nested number = ltb number 16384

-- what a payload means in an attribute of the family and the masked type
abbrev pub placed : {X : Type 0} → Family → ℕ → Result X PayloadError → Result X DecodeError
placed family number r = labelled family number (λ x. x) r

-- a result with its value labelled
abbrev pub wrapped : {X F : Type 0} → (X → F) → Result X DecodeError → Result F DecodeError
wrapped label (Ok x) = Ok (label x)
wrapped label (Err e) = Err e
