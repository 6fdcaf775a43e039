-- What the lookup of a type says of the meaning of an attribute of that type.
use Rattle.std.specs.Prelude.{◌≡◌, ◌⊎◌, ℕ, List, ◌∷◌, length, map, Result, Ok, Err, is_ok}
use Rattle.nla_frame.specs.Error.{header_error}
use Rattle.nla_frame.specs.Attribute.{Attribute, list_string, masked}
use Rattle.nla_frame.specs.Kept.{kept}
use Rattle.nla_frame.specs.NlaItems.{nla_items}
use Rattle.nla_frame.specs.declared.default_nla.DefaultNla.{DefaultNla}
use Rattle.nla_frame.specs.declared.error.Cause.{Cause}
use Rattle.nla_frame.specs.declared.error.Cause.TheVariants as cause
use Rattle.nla_frame.specs.declared.error.DecodeError.{DecodeError}
use Rattle.nla_frame.specs.declared.error.Family.{Family}
use Rattle.linkinfo_shapes.specs.Shapes.{Carrier, IsPlain, means}
use Rattle.linkinfo_shapes.specs.declared.shape.Shape.{Shape}
use Rattle.linkinfo_shapes.specs.declared.shape.Shape.TheVariants.{Nested, Peer, SelfList}
use Rattle.linkinfo_table.specs.FamilyRows.{typed}
use Rattle.linkinfo_table.specs.Lists.{values}
use Rattle.linkinfo_table.specs.Named.{IsNamed}
use Rattle.linkinfo_table.specs.Payloads.{
  IsAddresses,
  IsExact,
  IsPayloadShape,
  IsSingle,
  all_addresses,
  exact_length,
}
use Rattle.linkinfo_table.specs.declared.lookup.Lookup.{Lookup}
use Rattle.linkinfo_table.specs.declared.lookup.Lookup.TheVariants as lookup

-- an attribute's own error has the family and the masked type
abbrev pub own_error : Family → Attribute → Cause → DecodeError
own_error family a cause = record { family = family; kind = masked a.kind; cause = cause }

-- A value with the datum: its canonical attribute is of the masked type, with the canonical payload
-- of the datum. A cause is the attribute's own error.
abbrev pub MeansDatum : {X : Type 0} → Family → (X → Attribute) → Attribute → (shape : Shape) →
    Result (Carrier shape) Cause → Result X DecodeError → Type 0
MeansDatum {X = X} family attribute a shape (Ok u) m =
    (x : X) × (m ≡ Ok x) × (attribute x ≡ typed (masked a.kind) shape u)
MeansDatum family attribute a shape (Err cause) m = m ≡ Err (own_error family a cause)

-- A value with the list: its canonical payload is the byte string of the list. An error inside the
-- list is that of the attribute.
abbrev pub HoldsList : {X : Type 0} → (X → Attribute) → Attribute → Result (List X) DecodeError →
    Result X DecodeError → Type 0
HoldsList {X = X} attribute a (Ok xs) m =
    (x : X)
    × (m ≡ Ok x)
    × (attribute x ≡ record { kind = masked a.kind; value = list_string (map attribute xs) })
HoldsList attribute a (Err e) m = m ≡ Err e

-- What the shape of its type says of the meaning `m` of an attribute, where `meaning c` is what
-- attributes of the family mean under `c`. A shape of the table is the one by which the payload is
-- read. An address list is a list of the family's attributes, under some context. A peer is of the
-- masked type, and its only error is the cause Peer. Every other payload that the family reads
-- itself is of the masked type, but for flag bits. The errors of a list of another family are those
-- of the families inside. A record or an array of numbers is accepted by its length, and its only
-- error is the cause Length. A list of addresses is accepted if each attribute in it is an address;
-- its error is the cause Length, or that of a header.
pub record ShapeSays {C X : Type 0} (family : Family) (inside : List Family)
    (attribute : X → Attribute) (meaning : C → Attribute → Result X DecodeError) (a : Attribute)
    (shape : Shape) (m : Result X DecodeError) : Type 0 where
  pub plain : IsPlain shape → MeansDatum family attribute a shape (means shape a.value) m
  pub list : shape ≡ SelfList →
      (c : C) × HoldsList attribute a (values (meaning c) (nla_items a.value)) m
  pub peer : shape ≡ Peer → (e : DecodeError) → m ≡ Err e → e ≡ own_error family a cause.Peer
  pub peer_typed : shape ≡ Peer → (x : X) → m ≡ Ok x → (attribute x).kind ≡ masked a.kind
  pub nest : (inner : Family) → shape ≡ Nested inner → (e : DecodeError) → m ≡ Err e →
      IsNamed inside e
  pub exact : IsExact shape → (e : DecodeError) → m ≡ Err e → e ≡ own_error family a cause.Length
  pub exact_accepted : IsExact shape → is_ok m ≡ exact_length shape (length a.value)
  pub addresses_accepted : IsAddresses shape → is_ok m ≡ all_addresses shape a.value
  pub addresses : IsAddresses shape → (e : DecodeError) → m ≡ Err e →
      (e ≡ own_error family a cause.Length) ⊎ (e ≡ header_error)
  pub payload_typed : IsPayloadShape shape → (x : X) → m ≡ Ok x →
      masked (attribute x).kind ≡ masked a.kind

-- a rejection is the attribute's own error, and an attribute of an unknown type is opaque
abbrev pub LookupSays : {C X : Type 0} → Family → List Family → (DefaultNla → X) →
    (X → Attribute) → (C → Attribute → Result X DecodeError) → Attribute → Lookup →
    Result X DecodeError → Type 0
LookupSays family inside keeping attribute meaning a (lookup.Is shape) m =
    ShapeSays family inside attribute meaning a shape m
LookupSays family inside keeping attribute meaning a (lookup.Refused cause) m =
    m ≡ Err (own_error family a cause)
LookupSays family inside keeping attribute meaning a lookup.Unknown m = m ≡ Ok (keeping (kept a))

-- An attribute of such a type contains neither others nor a peer: its type has the shape of a
-- single value, is rejected, or has none.
abbrev pub HoldsNone : Lookup → Type 0
HoldsNone (lookup.Is shape) = IsSingle shape
HoldsNone _ = Unit {0}

-- an attribute of such a type contains no others
abbrev pub HoldsNoList : Lookup → Type 0
HoldsNoList (lookup.Is Peer) = Unit {0}
HoldsNoList l = HoldsNone l

-- the first attribute of a byte string contains no others, and has this error
abbrev pub BeginsRejected : {X : Type 0} → (ℕ → Lookup) → (Attribute → Result X DecodeError) →
    List (Result Attribute ℕ) → DecodeError → Type 0
BeginsRejected l m ((Ok a) ∷ more) e = HoldsNone (l (masked a.kind)) × (m a ≡ Err e)
BeginsRejected l m _ e = ⊥
