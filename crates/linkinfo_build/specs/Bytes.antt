-- Which bytes are the canonical payload of a shape that has no datum.
use Rattle.std.specs.Prelude.{
  ◌≡◌,
  ℕ,
  ◌+◌,
  ◌%◌,
  ◌==◌,
  ◌&&◌,
  Bool,
  true,
  false,
  List,
  [],
  ◌∷◌,
  length,
  Result,
  Ok,
  Err,
}
use Rattle.nla_frame.specs.Attribute.{Attribute, list_string}
use Rattle.nla_frame.specs.NlaItems.{nla_items}
use Rattle.linkinfo_shapes.specs.declared.shape.Shape.{Shape}
use Rattle.linkinfo_shapes.specs.declared.shape.Shape.TheVariants.{
  Peer,
  BridgeId,
  LePair16,
  Le32x8,
  CanBitTimingConst,
  Le16s,
  Le32s,
  V4List,
  V6List,
}

-- attributes of the types n, n + 1 .. without flag bits, each with an address of so many bytes
abbrev pub are_addresses : ℕ → ℕ → List (Result Attribute ℕ) → Bool
are_addresses width n [] = true
are_addresses width n ((Err seen) ∷ more) = false
are_addresses width n ((Ok a) ∷ more) =
    ((a.kind == n) && (length a.value == width)) && are_addresses width (n + 1) more

-- a list of addresses, in attributes of the types 0, 1, 2 ..
unfoldable pub is_address_list : ℕ → List ℕ → Bool
is_address_list width bytes = are_addresses width 0 (nla_items bytes)

-- attributes of the types n, n + 1 .. without flag bits, each with so many bytes
abbrev pub AreNumbered : ℕ → ℕ → List Attribute → Type 0
AreNumbered width n [] = Unit {0}
AreNumbered width n (a ∷ more) =
    (a.kind ≡ n) × (length a.value ≡ width) × AreNumbered width (n + 1) more

-- the encoding of such attributes of the types 0, 1, 2 ..
pub record IsAddressString (width : ℕ) (bytes : List ℕ) : Type 0 where
  pub attributes : List Attribute
  pub numbered : AreNumbered width 0 attributes
  pub encoded : list_string attributes ≡ bytes

-- whether the bytes are a canonical payload of the shape: records by their length, arrays of
-- numbers by a multiple, and any bytes for a peer
unfoldable pub is_canonical_payload : Shape → List ℕ → Bool
is_canonical_payload Peer bytes = true
is_canonical_payload BridgeId bytes = length bytes == 8
is_canonical_payload LePair16 bytes = length bytes == 4
is_canonical_payload Le32x8 bytes = length bytes == 32
is_canonical_payload CanBitTimingConst bytes = length bytes == 48
is_canonical_payload Le16s bytes = (length bytes % 2) == 0
is_canonical_payload Le32s bytes = (length bytes % 4) == 0
is_canonical_payload V4List bytes = is_address_list 4 bytes
is_canonical_payload V6List bytes = is_address_list 16 bytes
is_canonical_payload _ bytes = false
