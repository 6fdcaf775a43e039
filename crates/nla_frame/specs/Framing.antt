-- Which attributes a byte string frames, as relations between a byte string and a list of
-- attributes.
use Rattle.std.specs.Prelude.{
  ◌≡◌,
  ℕ,
  ◌+◌,
  ◌*◌,
  ◌<◌,
  ◌≤◌,
  ◌⊎◌,
  List,
  [],
  ◌∷◌,
  ◌++◌,
  length,
  slice_index,
}
use Rattle.nla_frame.specs.Attribute.{Attribute, IsAttribute, pad, header}

-- the byte string is the attribute's header and payload, then padding of any bytes, then a rest
pub record Begins (s : List ℕ) (a : Attribute) (padding rest : List ℕ) : Type 0 where
  pub is_attribute : IsAttribute a
  pub string : s ≡ header a ++ (a.value ++ (padding ++ rest))

-- the whole byte string is these attributes: each is padded to a multiple of four, but the padding
-- of the last may be absent or cut short
abbrev pub Frames : List ℕ → List Attribute → Type 0
Frames s [] = s ≡ []
Frames s (a ∷ []) =
    (padding : List ℕ) × (length padding ≤ pad (length a.value)) × Begins s a padding []
Frames s (a ∷ b ∷ more) =
    (padding : List ℕ)
    × (rest : List ℕ)
    × (length padding ≡ pad (length a.value))
    × Begins s a padding rest
    × Frames rest (b ∷ more)

-- the first two bytes, little-endian, and the next two
abbrev pub length_field : List ℕ → ℕ
length_field s = slice_index s 0 + slice_index s 1 * 256

abbrev pub kind_field : List ℕ → ℕ
kind_field s = slice_index s 2 + slice_index s 3 * 256

-- bytes without an accepted header: fewer than four, or a length field below four or above the
-- number of bytes
abbrev pub HasNoHeader : List ℕ → Type 0
HasNoHeader s =
    (0 < length s) × ((length s < 4) ⊎ ((length_field s < 4) ⊎ (length s < length_field s)))

-- the byte string is these attributes, each with all of its padding, and then a rest without a
-- header
abbrev pub Broken : List ℕ → List Attribute → List ℕ → Type 0
Broken s [] r = (s ≡ r) × HasNoHeader r
Broken s (a ∷ more) r =
    (padding : List ℕ)
    × (rest : List ℕ)
    × (length padding ≡ pad (length a.value))
    × Begins s a padding rest
    × Broken rest more r

-- the byte string frames the attributes of `front`, or is broken after them
abbrev pub Splits : List ℕ → List Attribute → List ℕ → Type 0
Splits s front [] = Frames s front
Splits s front (b ∷ r) = Broken s front (b ∷ r)
