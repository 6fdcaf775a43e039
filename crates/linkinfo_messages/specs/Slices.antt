-- Parts of a byte string.
use Rattle.std.specs.Prelude.{
  ◌≡◌,
  ◌≤◌,
  ℕ,
  ◌+◌,
  List,
  length,
  slice_range,
  Option,
  Some,
  IfSome,
}

-- these bytes are those of the byte string from an offset on
pub record IsSlice (part s : List ℕ) (at : ℕ) : Type 0 where
  pub bytes : part ≡ slice_range s at (at + length part)
  pub within : at + length part ≤ length s

-- a name is a slice of the byte string, and so are contents, each at its offset; the byte string
-- begins at offset `start`
pub record AreSlices (name : Option (List ℕ)) (name_place : Option ℕ)
    (info : Option (ℕ × List ℕ)) (s : List ℕ) (start : ℕ) : Type 0 where
  pub name_slice :
      IfSome name (λ n. (at : ℕ) × (name_place ≡ Some (start + at)) × IsSlice n s at)
  pub info_slice : IfSome info (λ c. (at : ℕ) × (c.0 ≡ start + at) × IsSlice c.1 s at)
