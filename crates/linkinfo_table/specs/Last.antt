-- The attributes of a string at their offsets, and the last one of each type.
use Rattle.std.specs.Prelude.{
  ◌≡◌,
  ◌==◌,
  ◌+◌,
  ◌-◌,
  ◌&&◌,
  nat_le,
  nat_lt,
  max,
  ℕ,
  Bool,
  true,
  if◌then◌else◌,
  List,
  [],
  ◌∷◌,
  drop,
  get_or,
  length,
}
use Rattle.std.specs.Prelude.{Option, None, Result, Ok, Err}
use Rattle.std.specs.List.{filter, last_or}
use Rattle.std.specs.Option.{option_map}
use Rattle.nla_frame.specs.Attribute.{Attribute, aligned, masked}
use Rattle.nla_frame.specs.NlaItems.{attribute_at, nla_items}
use Rattle.linkinfo_table.specs.declared.last.PlacedNla.{PlacedNla}

-- the attributes of a string of which the rest begins at an offset
abbrev pub placed_from : ℕ → List (Result Attribute ℕ) → List PlacedNla
placed_from n [] = []
placed_from n ((Ok a) ∷ more) =
    record { offset = n; nla = a } ∷ placed_from (n + aligned (4 + length a.value)) more
placed_from n ((Err seen) ∷ more) = []

-- the attributes of a string, each with the offset of its header
unfoldable pub attributes_of : List ℕ → List PlacedNla
attributes_of s = placed_from 0 (nla_items s)

-- an attribute has this type, flags aside
abbrev pub has_type : ℕ → PlacedNla → Bool
has_type kind placed = masked placed.nla.kind == kind

-- the last attribute of a type
abbrev pub last_of_type : ℕ → List PlacedNla → Option PlacedNla
last_of_type kind list = last_or None (filter (has_type kind) list)

-- where it is
abbrev pub offset_of : Option PlacedNla → Option ℕ
offset_of placed = option_map (λ p. p.offset) placed

-- the attribute is at its offset in the string
abbrev pub StandsIn : List ℕ → PlacedNla → Type 0
StandsIn s placed = attribute_at (drop placed.offset s) ≡ Ok placed.nla

-- ---- an index

-- the types that have an entry in an index with this first type: 64 of them
abbrev pub covers : ℕ → ℕ → Bool
covers first kind = nat_le first kind && nat_lt kind (first + 64)

-- the string that is indexed, and the first type
pub record Indexed : Type 0 where
  pub source : List ℕ
  pub first : ℕ

-- the last attribute of a type that has an entry
abbrev pub indexed_last : Indexed → ℕ → Option PlacedNla
indexed_last index kind =
    if covers index.first kind then last_of_type kind (attributes_of index.source) else None

-- an entry for each of these types: the offset of its last attribute
abbrev pub IsIndexOf : List ℕ → ℕ → List (Option ℕ) → Type 0
IsIndexOf s first entries =
    (kind : ℕ) → covers first kind ≡ true →
    get_or entries (kind - first) None ≡ offset_of (last_of_type kind (attributes_of s))

-- the least number above all types
abbrev pub types_end : List PlacedNla → ℕ
types_end [] = 0
types_end (p ∷ more) = max (masked p.nla.kind + 1) (types_end more)
