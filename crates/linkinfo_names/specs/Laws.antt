-- What holds of the rows: which types have a name, and that no two types have the same one.
use Rattle.std.specs.Prelude.{
  ℕ,
  nat_lt,
  ◌&&◌,
  if◌then◌else◌,
  Bool,
  true,
  not,
  List,
  [],
  ◌∷◌,
  map,
}
use Rattle.std.specs.List.{list_any}
use Rattle.std.specs.Str.{bytes_eq}
use Rattle.nla_frame.specs.declared.error.Family.{Family}
use Rattle.nla_frame.specs.declared.error.Family.TheVariants as family
use Rattle.linkinfo_shapes.specs.Typed.{typed_rows_of}
use Rattle.linkinfo_names.specs.Names.{names_of}

-- the types of a family that have a name, in the order of its rows, and these names
abbrev pub named_types : Family → List ℕ
named_types f = map (λ (row : ℕ × List ℕ). row.0) (names_of f)

abbrev pub all_names : Family → List (List ℕ)
all_names f = map (λ (row : ℕ × List ℕ). row.1) (names_of f)

-- a type at its place among ascending ones
abbrev pub with_type : ℕ → List ℕ → List ℕ
with_type n [] = n ∷ []
with_type n (m ∷ ms) = if nat_lt m n then m ∷ with_type n ms else n ∷ m ∷ ms

-- types in ascending order
abbrev pub ascending : List ℕ → List ℕ
ascending [] = []
ascending (n ∷ ns) = with_type n (ascending ns)

-- the types of a family that have a shape in the table of the typed layer
abbrev pub shaped_types : Family → List ℕ
shaped_types f = ascending (map (λ row. row.0) (typed_rows_of f))

-- The types that are not opaque in the typed layer. The list has five. The shape of a tunnel's
-- flags depends on the kind, so it is not in the table.
abbrev pub known_types : Family → List ℕ
known_types family.LinkInfo = 1 ∷ 2 ∷ 3 ∷ 4 ∷ 5 ∷ []
known_types family.IpTunnel = with_type 8 (shaped_types family.IpTunnel)
known_types f = shaped_types f

-- no text is in a list twice
abbrev pub are_distinct : List (List ℕ) → Bool
are_distinct [] = true
are_distinct (x ∷ xs) = not (list_any (λ y. bytes_eq x y) xs) && are_distinct xs
