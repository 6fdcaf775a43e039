-- The items of a byte string, by computing: its attributes in order and, if it is broken, one last
-- entry.
use Rattle.std.specs.Prelude.{
  ◌≡◌,
  ◌<◌,
  ◌≤◌,
  ℕ,
  zero,
  suc,
  ◌+◌,
  ◌*◌,
  Bool,
  if◌then◌else◌,
  nat_lt,
  ◌||◌,
  List,
  [],
  ◌∷◌,
  length,
  slice_range,
  drop,
  Option,
  Some,
  None,
  Result,
  Ok,
  Err,
}
use denote.Ref.{Bor}
use Rattle.nla_frame.specs.Attribute.{Attribute, IsAttribute, aligned}
use Rattle.nla_frame.specs.Framing.{length_field, kind_field}
use Rattle.nla_frame.specs.Error.{header_error}
use Rattle.nla_frame.specs.declared.error.DecodeError.{DecodeError}

-- no header is accepted at the front
abbrev pub has_no_header : List ℕ → Bool
has_no_header s =
    nat_lt (length s) 4 || (nat_lt (length_field s) 4 || nat_lt (length s) (length_field s))

-- the attribute at the front: its value goes from offset 4 to the offset that the length field
-- gives
abbrev pub first_attribute : List ℕ → Attribute
first_attribute s = record { kind = kind_field s; value = slice_range s 4 (length_field s) }

-- what follows the first attribute and its padding
abbrev pub after_first : List ℕ → List ℕ
after_first s = drop (aligned (length_field s)) s

-- the result of reading at the front of a byte string
unfoldable pub attribute_at : List ℕ → Result Attribute DecodeError
attribute_at s = if has_no_header s then Err header_error else Ok (first_attribute s)

-- the number of headers examined at the front: one if its four bytes are there, and none otherwise
abbrev pub seen : List ℕ → ℕ
seen s = if nat_lt (length s) 4 then 0 else 1

-- the attributes in front, and the rest without a header
pub record Split : Type 0 where
  pub front : List Attribute
  pub left : List ℕ

abbrev pub with_first : Attribute → Split → Split
with_first a more = record { front = a ∷ more.front; left = more.left }

-- at most as many attributes as the first number
unfoldable pub split_up_to : ℕ → List ℕ → Split
split_up_to zero s = record { front = []; left = s }
split_up_to (suc n) [] = record { front = []; left = [] }
split_up_to (suc n) (b ∷ bytes) =
    let s : List ℕ = b ∷ bytes in
    if has_no_header s then record { front = []; left = s }
    else with_first (first_attribute s) (split_up_to n (after_first s))

-- a byte string has no more attributes than bytes
unfoldable pub split : List ℕ → Split
split s = split_up_to (length s) s

-- `Ok` for each attribute, and a last `Err` with the number of headers examined in a rest without
-- an accepted one
abbrev pub nla_items_of : List Attribute → List ℕ → List (Result Attribute ℕ)
nla_items_of [] [] = []
nla_items_of [] (b ∷ r) = Err (seen (b ∷ r)) ∷ []
nla_items_of (a ∷ more) r = Ok a ∷ nla_items_of more r

unfoldable pub nla_items : List ℕ → List (Result Attribute ℕ)
nla_items s = nla_items_of (split s).front (split s).left

-- the number of headers examined in all items
abbrev pub headers_in : List (Result Attribute ℕ) → ℕ
headers_in [] = 0
headers_in ((Ok a) ∷ more) = 1 + headers_in more
headers_in ((Err n) ∷ more) = n + headers_in more

-- what an iterator yields: the attributes, and then the error
abbrev pub items_of : List (Result Attribute ℕ) → List (Result Attribute DecodeError)
items_of [] = []
items_of ((Ok a) ∷ more) = Ok a ∷ items_of more
items_of ((Err n) ∷ more) = Err header_error ∷ items_of more

-- One step over a byte string: an attribute and what follows it, ..
pub record GoesOn (s : List ℕ) (old new : ℕ) (a : Attribute) (rest : List ℕ) : Type 0 where
  pub nla_items_are : nla_items s ≡ Ok a ∷ nla_items rest
  pub counted : new ≡ old + 1
  pub attribute : IsAttribute a
  pub value_is : a.value ≡ slice_range s 4 (4 + length a.value)
  pub rest_is : rest ≡ drop (aligned (4 + length a.value)) s
  pub shorter : length rest < length s
  pub room : length rest + (4 + length a.value) ≤ length s

-- .. the header error, ..
pub record Breaks (s : List ℕ) (old new : ℕ) (e : DecodeError) : Type 0 where
  pub nla_items_are : nla_items s ≡ Err (seen s) ∷ []
  pub counted : new ≡ old + seen s
  pub error : e ≡ header_error
  pub nonempty : 0 < length s
  pub room : 4 * seen s ≤ length s

-- .. or the end.
pub record Ended (s : List ℕ) (old new : ℕ) : Type 0 where
  pub nla_items_are : nla_items s ≡ []
  pub counted : new ≡ old
  pub empty : s ≡ []

-- from a byte string and a count of headers to the result of one step and the count after it
abbrev pub Advances : List ℕ → ℕ → ℕ → Option (Result (Attribute × Bor (List ℕ)) DecodeError) →
    Type 0
Advances s old new None = Ended s old new
Advances s old new (Some (Ok x)) = GoesOn s old new x.0 x.1.now
Advances s old new (Some (Err e)) = Breaks s old new e
