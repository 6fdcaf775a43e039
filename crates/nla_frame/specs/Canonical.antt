-- What is written for a result: the canonical bytes, attribute or list of the decoded value, and
-- empty ones for an error.
use Rattle.std.specs.Prelude.{ℕ, List, [], map, Result, Ok, Err}
use Rattle.nla_frame.specs.Attribute.{Attribute}

-- the bytes of a decoded value
abbrev pub bytes_for : {X E : Type 0} → (X → List ℕ) → Result X E → List ℕ
bytes_for canonical (Ok x) = canonical x
bytes_for canonical (Err e) = []

-- the attribute of a decoded value
abbrev pub attribute_for : {X E : Type 0} → (X → Attribute) → Result X E → Attribute
attribute_for attribute (Ok x) = attribute x
attribute_for attribute (Err e) = record { kind = 0; value = [] }

-- the attributes of a decoded list
abbrev pub attributes_for : {X E : Type 0} → (X → Attribute) → Result (List X) E → List Attribute
attributes_for attribute (Ok xs) = map attribute xs
attributes_for attribute (Err e) = []
