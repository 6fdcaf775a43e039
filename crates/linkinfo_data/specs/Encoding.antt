-- An encoding: its length if it fits a payload, and that a buffer has room for it.
use Rattle.std.specs.Prelude.{ℕ, ◌≤◌, List, Option, SomeIff, length}

abbrev pub IsFitLen : List ℕ → Option ℕ → Type 0
IsFitLen string result = SomeIff result (length string ≤ 65531) (length string)

-- it fits a payload, and the buffer has room for it
abbrev pub HasRoom : List ℕ → List ℕ → Type 0
HasRoom string buffer = (length string ≤ 65531) × (length string ≤ length buffer)
