-- The contents of a buffer of the caller after a call.
use Rattle.std.specs.Prelude.{ℕ, ◌-◌, List, [], ◌∷◌, ◌++◌, length, take, drop}

-- values at the front of a buffer, as many as it has room for; the rest is unchanged
abbrev pub with_front : {A : Type 0} → List A → List A → List A
with_front front buffer = take (length buffer) front ++ drop (length front) buffer

-- a text and a NUL at the front of a buffer, the text truncated if there is no room for both
abbrev pub with_text : List ℕ → List ℕ → List ℕ
with_text text buffer = with_front (take (length buffer - 1) text ++ 0 ∷ []) buffer
