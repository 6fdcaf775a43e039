-- What a call that reads returns, compared with what the bytes mean: a value, or the error that the
-- format defines.
use Rattle.std.specs.Prelude.{◌≡◌, ◌≢◌, Bool, false, Option, Some, None, Result, Ok, Err}
use Rattle.nla_frame.specs.Error.{memory_error}
use Rattle.nla_frame.specs.declared.error.DecodeError.{DecodeError}

-- The result, seen by `view`, is the meaning.
abbrev pub Answers : {X Y : Type 0} → (X → Y) → Result X DecodeError → Result Y DecodeError → Type 0
Answers view (Ok x) meaning = meaning ≡ Ok (view x)
Answers view (Err e) meaning = meaning ≡ Err e

-- The result, seen by `view`, is the meaning or the memory error.
abbrev pub Gives : {X Y : Type 0} → (X → Y) → Result X DecodeError → Result Y DecodeError → Type 0
Gives view (Ok x) meaning = meaning ≡ Ok (view x)
Gives view (Err e) meaning = e ≢ memory_error → meaning ≡ Err e

-- a fact for every result but the memory error
abbrev pub OnAnswer : {X : Type 0} → Result X DecodeError → Type 0 → Type 0
OnAnswer (Ok x) P = P
OnAnswer (Err e) P = e ≢ memory_error → P

-- the result is certain to be the meaning if no memory is needed for it
abbrev pub CertainUnless : {X Y : Type 0} → Bool → (X → Y) → Result X DecodeError →
    Result Y DecodeError → Type 0
CertainUnless needs_memory view result meaning = needs_memory ≡ false → Answers view result meaning

-- the result without its value
abbrev pub verdict : {X : Type 0} → Result X DecodeError → Result (Unit {0}) DecodeError
verdict (Ok x) = Ok tt
verdict (Err e) = Err e

-- the error, if there is one
abbrev pub error_of : {X : Type 0} → Result X DecodeError → Option DecodeError
error_of (Ok x) = None
error_of (Err e) = Some e
