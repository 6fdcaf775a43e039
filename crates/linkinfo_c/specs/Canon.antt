-- The outcome of writing a canonical encoding, as C has it.
use Rattle.std.specs.Prelude.{◌≡◌, ◌<◌, ◌≤◌, ℕ, List, ◌++◌, drop, length, map, Result, Ok, Err}
use Rattle.nla_frame.specs.Attribute.{Attribute, ListFits, list_string}
use Rattle.nla_frame.specs.declared.error.DecodeError.{DecodeError}
use Rattle.linkinfo_c.specs.declared.canon.LinkinfoCanon.{LinkinfoCanon}
use Rattle.linkinfo_c.specs.Codes.{canon_refused, canon_short, canon_unfit, canon_written}
use Rattle.linkinfo_c.specs.Errors.{error_record, no_error}

-- ---- the four outcomes

abbrev pub written : ℕ → LinkinfoCanon
written length = record { error = no_error; status = canon_written; length = length }

abbrev pub refused : DecodeError → LinkinfoCanon
refused error = record { error = error_record error; status = canon_refused; length = 0 }

abbrev pub unfit : LinkinfoCanon
unfit = record { error = no_error; status = canon_unfit; length = 0 }

abbrev pub short : ℕ → LinkinfoCanon
short length = record { error = no_error; status = canon_short; length = length }

-- ---- the outcome for a list

-- the canonical encoding of a list that fits is at the front of a buffer that has room for it, and
-- nothing else is changed
abbrev pub IsCanonOf : List Attribute → List ℕ → List ℕ → LinkinfoCanon → Type 0
IsCanonOf attributes old new answer =
    (ListFits attributes → length (list_string attributes) ≤ length old
    →
    (answer ≡ written (length (list_string attributes)))
    × (new ≡ list_string attributes ++ drop (length (list_string attributes)) old))
    × (ListFits attributes → length old < length (list_string attributes) →
    (answer ≡ short (length (list_string attributes))) × (new ≡ old))
    × (¬ ListFits attributes → (answer ≡ unfit) × (new ≡ old))

-- the outcome by what a byte string means, and the buffer after the call
abbrev pub IsCanon : {X : Type 0} → (X → Attribute) → Result (List X) DecodeError → List ℕ →
    List ℕ → LinkinfoCanon → Type 0
IsCanon attribute (Err error) old new answer = (answer ≡ refused error) × (new ≡ old)
IsCanon attribute (Ok list) old new answer = IsCanonOf (map attribute list) old new answer
