-- The result of comparing two byte strings, and how many headers the comparison examines.
use Rattle.std.specs.Prelude.{◌≡◌, ℕ, ◌+◌, ◌*◌, ◌≤◌, Bool, true, false, Result, Ok, Err}
use Rattle.nla_frame.specs.declared.error.DecodeError.{DecodeError}
use Rattle.linkinfo.specs.declared.placed.ErrorIn.{ErrorIn}
use Rattle.linkinfo.specs.declared.placed.ErrorIn.TheVariants.{First, Second}

-- the error of the first string, or that of the second, or whether they are equivalent
abbrev pub same_answer : {X : Type 0} → Result X DecodeError → Result X DecodeError → Bool →
    Result Bool DecodeError
same_answer (Err e) second alike = Err e
same_answer (Ok x) (Err e) alike = Err e
same_answer (Ok x) (Ok y) alike = Ok alike

-- the error of the first string, or that of the second, and which of them has it; or the result of
-- comparing them
abbrev pub placed_answer : {X Y : Type 0} → Result X DecodeError → Result X DecodeError → Y →
    Result Y ErrorIn
placed_answer (Err e) second found = Err (First e)
placed_answer (Ok x) (Err e) found = Err (Second e)
placed_answer (Ok x) (Ok y) found = Ok found

abbrev pub same_at_answer : {X : Type 0} → Result X DecodeError → Result X DecodeError → Bool →
    Result Bool ErrorIn
same_at_answer first second alike = placed_answer first second alike

-- the error, whichever string has it
abbrev pub either_error : ErrorIn → DecodeError
either_error (First e) = e
either_error (Second e) = e

-- the headers counted, by the result and by what the first string means; `n` and `k` are the
-- headers of the two strings
abbrev pub same_counts : {X : Type 0} → Result Bool DecodeError → Result X DecodeError → ℕ → ℕ → ℕ →
    Type 0
same_counts (Ok true) first n k count = count ≡ 2 * (n + k)
same_counts (Ok false) first n k count = n + k ≤ count
same_counts (Err e) (Err d) n k count = count ≡ n
same_counts (Err e) (Ok x) n k count = count ≡ n + k
