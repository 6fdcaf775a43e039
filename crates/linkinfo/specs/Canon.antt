-- Canonical encodings, and the errors where there is none.
use Rattle.std.specs.Prelude.{
  ◌≡◌,
  ◌≢◌,
  ◌<◌,
  ℕ,
  List,
  [],
  ◌∷◌,
  ◌++◌,
  length,
  map,
  codes,
  IsOk,
  Result,
  Ok,
  Err,
}
use Rattle.std.specs.Fmt.{decimal}
use Rattle.nla_frame.specs.Attribute.{Attribute, ListFits, list_string}
use Rattle.nla_frame.specs.Error.{error_text, memory_error}
use Rattle.nla_frame.specs.declared.error.DecodeError.{DecodeError}
use Rattle.linkinfo.specs.declared.canonical.CanonError.{CanonError}
use Rattle.linkinfo.specs.declared.canonical.CanonError.TheVariants as refused
use Rattle.linkinfo.specs.declared.canonical_into.CanonIntoError.{CanonIntoError}
use Rattle.linkinfo.specs.declared.canonical_into.CanonIntoError.TheVariants as into

abbrev pub canon_error_text : CanonError → List ℕ
canon_error_text (refused.Refused error) = error_text error
canon_error_text refused.Unfit = codes "unfit"

-- the canonical encoding of what a byte string means, which is a list that fits
abbrev pub IsCanonical : {F : Type 0} → (F → Attribute) → Result (List F) DecodeError → List ℕ →
    Type 0
IsCanonical attribute (Ok list) canonical =
    ListFits (map attribute list) × (canonical ≡ list_string (map attribute list))
IsCanonical attribute (Err error) canonical = ⊥

-- a byte string means a list that does not fit
abbrev pub IsUnfit : {F : Type 0} → (F → Attribute) → Result (List F) DecodeError → Type 0
IsUnfit attribute (Ok list) = ¬ ListFits (map attribute list)
IsUnfit attribute (Err error) = ⊥

-- an error other than `(Frame, 0, Memory)` is that of the byte string, or is `Unfit` of its list
abbrev pub CanonRefuses : {F : Type 0} → (F → Attribute) → Result (List F) DecodeError →
    CanonError → Type 0
CanonRefuses attribute meaning (refused.Refused error) = error ≢ memory_error → meaning ≡ Err error
CanonRefuses attribute meaning refused.Unfit = IsUnfit attribute meaning

-- the results that do not depend on memory: the error of the byte string, `Unfit`, and the encoding
-- of the empty list
abbrev pub CanonIsCertain : {F V : Type 0} → (F → Attribute) → Result (List F) DecodeError →
    Result V CanonError → Type 0
CanonIsCertain attribute (Err error) result = result ≡ Err (refused.Refused error)
CanonIsCertain attribute (Ok []) result = IsOk result
CanonIsCertain attribute (Ok (x ∷ list)) result =
    ¬ ListFits (map attribute (x ∷ list)) → result ≡ Err refused.Unfit

-- ---- the canonical encoding in a buffer

abbrev pub canon_into_error_text : CanonIntoError → List ℕ
canon_into_error_text (into.Refused error) = error_text error
canon_into_error_text into.Unfit = codes "unfit"
canon_into_error_text (into.Short needed) = codes "short " ++ decimal needed

-- the error if there is no canonical encoding to write
abbrev pub into_error : CanonError → CanonIntoError
into_error (refused.Refused error) = into.Refused error
into_error refused.Unfit = into.Unfit

-- the length of the canonical encoding of what a byte string means, which is a list that fits
abbrev pub IsCanonicalLength : {F : Type 0} → (F → Attribute) → Result (List F) DecodeError → ℕ →
    Type 0
IsCanonicalLength attribute (Ok list) n =
    ListFits (map attribute list) × (n ≡ length (list_string (map attribute list)))
IsCanonicalLength attribute (Err error) n = ⊥

-- why there is no such length: the error of the byte string, or a list that does not fit
abbrev pub LengthRefuses : {F : Type 0} → (F → Attribute) → Result (List F) DecodeError →
    CanonError → Type 0
LengthRefuses attribute meaning (refused.Refused error) = meaning ≡ Err error
LengthRefuses attribute meaning refused.Unfit = IsUnfit attribute meaning

-- why nothing is written into a buffer of so many bytes: the error of the byte string, a list that
-- does not fit, or a canonical encoding that is longer
abbrev pub IntoRefuses : {F : Type 0} → (F → Attribute) → Result (List F) DecodeError → ℕ →
    CanonIntoError → Type 0
IntoRefuses attribute meaning room (into.Refused error) = meaning ≡ Err error
IntoRefuses attribute meaning room into.Unfit = IsUnfit attribute meaning
IntoRefuses attribute meaning room (into.Short needed) =
    IsCanonicalLength attribute meaning needed × (room < needed)
