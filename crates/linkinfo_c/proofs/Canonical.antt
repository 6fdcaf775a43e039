-- The error of a list by the outcome of writing its canonical encoding.
use Rattle.std.specs.Prelude.{◌≡◌, ℕ, List, Result, Ok, Err, refl}
use Rattle.std.proofs.Common.{ap, sym}
use Rattle.nla_frame.specs.Attribute.{Attribute}
use Rattle.nla_frame.specs.declared.error.DecodeError.{DecodeError}
use Rattle.linkinfo.specs.Canon.{IsCanonical, IsCanonicalLength, IsUnfit}
use Rattle.linkinfo_c.specs.Errors.{error_or_none, error_record, no_error}

pub written_no_error : {X : Type 0} (attribute : X → Attribute) (m : Result (List X) DecodeError)
    (s : List ℕ) → IsCanonical attribute m s → no_error ≡ error_or_none m
written_no_error attribute (Ok list) s h = refl
written_no_error attribute (Err e) s h = absurd h

pub unfit_no_error : {X : Type 0} (attribute : X → Attribute) (m : Result (List X) DecodeError) →
    IsUnfit attribute m → no_error ≡ error_or_none m
unfit_no_error attribute (Ok list) h = refl
unfit_no_error attribute (Err e) h = absurd h

pub short_no_error : {X : Type 0} (attribute : X → Attribute) (m : Result (List X) DecodeError)
    (n : ℕ) → IsCanonicalLength attribute m n → no_error ≡ error_or_none m
short_no_error attribute (Ok list) n h = refl
short_no_error attribute (Err e) n h = absurd h

pub refused_error : {X : Type 0} (m : Result (List X) DecodeError) (e : DecodeError) →
    m ≡ Err e → error_record e ≡ error_or_none m
refused_error m e h = sym (ap error_or_none h)
