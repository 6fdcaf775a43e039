-- Errors, verdicts and counts, as C has them.
use Rattle.std.specs.Prelude.{ℕ, Bool, false, Result, Ok, Err}
use Rattle.nla_frame.specs.Error.{cause_number}
use Rattle.nla_frame.specs.declared.error.DecodeError.{DecodeError}
use Rattle.linkinfo.specs.declared.placed.ErrorIn.TheVariants.{First, Second}
use Rattle.linkinfo.specs.declared.placed.ErrorIn.{ErrorIn}
use Rattle.linkinfo_c.specs.declared.error.LinkinfoError.{LinkinfoError}
use Rattle.linkinfo_c.specs.declared.check.LinkinfoSame.{LinkinfoSame}
use Rattle.linkinfo_c.specs.Codes.{family_code}

-- the record of no error
abbrev pub no_error : LinkinfoError
no_error = record { family = 0; kind = 0; cause = 0 }

abbrev pub error_record : DecodeError → LinkinfoError
error_record error = record {
  family = family_code error.family;
  kind = error.kind;
  cause = cause_number error.cause;
}

-- the record of the error of a result, or of none
abbrev pub error_or_none : {X : Type 0} → Result X DecodeError → LinkinfoError
error_or_none (Ok x) = no_error
error_or_none (Err error) = error_record error

abbrev pub same_rejected : ℕ → DecodeError → LinkinfoSame
same_rejected list e = record { error = error_record e; rejected = list; same = false }

-- the record of a comparison: the error of one of the lists, or whether they are equivalent
abbrev pub same_record : Result Bool ErrorIn → LinkinfoSame
same_record (Ok alike) = record { error = no_error; rejected = 0; same = alike }
same_record (Err (First e)) = same_rejected 1 e
same_record (Err (Second e)) = same_rejected 2 e
