-- Where two lists differ, as C has it.
use Rattle.std.specs.Prelude.{
  ℕ,
  Bool,
  true,
  false,
  is_some,
  unwrap_or,
  Option,
  Some,
  None,
  Result,
  Ok,
  Err,
}
use Rattle.nla_frame.specs.declared.error.DecodeError.{DecodeError}
use Rattle.linkinfo_table.specs.declared.difference.Difference.{Difference}
use Rattle.linkinfo.specs.declared.placed.ErrorIn.TheVariants.{First, Second}
use Rattle.linkinfo.specs.declared.placed.ErrorIn.{ErrorIn}
use Rattle.linkinfo_c.specs.declared.error.LinkinfoError.{LinkinfoError}
use Rattle.linkinfo_c.specs.declared.difference.LinkinfoDifference.{LinkinfoDifference}
use Rattle.linkinfo_c.specs.Codes.{family_code}
use Rattle.linkinfo_c.specs.Errors.{no_error, error_record}

-- the record of two attributes that differ, or of one after which the other list has no more
abbrev pub differing : Difference → LinkinfoDifference
differing d = record {
  error = no_error;
  rejected = 0;
  family = family_code d.family;
  kind = d.kind;
  first = unwrap_or d.first 0;
  second = unwrap_or d.second 0;
  same = false;
  is_in_first = is_some d.first;
  is_in_second = is_some d.second;
}

-- the record of no attributes, with an error of a list or none
abbrev pub no_attributes : LinkinfoError → ℕ → Bool → LinkinfoDifference
no_attributes error list alike = record {
  error = error;
  rejected = list;
  family = 0;
  kind = 0;
  first = 0;
  second = 0;
  same = alike;
  is_in_first = false;
  is_in_second = false;
}

abbrev pub rejected : ℕ → DecodeError → LinkinfoDifference
rejected list e = no_attributes (error_record e) list false

abbrev pub difference_record : Result (Option Difference) ErrorIn → LinkinfoDifference
difference_record (Ok None) = no_attributes no_error 0 true
difference_record (Ok (Some d)) = differing d
difference_record (Err (First e)) = rejected 1 e
difference_record (Err (Second e)) = rejected 2 e
