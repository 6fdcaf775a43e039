-- What a link lacks of a request, as C has it.
use Rattle.std.specs.Prelude.{
  ℕ,
  Bool,
  true,
  false,
  is_some,
  unwrap_or,
  Option,
  Some,
  None,
  Result,
  Ok,
  Err,
}
use Rattle.nla_frame.specs.declared.error.DecodeError.{DecodeError}
use Rattle.linkinfo_table.specs.declared.unmet.Unmet.{Unmet}
use Rattle.linkinfo.specs.declared.placed.ErrorIn.TheVariants.{First, Second}
use Rattle.linkinfo.specs.declared.placed.ErrorIn.{ErrorIn}
use Rattle.linkinfo_c.specs.declared.error.LinkinfoError.{LinkinfoError}
use Rattle.linkinfo_c.specs.declared.unmet.LinkinfoUnmet.{LinkinfoUnmet}
use Rattle.linkinfo_c.specs.Codes.{family_code}
use Rattle.linkinfo_c.specs.Errors.{no_error, error_record}

-- the record of an attribute that is not met: that of the request, and the last one of its type in
-- the link's list
abbrev pub lacking : Unmet → LinkinfoUnmet
lacking u = record {
  error = no_error;
  rejected = 0;
  family = family_code u.family;
  kind = u.kind;
  want = u.want;
  have = unwrap_or u.have 0;
  met = false;
  is_present = is_some u.have;
}

-- the record of no attribute, with an error of a list or none
abbrev pub no_attribute : LinkinfoError → ℕ → Bool → LinkinfoUnmet
no_attribute error list all = record {
  error = error;
  rejected = list;
  family = 0;
  kind = 0;
  want = 0;
  have = 0;
  met = all;
  is_present = false;
}

abbrev pub rejected : ℕ → DecodeError → LinkinfoUnmet
rejected list e = no_attribute (error_record e) list false

abbrev pub unmet_record : Result (Option Unmet) ErrorIn → LinkinfoUnmet
unmet_record (Ok None) = no_attribute no_error 0 true
unmet_record (Ok (Some u)) = lacking u
unmet_record (Err (First e)) = rejected 1 e
unmet_record (Err (Second e)) = rejected 2 e
