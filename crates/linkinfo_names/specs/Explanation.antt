-- What errors say, as sentences for people.
use Rattle.std.specs.Prelude.{
  ℕ,
  ◌==◌,
  ◌||◌,
  ◌++◌,
  if◌then◌else◌,
  List,
  [],
  Option,
  Some,
  None,
  codes,
}
use Rattle.std.specs.Fmt.{decimal}
use Rattle.nla_frame.specs.Error.{family_name}
use Rattle.nla_frame.specs.declared.error.Family.{Family}
use Rattle.nla_frame.specs.declared.error.Family.TheVariants as family
use Rattle.nla_frame.specs.declared.error.Cause.{Cause}
use Rattle.nla_frame.specs.declared.error.Cause.TheVariants as cause
use Rattle.nla_frame.specs.declared.error.DecodeError.{DecodeError}
use Rattle.linkinfo_names.specs.Names.{attribute_name}

-- the kernel's name, or type and family
abbrev pub subject_named : Option (List ℕ) → DecodeError → List ℕ
subject_named (Some name) error = name
subject_named None error =
    codes "type " ++ decimal error.kind ++ codes " of " ++ family_name error.family

-- the attribute that an error is of
abbrev pub subject : DecodeError → List ℕ
subject error = subject_named (attribute_name error.family error.kind) error

-- which attribute of the list has to be before the attribute of this type
abbrev pub misplaced : Family → ℕ → List ℕ
misplaced family.LinkInfo kind =
    if (kind == 2) || (kind == 3) then codes "before IFLA_INFO_KIND"
    else if kind == 5 then codes "without IFLA_INFO_SLAVE_KIND"
    else codes "is out of order"
misplaced _ kind = codes "is out of order"

-- what is wrong with an attribute, by cause
abbrev pub problem_of : Cause → Family → ℕ → List ℕ
problem_of cause.Length f kind = codes "has a payload of invalid length"
problem_of cause.Utf8 f kind = codes "is not UTF-8"
problem_of cause.Order f kind = misplaced f kind
problem_of cause.AddressKind f kind = codes "has an address of the other IP version"
problem_of cause.WrongType f kind = codes "is not the expected type"
problem_of cause.Kind f kind = codes "does not belong to links of this kind"
problem_of cause.Depth f kind = codes "is nested in 128 lists"
problem_of cause.Peer f kind = codes "has a peer that is rejected"
problem_of cause.Header f kind = []
problem_of cause.Word f kind = []
problem_of cause.Memory f kind = []

abbrev pub problem : DecodeError → List ℕ
problem error = problem_of error.cause error.family error.kind

abbrev pub place_text : ℕ → List ℕ
place_text offset = codes ", at offset " ++ decimal offset

-- the sentence of an error, by its cause
abbrev sentence : Cause → DecodeError → ℕ → List ℕ
sentence cause.Memory error offset = codes "out of memory"
sentence cause.Word error offset =
    codes "no value of " ++ family_name error.family ++ codes " has this name"
sentence cause.Header error offset = codes "invalid attribute header" ++ place_text offset
sentence _ error offset = subject error ++ codes " " ++ problem error ++ place_text offset

-- the error of the attribute at an offset, as a sentence for people
abbrev pub explanation : DecodeError → ℕ → List ℕ
explanation error offset = sentence error.cause error offset
