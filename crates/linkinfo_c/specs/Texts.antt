-- The texts of codes.
use Rattle.std.specs.Prelude.{ℕ, List, [], Option, Some, None}
use Rattle.nla_frame.specs.Error.{cause_name, error_text, family_name}
use Rattle.nla_frame.specs.declared.error.Cause.{Cause}
use Rattle.nla_frame.specs.declared.error.Family.{Family}
use Rattle.linkinfo_names.specs.Explanation.{explanation}
use Rattle.linkinfo_names.specs.Names.{attribute_name}
use Rattle.linkinfo_numbers.specs.Kind.{kind_of_tag, text_of_kind}
use Rattle.linkinfo_numbers.specs.PortKind.{port_kind_of_tag, text_of_port_kind}
use Rattle.linkinfo_c.specs.declared.error.LinkinfoError.{LinkinfoError}
use Rattle.linkinfo_c.specs.Codes.{cause_of_code, family_of_code, kind_of_code, port_kind_of_code}

infixl 10 ◌>>=◌
abbrev pub ◌>>=◌ : {A B : Type 0} → Option A → (A → Option B) → Option B
(Some x) >>= f = f x
None >>= f = None

-- the text of a value, and the empty text if there is none
abbrev pub text_of_found : {A : Type 0} → (A → List ℕ) → Option A → List ℕ
text_of_found text (Some x) = text x
text_of_found text None = []

abbrev pub family_text : ℕ → List ℕ
family_text code = text_of_found family_name (family_of_code code)

abbrev pub cause_text : ℕ → List ℕ
cause_text code = text_of_found cause_name (cause_of_code code)

-- the name of a kind; that of `Other` is empty, since it has no one name
abbrev pub kind_text : ℕ → List ℕ
kind_text code = text_of_found text_of_kind (kind_of_code code >>= kind_of_tag)

abbrev pub port_kind_text : ℕ → List ℕ
port_kind_text code = text_of_found text_of_port_kind (port_kind_of_code code >>= port_kind_of_tag)

abbrev error_of : ℕ → Option Family → Option Cause → List ℕ
error_of kind (Some family) (Some cause) =
    error_text (record { family = family; kind = kind; cause = cause })
error_of kind (Some family) None = []
error_of kind None cause = []

-- the text of an error; it is empty for no error, and if a number is no code
abbrev pub record_text : LinkinfoError → List ℕ
record_text error = error_of error.kind (family_of_code error.family) (cause_of_code error.cause)

-- the kernel's name of a type of attributes
abbrev pub attribute_text : ℕ → ℕ → List ℕ
attribute_text code kind =
    text_of_found (λ name. name) (family_of_code code >>= λ f. attribute_name f kind)

abbrev message_of : ℕ → ℕ → Option Family → Option Cause → List ℕ
message_of kind offset (Some family) (Some cause) =
    explanation (record { family = family; kind = kind; cause = cause }) offset
message_of kind offset (Some family) None = []
message_of kind offset None cause = []

-- the sentence of an error at an offset; it is empty for no error, and if a number is no code
abbrev pub message_text : LinkinfoError → ℕ → List ℕ
message_text error offset =
    message_of error.kind offset (family_of_code error.family) (cause_of_code error.cause)
