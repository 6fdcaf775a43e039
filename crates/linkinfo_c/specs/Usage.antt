-- How the kernel uses a type of attributes, as a code.
use Rattle.std.specs.Prelude.{ℕ, Option, Some, None}
use Rattle.nla_frame.specs.declared.error.Family.{Family}
use Rattle.linkinfo_names.specs.Uses.{attribute_use}
use Rattle.linkinfo_names.specs.declared.usage.AttributeUse.{AttributeUse}
use Rattle.linkinfo_names.specs.declared.usage.AttributeUse.TheVariants as used
use Rattle.linkinfo_c.specs.Codes.{family_of_code}

-- the codes of uses; 0 is none
abbrev pub use_code : AttributeUse → ℕ
use_code used.ReadWrite = 1
use_code used.ReadOnly = 2
use_code used.Command = 3
use_code used.NeverReturned = 4

abbrev code_of_use : Option AttributeUse → ℕ
code_of_use None = 0
code_of_use (Some found) = use_code found

abbrev use_in : Option Family → ℕ → ℕ
use_in None kind = 0
use_in (Some family) kind = code_of_use (attribute_use family kind)

-- that of a type of a family; 0 without a name, and for a number that is no family
abbrev pub use_of_code : ℕ → ℕ → ℕ
use_of_code code kind = use_in (family_of_code code) kind
