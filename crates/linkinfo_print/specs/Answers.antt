-- What is written for an input.
use Rattle.std.specs.Prelude.{ℕ, Bool, if◌then◌else◌, List, [], ◌∷◌, ◌++◌, Option}
use Rattle.std.specs.Io.KnownBytes.{Appends}
use Rattle.linkinfo_print.specs.Plain.{IsPlain}
use Rattle.linkinfo_print.specs.Text.{list_text, message_text, pair_text}
use Rattle.linkinfo_print.specs.declared.report.Printed.{Printed}
use Rattle.linkinfo_print.specs.declared.report.Printed.TheVariants as printed
use Rattle.serde_json.specs.Data.{Data}
use Rattle.serde_json.specs.Written.{compact_text}

-- the text of a value
abbrev pub text_of : Printed → Data → List ℕ
text_of printed.List d = list_text d
text_of printed.Pair d = pair_text d
text_of printed.Message d = message_text d

-- what is printed of a value: its JSON on a line, or its text
abbrev pub answer_text : Bool → Printed → Data → List ℕ
answer_text json what d = if json then compact_text d ++ 10 ∷ [] else text_of what d

-- only plain bytes were written
pub record AppendsPlain (old new : Option (List ℕ)) : Type 0 where
  pub bytes : List ℕ
  pub appended : Appends old new bytes
  pub plain : IsPlain bytes
