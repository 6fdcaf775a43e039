-- What is printed for a line, a message or a packet.
use Rattle.std.specs.Prelude.{
  ◌≡◌,
  ℕ,
  ◌&&◌,
  Bool,
  true,
  false,
  not,
  List,
  [],
  ◌∷◌,
  ◌++◌,
  Result,
  Ok,
  Err,
}
use Rattle.std.specs.List.{flat_map, list_all}
use Rattle.serde_json.specs.Data.{Data}
use Rattle.linkinfo_print.specs.Answers.{answer_text}
use Rattle.linkinfo_print.specs.Plain.{plain}
use Rattle.linkinfo_print.specs.declared.report.Printed.{Printed}
use Rattle.linkinfo_print.specs.declared.report.Report.{Report}

-- why something is not printed: the sentence of its error, and whether it is an error of a message,
-- which ends a stream of messages, as it ends `LinkMessages`
pub record Refusal : Type 0 where
  pub sentence : List ℕ
  pub breaks : Bool

abbrev pub refusal : List ℕ → Refusal
refusal sentence = record { sentence = sentence; breaks = false }

abbrev pub breaking : List ℕ → Refusal
breaking sentence = record { sentence = sentence; breaks = true }

-- an answer: a value and what it is printed as, or why there is none
abbrev pub Answer : Type 0
Answer = Result (Printed × Data) Refusal

-- what is written to standard output and to standard error for an answer, before `plain`
abbrev pub output_of : Bool → Answer → List ℕ
output_of json (Ok value) = answer_text json value.0 value.1
output_of json (Err refused) = []

abbrev pub error_of : Answer → List ℕ
error_of (Ok value) = []
error_of (Err refused) = refused.sentence ++ 10 ∷ []

abbrev pub is_accepted : Answer → Bool
is_accepted (Ok value) = true
is_accepted (Err refused) = false

abbrev pub goes_on : Answer → Bool
goes_on (Ok value) = true
goes_on (Err refused) = not refused.breaks

-- the output, the errors, and whether there is none, for answers in order
abbrev pub outputs : Bool → List Answer → List ℕ
outputs json answers = plain (flat_map (output_of json) answers)

abbrev pub errors : List Answer → List ℕ
errors answers = plain (flat_map error_of answers)

abbrev pub all_accepted : List Answer → Bool
all_accepted answers = list_all is_accepted answers

-- no error breaks a stream of messages
abbrev pub all_go_on : List Answer → Bool
all_go_on answers = list_all goes_on answers

-- a report with answers added
pub record Adds (old : Report) (answers : List Answer) (new : Report) : Type 0 where
  pub output : new.output ≡ old.output ++ outputs old.json answers
  pub errors : new.errors ≡ old.errors ++ errors answers
  pub accepted : new.accepted ≡ old.accepted && all_accepted answers
  pub json : new.json ≡ old.json
