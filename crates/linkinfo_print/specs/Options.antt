-- What the words of a command line ask for.
use Rattle.std.specs.Prelude.{
  ℕ,
  ◌+◌,
  true,
  false,
  if◌then◌else◌,
  bytes_eq,
  List,
  [],
  ◌∷◌,
  Some,
  None,
  unwrap_or,
  is_some,
  Result,
  Ok,
  Err,
  codes,
}
use Rattle.linkinfo_print.specs.declared.options.Input.{Input}
use Rattle.linkinfo_print.specs.declared.options.Input.TheVariants as input
use Rattle.linkinfo_print.specs.declared.options.Options.{Options}
use Rattle.linkinfo_print.specs.declared.options.Request.{Request}
use Rattle.linkinfo_print.specs.declared.options.Request.TheVariants as request
use Rattle.linkinfo_print.specs.declared.options.Seen.{Seen}
use Rattle.linkinfo_print.specs.declared.options.Step.{Step}
use Rattle.linkinfo_print.specs.declared.options.Step.TheVariants as step

-- before the first word
abbrev pub nothing_seen : Seen
nothing_seen = record { input = None; json = false }

-- at most one word says what the input is
abbrev pub with_input : Seen → Input → Step
with_input seen i =
    if is_some seen.input then step.Refused
    else step.Continues (record { input = Some i; json = seen.json })

-- what a word adds to those before it
abbrev pub step_of : Seen → List ℕ → Step
step_of seen word =
    if bytes_eq word (codes "--json")
    then step.Continues (record { input = seen.input; json = true })
    else if bytes_eq word (codes "--messages") then with_input seen input.Messages
    else if bytes_eq word (codes "--pcap") then with_input seen input.Capture
    else if bytes_eq word (codes "--diff") then with_input seen input.Differences
    else if bytes_eq word (codes "--unmet") then with_input seen input.Unmet
    else if bytes_eq word (codes "--help") then step.Ends request.Help
    else if bytes_eq word (codes "--version") then step.Ends request.Version
    else step.Refused

-- lists in hex, unless a word says otherwise
abbrev pub options_of : Seen → Options
options_of seen = record { input = unwrap_or seen.input input.Lists; json = seen.json }

abbrev pub after_step : ℕ → Step → (Seen → Result Request ℕ) → Result Request ℕ
after_step index (step.Continues seen) more = more seen
after_step index (step.Ends r) more = Ok r
after_step index step.Refused more = Err index

-- The request of the words from an index on. The error is the index of a word that is no option, or
-- that says a second time what the input is.
abbrev pub request_from : ℕ → Seen → List (List ℕ) → Result Request ℕ
request_from index seen [] = Ok (request.Run (options_of seen))
request_from index seen (word ∷ more) =
    after_step index (step_of seen word) (λ next. request_from (index + 1) next more)

abbrev pub request_of : List (List ℕ) → Result Request ℕ
request_of words = request_from 0 nothing_seen words
