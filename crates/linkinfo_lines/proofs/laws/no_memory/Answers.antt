use Rattle.std.proofs.Common.{◌≡◌, Result, Ok, Err, Bool, ap}
use Rattle.std.specs.Prelude.{◌≢◌}
use Rattle.nla_frame.specs.Answers.{verdict}
use Rattle.nla_frame.specs.Error.{memory_error}
use Rattle.nla_frame.specs.declared.error.DecodeError.{DecodeError}
use Rattle.linkinfo_data.specs.BytesLayer.{bytes_layer}
use Rattle.linkinfo.specs.Comparing.{same_answer}
use Rattle.linkinfo.specs.Strings.{alike_strings, reading}
use Rattle.linkinfo_lines.proofs.laws.no_memory.Goals as goal

abbrev bad : {A : Type 0} → DecodeError → Result A DecodeError
bad e = Err e

bad_same : {A B : Type 0} (d e : DecodeError) → bad {A = A} d ≡ bad e → bad {A = B} d ≡ bad e
bad_same d e h = let same : d ≡ e = cc in ap (λ (z : DecodeError). bad z) same

verdict_no_memory : {X : Type 0} (r : Result X DecodeError) → r ≢ Err memory_error →
    verdict r ≢ Err memory_error
verdict_no_memory (Ok x) never h = absurd cc
verdict_no_memory (Err e) never h = never (bad_same e memory_error h)

same_no_memory : {X : Type 0} (r s : Result X DecodeError) (alike : Bool) → r ≢ Err memory_error →
    s ≢ Err memory_error → same_answer r s alike ≢ Err memory_error
same_no_memory (Err e) s alike never other h = never (bad_same e memory_error h)
same_no_memory (Ok x) (Err e) alike never other h = other (bad_same e memory_error h)
same_no_memory (Ok x) (Ok y) alike never other h = absurd cc

pub returns-clause-check : goal.returns-clause-check
returns-clause-check c = λ s. verdict_no_memory (reading bytes_layer s) (c.no_memory.ensures s)

pub returns-clause-canon : goal.returns-clause-canon
returns-clause-canon c = λ s. c.no_memory.ensures s

pub returns-clause-same : goal.returns-clause-same
returns-clause-same c = λ a b.
    same_no_memory (reading bytes_layer a) (reading bytes_layer b) (alike_strings bytes_layer a b)
    (c.no_memory.ensures a) (c.no_memory.ensures b)
