-- What is printed for an input.
use Rattle.std.specs.Prelude.{
  ◌≡◌,
  ◌⊎◌,
  ◌≤◌,
  ⊤,
  ℕ,
  Bool,
  true,
  false,
  List,
  [],
  ◌∷◌,
  ◌++◌,
  length,
  Option,
  IfSome,
}
use Rattle.std.specs.Io.KnownBytes.{Appends, Consumes, IsAtEnd}
use Rattle.linkinfo_print.specs.Printing.{Adds, Answer, all_accepted, errors, outputs}
use Rattle.linkinfo_print.specs.UnitAnswers.{AreAnswers, ends_input}
use Rattle.linkinfo_print.specs.Units.{MayFollow, Portion, Waits, start, units_of, units_on}
use Rattle.linkinfo_print.specs.declared.options.Options.{Options}
use Rattle.linkinfo_print.specs.declared.print.Printer.{Printer}
use Rattle.linkinfo_print.specs.declared.streams.RunError.{RunError}
use Rattle.linkinfo_print.specs.declared.streams.RunError.TheVariants as error
use Rattle.linkinfo_print.specs.declared.units.Cutter.{Cutter}

-- after an answer that ends the input there are none
abbrev pub UnlessEnded : Bool → List Answer → Type 0 → Type 0
UnlessEnded true answers P = answers ≡ []
UnlessEnded false answers P = P

-- the answers to lines, messages or packets, in order, up to those that end the input
abbrev pub AnswersTo : Options → List Portion → List Answer → Type 0
AnswersTo options [] answers = answers ≡ []
AnswersTo options (unit ∷ units) answers =
    (first later : List Answer)
    × (answers ≡ first ++ later)
    × AreAnswers options.input unit first
    × UnlessEnded (ends_input options.input first) later (AnswersTo options units later)

-- the answers to a whole input
abbrev pub AreInputAnswers : Options → List ℕ → List Answer → Type 0
AreInputAnswers options s answers = AnswersTo options (units_of options.input s) answers

-- The answers to the front of an input: whatever follows the bytes, these are the first answers,
-- and those to what is left come next.
abbrev pub Begins : Options → Bool → Cutter → List ℕ → List Answer → Cutter → List ℕ → Type 0
Begins options is_end old bytes answers new rest =
    (more : List ℕ) (later : List Answer) → MayFollow is_end more →
    AnswersTo options (units_on new (rest ++ more)) later →
    AnswersTo options (units_on old (bytes ++ more)) (answers ++ later)

-- the bytes but for the rest have been printed
pub record PrintsUpTo (old : Printer) (bytes : List ℕ) (is_end : Bool) (new : Printer)
    (rest : List ℕ) : Type 0 where
  pub answers : List Answer
  pub adds : Adds old.report answers new.report
  pub begins : Begins old.options is_end old.cutter bytes answers new.cutter rest
  pub options : new.options ≡ old.options

-- The answers to the bytes that a reader gave: it is at its end, or an error has ended the input,
-- and whatever follows has no answers.
abbrev pub AreAnswersRead : Options → Option (List ℕ) → List ℕ → List Answer → Type 0
AreAnswersRead options reader bytes answers =
    (IsAtEnd reader × AreInputAnswers options bytes answers)
    ⊎ ((more : List ℕ) → AreInputAnswers options (bytes ++ more) answers)

-- A run over what a reader gave: the answers are written, values to one writer and errors to the
-- other, and it returns whether there is no error. If the reader tells what it has, the answers are
-- those to all of it.
pub record Runs (options : Options)
    (reader reader' output output' rejected rejected' : Option (List ℕ)) (accepted : Bool) :
    Type 0 where
  pub bytes : List ℕ
  pub answers : List Answer
  pub reads : Consumes reader reader' bytes
  pub answered : AreAnswersRead options reader' bytes answers
  pub writes : Appends output output' (outputs options.json answers)
  pub reports : Appends rejected rejected' (errors answers)
  pub accepts : accepted ≡ all_accepted answers
  pub whole : IfSome reader (λ s. AreInputAnswers options s answers)

-- ---- where an error ends a run

-- The answers to bytes at the front of an input, but for a rest that has no whole line, message,
-- record or file header.
pub record AnswersWhole (options : Options) (bytes : List ℕ) (answers : List Answer) : Type 0 where
  pub cutter : Cutter
  pub rest : List ℕ
  pub begins : Begins options false (start options.input) bytes answers cutter rest
  pub waits : Waits cutter rest

-- The answers to what the reader gave are written, but for its last bytes.
pub record WritesBefore (last : List ℕ) (options : Options)
    (reader reader' output output' rejected rejected' : Option (List ℕ)) : Type 0 where
  pub bytes : List ℕ
  pub answers : List Answer
  pub reads : Consumes reader reader' (bytes ++ last)
  pub answered : AnswersWhole options bytes answers
  pub writes : Appends output output' (outputs options.json answers)
  pub reports : Appends rejected rejected' (errors answers)

-- the maximum number of bytes of one read
abbrev pub read_len : ℕ
read_len = 65536

-- What is written where an error ends a run: if a read failed, the answers to all that was read; if
-- there was no memory, those to all but the last read. Of a failed write nothing is said.
abbrev pub Stops : Options → RunError → (reader reader' output output' rejected rejected'
    : Option (List ℕ)) → Type 0
Stops options error.Read r r' o o' e e' = WritesBefore [] options r r' o o' e e'
Stops options error.Memory r r' o o' e e' =
    (last : List ℕ) × (length last ≤ read_len) × WritesBefore last options r r' o o' e e'
Stops options error.Write r r' o o' e e' = ⊤
