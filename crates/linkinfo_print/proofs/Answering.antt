-- Answers that are printed one after another.
use Rattle.std.proofs.Common.{
  ◌≡◌,
  ◌<◌,
  ℕ,
  ◌&&◌,
  ◌-◌,
  ◌^◌,
  Bool,
  if◌then◌else◌,
  true,
  false,
  not,
  List,
  [],
  ◌∷◌,
  ◌++◌,
  length,
  replicate,
  map,
  Option,
  arith,
  subst,
  Some,
  None,
  option_map,
  sym,
  ap,
  refl,
  ◌∙◌,
  append_assoc,
  append-nil,
  Result,
  Ok,
  Err,
}
use native.Mathlib.Numerals.{unary_clauses}
use Rattle.std.specs.Fmt.{char_count, decimal, format_spec, padded_integral}
use Rattle.std.proofs.lemmas.Grind.{flat_map-append}
use Rattle.std.proofs.lemmas.List.{map-append}
use Rattle.std.proofs.lemmas.List.Folds.{list_all-append}
use Rattle.std.specs.Option.{option_copied}
use denote.Ref.{Bor}
use Rattle.linkinfo_lines.specs.Answers.{bytes_of}
use Rattle.memchr.specs.Find.{IsFirstByte, is_byte}
use Rattle.linkinfo_print.specs.Plain.{plain_byte}
use Rattle.linkinfo_print.specs.Printing.{
  Adds,
  Answer,
  all_accepted,
  Refusal,
  all_go_on,
  error_of,
  errors,
  goes_on,
  is_accepted,
  refusal,
  output_of,
  outputs,
}
use Rattle.linkinfo_messages.specs.Captures.{RecordParts}
use Rattle.linkinfo_messages.specs.Links.{Link}
use Rattle.linkinfo_messages.specs.declared.capture_error.CaptureError.{CaptureError}
use Rattle.linkinfo_messages.specs.declared.error.MessageError.{MessageError}
use Rattle.linkinfo_print.specs.MessageData.{nine_digits}
use Rattle.linkinfo_print.specs.UnitAnswers.{
  AreLinkAnswers,
  AreRecordAnswers,
  AreRecordsAnswers,
  AreLineAnswers,
  IsLineAnswer,
  IsLinkAnswer,
  IsListOrPair,
  IsPairLine,
  IsWordsAnswer,
  Prints,
  Time,
  cutter_after,
  ends_at_error,
  has_single_lists,
  question_of,
  with_number,
}
use Rattle.linkinfo_print.specs.declared.compare.Question.{Question}
use Rattle.linkinfo_print.specs.declared.options.Input.{Input}
use Rattle.linkinfo_print.specs.declared.print.Printer.{Printer}
use Rattle.linkinfo_print.specs.declared.report.Printed.{Printed}
use Rattle.linkinfo_print.specs.declared.report.Report.{Report}
use Rattle.serde_json.specs.Data.{Data}
use Rattle.linkinfo_print.specs.declared.units.Cutter.{Cutter}

and_true : (b : Bool) → b ≡ b && true
and_true true = refl
and_true false = refl

and_assoc : (a b c : Bool) → (a && b) && c ≡ a && (b && c)
and_assoc true b c = refl
and_assoc false b c = refl

pub outputs_append : (json : Bool) (xs ys : List Answer) →
    outputs json (xs ++ ys) ≡ outputs json xs ++ outputs json ys
outputs_append json xs ys =
    ap (map plain_byte) (flat_map-append (output_of json) xs ys) ∙ map-append plain_byte _ _

pub errors_append : (xs ys : List Answer) → errors (xs ++ ys) ≡ errors xs ++ errors ys
errors_append xs ys =
    ap (map plain_byte) (flat_map-append error_of xs ys) ∙ map-append plain_byte _ _

pub adds_nothing : (r : Report) → Adds r [] r
adds_nothing r = record {
  output = sym (append-nil r.output);
  errors = sym (append-nil r.errors);
  accepted = and_true r.accepted;
  json = refl;
}

pub adds_more : (r s t : Report) (xs ys : List Answer) → Adds r xs s → Adds s ys t →
    Adds r (xs ++ ys) t
adds_more r s t xs ys a b = record {
  output = b.output
      ∙ ap (λ json. s.output ++ outputs json ys) a.json
      ∙ ap (λ text. text ++ outputs r.json ys) a.output
      ∙ append_assoc r.output (outputs r.json xs) (outputs r.json ys)
      ∙ ap (λ text. r.output ++ text) (sym (outputs_append r.json xs ys));
  errors = b.errors
      ∙ ap (λ text. text ++ errors ys) a.errors
      ∙ append_assoc r.errors (errors xs) (errors ys)
      ∙ ap (λ text. r.errors ++ text) (sym (errors_append xs ys));
  accepted = b.accepted
      ∙ ap (λ all. all && all_accepted ys) a.accepted
      ∙ and_assoc r.accepted (all_accepted xs) (all_accepted ys)
      ∙ ap (λ all. r.accepted && all) (sym (list_all-append is_accepted xs ys));
  json = b.json ∙ a.json;
}

-- ---- the cutter

abbrev end_unless : Bool → Bool → Cutter → Cutter
end_unless ends all cutter = if ends && not all then record cutter { ended = true } else cutter

ends_once : (ends a b : Bool) (c : Cutter) →
    end_unless ends b (end_unless ends a c) ≡ end_unless ends (a && b) c
ends_once false a b c = refl
ends_once true true true c = refl
ends_once true true false c = refl
ends_once true false true c = refl
ends_once true false false c = refl

cutter_after_all : (what : Input) (xs ys : List Answer) (c : Cutter) →
    cutter_after what ys (cutter_after what xs c) ≡ cutter_after what (xs ++ ys) c
cutter_after_all what xs ys c =
    ends_once (ends_at_error what) (all_go_on xs) (all_go_on ys) c
    ∙ ap (λ all. end_unless (ends_at_error what) all c) (sym (list_all-append goes_on xs ys))

ends_not : (ends : Bool) (c : Cutter) → c ≡ end_unless ends true c
ends_not true c = refl
ends_not false c = refl

-- ---- the printer

pub prints_nothing : (p : Printer) → Prints p [] p
prints_nothing p = record {
  report = adds_nothing p.report;
  cutter = ends_not (ends_at_error p.options.input) p.cutter;
  options = refl;
}

breaks_is : (ends breaks : Bool) → ends && breaks ≡ ends && not (not breaks && true)
breaks_is ends true = refl
breaks_is ends false = refl

-- one error
pub refused : (p q : Printer) (r : Refusal) →
    Adds p.report (Err (refusal r.sentence) ∷ []) q.report → q.options ≡ p.options →
    q.cutter
    ≡ (if ends_at_error p.options.input && r.breaks then record p.cutter { ended = true }
    else p.cutter) →
    Prints p (Err r ∷ []) q
refused p q r report options cutter = record {
  report = record {
    output = report.output;
    errors = report.errors;
    accepted = report.accepted;
    json = report.json;
  };
  cutter = cutter
      ∙ ap (λ ends. if ends then record p.cutter { ended = true } else p.cutter)
      (breaks_is (ends_at_error p.options.input) r.breaks);
  options = options;
}

-- one value
pub printed : (p q : Printer) (value : Printed × Data) → Adds p.report (Ok value ∷ []) q.report →
    q.options ≡ p.options → q.cutter ≡ p.cutter → Prints p (Ok value ∷ []) q
printed p q value report options cutter = record {
  report = report;
  cutter = cutter ∙ ends_not (ends_at_error p.options.input) p.cutter;
  options = options;
}

pub prints_more : (p q r : Printer) (xs ys : List Answer) → Prints p xs q → Prints q ys r →
    Prints p (xs ++ ys) r
prints_more p q r xs ys a b = record {
  report = adds_more p.report q.report r.report xs ys a.report b.report;
  cutter = b.cutter
      ∙ ap (λ options. cutter_after options.input ys q.cutter) a.options
      ∙ ap (cutter_after p.options.input ys) a.cutter
      ∙ cutter_after_all p.options.input xs ys p.cutter;
  options = b.options ∙ a.options;
}

pub prints_data : (p q : Printer) (what : Printed) {d e : Data} → d ≡ e →
    Adds p.report (Ok (what, d) ∷ []) q.report → q.options ≡ p.options → q.cutter ≡ p.cutter →
    Prints p (Ok (what, e) ∷ []) q
prints_data p q what {d = d} same adds options cutter =
    subst (λ v. Prints p (Ok (what, v) ∷ []) q) same (printed p q (what, d) adds options cutter)

-- ---- answers with numbers

pub number_append : (what : Input) (n : ℕ) (xs ys : List Answer) →
    map (with_number what n) (xs ++ ys)
    ≡ map (with_number what n) xs ++ map (with_number what n) ys
number_append what n xs ys = map-append (with_number what n) xs ys

pub prints_as : (q r : Printer) {xs ys : List Answer} → xs ≡ ys → Prints q xs r → Prints q ys r
prints_as q r same prints = subst (λ answers. Prints q answers r) same prints

-- more answers with the same number
pub prints_numbered : (p q r : Printer) (n : ℕ) (xs ys : List Answer) →
    Prints p (map (with_number p.options.input n) xs) q →
    Prints q (map (with_number q.options.input n) ys) r →
    Prints p (map (with_number p.options.input n) (xs ++ ys)) r
prints_numbered p q r n xs ys a b =
    subst (λ answers. Prints p answers r) (sym (number_append p.options.input n xs ys))
    (prints_more p q r _ _ a
    (subst (λ options. Prints q (map (with_number options.input n) ys) r) a.options b))

-- one more link after those that are printed
pub links_more : (place : ℕ) (time : Time) (links : List (Result Link MessageError))
    (answers : List Answer) (link : Result Link MessageError) (answer : Answer) →
    AreLinkAnswers place time links answers → IsLinkAnswer place time link answer →
    AreLinkAnswers place time (links ++ link ∷ []) (answers ++ answer ∷ [])
links_more place time [] answers link answer none is =
    (answer, [], is, refl, ap (λ xs. xs ++ answer ∷ []) none)
links_more place time (l ∷ links) answers link answer (first, others, is-first, are, e) is = (
  first,
  others ++ answer ∷ [],
  is-first,
  links_more place time links others link answer are is,
  ap (λ xs. xs ++ answer ∷ []) e,
)

-- one more record after those that are printed
pub records_more : (place : ℕ) (records : List (Result RecordParts CaptureError))
    (answers : List Answer) (r : Result RecordParts CaptureError) (more : List Answer) →
    AreRecordsAnswers place records answers → AreRecordAnswers place r more →
    AreRecordsAnswers place (records ++ r ∷ []) (answers ++ more)
records_more place [] answers r more none are =
    (more, [], are, refl, ap (λ xs. xs ++ more) none ∙ sym (append-nil more))
records_more place (x ∷ records) answers r more (front, back, is-front, is-back, e) are = (
  front,
  back ++ more,
  is-front,
  records_more place records back r more is-back are,
  ap (λ xs. xs ++ more) e ∙ append_assoc front back more,
)

-- what an iterator has left, after one more of its items
pub one_further : {X : Type 0} (all front left later : List X) (x : X) → all ≡ front ++ left →
    left ≡ x ∷ later → all ≡ (front ++ x ∷ []) ++ later
one_further all front left later x split first =
    split ∙ ap (λ xs. front ++ xs) first ∙ sym (append_assoc front (x ∷ []) later)

-- a name in memory
pub copied_is : (name : Option (Bor (List ℕ))) → option_map (λ n. n.now) name ≡ option_copied name
copied_is None = refl
copied_is (Some name) = refl

-- ---- lines

-- the answer for two words, if these are the bytes of both
pub both_words : {first second a b : Option (List ℕ)} (q : Question) (answer : Answer) →
    a ≡ first → b ≡ second → IsWordsAnswer q a b answer → IsWordsAnswer q first second answer
both_words {second = second} {a = a} q answer is-first is-second is =
    subst (λ w. IsWordsAnswer q w second answer) is-first
    (subst (λ w. IsWordsAnswer q a w answer) is-second is)

-- .. where the second word is the rest of a line without the white space at its front
pub second_word : (first : Option (List ℕ)) {rest second : List ℕ} (q : Question)
    (answer : Answer) → second ≡ rest → IsWordsAnswer q first (bytes_of second) answer →
    IsWordsAnswer q first (bytes_of rest) answer
second_word first q answer same is =
    subst (λ w. IsWordsAnswer q first (bytes_of w) answer) same is

-- the answer for a line of two lists, whose first space is here
pub pair_line : (what : Input) (line : List ℕ) (answer : Answer) (space : Option ℕ) →
    has_single_lists what ≡ false → IsFirstByte (is_byte 32) line space →
    IsPairLine (question_of what) line space answer → IsLineAnswer what line answer
pair_line what line answer space single first is =
    subst (λ b. IsListOrPair b what line answer) (sym single) (space, first, is)

-- the answers for a line that has one
pub one_answer : (what : Input) (line : List ℕ) (answer : Answer) → 0 < length line →
    IsLineAnswer what line answer → AreLineAnswers what line (answer ∷ [])
one_answer what [] answer some is = absurd (omega (arith, some))
one_answer what (b ∷ line) answer some is = (answer, is, refl)

-- ---- nine digits of nanoseconds

pub nine_padded : (n : ℕ) →
    padded_integral (format_spec 32 0 4 9 (2 ^ 64 - 1)) false [] (decimal n) ≡ nine_digits n
unfolding padded_integral char_count
nine_padded n =
    simp unary_clauses
    (ap (λ text. replicate (9 - length (decimal n)) 48 ++ text) (append-nil (decimal n)))
