-- A run over what a reader gives.
use Rattle.std.proofs.Common.{
  ◌≡◌,
  ◌⊎◌,
  inl,
  inr,
  ℕ,
  zero,
  suc,
  ◌&&◌,
  Bool,
  true,
  false,
  cond,
  List,
  [],
  ◌∷◌,
  ◌++◌,
  length,
  ◌≤◌,
  Option,
  Some,
  None,
  IfSome,
  refl,
  sym,
  ap,
  ◌∙◌,
  subst,
  arith,
  append-nil,
  append_assoc,
}
use Rattle.std.specs.List.{flat_map}
use Rattle.std.specs.Io.KnownBytes.{Appends, Consumes, IsAtEnd, Keeps}
use Rattle.std.proofs.KnownBytes.{Appends-nil, Appends-trans, Consumes-nil, Consumes-trans}
use Rattle.linkinfo_print.specs.Answers.{AppendsPlain}
use Rattle.linkinfo_print.specs.InputAnswers.{
  AnswersTo,
  AreAnswersRead,
  AreInputAnswers,
  Begins,
  PrintsUpTo,
  Runs,
  Stops,
  WritesBefore,
  read_len,
}
use Rattle.linkinfo_print.specs.Plain.{IsPlain, is_plain, plain, plain_byte}
use Rattle.linkinfo_print.specs.Printing.{
  Answer,
  all_accepted,
  error_of,
  errors,
  is_accepted,
  output_of,
  outputs,
}
use Rattle.linkinfo_print.specs.Units.{MayFollow, Waits, start, units_on}
use Rattle.linkinfo_print.specs.declared.options.Input.{Input}
use Rattle.linkinfo_print.specs.declared.options.Input.TheVariants as input
use Rattle.linkinfo_print.specs.declared.options.Options.{Options}
use Rattle.linkinfo_print.specs.declared.print.Printer.{Printer}
use Rattle.linkinfo_print.specs.declared.report.Report.{Report}
use Rattle.linkinfo_print.specs.declared.streams.RunError.{RunError}
use Rattle.linkinfo_print.specs.declared.streams.RunError.TheVariants as error
use Rattle.linkinfo_print.specs.declared.units.Cutter.{Cutter}
use Rattle.std.proofs.lemmas.List.Folds.{list_all-append}
use Rattle.linkinfo_print.proofs.Answering.{errors_append, outputs_append}
use Rattle.linkinfo_print.proofs.InputAnswering.{begins_more, begins_nothing}
use Rattle.linkinfo_print.proofs.CutLines.{units_on_ended}

-- The answers so far are written, and their text has been removed from the printer. What is pending
-- follows them.
pub record SoFar (options : Options) (is_end : Bool)
    (reader reader' output output' rejected rejected' : Option (List ℕ))
    (printer : Printer) (pending : List ℕ) : Type 0 where
  pub bytes : List ℕ
  pub answers : List Answer
  pub reads : Consumes reader reader' bytes
  pub writes : Appends output output' (outputs options.json answers)
  pub reports : Appends rejected rejected' (errors answers)
  pub accepts : printer.report.accepted ≡ all_accepted answers
  pub no_output : printer.report.output ≡ []
  pub no_errors : printer.report.errors ≡ []
  pub json : printer.report.json ≡ options.json
  pub options_kept : printer.options ≡ options
  pub begins : Begins options is_end (start options.input) bytes answers printer.cutter pending
  pub waits : Waits printer.cutter pending

waits_first : (what : Input) → Waits (start what) []
waits_first input.Lists = inr (λ k d lt. absurd (omega arith), omega arith)
waits_first input.Differences = inr (λ k d lt. absurd (omega arith), omega arith)
waits_first input.Unmet = inr (λ k d lt. absurd (omega arith), omega arith)
waits_first input.Messages = inr tt
waits_first input.Capture = inr (omega arith)

pub so_far_nothing : (options : Options) (reader output rejected : Option (List ℕ))
    (printer : Printer) (pending : List ℕ) → pending ≡ [] →
    printer.report.output ≡ [] → printer.report.errors ≡ [] → printer.report.accepted ≡ true →
    printer.report.json ≡ options.json → printer.options ≡ options →
    printer.cutter ≡ start options.input →
    SoFar options false reader reader output output rejected rejected printer pending
so_far_nothing options reader output rejected printer pending none o e a j k c =
    record {
      bytes = [];
      answers = [];
      reads = Consumes-nil reader;
      writes = Appends-nil output;
      reports = Appends-nil rejected;
      accepts = a;
      no_output = o;
      no_errors = e;
      json = j;
      options_kept = k;
      begins =
          subst (λ s. Begins options false (start options.input) [] [] printer.cutter s) (sym none)
          (subst (λ x. Begins options false (start options.input) [] [] x []) (sym c)
          (begins_nothing options false (start options.input) []));
      waits =
          subst (Waits printer.cutter) (sym none)
          (subst (λ cutter. Waits cutter []) (sym c) (waits_first options.input));
    }

-- bytes that a read adds to what is pending
begins_on : (o : Options) (is_end : Bool) (a b : Cutter) (s t part : List ℕ) (xs : List Answer) →
    Begins o false a s xs b t → Begins o is_end a (s ++ part) xs b (t ++ part)
begins_on o is_end a b s t part xs h = λ more later may l.
    subst (λ u. AnswersTo o (units_on a u) (xs ++ later)) (sym (append_assoc s part more))
    (h (part ++ more) later (λ e. cc e)
    (subst (λ u. AnswersTo o (units_on b u) later) (append_assoc t part more) l))

-- what is printed after one read
record AfterRead (options : Options) (is_end : Bool) (bytes : List ℕ) (answers : List Answer)
    (mid : Printer) (after : List ℕ) : Type 0 where
  pub added : List Answer
  pub output : mid.report.output ≡ outputs options.json added
  pub rejected : mid.report.errors ≡ errors added
  pub accepted : mid.report.accepted ≡ all_accepted (answers ++ added)
  pub json : mid.report.json ≡ options.json
  pub options_kept : mid.options ≡ options
  pub begins : Begins options is_end (start options.input) bytes (answers ++ added) mid.cutter after

printed : (options : Options) (is_end : Bool) (r₀ r₁ o₀ o₁ e₀ e₁ : Option (List ℕ))
    (old mid : Printer) (part before after : List ℕ) →
    (h : SoFar options false r₀ r₁ o₀ o₁ e₀ e₁ old before) →
    PrintsUpTo old (before ++ part) is_end mid after →
    AfterRead options is_end (h.bytes ++ part) h.answers mid after
printed options is_end r₀ r₁ o₀ o₁ e₀ e₁ old mid part before after h prints =
    let xs = h.answers in
    let ys = prints.answers in
    let adds = prints.adds in
    let second : Begins options is_end old.cutter (before ++ part) ys mid.cutter after =
    subst (λ o. Begins o is_end old.cutter (before ++ part) ys mid.cutter after) h.options_kept
    prints.begins in
    let first = begins_on options is_end (start options.input) old.cutter h.bytes before part xs
    h.begins in
    record {
      added = ys;
      output = adds.output ∙ (λ i. h.no_output i ++ outputs (h.json i) ys);
      rejected = adds.errors ∙ (λ i. h.no_errors i ++ errors ys);
      accepted =
          adds.accepted
          ∙ ap (λ b. b && all_accepted ys) h.accepts
          ∙ sym (list_all-append is_accepted xs ys);
      json = adds.json ∙ h.json;
      options_kept = prints.options ∙ h.options_kept;
      begins = begins_more options is_end (start options.input) old.cutter mid.cutter
          (h.bytes ++ part) (before ++ part) after xs ys first second;
    }

-- one read, and what is printed and written after it
pub so_far_more : (options : Options) (is_end : Bool)
    (r₀ r₁ r₂ o₀ o₁ o₂ e₀ e₁ e₂ : Option (List ℕ)) (old mid new : Printer)
    (written : Report) (part before after : List ℕ) →
    SoFar options false r₀ r₁ o₀ o₁ e₀ e₁ old before →
    Consumes r₁ r₂ part →
    PrintsUpTo old (before ++ part) is_end mid after →
    Waits mid.cutter after →
    written ≡ mid.report →
    Appends o₁ o₂ written.output →
    Appends e₁ e₂ written.errors →
    new ≡ record mid { report = record mid.report { output = []; errors = [] } } →
    SoFar options is_end r₀ r₂ o₀ o₂ e₀ e₂ new after
so_far_more options is_end r₀ r₁ r₂ o₀ o₁ o₂ e₀ e₁ e₂ old mid new written part before after
    h reads prints waits same writes reports cleared =
    let xs = h.answers in
    let more = printed options is_end r₀ r₁ o₀ o₁ e₀ e₁ old mid part before after h prints in
    let ys = more.added in
    subst (λ p. SoFar options is_end r₀ r₂ o₀ o₂ e₀ e₂ p after) (sym cleared)
    (record {
      bytes = h.bytes ++ part;
      answers = xs ++ ys;
      reads = Consumes-trans _ _ _ h.bytes part h.reads reads;
      writes =
          subst (Appends o₀ o₂) (sym (outputs_append options.json xs ys))
          (Appends-trans o₀ o₁ o₂ (outputs options.json xs) (outputs options.json ys) h.writes
          (subst (Appends o₁ o₂) (ap (λ r. r.output) same ∙ more.output) writes));
      reports =
          subst (Appends e₀ e₂) (sym (errors_append xs ys))
          (Appends-trans e₀ e₁ e₂ (errors xs) (errors ys) h.reports
          (subst (Appends e₁ e₂) (ap (λ r. r.errors) same ∙ more.rejected) reports));
      accepts = more.accepted;
      no_output = refl;
      no_errors = refl;
      json = more.json;
      options_kept = more.options_kept;
      begins = more.begins;
      waits = waits;
    })

-- ---- where an error ends the run

kept_consumes : (a b : Option (List ℕ)) → Keeps a b → Consumes a b []
kept_consumes None b kept = tt
kept_consumes (Some xs) None kept = absurd kept
kept_consumes (Some xs) (Some ys) kept = sym kept

so_far_before : (options : Options) (r₀ r₁ r₂ o₀ o₁ e₀ e₁ : Option (List ℕ)) (printer : Printer)
    (pending last : List ℕ) → SoFar options false r₀ r₁ o₀ o₁ e₀ e₁ printer pending →
    Consumes r₁ r₂ last → WritesBefore last options r₀ r₂ o₀ o₁ e₀ e₁
so_far_before options r₀ r₁ r₂ o₀ o₁ e₀ e₁ printer pending last h reads = record {
  bytes = h.bytes;
  answers = h.answers;
  reads = Consumes-trans r₀ r₁ r₂ h.bytes last h.reads reads;
  answered = record {
    cutter = printer.cutter;
    rest = pending;
    begins = h.begins;
    waits = h.waits;
  };
  writes = h.writes;
  reports = h.reports;
}

pub read_failed : (options : Options) (e : RunError) (r₀ r₁ r₂ o₀ o₁ e₀ e₁ : Option (List ℕ))
    (printer : Printer) (pending : List ℕ) →
    SoFar options false r₀ r₁ o₀ o₁ e₀ e₁ printer pending → Keeps r₁ r₂ → e ≡ error.Read →
    Stops options e r₀ r₂ o₀ o₁ e₀ e₁
read_failed options e r₀ r₁ r₂ o₀ o₁ e₀ e₁ printer pending h kept is =
    subst (λ e. Stops options e r₀ r₂ o₀ o₁ e₀ e₁) (sym is)
    (so_far_before options r₀ r₁ r₂ o₀ o₁ e₀ e₁ printer pending [] h (kept_consumes r₁ r₂ kept))

pub memory_failed : (options : Options) (e : RunError) (r₀ r₁ r₂ o₀ o₁ e₀ e₁ : Option (List ℕ))
    (printer : Printer) (pending last : List ℕ) →
    SoFar options false r₀ r₁ o₀ o₁ e₀ e₁ printer pending → Consumes r₁ r₂ last →
    length last ≤ read_len → e ≡ error.Memory → Stops options e r₀ r₂ o₀ o₁ e₀ e₁
memory_failed options e r₀ r₁ r₂ o₀ o₁ e₀ e₁ printer pending last h reads short is =
    subst (λ e. Stops options e r₀ r₂ o₀ o₁ e₀ e₁) (sym is) (
      last,
      short,
      so_far_before options r₀ r₁ r₂ o₀ o₁ e₀ e₁ printer pending last h reads,
    )

pub write_failed : (options : Options) (e : RunError) (r₀ r₁ o₀ o₁ e₀ e₁ : Option (List ℕ)) →
    e ≡ error.Write → Stops options e r₀ r₁ o₀ o₁ e₀ e₁
write_failed options e r₀ r₁ o₀ o₁ e₀ e₁ is =
    subst (λ e. Stops options e r₀ r₁ o₀ o₁ e₀ e₁) (sym is) tt

-- where nothing is left, the answers are those to the bytes
answers_all : (o : Options) (is_end : Bool) (a b : Cutter) (s t more : List ℕ) (xs : List Answer) →
    Begins o is_end a s xs b t → MayFollow is_end more → units_on b (t ++ more) ≡ [] →
    AnswersTo o (units_on a (s ++ more)) xs
answers_all o is_end a b s t more xs h may none =
    subst (AnswersTo o (units_on a (s ++ more))) (append-nil xs)
    (h more [] may (subst (λ units. AnswersTo o units []) (sym none) refl))

-- the answers to what was read are those to all that the reader had
answers_whole : (o : Options) (a b : Option (List ℕ)) (s : List ℕ) (xs : List Answer) →
    Consumes a b s → AreAnswersRead o b s xs → IfSome a (λ all. AreInputAnswers o all xs)
answers_whole o None b s xs reads h = tt
answers_whole o (Some all) None s xs reads h = absurd reads
answers_whole o (Some all) (Some left) s xs reads (inl end) =
    subst (λ l. AreInputAnswers o l xs)
    (sym (reads ∙ ap (λ l. s ++ l) end.0 ∙ append-nil s)) end.1
answers_whole o (Some all) (Some left) s xs reads (inr ended) =
    subst (λ l. AreInputAnswers o l xs) (sym reads) (ended left)

-- the run ends at the end of the input, or after an error that ended it
pub so_far_all : (options : Options) (is_end : Bool)
    (r₀ r₁ o₀ o₁ e₀ e₁ : Option (List ℕ)) (printer : Printer) (pending : List ℕ)
    (accepted : Bool) →
    SoFar options is_end r₀ r₁ o₀ o₁ e₀ e₁ printer pending →
    ((is_end ≡ true) × IsAtEnd r₁ × (units_on printer.cutter pending ≡ []))
    ⊎ ((is_end ≡ false) × (printer.cutter.ended ≡ true)) →
    accepted ≡ printer.report.accepted →
    Runs options r₀ r₁ o₀ o₁ e₀ e₁ accepted
so_far_all options is_end r₀ r₁ o₀ o₁ e₀ e₁ printer pending accepted h ends a =
    record {
      bytes = h.bytes;
      answers = h.answers;
      reads = h.reads;
      answered = answered ends;
      writes = h.writes;
      reports = h.reports;
      accepts = a ∙ h.accepts;
      whole = answers_whole options r₀ r₁ h.bytes h.answers h.reads (answered ends);
    }
  where
    answered : ((is_end ≡ true) × IsAtEnd r₁ × (units_on printer.cutter pending ≡ []))
        ⊎ ((is_end ≡ false) × (printer.cutter.ended ≡ true)) →
        AreAnswersRead options r₁ h.bytes h.answers
    answered (inl all) =
        inl (
          all.1,
          subst (λ s. AnswersTo options (units_on (start options.input) s) h.answers)
              (append-nil h.bytes)
              (answers_all options is_end (start options.input) printer.cutter h.bytes pending []
              h.answers h.begins (λ _. refl)
              (ap (units_on printer.cutter) (append-nil pending) ∙ all.2)),
        )
    answered (inr ended) =
        inr (λ more.
        answers_all options is_end (start options.input) printer.cutter h.bytes pending more
        h.answers h.begins (λ e. no_end (sym ended.0 ∙ e))
        (units_on_ended printer.cutter (pending ++ more) ended.1))
      where
        no_end : {A : Type 0} → false ≡ true → A
        no_end e = cc e

-- ---- only plain bytes are written

plain_is : (b : ℕ) → is_plain (plain_byte b) ≡ true
plain_is b = by_test (is_plain b) refl
  where
    by_test : (t : Bool) → is_plain b ≡ t → is_plain (cond t b 63) ≡ true
    by_test true e = e
    by_test false e = refl

plain_are : (bytes : List ℕ) → IsPlain (plain bytes)
plain_are [] k d lt = absurd (omega arith)
plain_are (b ∷ bytes) zero d lt = plain_is b
plain_are (b ∷ bytes) (suc k) d lt = plain_are bytes k d (omega arith)

plain_written : (a b : Option (List ℕ)) (bytes : List ℕ) → Appends a b (plain bytes) →
    AppendsPlain a b
plain_written a b bytes h =
    record { bytes = plain bytes; appended = h; plain = plain_are bytes }

pub plain_values : (options : Options) (r₀ r₁ o₀ o₁ e₀ e₁ : Option (List ℕ)) (accepted : Bool) →
    Runs options r₀ r₁ o₀ o₁ e₀ e₁ accepted → AppendsPlain o₀ o₁
plain_values options r₀ r₁ o₀ o₁ e₀ e₁ accepted h =
    plain_written o₀ o₁ (flat_map (output_of options.json) h.answers) h.writes

pub plain_errors : (options : Options) (r₀ r₁ o₀ o₁ e₀ e₁ : Option (List ℕ)) (accepted : Bool) →
    Runs options r₀ r₁ o₀ o₁ e₀ e₁ accepted → AppendsPlain e₀ e₁
plain_errors options r₀ r₁ o₀ o₁ e₀ e₁ accepted h =
    plain_written e₀ e₁ (flat_map error_of h.answers) h.reports
