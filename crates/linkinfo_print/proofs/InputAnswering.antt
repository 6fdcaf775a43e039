-- The answers to an input, one after another.
use Rattle.std.proofs.Common.{
  ◌≡◌,
  inl,
  ℕ,
  ◌-◌,
  ◌≤◌,
  Bool,
  true,
  false,
  cond,
  List,
  [],
  ◌∷◌,
  ◌++◌,
  length,
  drop,
  Some,
  None,
  refl,
  sym,
  ap,
  ◌∙◌,
  subst,
  arith,
  append_assoc,
  length-drop,
}
use Rattle.linkinfo_print.specs.InputAnswers.{AnswersTo, Begins, PrintsUpTo, UnlessEnded}
use Rattle.linkinfo_print.specs.Printing.{Answer}
use Rattle.linkinfo_print.specs.UnitAnswers.{AreAnswers, PrintsSuch, cutter_after, ends_input}
use Rattle.linkinfo_print.specs.Units.{CutsOff, Waits, portion_of, portions_of, units_on}
use Rattle.linkinfo_print.specs.declared.options.Options.{Options}
use Rattle.linkinfo_print.specs.declared.print.Printer.{Printer}
use Rattle.linkinfo_print.specs.declared.units.Cut.{Cut}
use Rattle.linkinfo_print.specs.declared.units.Cutter.{Cutter}
use Rattle.linkinfo_print.specs.declared.units.Unit.{Unit as BorrowedUnit}
use Rattle.linkinfo_print.proofs.Answering.{adds_more, adds_nothing}
use Rattle.linkinfo_print.proofs.CutLines.{units_on_ended}

-- ---- the answers to the front of an input

pub begins_nothing : (o : Options) (is_end : Bool) (c : Cutter) (s : List ℕ) →
    Begins o is_end c s [] c s
begins_nothing o is_end c s = λ more later may h. h

pub begins_more : (o : Options) (is_end : Bool) (a b c : Cutter) (s t u : List ℕ)
    (xs ys : List Answer) → Begins o is_end a s xs b t → Begins o is_end b t ys c u →
    Begins o is_end a s (xs ++ ys) c u
begins_more o is_end a b c s t u xs ys h g = λ more later may l.
    subst (AnswersTo o (units_on a (s ++ more))) (sym (append_assoc xs ys later))
    (h more (ys ++ later) may (g more later may l))

-- nothing is cut off but bytes that are skipped
pub begins_skipped : (o : Options) (is_end : Bool) (old new : Cutter) (s : List ℕ) (cut : Cut) →
    CutsOff old s is_end cut new → cut.unit ≡ None →
    Begins o is_end old s [] new (drop cut.taken s)
begins_skipped o is_end old new s cut h none = λ more later may l.
    subst (λ units. AnswersTo o units later)
    (sym (h.first more may
    ∙ ap (λ u. portions_of u ++ units_on new (drop cut.taken s ++ more)) none)) l

-- the cutter where the answers to one have ended the input, and where not
abbrev cutter_by : Bool → Cutter → Cutter
cutter_by ends c = cond ends (record c { ended = true }) c

first_answers : (o : Options) (unit : BorrowedUnit) (first later : List Answer) (mid : Cutter)
    (rest : List ℕ) (ends : Bool) → ends_input o.input first ≡ ends →
    AreAnswers o.input (portion_of unit) first →
    AnswersTo o (units_on (cutter_by ends mid) rest) later →
    AnswersTo o (portion_of unit ∷ units_on mid rest) (first ++ later)
first_answers o unit first later mid rest true e h l =
    let none : later ≡ [] =
    subst (λ units. AnswersTo o units later)
    (units_on_ended (record mid { ended = true }) rest refl) l in (
      first,
      later,
      refl,
      h,
      subst (λ b. UnlessEnded b later (AnswersTo o (units_on mid rest) later)) (sym e) none,
    )
first_answers o unit first later mid rest false e h l = (
  first,
  later,
  refl,
  h,
  subst (λ b. UnlessEnded b later (AnswersTo o (units_on mid rest) later)) (sym e) l,
)

-- a line, message or packet is cut off, and its answers are printed
pub begins_unit : (o : Options) (is_end : Bool) (old mid new : Cutter) (s : List ℕ) (cut : Cut)
    (unit : BorrowedUnit) (first : List Answer) → CutsOff old s is_end cut mid →
    cut.unit ≡ Some unit → AreAnswers o.input (portion_of unit) first →
    new ≡ cutter_after o.input first mid →
    Begins o is_end old s first new (drop cut.taken s)
begins_unit o is_end old mid new s cut unit first h some is e = λ more later may l.
    let rest = drop cut.taken s ++ more in
    subst (λ units. AnswersTo o units (first ++ later))
    (sym (h.first more may ∙ ap (λ u. portions_of u ++ units_on mid rest) some))
    (first_answers o unit first later mid rest (ends_input o.input first) refl is
    (subst (λ c. AnswersTo o (units_on c rest) later) e l))

-- ---- what has been printed

pub up_to_nothing : (a : Printer) (s : List ℕ) (is_end : Bool) → PrintsUpTo a s is_end a s
up_to_nothing a s is_end =
    record {
      answers = [];
      adds = adds_nothing a.report;
      begins = begins_nothing a.options is_end a.cutter s;
      options = refl;
    }

pub up_to_more : (a b c : Printer) (s t u : List ℕ) (is_end : Bool) → PrintsUpTo a s is_end b t →
    PrintsUpTo b t is_end c u → PrintsUpTo a s is_end c u
up_to_more a b c s t u is_end h g =
    record {
      answers = h.answers ++ g.answers;
      adds = adds_more a.report b.report c.report h.answers g.answers h.adds g.adds;
      begins =
          begins_more a.options is_end a.cutter b.cutter c.cutter s t u h.answers g.answers
          h.begins
          (subst (λ o. Begins o is_end b.cutter t g.answers c.cutter u) h.options g.begins);
      options = g.options ∙ h.options;
    }

-- what is skipped has no answers
pub up_to_skipped : (old : Printer) (s : List ℕ) (is_end : Bool) (cut : Cut) (next : Cutter) →
    CutsOff old.cutter s is_end cut next → cut.unit ≡ None →
    PrintsUpTo old s is_end (record old { cutter = next }) (drop cut.taken s)
up_to_skipped old s is_end cut next h none =
    record {
      answers = [];
      adds = adds_nothing old.report;
      begins = begins_skipped old.options is_end old.cutter next s cut h none;
      options = refl;
    }

-- the answers to one
pub up_to_unit : (old new : Printer) (s : List ℕ) (is_end : Bool) (cut : Cut) (next : Cutter)
    (unit : BorrowedUnit) → CutsOff old.cutter s is_end cut next → cut.unit ≡ Some unit →
    PrintsSuch (record old { cutter = next }) (AreAnswers old.options.input (portion_of unit)) new →
    PrintsUpTo old s is_end new (drop cut.taken s)
up_to_unit old new s is_end cut next unit h some printed =
    let (answers, are, prints) = printed in
    record {
      answers = answers;
      adds = prints.report;
      begins = begins_unit old.options is_end old.cutter next new.cutter s cut unit answers h some
          are prints.cutter;
      options = prints.options;
    }

-- nothing is left after the answers to the last
pub none_left : (old new : Printer) (next : Cutter) (s : List ℕ) (Are : List Answer → Type 0) →
    PrintsSuch (record old { cutter = next }) Are new → units_on next s ≡ [] →
    units_on new.cutter s ≡ []
none_left old new next s Are printed none =
    let (answers, are, prints) = printed in
    ap (λ c. units_on c s) prints.cutter ∙ by_end (ends_input old.options.input answers)
  where
    by_end : (ends : Bool) → units_on (cutter_by ends next) s ≡ []
    by_end true = units_on_ended (record next { ended = true }) s refl
    by_end false = none

-- after the answers to one, more bytes are needed still
pub still_waits : (old new : Printer) (next : Cutter) (s : List ℕ) (Are : List Answer → Type 0) →
    PrintsSuch (record old { cutter = next }) Are new → Waits next s → Waits new.cutter s
still_waits old new next s Are printed waits =
    let (answers, are, prints) = printed in
    subst (λ c. Waits c s) (sym prints.cutter)
    (by_end (ends_input old.options.input answers))
  where
    by_end : (ends : Bool) → Waits (cutter_by ends next) s
    by_end true = inl refl
    by_end false = waits

-- the bytes taken are those before the rest
taken_before_rest : (s t : List ℕ) (n : ℕ) → t ≡ drop n s → n ≤ length s → length s - length t ≡ n
taken_before_rest s t n h within = omega (arith, within, ap length h, length-drop n s)

pub up_to_rest : (a b c : Printer) (s t : List ℕ) (is_end : Bool) (n taken : ℕ) → t ≡ drop n s →
    n ≤ length s → PrintsUpTo a s is_end b t → PrintsUpTo b t is_end c (drop taken t) →
    taken ≡ 0 → PrintsUpTo a s is_end c (drop (length s - length t) s)
up_to_rest a b c s t is_end n taken h within first second none =
    let whole : drop taken t ≡ drop (length s - length t) s =
    ap (λ k. drop k t) none ∙ h ∙ ap (λ k. drop k s) (sym (taken_before_rest s t n h within)) in
    subst (λ l. PrintsUpTo a s is_end c l) whole
    (up_to_more a b c s t (drop taken t) is_end first second)
