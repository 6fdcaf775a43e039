use Rattle.std.proofs.Common.{
  ◌≡◌,
  ◌⊎◌,
  ◌++◌,
  ◌∙◌,
  [],
  ap,
  eq-eqb,
  eqb,
  false,
  inl,
  inr,
  length,
  ◌≤◌,
  ne_eqb,
  rules,
  subst,
  sym,
  take,
  true,
}
use Rattle.std.specs.Io.KnownBytes.{Consumes, IsAtEnd, Keeps}
use Rattle.std.proofs.lemmas.Result.{err_from_is_err_and}
use Rattle.linkinfo_print.specs.InputAnswers.{PrintsUpTo}
use Rattle.linkinfo_print.specs.Units.{units_on}
use Rattle.linkinfo_print.specs.declared.streams.RunError.TheVariants as error
use Rattle.linkinfo_print.proofs.Running.{
  memory_failed,
  plain_errors,
  plain_values,
  read_failed,
  so_far_all,
  so_far_more,
  so_far_nothing,
  write_failed,
}
use Rattle.linkinfo_print.proofs.streams.run.Goals as goal
use Rattle.linkinfo_print.proofs.streams.run.Goals.{
  then-is_end-via-then-is_end,
  then-is_end-via-else-is_end+then-has_ended,
}

pub loop-init : goal.loop-init
loop-init g c =
    let made = c.new-printer.ensures in
    so_far_nothing c.args.options _ _ _ c.new-printer.result _ c.new-pending.ensures.items
    made.output made.errors made.accepted made.json made.options made.input

pub loop-preserved : goal.loop-preserved
loop-preserved g c =
    let n = c.in_ok-len.len in
    let part = take n c.read.new.buf in
    let written = c.in_ok-write_report.ensures in
    let reads : Consumes (g.R.Read.remaining c.loop.input) (g.R.Read.remaining c.read.new.self)
    part = search rules in
    so_far_more c.args.options false _ _ _ _ _ _ _ _ _ c.loop.printer c.take.new.printer
    c.clear.new.self c.report.result.now part c.loop.pending.items c.take.new.pending.items
    c.loop.invariant reads
    (subst (λ is_end. PrintsUpTo c.loop.printer (c.loop.pending.items ++ part) is_end
    c.take.new.printer c.take.new.pending.items) (ne_eqb n 0 c.if-is_end.false)
    c.in_ok-take.ensures.prints)
    c.in_ok-take.ensures.waits
    c.report.ensures written.output written.errors
    c.clear.ensures

pub returns-then-is_end-clause-answered : goal.returns-then-is_end-clause-answered
returns-then-is_end-clause-answered g c =
    let n = c.in_ok-len.len in
    let part = take n c.read.new.buf in
    let written = c.in_ok-write_report.ensures in
    let reads : Consumes (g.R.Read.remaining c.loop.input) (g.R.Read.remaining c.read.new.self)
    part = search rules in
    let so_far = so_far_more c.args.options (eqb n 0) _ _ _ _ _ _ _ _ _ c.loop.printer
    c.take.new.printer c.clear.new.self c.report.result.now part c.loop.pending.items
    c.take.new.pending.items c.loop.invariant reads
    c.in_ok-take.ensures.prints c.in_ok-take.ensures.waits
    c.report.ensures written.output written.errors
    c.clear.ensures in
    let ends : ((eqb n 0 ≡ true) × IsAtEnd (g.R.Read.remaining c.read.new.self)
    × (units_on c.clear.new.self.cutter c.take.new.pending.items ≡ []))
    ⊎ ((eqb n 0 ≡ false) × (c.clear.new.self.cutter.ended ≡ true)) =
    elim c.then-is_end.branch [
      | then-is_end-via-then-is_end w ↦
          let none = w.if-is_end.true in
          let end : IsAtEnd (g.R.Read.remaining c.read.new.self) = search (rules, none) in
          inl (
            eq-eqb n 0 none,
            end,
            ap (λ p. units_on p.cutter c.take.new.pending.items) c.clear.ensures
                ∙ c.in_ok-take.ensures.all (eq-eqb n 0 none),
          )
      | then-is_end-via-else-is_end+then-has_ended w ↦
          inr (ne_eqb n 0 w.if-is_end.false, sym w.has_ended.ensures ∙ w.if-has_ended.true)
    ] in
    so_far_all c.args.options (eqb n 0) _ _ _ _ _ _ c.clear.new.self c.take.new.pending.items
    c.accepts_all.result so_far ends
    (c.accepts_all.ensures ∙ ap (λ report. report.accepted) c.report-then-is_end.ensures)

pub returns-then-is_end-clause-plain_output : goal.returns-then-is_end-clause-plain_output
returns-then-is_end-clause-plain_output g c =
    plain_values _ _ _ _ _ _ _ _ (returns-then-is_end-clause-answered g c)

pub returns-then-is_end-clause-plain_errors : goal.returns-then-is_end-clause-plain_errors
returns-then-is_end-clause-plain_errors g c =
    plain_errors _ _ _ _ _ _ _ _ (returns-then-is_end-clause-answered g c)

pub returns-in_err-len-clause-stopped : goal.returns-in_err-len-clause-stopped
returns-in_err-len-clause-stopped g c =
    let p = err_from_is_err_and c.from_residual.result c.from_residual.ensures.1 in
    let is : p.0 ≡ error.Read = search (rules, p.2) in
    let kept : Keeps (g.R.Read.remaining c.loop.input) (g.R.Read.remaining c.read.new.self) =
    search rules in
    rw p.1 (read_failed c.args.options p.0 _ _ _ _ _ _ _ c.loop.printer c.loop.pending.items
    c.loop.invariant kept is)

pub returns-in_err-take-clause-stopped : goal.returns-in_err-take-clause-stopped
returns-in_err-take-clause-stopped g c =
    let p = err_from_is_err_and c.from_residual-in_err-take.result
    c.from_residual-in_err-take.ensures.1 in
    let is : p.0 ≡ error.Memory = search (rules, p.2) in
    let part = take c.in_ok-len.len c.read.new.buf in
    let reads : Consumes (g.R.Read.remaining c.loop.input) (g.R.Read.remaining c.read.new.self)
    part = search rules in
    let short : length part ≤ 65536 = search rules in
    rw p.1 (memory_failed c.args.options p.0 _ _ _ _ _ _ _ c.loop.printer c.loop.pending.items part
    c.loop.invariant reads short is)

pub returns-in_err-write_report-clause-stopped : goal.returns-in_err-write_report-clause-stopped
returns-in_err-write_report-clause-stopped g c =
    let p = err_from_is_err_and c.from_residual-in_err-write_report.result
    c.from_residual-in_err-write_report.ensures.1 in
    rw p.1 (write_failed c.args.options p.0 _ _ _ _ _ _ (p.2 ∙ c.in_err-write_report.ensures.err))
