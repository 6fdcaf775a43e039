use Rattle.std.proofs.Common.{inl}
use Rattle.linkinfo_print.proofs.CutLines.{units_on_ended}
use Rattle.linkinfo_print.proofs.Cutting.{cuts_nothing}
use Rattle.linkinfo_print.proofs.units.Cutter.cut.Goals as goal

pub returns-then-self : goal.returns-then-self
returns-then-self c =
    cuts_nothing c.args.self.now c.args.bytes.now c.args.is_end c.nothing.result
    c.nothing.ensures.unit c.nothing.ensures.taken (inl c.if-self.true)
    (λ _. units_on_ended c.args.self.now c.args.bytes.now c.if-self.true)
