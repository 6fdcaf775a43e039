use Rattle.std.proofs.Common.{ap, subst, sym, ◌∙◌}
use Rattle.linkinfo.specs.Strings.{alike_strings, reading}
use Rattle.linkinfo_data.specs.BytesLayer.{bytes_layer}
use Rattle.linkinfo_c.specs.Causes.{IsReturnedCode}
use Rattle.linkinfo_c.specs.Errors.{same_record}
use Rattle.linkinfo_c.specs.declared.check.LinkinfoSame.{LinkinfoSame}
use Rattle.linkinfo_c.proofs.CausingBytes.{bytes_errors}
use Rattle.linkinfo_c.proofs.CausingData.{same_code}
use Rattle.linkinfo_c.proofs.check.linkinfo_same_opaque.Goals as goal

pub returns-clause-cause : goal.returns-clause-cause
returns-clause-cause c =
    let a = c.args.a.now in
    let b = c.args.b.now in
    subst (λ (z : LinkinfoSame). IsReturnedCode z.error.cause)
    (sym (c.same_record.ensures ∙ ap same_record c.same_at_of.ensures.answer))
    (same_code (reading bytes_layer a) (reading bytes_layer b) (alike_strings bytes_layer a b)
    (bytes_errors a) (bytes_errors b))
