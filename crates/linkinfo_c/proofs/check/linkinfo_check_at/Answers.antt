use Rattle.std.proofs.Common.{subst, sym}
use Rattle.linkinfo_c.specs.Causes.{IsReturnedCode}
use Rattle.linkinfo_c.specs.declared.error.LinkinfoError.{LinkinfoError}
use Rattle.linkinfo_c.proofs.CausingData.{error_code}
use Rattle.linkinfo_c.proofs.CausingTyped.{typed_errors}
use Rattle.linkinfo_c.proofs.check.linkinfo_check_at.Goals as goal

pub returns-in-Err-clause-cause : goal.returns-in-Err-clause-cause
returns-in-Err-clause-cause c =
    subst (λ (z : LinkinfoError). IsReturnedCode z.cause) (sym c.error_record.ensures)
    (error_code c.in-Err.at.error
    (typed_errors c.args.bytes.now c.in-Err.at.error c.in-Err.ensures.answer))
