use Rattle.std.proofs.Common.{subst, sym}
use Rattle.linkinfo.specs.Strings.{reading}
use Rattle.linkinfo_data.specs.BytesLayer.{bytes_layer}
use Rattle.linkinfo_c.specs.Causes.{IsReturnedCode}
use Rattle.linkinfo_c.specs.declared.error.LinkinfoError.{LinkinfoError}
use Rattle.linkinfo_c.proofs.CausingBytes.{bytes_errors}
use Rattle.linkinfo_c.proofs.CausingData.{verdict_code}
use Rattle.linkinfo_c.proofs.check.linkinfo_count_opaque.Goals as goal

pub returns-clause-cause : goal.returns-clause-cause
returns-clause-cause c =
    let s = c.args.bytes.now in
    subst (λ (z : LinkinfoError). IsReturnedCode z.cause) (sym c.counted.ensures.error)
    (verdict_code (reading bytes_layer s) (bytes_errors s))
