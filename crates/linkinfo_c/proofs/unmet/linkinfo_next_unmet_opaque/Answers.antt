use Rattle.linkinfo_c.proofs.CausingBytes.{bytes_errors}
use Rattle.linkinfo_c.proofs.CausingData.{unmet_code}
use Rattle.linkinfo_c.proofs.unmet.linkinfo_next_unmet_opaque.Goals as goal

pub returns-clause-cause : goal.returns-clause-cause
returns-clause-cause c =
    unmet_code _ _ _ _ _ c.next_unmet.ensures.answer c.unmet_record.ensures
    (bytes_errors c.args.have.now) (bytes_errors c.args.want.now)
