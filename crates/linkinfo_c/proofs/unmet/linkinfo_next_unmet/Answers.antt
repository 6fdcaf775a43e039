use Rattle.linkinfo_c.proofs.CausingTyped.{typed_errors}
use Rattle.linkinfo_c.proofs.CausingData.{unmet_code}
use Rattle.linkinfo_c.proofs.unmet.linkinfo_next_unmet.Goals as goal

pub returns-clause-cause : goal.returns-clause-cause
returns-clause-cause c =
    unmet_code _ _ _ _ _ c.next_unmet.ensures.answer c.unmet_record.ensures
    (typed_errors c.args.have.now) (typed_errors c.args.want.now)
