use Rattle.nla_frame.proofs.Emitting.{fits_inside, one_fits}
use Rattle.linkinfo.proofs.laws.fits_inside.Goals as goal

pub returns-clause-list : goal.returns-clause-list
returns-clause-list c = λ kind inside fits. fits_inside inside fits

pub returns-clause-first : goal.returns-clause-first
returns-clause-first c = λ kind inside fits. one_fits inside fits
