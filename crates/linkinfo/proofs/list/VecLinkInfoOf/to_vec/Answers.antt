-- Each clause is that of `nlas_to_vec`, on the attributes in the slice.
use Rattle.std.proofs.Common.{◌∙◌}
use Rattle.linkinfo.proofs.list.VecLinkInfoOf.to_vec.Goals as goal

pub returns-clause-string : goal.returns-clause-string
returns-clause-string g c = rw c.as_slice.ensures at c.nlas_to_vec.ensures.string

pub returns-clause-fits : goal.returns-clause-fits
returns-clause-fits g c = rw c.as_slice.ensures at c.nlas_to_vec.ensures.fits

pub returns-clause-unfit : goal.returns-clause-unfit
returns-clause-unfit g c = rw c.as_slice.ensures at c.nlas_to_vec.ensures.unfit

pub returns-clause-certain : goal.returns-clause-certain
returns-clause-certain g c = λ none. c.nlas_to_vec.ensures.certain (c.as_slice.ensures ∙ none)
