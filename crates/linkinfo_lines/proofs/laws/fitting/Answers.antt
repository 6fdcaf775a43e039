use Rattle.linkinfo_lines.proofs.Fits.{list_fits_decides}
use Rattle.linkinfo_lines.proofs.laws.fitting.Goals as goal

pub returns : goal.returns
returns c attributes = let decides = list_fits_decides attributes in (decides.0, decides.1)
