use Rattle.linkinfo_names.proofs.Offsets.{nested, only, own}
use Rattle.linkinfo_names.proofs.laws.standing.Goals as goal

pub returns-clause-own : goal.returns-clause-own
returns-clause-own c = own

pub returns-clause-nested : goal.returns-clause-nested
returns-clause-nested c = nested

pub returns-clause-only : goal.returns-clause-only
returns-clause-only c = only
