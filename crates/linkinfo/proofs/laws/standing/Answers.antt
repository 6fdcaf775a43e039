use Rattle.linkinfo.proofs.AtOffsets.{inside, own}
use Rattle.linkinfo.proofs.laws.standing.Goals as goal

pub returns-clause-own : goal.returns-clause-own
returns-clause-own c = own

pub returns-clause-inside : goal.returns-clause-inside
returns-clause-inside c = inside
