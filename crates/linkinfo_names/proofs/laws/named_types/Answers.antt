use Rattle.std.proofs.Common.{refl}
use Rattle.nla_frame.specs.declared.error.Family.TheVariants as family
use Rattle.linkinfo_names.proofs.laws.named_types.Goals as goal

-- by computing, for each family
pub returns : goal.returns
returns c family.LinkInfo = refl
returns c _ = refl
