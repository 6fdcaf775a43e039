use Rattle.std.specs.Prelude.{refl}
use Rattle.std.proofs.lemmas.Bool.Decides.{Decides-eqb}
use Rattle.nla_frame.specs.Derived.{fields_decide, two_fields}
use Rattle.nla_frame.specs.Same.{same_walk_decides}
use Rattle.linkinfo_table.specs.Equal.{option_decides}
use Rattle.linkinfo.specs.contracts.role.CurrentKindsExactEq.TheImpl.Laws.{exact-law as kinds_exact}
use Rattle.linkinfo.proofs.laws.equal_walks.Goals as goal

pub returns : goal.returns
returns c = λ x y.
    fields_decide (λ w. (w.attributes, (w.kinds, w.error)))
    (λ z. record { attributes = z.0; kinds = z.1.0; error = z.1.1 }) (λ w. refl)
    (two_fields same_walk_decides (two_fields kinds_exact (option_decides Decides-eqb))) x y
