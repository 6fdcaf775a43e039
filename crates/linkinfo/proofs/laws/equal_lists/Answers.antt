use Rattle.std.specs.Prelude.{refl}
use Rattle.std.specs.Cmp.Lexicographic.{pointwise_decides}
use Rattle.nla_frame.specs.Derived.{fields_decide}
use Rattle.linkinfo.proofs.laws.equal_lists.Goals as goal

pub returns : goal.returns
returns g c = λ x y.
    fields_decide (λ list. list.0) (λ items. record { 0 = items }) (λ list. refl)
    (pointwise_decides c.equality.ensures) x y
