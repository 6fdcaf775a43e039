-- Comparisons of borrowed attributes and walks, and that they decide equality.
use Rattle.std.specs.Prelude.{◌≡◌, ◌==◌, Bool, ◌&&◌, refl}
use Rattle.std.specs.Bool.{Decides, beq}
use Rattle.std.specs.Cmp.Lexicographic.{pointwise, bytes_decides}
use Rattle.std.proofs.lemmas.Bool.Decides.{Decides-eqb}
use Rattle.std.specs.Cmp.{booleans_Decides}
use Rattle.nla_frame.specs.Attribute.{Attribute}
use Rattle.nla_frame.specs.Walk.{Walk}
use Rattle.nla_frame.specs.Derived.{two_fields, fields_decide}

-- equal types and equal values
abbrev pub same_attribute : Attribute → Attribute → Bool
same_attribute a b = (a.kind == b.kind) && pointwise ◌==◌ a.value b.value

pub same_attribute_decides : (a b : Attribute) → Decides (same_attribute a b) (a ≡ b)
same_attribute_decides a b =
    fields_decide (λ x. (x.kind, x.value)) (λ y. record { kind = y.0; value = y.1 }) (λ x. refl)
    (two_fields Decides-eqb bytes_decides) a b

-- equal byte strings, offsets, counts and states
abbrev pub same_walk : Walk → Walk → Bool
same_walk v w =
    pointwise ◌==◌ v.source w.source
    && ((v.place == w.place) && ((v.examined == w.examined) && beq v.failed w.failed))

pub same_walk_decides : (v w : Walk) → Decides (same_walk v w) (v ≡ w)
same_walk_decides v w =
    fields_decide (λ x. (x.source, (x.place, (x.examined, x.failed))))
    (λ y. record { source = y.0; place = y.1.0; examined = y.1.1.0; failed = y.1.1.1 }) (λ x. refl)
    (two_fields bytes_decides (two_fields Decides-eqb (two_fields Decides-eqb booleans_Decides))) v
    w
