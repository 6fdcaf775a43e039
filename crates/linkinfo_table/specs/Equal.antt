-- When the `==` of an enum decides equality, variant by variant.
use Rattle.std.specs.Prelude.{◌≡◌, Bool, false, Option, Some, None, refl}
use Rattle.std.specs.Option.{option_eq}
use Rattle.std.specs.Bool.{Decides}
use Rattle.std.proofs.Common.{ap}

-- one variant, given when its contents are equal
pub under : {A X : Type 0} {x y : A} {b : Bool} (label : A → X) → (label x ≡ label y → x ≡ y) →
    Decides b (x ≡ y) → Decides b (label x ≡ label y)
under label same d = (λ t. ap label (d.0 t), λ e. d.1 (same e))

-- two different variants
pub apart : {X : Type 0} {x y : X} → (x ≡ y → ⊥) → Decides false (x ≡ y)
apart never = (λ t. absurd cc, λ e. absurd (never e))

-- an option, given when its contents are equal
pub option_decides : {A : Type 0} {E : A → A → Bool} → ((x y : A) → Decides (E x y) (x ≡ y)) →
    (o p : Option A) → Decides (option_eq E o p) (o ≡ p)
option_decides d None None = (λ t. refl, λ e. refl)
option_decides d None (Some y) = apart (λ e. cc)
option_decides d (Some x) None = apart (λ e. cc)
option_decides d (Some x) (Some y) = under (λ z. Some z) (λ e. cc) (d x y)
