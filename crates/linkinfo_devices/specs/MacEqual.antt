-- The derived `==` of a type whose values contain others of it decides equality at a value if it
-- does at those inside.
use Rattle.std.specs.Prelude.{◌≡◌, Bool, false}
use Rattle.std.specs.Bool.{Decides}
use Rattle.std.proofs.lemmas.Bool.Decides.{Decides-at}
use Rattle.nla_frame.specs.Derived.{DecidesAt, derived_decides_at}
use denote.Enum.Compared.{by, Each}
use denote.Enum.Declared.{Choice, Record}

abbrev pub Decided : {X : Type 0} → (X → X → Bool) → X → Type 0
Decided {X = X} eq x = (y : X) → Decides (eq x y) (x ≡ y)

abbrev pub Known : {X : Type 0} → (X → X → Bool) → Type 0
Known {X = X} eq = (x : X) × Decided eq x

pub decided_at : (N : Record) (tests : Each Bool N.parts) {eq : N.D → N.D → Bool} →
    ((x y : N.D) → eq x y ≡ by false false N.parts tests (N.as_values x) (N.as_values y)) →
    (c : Choice N.parts) → DecidesAt N.parts tests c → Decided eq (N.make c)
decided_at N tests is c h y =
    Decides-at _ _ (is (N.make c) y) (derived_decides_at N tests c h y)
