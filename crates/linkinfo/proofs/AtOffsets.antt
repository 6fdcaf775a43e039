-- What is at an offset of a list of link info.
use Rattle.std.specs.Prelude.{
  ◌≡◌,
  ◌+◌,
  ◌<◌,
  ℕ,
  List,
  [],
  ◌∷◌,
  length,
  Option,
  Some,
  Result,
  Ok,
  Err,
  refl,
}
use Rattle.std.specs.Result.{result_unwrap_or}
use Rattle.std.proofs.Common.{ap, ◌∙◌}
use Rattle.nla_frame.specs.Attribute.{Attribute, masked}
use Rattle.nla_frame.specs.NlaItems.{nla_items}
use Rattle.nla_frame.specs.declared.error.DecodeError.{DecodeError}
use Rattle.nla_frame.specs.declared.error.Family.TheVariants as family
use Rattle.linkinfo_shapes.specs.declared.shape.Shape.{Shape}
use Rattle.linkinfo_names.specs.Standing.{HasAt}
use Rattle.linkinfo_names.proofs.Under.{state_at}
use Rattle.linkinfo_names.proofs.Under as under
use Rattle.linkinfo_table.specs.Readings.{state_after}
use Rattle.linkinfo.specs.Roles.{kinds_after_role, no_kinds, role_at}
use Rattle.linkinfo.specs.Standing.{
  inside_at,
  link_shape,
  link_stands_at,
  own_at,
  stands_from,
  stands_in_role,
}
use Rattle.linkinfo.specs.Strings.{kinds_after_all, next_kinds, or_stay}
use Rattle.linkinfo.specs.declared.role.CurrentKinds.{CurrentKinds}
use Rattle.linkinfo.specs.declared.role.Role.{Role}
use Rattle.linkinfo.specs.declared.standing.AttributeAt.{AttributeAt}

-- ---- as the program has them

-- an attribute of the list
abbrev pub placed : Option Shape → Attribute → Option AttributeAt
placed shape a = Some (record { family = family.LinkInfo; shape = shape; nla = a })

-- before the first attribute
pub from_start : (t : CurrentKinds) (s : List ℕ) (n : ℕ) → t ≡ no_kinds →
    stands_from t s n ≡ link_stands_at s n
unfolding link_stands_at
from_start t s n e = ap (λ (u : CurrentKinds). stands_from u s n) e

-- the current kinds after an attribute

stays : (r : Result CurrentKinds DecodeError) (t : CurrentKinds) →
    result_unwrap_or r t ≡ or_stay t r
stays (Ok u) t = refl
stays (Err e) t = refl

pub next_is : (t : CurrentKinds) (a : Attribute) (r : Role)
    (after : Result CurrentKinds DecodeError) (next : CurrentKinds) → r ≡ role_at t a →
    after ≡ kinds_after_role r t a → next ≡ result_unwrap_or after t → next ≡ next_kinds t a
unfolding next_kinds
next_is t a r after next role_is after_is is =
    is
    ∙ stays after t
    ∙ ap (λ (z : Result CurrentKinds DecodeError). or_stay t z)
    (after_is ∙ ap (λ (q : Role). kinds_after_role q t a) role_is)

-- ---- laws

same_state : {T : Type 0} (after : T → Attribute → T) (t : T) (front : List Attribute) →
    state_at after t front ≡ state_after after t front
same_state after t [] = refl
same_state after t (a ∷ front) = same_state after (after t a) front

pub own : (s : List ℕ) (n : ℕ) (a : Attribute) → HasAt s n a → link_stands_at s n
    ≡ Some (record { family = family.LinkInfo; shape = link_shape (masked a.kind); nla = a })
unfolding link_stands_at
own s n a has = under.own_at own_at inside_at next_kinds no_kinds (nla_items s) n a has

pub inside : (s : List ℕ) (n m : ℕ) (a : Attribute) (has : HasAt s n a) → 0 < m →
    m < 4 + length a.value → link_stands_at s (n + m)
    ≡ stands_in_role (role_at (kinds_after_all no_kinds has.front) a) a.value m
unfolding link_stands_at
inside s n m a has some small =
    under.inside_at own_at inside_at next_kinds no_kinds (nla_items s) n m a has some small
    ∙ ap (λ (t : CurrentKinds). stands_in_role (role_at t a) a.value m)
    (same_state next_kinds no_kinds has.front)
