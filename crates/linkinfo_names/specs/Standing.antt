-- The attribute at an offset in a list, at any depth.
use Rattle.std.specs.Prelude.{
  ◌≡◌,
  ◌<◌,
  ℕ,
  zero,
  suc,
  ◌+◌,
  ◌-◌,
  ◌==◌,
  nat_le,
  nat_lt,
  if◌then◌else◌,
  List,
  [],
  ◌∷◌,
  ◌++◌,
  length,
  map,
  Option,
  Some,
  None,
  Result,
  Ok,
  Err,
}
use Rattle.nla_frame.specs.Attribute.{Attribute, aligned, masked}
use Rattle.nla_frame.specs.NlaItems.{nla_items}
use Rattle.nla_frame.specs.declared.error.Family.{Family}
use Rattle.linkinfo_shapes.specs.Typed.{typed_shape_of}
use Rattle.linkinfo_shapes.specs.declared.shape.Shape.{Shape}
use Rattle.linkinfo_shapes.specs.declared.shape.Shape.TheVariants.{Nested, SelfList}
use Rattle.linkinfo_names.specs.declared.standing.FamilyNla.{FamilyNla}

-- the family of the attributes in a payload of this shape, in attributes of a family
abbrev pub family_in : Family → Option Shape → Option Family
family_in family (Some SelfList) = Some family
family_in family (Some (Nested inner)) = Some inner
family_in family _ = None

abbrev pub family_inside : Family → Attribute → Option Family
family_inside family a = family_in family (typed_shape_of family (masked a.kind))

-- In a list of attributes: one of them, as `own` has it, or what is inside the one that the offset
-- is in, given what is in an attribute at an offset from its header; under a state that the
-- attributes before it leave.
abbrev pub stands_under : {T R : Type 0} → (T → Attribute → R) →
    (T → Attribute → ℕ → Option R) → (T → Attribute → T) → T → List (Result Attribute ℕ) → ℕ →
    Option R
stands_under own inside after t [] n = None
stands_under own inside after t ((Err seen) ∷ more) n = None
stands_under own inside after t ((Ok a) ∷ more) n =
    let size = 4 + length a.value in
    if n == 0 then Some (own t a)
    else if nat_lt n size then inside t a n
    else if nat_le (aligned size) n
    then stands_under own inside after (after t a) more (n - aligned size)
    else None

-- .. of a family, under no state
abbrev pub stands_among : (Attribute → ℕ → Option FamilyNla) → Family →
    List (Result Attribute ℕ) → ℕ → Option FamilyNla
stands_among inside family items n =
    stands_under (λ _ a. record { family = family; nla = a }) (λ _ a m. inside a m) (λ t _. t)
    (tt {0}) items n

-- in a list of this family, or in none, at an offset that is given from the header before it
abbrev pub stands_after : (Family → List ℕ → ℕ → Option FamilyNla) → Option Family → List ℕ →
    ℕ → Option FamilyNla
stands_after list None p n = None
stands_after list (Some family) p n = if nat_lt n 4 then None else list family p (n - 4)

-- at most so many lists deep
unfoldable pub stands_up_to : ℕ → Family → List ℕ → ℕ → Option FamilyNla
stands_up_to zero family s n = stands_among (λ a m. None) family (nla_items s) n
stands_up_to (suc k) family s n =
    stands_among (λ a m. stands_after (stands_up_to k) (family_inside family a) a.value m) family
    (nla_items s) n

-- The attribute whose header is at an offset in a list of attributes of a family: one of the list's
-- own, or one of a list in it, of the same family or of another one. An offset is in no more lists
-- than it is large.
unfoldable pub stands_at : Family → List ℕ → ℕ → Option FamilyNla
stands_at family s n = stands_up_to n family s n

-- ---- of which attributes these are

-- the number of bytes of attributes, each with its padding
abbrev pub size_of : List Attribute → ℕ
size_of [] = 0
size_of (a ∷ more) = aligned (4 + length a.value) + size_of more

-- an attribute among others, at the offset of its header
pub record HasAmong (items : List (Result Attribute ℕ)) (n : ℕ) (a : Attribute) : Type 0 where
  pub front : List Attribute
  pub more : List (Result Attribute ℕ)
  pub items_are : items ≡ map (λ b. Ok b) front ++ (Ok a ∷ more)
  pub place : n ≡ size_of front

-- an attribute of a list
abbrev pub HasAt : List ℕ → ℕ → Attribute → Type 0
HasAt s n a = HasAmong (nla_items s) n a

-- an offset inside an attribute of a list that contains a list of this family: that offset there
pub record IsInside (family inner : Family) (s p : List ℕ) (n m : ℕ) : Type 0 where
  pub outer : Attribute
  pub start : ℕ
  pub has : HasAt s start outer
  pub inside : family_inside family outer ≡ Some inner
  pub payload : outer.value ≡ p
  pub within : m < length p
  pub offset : n ≡ start + 4 + m
