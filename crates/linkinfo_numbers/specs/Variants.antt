-- When a derived `==` decides `≡`, for an enum with few variants that have fields: there is one
-- entry for each variant with fields.
use Rattle.std.specs.Prelude.{◌≡◌, Bool, true, false, ◌&&◌, List, [], ◌∷◌}
use Rattle.std.specs.Bool.{Decides}
use Rattle.std.specs.Cmp.{first_so, second_so}
use Rattle.nla_frame.specs.Derived.{EachDecides, derived_decides}
use denote.Enum.Compared.{by, Each}
use denote.Enum.Declared.{Record}
use denote.Struct.Field.{Field}
use denote.Struct.Values.{Values}

-- the comparison of each variant without a field passes
abbrev pub plain_pass : (variants : List (List Field)) → Each Bool variants → Bool
plain_pass [] tests = true
plain_pass ([] ∷ variants) tests = tests.0 tt tt && plain_pass variants tests.1
plain_pass ((field ∷ fields) ∷ variants) tests = plain_pass variants tests.1

-- the comparison of each variant with fields decides `≡`
abbrev pub FieldsDecide : (variants : List (List Field)) → Each Bool variants → Type 0
FieldsDecide [] tests = Unit {0}
FieldsDecide ([] ∷ variants) tests = FieldsDecide variants tests.1
FieldsDecide ((field ∷ fields) ∷ variants) tests =
    ((x y : Values (field ∷ fields)) → Decides (tests.0 x y) (x ≡ y))
    × FieldsDecide variants tests.1

each_decides : (variants : List (List Field)) (tests : Each Bool variants) →
    plain_pass variants tests ≡ true → FieldsDecide variants tests →
    EachDecides variants tests
each_decides [] tests pass h = tt
each_decides ([] ∷ variants) tests pass h = (
  λ x y. (λ t i. tt, λ p. first_so (tests.0 tt tt) (plain_pass variants tests.1) pass),
  each_decides variants tests.1 (second_so (tests.0 tt tt) (plain_pass variants tests.1) pass) h,
)
each_decides ((field ∷ fields) ∷ variants) tests pass h = (
  h.0,
  each_decides variants tests.1 pass h.1,
)

-- the enum's `==` decides `≡`
pub variants_decide : (N : Record) (tests : Each Bool N.parts) → plain_pass N.parts tests ≡ true →
    FieldsDecide N.parts tests → (x y : N.D) →
    Decides (by false false N.parts tests (N.as_values x) (N.as_values y)) (x ≡ y)
variants_decide N tests pass h = derived_decides N tests (each_decides N.parts tests pass h)
