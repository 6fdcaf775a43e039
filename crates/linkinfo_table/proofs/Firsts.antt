-- What the calls on the first attribute alone rest on.
use Rattle.std.specs.Prelude.{◌↔◌, IsOk, IsTrue, Result, Ok, Err}
use Rattle.std.specs.Bool.{OnTrue}
use Rattle.std.proofs.Common.{
  arith,
  ap,
  sym,
  ◌∙◌,
  ◌≡◌,
  ◌≤◌,
  ◌*◌,
  ℕ,
  Bool,
  true,
  false,
  if◌then◌else◌,
  nat_lt,
  List,
  length,
  refl,
}
use Rattle.std.proofs.lemmas.Bool.Decides.{nat_tests}
use Rattle.nla_frame.specs.NlaItems.{seen}
use Rattle.nla_frame.specs.declared.error.DecodeError.{DecodeError}

room_by : (n : ℕ) (short : Bool) → nat_lt n 4 ≡ short → 4 * (if short then 0 else 1) ≤ n
room_by n true is = omega arith
room_by n false is = grind (arith, nat_tests)

-- a header that is examined has four bytes
pub seen_room : (s : List ℕ) → 4 * seen s ≤ length s
seen_room s = room_by (length s) (nat_lt (length s) 4) refl

one_by : (short : Bool) → (if short then 0 else 1) ≤ 1
one_by true = omega arith
one_by false = omega arith

pub seen_once : (s : List ℕ) → seen s ≤ 1
seen_once s = one_by (nat_lt (length s) 4)

pub on_true : (r : Bool) {P Q : Type 0} → (P → Q) → OnTrue r P → OnTrue r Q
on_true true f p = f p
on_true false f p = p

abbrev ok_of : {X : Type 0} → X → Result X DecodeError
ok_of x = Ok x

ok_same : {X : Type 0} (x y : X) → ok_of x ≡ ok_of y → x ≡ y
ok_same x y e = cc

-- a comparison of values decides whether two accepted meanings are equal
pub meanings_same : {X : Type 0} (s t : Result X DecodeError) (same r : Bool) →
    ((x y : X) → s ≡ Ok x → t ≡ Ok y → (same ≡ true) ↔ (x ≡ y)) → IsOk s → IsOk t → r ≡ same →
    IsTrue r ↔ (s ≡ t)
meanings_same {X = X} (Ok x) (Ok y) same r law i j e =
    let is = law x y refl refl in
    (λ d. ap (λ (z : X). ok_of z) (is.0 (sym e ∙ d)), λ d. e ∙ is.1 (ok_same x y d))
meanings_same (Ok x) (Err d) same r law i j e = absurd cc
meanings_same (Err d) t same r law i j e = absurd cc
