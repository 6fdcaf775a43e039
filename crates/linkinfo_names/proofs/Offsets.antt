-- The attribute at an offset: how many lists deep one looks does not matter, once it is enough.
use Rattle.std.specs.Prelude.{
  ◌≡◌,
  ◌⊎◌,
  ◌≤◌,
  ◌<◌,
  ℕ,
  zero,
  suc,
  ◌+◌,
  ◌-◌,
  ◌==◌,
  nat_le,
  nat_lt,
  Bool,
  true,
  false,
  if◌then◌else◌,
  List,
  [],
  ◌∷◌,
  length,
  Option,
  Some,
  None,
  Result,
  Ok,
  Err,
  refl,
}
use Rattle.std.proofs.Common.{arith, ap, sym, subst, inl, inr, ◌∙◌}
use Rattle.std.proofs.lemmas.Bool.{cond-false, cond-true, le-ltb, lt-ltb, ltb-false, ltb-true}
use Rattle.nla_frame.specs.Attribute.{Attribute, aligned}
use Rattle.nla_frame.specs.NlaItems.{Breaks, Ended, GoesOn, nla_items}
use Rattle.nla_frame.specs.declared.error.DecodeError.{DecodeError}
use Rattle.nla_frame.specs.declared.error.Family.{Family}
use Rattle.linkinfo_names.specs.Standing.{
  HasAt,
  IsInside,
  family_inside,
  stands_after,
  stands_among,
  stands_at,
  stands_up_to,
}
use Rattle.linkinfo_names.specs.declared.standing.FamilyNla.{FamilyNla}
use Rattle.linkinfo_names.proofs.Under.{
  Own,
  Within,
  at_header,
  broken,
  ended,
  in_padding,
  inside_at,
  next,
  none_some,
  only_at,
  own_at,
  within,
}

-- what is inside an attribute, so many lists deep
abbrev deeper : ℕ → Family → Attribute → ℕ → Option FamilyNla
deeper zero family a m = None
deeper (suc k) family a m = stands_after (stands_up_to k) (family_inside family a) a.value m

up_to_is : (k : ℕ) (family : Family) (s : List ℕ) (n : ℕ) →
    stands_up_to k family s n ≡ stands_among (deeper k family) family (nla_items s) n
unfolding stands_up_to
up_to_is zero family s n = refl
up_to_is (suc k) family s n = refl

-- a list has the same attribute at an offset if the attributes in it have
among_same : (family : Family) (one other : Attribute → ℕ → Option FamilyNla)
    (ps : List (Result Attribute ℕ)) (n : ℕ) →
    ((a : Attribute) (m : ℕ) → m ≤ n → one a m ≡ other a m) →
    stands_among one family ps n ≡ stands_among other family ps n
among_same family one other [] n same = refl
among_same family one other ((Err seen) ∷ more) n same = refl
among_same family one other ((Ok a) ∷ more) n same =
    let size = 4 + length a.value in
    let here : Option FamilyNla = Some (record { family = family; nla = a }) in
    ap (λ (r : Option FamilyNla).
    if n == 0 then here
    else if nat_lt n size then r
    else if nat_le (aligned size) n then stands_among one family more (n - aligned size)
    else None) (same a n (omega arith))
    ∙ ap (λ (r : Option FamilyNla).
    if n == 0 then here
    else if nat_lt n size then other a n
    else if nat_le (aligned size) n then r
    else None)
    (among_same family one other more (n - aligned size)
    (λ b m le. same b m (omega (arith, le))))

short_none : (k : ℕ) (family : Family) (a : Attribute) (m : ℕ) → m < 4 → deeper k family a m ≡ None
short_none zero family a m short = refl
short_none (suc k) family a m short = go (family_inside family a)
  where
    go : (inside : Option Family) → stands_after (stands_up_to k) inside a.value m ≡ None
    go None = refl
    go (Some inner) = cond-true (nat_lt m 4) _ _ (lt-ltb m 4 short)

deeper_same : (k j : ℕ) (family : Family) (a : Attribute) (m : ℕ) → m ≤ k → m ≤ j →
    deeper k family a m ≡ deeper j family a m
deeper_same zero j family a m le le' = sym (short_none j family a m (omega (arith, le)))
deeper_same (suc k) zero family a m le le' = short_none (suc k) family a m (omega (arith, le'))
deeper_same (suc k) (suc j) family a m le le' =
    go (family_inside family a)
    (λ inner n below above.
    up_to_is k inner a.value n
    ∙ among_same inner (deeper k inner) (deeper j inner) (nla_items a.value) n
    (λ b i small.
    deeper_same k j inner b i (omega (arith, small, below)) (omega (arith, small, above)))
    ∙ sym (up_to_is j inner a.value n))
  where
    go : (inside : Option Family) →
        ((inner : Family) (n : ℕ) → n ≤ k → n ≤ j →
        stands_up_to k inner a.value n ≡ stands_up_to j inner a.value n) →
        stands_after (stands_up_to k) inside a.value m
        ≡ stands_after (stands_up_to j) inside a.value m
    go None same = refl
    go (Some inner) same =
        ap (λ (r : Option FamilyNla). if nat_lt m 4 then None else r)
        (same inner (m - 4) (omega (arith, le)) (omega (arith, le')))

enough : (k j : ℕ) (family : Family) (s : List ℕ) (n : ℕ) → n ≤ k → n ≤ j →
    stands_up_to k family s n ≡ stands_up_to j family s n
enough k j family s n le le' =
    up_to_is k family s n
    ∙ among_same family (deeper k family) (deeper j family) (nla_items s) n
    (λ a m small.
    deeper_same k j family a m (omega (arith, small, le)) (omega (arith, small, le')))
    ∙ sym (up_to_is j family s n)

from_start : (family : Family) (s : List ℕ) (n : ℕ) →
    stands_among (deeper n family) family (nla_items s) n ≡ stands_at family s n
unfolding stands_at
from_start family s n = sym (up_to_is n family s n)

-- ---- inside an attribute

nothing_inside : (k : ℕ) (family : Family) (a : Attribute) (m : ℕ) →
    family_inside family a ≡ None → deeper k family a m ≡ None
nothing_inside zero family a m none = refl
nothing_inside (suc k) family a m none =
    ap (λ (o : Option Family). stands_after (stands_up_to k) o a.value m) none

in_payload : (k : ℕ) (family inner : Family) (a : Attribute) (m : ℕ) → m ≤ k → 4 ≤ m →
    family_inside family a ≡ Some inner → deeper k family a m ≡ stands_at inner a.value (m - 4)
unfolding stands_at
in_payload zero family inner a m le long is = absurd (omega (arith, le, long))
in_payload (suc k) family inner a m le long is =
    ap (λ (o : Option Family). stands_after (stands_up_to k) o a.value m) is
    ∙ cond-false (nat_lt m 4) _ _ (le-ltb m 4 long)
    ∙ enough k (m - 4) inner a.value (m - 4) (omega (arith, le)) (omega arith)

-- ---- one step over a list of a family

same_deep : (k n : ℕ) (family : Family) (s : List ℕ) → n ≤ k →
    stands_among (deeper k family) family (nla_items s) n ≡ stands_at family s n
unfolding stands_at
same_deep k n family s le =
    sym (up_to_is k family s n) ∙ enough k n family s n le (omega arith)

abbrev pub alone : (Attribute → ℕ → Option FamilyNla) → Unit {0} → Attribute → ℕ →
    Option FamilyNla
alone inside t a m = inside a m

abbrev pub kept : Unit {0} → Attribute → Unit {0}
kept t a = t

abbrev own_of : Family → Unit {0} → Attribute → FamilyNla
own_of family t a = record { family = family; nla = a }

pub end_step : (family : Family) (s : List ℕ) (n old new : ℕ) → Ended s old new →
    stands_at family s n ≡ None
end_step family s n old new end =
    sym (from_start family s n)
    ∙ ended (own_of family) (alone (deeper n family)) kept (tt {0}) s n old new end

pub broken_step : (family : Family) (s : List ℕ) (n old new : ℕ) (e : DecodeError) →
    Breaks s old new e → stands_at family s n ≡ None
broken_step family s n old new e breaks =
    sym (from_start family s n)
    ∙ broken (own_of family) (alone (deeper n family)) kept (tt {0}) s n old new e breaks

module _ (family : Family) (a : Attribute) (rest after : List ℕ) (old new : ℕ)
    (step : GoesOn rest old new a after) where
  pub own_step : stands_at family rest 0 ≡ Some (record { family = family; nla = a })
  own_step =
      sym (from_start family rest 0)
      ∙ at_header (own_of family) (alone (deeper 0 family)) kept (tt {0}) a rest after old new step

  pub later_step : (n : ℕ) → 0 < n → 4 + length a.value ≤ n → length rest - length after ≤ n →
      stands_at family rest n ≡ stands_at family after (n - (length rest - length after))
  later_step n some large far =
      sym (from_start family rest n)
      ∙ next (own_of family) (alone (deeper n family)) kept (tt {0}) a rest after old new step n
      some large far
      ∙ same_deep n (n - (length rest - length after)) family after (omega arith)

  pub padding_step : (n : ℕ) → 0 < n → 4 + length a.value ≤ n → n < length rest - length after →
      stands_at family rest n ≡ None
  padding_step n some large short =
      sym (from_start family rest n)
      ∙ in_padding (own_of family) (alone (deeper n family)) kept (tt {0}) a rest after old new
      step n some large short

  inside_step : (n : ℕ) → 0 < n → n < 4 + length a.value →
      stands_at family rest n ≡ deeper n family a n
  inside_step n some small =
      sym (from_start family rest n)
      ∙ within (own_of family) (alone (deeper n family)) kept (tt {0}) a rest after old new step
      n some small

  pub header_step : (n : ℕ) → 0 < n → n < 4 → stands_at family rest n ≡ None
  header_step n some short =
      inside_step n some (omega (arith, short)) ∙ short_none n family a n short

  pub nested_step : (inner : Family) (n : ℕ) → 4 ≤ n → n < 4 + length a.value →
      family_inside family a ≡ Some inner →
      stands_at family rest n ≡ stands_at inner a.value (n - 4)
  nested_step inner n long small is =
      inside_step n (omega (arith, long)) small
      ∙ in_payload n family inner a n (omega arith) long is

  pub single_step : (n : ℕ) → 0 < n → n < 4 + length a.value → family_inside family a ≡ None →
      stands_at family rest n ≡ None
  single_step n some small none = inside_step n some small ∙ nothing_inside n family a n none

-- ---- in lists of a family

pub own : (family : Family) (s : List ℕ) (n : ℕ) (a : Attribute) → HasAt s n a →
    stands_at family s n ≡ Some (record { family = family; nla = a })
own family s n a has =
    sym (from_start family s n)
    ∙ own_at (own_of family) (alone (deeper n family)) kept (tt {0}) (nla_items s) n a has

pub nested : (family inner : Family) (s p : List ℕ) (n m : ℕ) → IsInside family inner s p n m →
    stands_at family s n ≡ stands_at inner p m
nested family inner s p n m is =
    let long = ap length is.payload in
    ap (λ (k : ℕ). stands_at family s k) (is.offset ∙ apart is.start m)
    ∙ sym (from_start family s (is.start + (4 + m)))
    ∙ inside_at (own_of family) (alone (deeper (is.start + (4 + m)) family)) kept (tt {0})
    (nla_items s) is.start (4 + m) is.outer is.has (omega arith) (omega (arith, is.within, long))
    ∙ in_payload (is.start + (4 + m)) family inner is.outer (4 + m) (omega arith) (omega arith)
    is.inside
    ∙ ap (λ (q : List ℕ). stands_at inner q ((4 + m) - 4)) is.payload
    ∙ ap (λ (k : ℕ). stands_at inner p k) (back m)
  where
    apart : (x y : ℕ) → x + 4 + y ≡ x + (4 + y)
    apart x y = omega arith

    back : (x : ℕ) → (4 + x) - 4 ≡ x
    back x = omega arith

abbrev IsNested : Family → List ℕ → ℕ → FamilyNla → Type 0
IsNested family s n found =
    (inner : Family) × (p : List ℕ) × (m : ℕ) × IsInside family inner s p n m
    × (stands_at inner p m ≡ Some found)

pub only : (family : Family) (s : List ℕ) (n : ℕ) (found : FamilyNla) →
    stands_at family s n ≡ Some found →
    (HasAt s n found.nla × (found.family ≡ family)) ⊎ IsNested family s n found
only family s n found h =
    go
    (only_at (own_of family) (alone (deeper n family)) kept (tt {0}) (nla_items s) n found
    (from_start family s n ∙ h))
  where
    Inside : Type 0
    Inside = Within (own_of family) (alone (deeper n family)) kept (tt {0}) (nla_items s) n found

    deep : (w : Inside) (inside : Option Family) →
        family_inside family w.outer ≡ inside → IsNested family s n found
    deep w None e =
        absurd (none_some found (sym (nothing_inside n family w.outer w.from e) ∙ w.is))
    deep w (Some inner) e = far (nat_lt w.from 4) refl
      where
        far : (b : Bool) → nat_lt w.from 4 ≡ b → IsNested family s n found
        far true short =
            absurd (none_some found
            (sym (short_none n family w.outer w.from (ltb-true w.from 4 short)) ∙ w.is))
        far false long =
            let le = ltb-false w.from 4 long in (
              inner,
              w.outer.value,
              w.from - 4,
              record {
                outer = w.outer;
                start = w.start;
                has = w.has;
                inside = e;
                payload = refl;
                within = omega (arith, le, w.small);
                offset = omega (arith, le, w.offset);
              },
              sym
                  (in_payload n family inner w.outer w.from (omega (arith, w.offset)) le e)
                  ∙ w.is,
            )

    Here : Type 0
    Here = Own (own_of family) (alone (deeper n family)) kept (tt {0}) (nla_items s) n found

    go : Here ⊎ Inside →
        (HasAt s n found.nla × (found.family ≡ family)) ⊎ IsNested family s n found
    go (inl here) =
        inl (
          subst (λ (x : FamilyNla). HasAt s n x.nla) here.is here.has,
          sym (ap (λ (x : FamilyNla). x.family) here.is),
        )
    go (inr w) = inr (deep w (family_inside family w.outer) refl)
