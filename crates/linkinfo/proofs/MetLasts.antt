-- The last elements of lists, and which attributes of a list count.
use Rattle.std.specs.Prelude.{◌≡◌, ◌↔◌, ℕ, ◌==◌, ◌+◌, ◌≤◌, ◌&&◌, nat_lt, Bool, true, false, not}
use Rattle.std.specs.Prelude.{if◌then◌else◌, List, [], ◌∷◌, Option, None, Some, Result, Ok, Err}
use Rattle.std.specs.Prelude.{◌||◌, map, refl, length, IfSome, IsTrue}
use Rattle.std.specs.List.{AllByRecursion, AllZip, filter, find, last_or, list_any}
use Rattle.std.specs.Option.{option_eq, option_map}
use Rattle.std.proofs.Common.{arith, sym, ap, subst, ◌∙◌, inl, inr}
use Rattle.std.proofs.lemmas.Bool.{cases_Bool, eq-eqb, eqb-true}
use Rattle.std.proofs.lemmas.Bool.Decides.{nat_tests}
use Rattle.nla_frame.specs.Attribute.{Attribute, aligned, masked}
use Rattle.nla_frame.specs.declared.error.Family.{Family}
use Rattle.linkinfo_table.specs.Last.{has_type, last_of_type, offset_of, placed_from}
use Rattle.linkinfo_table.specs.declared.last.PlacedNla.{PlacedNla}
use Rattle.linkinfo_table.proofs.Lasts.{last_holds, last_passes}
use Rattle.linkinfo_table.specs.Unmet.{
  counts,
  first_of,
  is_like,
  last_like,
  meets,
  members_unmet,
  whole_unmet,
}
use Rattle.linkinfo_table.specs.declared.unmet.Unmet.{Unmet}
use Rattle.linkinfo.specs.Met.{IsMet, Item, LastsMeet, MembersMeet, items_under, last_of, type_of}
use Rattle.linkinfo.specs.Unmet.{Named, names_after, names_before}
use Rattle.linkinfo.proofs.Unmets.{first_here, first_later}

-- ---- the last element

-- of elements that are mapped
pub last_mapped : {X Y : Type 0} (f : X → Y) (test : Y → Bool) (before : Option X) (list : List X) →
    option_map f (last_or before (filter (λ x. test (f x)) list))
    ≡ last_or (option_map f before) (filter test (map f list))
last_mapped f test before [] = refl
last_mapped f test before (x ∷ more) =
    elim (cases_Bool (test (f x))) [
      | inl passes ↦ rw passes (last_mapped f test (Some x) more)
      | inr other ↦ rw other (last_mapped f test before more)
    ]

-- of elements of which some are left out that do not pass
pub last_kept : {X : Type 0} (keep test : X → Bool) → ((x : X) → test x ≡ true → keep x ≡ true) →
    (before : Option X) (list : List X) →
    last_or before (filter test list) ≡ last_or before (filter test (filter keep list))
last_kept keep test all before [] = refl
last_kept keep test all before (x ∷ more) =
    elim (cases_Bool (test x)) [
      | inl passes ↦
          let kept = all x passes in
          rw (kept, passes) (last_kept keep test all (Some x) more)
      | inr other ↦
          elim (cases_Bool (keep x)) [
            | inl kept ↦ rw (kept, other) (last_kept keep test all before more)
            | inr left ↦ rw (other, left) (last_kept keep test all before more)
          ]
    ]

-- both are there and related, or neither is there
abbrev pub AreBoth : {X : Type 0} → (X → X → Type 0) → Option X → Option X → Type 0
AreBoth R None None = Unit {0}
AreBoth R (Some x) (Some y) = R x y
AreBoth R _ _ = ⊥

-- of two lists in pairs
pub last_pair : {X : Type 0} (R : X → X → Type 0) (test : X → Bool) →
    ((x y : X) → R x y → test x ≡ test y) → (before other : Option X) → AreBoth R before other →
    (list more : List X) → AllZip R list more →
    AreBoth R (last_or before (filter test list)) (last_or other (filter test more))
last_pair R test same before other pair [] [] each = pair
last_pair R test same before other pair [] (y ∷ ys) each = absurd each
last_pair R test same before other pair (x ∷ xs) [] each = absurd each
last_pair R test same before other pair (x ∷ xs) (y ∷ ys) each =
    elim (cases_Bool (test x)) [
      | inl passes ↦
          let too : test y ≡ true = sym (same x y each.0) ∙ passes in
          rw (passes, too) (last_pair R test same (Some x) (Some y) each.0 xs ys each.1)
      | inr fails ↦
          let too : test y ≡ false = sym (same x y each.0) ∙ fails in
          rw (fails, too) (last_pair R test same before other pair xs ys each.1)
    ]

-- it has the type
pub last_typed : {X : Type 0} (type : X → ℕ) (k : ℕ) (list : List X) →
    IfSome (last_of type k list) (λ x. type x ≡ k)
last_typed {X = X} type k list =
    go (last_of type k list) (last_passes (λ x. type x == k) None list tt)
  where
    go : (o : Option X) → IfSome o (λ x. (type x == k) ≡ true) → IfSome o (λ x. type x ≡ k)
    go None h = tt
    go (Some x) h = eqb-true (type x) k h

pub all_weaker : {A : Type 0} (P Q : A → Type 0) → ((x : A) → P x → Q x) → (list : List A) →
    AllByRecursion P list → AllByRecursion Q list
all_weaker P Q f [] all = tt
all_weaker P Q f (x ∷ more) all = (f x all.0, all_weaker P Q f more all.1)

-- ---- lists whose last elements meet

pub meets_itself : {X : Type 0} (type : X → ℕ) (Meets : X → X → Type 0) → ((x : X) → Meets x x) →
    (list : List X) → LastsMeet type Meets list list
meets_itself {X = X} type Meets each list = λ k. go (last_of type k list)
  where
    go : (o : Option X) → IsMet Meets o o
    go None = tt
    go (Some x) = each x

pub both_meet : {X : Type 0} (R Meets : X → X → Type 0) → ((x y : X) → R x y → Meets x y) →
    (o p : Option X) → AreBoth R o p → IsMet Meets o p
both_meet R Meets f None None both = tt
both_meet R Meets f (Some x) (Some y) both = f x y both
both_meet R Meets f None (Some y) both = absurd both
both_meet R Meets f (Some x) None both = absurd both

-- lists in pairs of one type that meet
pub pairs_meet : {X : Type 0} (type : X → ℕ) (R Meets : X → X → Type 0) →
    ((x y : X) → R x y → type x ≡ type y) → ((x y : X) → R x y → Meets x y) → (list more : List X) →
    AllZip R list more → LastsMeet type Meets list more
pairs_meet type R Meets typed meets list more each = λ k.
    both_meet R Meets meets (last_of type k list) (last_of type k more)
    (last_pair R (λ x. type x == k) (λ x y r. ap (λ (n : ℕ). n == k) (typed x y r)) None None tt
    list more each)

-- ---- the names before an attribute, by offset and by order

pub same_named : (m n : Named) → m.kind ≡ n.kind → m.port ≡ n.port → m ≡ n
same_named m n kind port =
    ap (λ (k : Option (List ℕ)). let v : Named = record { kind = k; port = m.port } in v) kind
    ∙ ap (λ (p : Option (List ℕ)). let v : Named = record { kind = n.kind; port = p } in v) port

-- each of these is at an offset or after it
abbrev AreAfter : ℕ → List PlacedNla → Type 0
AreAfter n list = AllByRecursion (λ p. n ≤ p.offset) list

raised : (m n : ℕ) (list : List PlacedNla) → m ≤ n → AreAfter n list → AreAfter m list
raised m n [] le h = tt
raised m n (p ∷ more) le h = (omega (arith, le, h.0), raised m n more le h.1)

placed_after : (n : ℕ) (ps : List (Result Attribute ℕ)) → AreAfter n (placed_from n ps)
placed_after n [] = tt
placed_after n ((Ok a) ∷ more) =
    let after = n + aligned (4 + length a.value) in
    (omega arith, raised n after (placed_from after more) (omega arith) (placed_after after more))
placed_after n ((Err seen) ∷ more) = tt

-- each is after the header of the one before it
abbrev pub AreInOrder : List PlacedNla → Type 0
AreInOrder [] = Unit {0}
AreInOrder (p ∷ more) = AreAfter (p.offset + 4) more × AreInOrder more

pub in_order : (n : ℕ) (ps : List (Result Attribute ℕ)) → AreInOrder (placed_from n ps)
in_order n [] = tt
in_order n ((Ok a) ∷ more) =
    let after = n + aligned (4 + length a.value) in (
      raised (n + 4) after (placed_from after more) (omega arith) (placed_after after more),
      in_order after more,
    )
in_order n ((Err seen) ∷ more) = tt

none_before : (n : ℕ) (names : Named) (list : List PlacedNla) → AreAfter n list →
    names_before n names list ≡ names
none_before n names [] far = refl
none_before n names (p ∷ more) far =
    let later : nat_lt p.offset n ≡ false = grind (arith, nat_tests, far.0) in
    rw later (none_before n names more far.1)

-- an attribute with the names before it
abbrev pub item_in : Named → List PlacedNla → PlacedNla → Item
item_in names list p = record { nla = p.nla; named = names_before p.offset names list }

-- what follows an attribute has the names after it
shifted : (names : Named) (p : PlacedNla) (more list : List PlacedNla) →
    AreAfter (p.offset + 4) list →
    map (item_in names (p ∷ more)) list ≡ map (item_in (names_after names p.nla) more) list
shifted names p more [] far = refl
shifted names p more (q ∷ rest) far =
    let before : nat_lt p.offset q.offset ≡ true = grind (arith, nat_tests, far.0) in
    let next = names_after names p.nla in
    rw before
    (ap (λ (items : List Item). item_in next more q ∷ items) (shifted names p more rest far.1))

pub items_are : (names : Named) (list : List PlacedNla) → AreInOrder list →
    map (item_in names list) list ≡ items_under names (map (λ p. p.nla) list)
items_are names [] ordered = refl
items_are names (p ∷ more) ordered =
    let here : nat_lt p.offset p.offset ≡ false = grind (arith, nat_tests) in
    let far = raised p.offset (p.offset + 4) more (omega arith) ordered.0 in
    let item : Item = record { nla = p.nla; named = names } in
    let first : item_in names (p ∷ more) p ≡ item =
    rw here (rw (none_before p.offset names more far) refl) in
    let rest =
    shifted names p more more ordered.0 ∙ items_are (names_after names p.nla) more ordered.1 in
    ap (λ (x : Item). x ∷ map (item_in names (p ∷ more)) more) first
    ∙ ap (λ (items : List Item). item ∷ items) rest

-- ---- the attributes that count are the last ones of their types

module _ (S : PlacedNla → Type 0)
    (same : (p q : PlacedNla) → S p → S q → p.offset ≡ q.offset → p ≡ q)
    (all : List PlacedNla) (stand : AllByRecursion S all) (Good : PlacedNla → Type 0) where
  one_counted : (p : PlacedNla) (last : Option PlacedNla) → S p → IfSome last S → IfSome last Good →
      option_eq ◌==◌ (offset_of last) (Some p.offset) ≡ true → Good p
  one_counted p None here stands good counted = absurd cc
  one_counted p (Some q) here stands good counted =
      subst Good (same q p stands here (eqb-true q.offset p.offset counted)) good

  counted_from_lasts : ((k : ℕ) → IfSome (last_of_type k all) Good) → (list : List PlacedNla) →
      AllByRecursion S list → AllByRecursion (λ p. counts all p ≡ true → Good p) list
  counted_from_lasts good [] here = tt
  counted_from_lasts good (p ∷ more) here =
      let kind = masked p.nla.kind in (
        one_counted p (last_like all p) here.0 (last_holds S (has_type kind) None all stand tt)
            (good kind),
        counted_from_lasts good more here.1,
      )

lasts_from_counted : (all : List PlacedNla) (Good : PlacedNla → Type 0) →
    AllByRecursion (λ p. counts all p ≡ true → Good p) all → (k : ℕ) →
    IfSome (last_of_type k all) Good
lasts_from_counted all Good counted k =
    go (last_of_type k all) refl (last_typed (λ p. masked p.nla.kind) k all)
    (last_holds (λ p. counts all p ≡ true → Good p) (has_type k) None all counted tt)
  where
    go : (o : Option PlacedNla) → last_of_type k all ≡ o → IfSome o (λ p. masked p.nla.kind ≡ k) →
        IfSome o (λ p. counts all p ≡ true → Good p) → IfSome o Good
    go None is typed good = tt
    go (Some p) is typed good =
        let last : last_like all p ≡ Some p = ap (λ (n : ℕ). last_of_type n all) typed ∙ is in
        good (rw last (eq-eqb p.offset p.offset refl))

-- ---- .. which are met by what matters of them

module _ {X : Type 0} (f g : PlacedNla → X) (Meets : X → X → Type 0)
    (G : Option PlacedNla → PlacedNla → Type 0) (nothing : (w : PlacedNla) → G None w → ⊥)
    (found : (h w : PlacedNla) → G (Some h) w ↔ Meets (f h) (g w))
    (have want : List PlacedNla) where
  one_met : (h o : Option PlacedNla) →
      IfSome o (λ w. G h w) ↔ IsMet Meets (option_map f h) (option_map g o)
  one_met h None = (λ _. tt, λ _. tt)
  one_met None (Some w) = (λ m. nothing w m, λ m. absurd m)
  one_met (Some h) (Some w) = found h w

  like : (k : ℕ) (o : Option PlacedNla) → IfSome o (λ p. masked p.nla.kind ≡ k) →
      IfSome o (λ w. G (last_like have w) w) ↔ IfSome o (λ w. G (last_of_type k have) w)
  like k None typed = (λ _. tt, λ _. tt)
  like k (Some w) typed =
      let is : last_like have w ≡ last_of_type k have =
      ap (λ (n : ℕ). last_of_type n have) typed in (
        λ m. subst (λ (h : Option PlacedNla). G h w) is m,
        λ m. subst (λ (h : Option PlacedNla). G h w) (sym is) m,
      )

  last_met : (k : ℕ) → IfSome (last_of_type k want) (λ w. G (last_like have w) w)
      ↔ IsMet Meets (option_map f (last_of_type k have)) (option_map g (last_of_type k want))
  last_met k =
      let kinds = like k (last_of_type k want) (last_typed (λ p. masked p.nla.kind) k want) in
      let both = one_met (last_of_type k have) (last_of_type k want) in
      (λ m. both.0 (kinds.0 m), λ m. kinds.1 (both.1 m))

  module _ (S : PlacedNla → Type 0)
      (same : (p q : PlacedNla) → S p → S q → p.offset ≡ q.offset → p ≡ q)
      (stand : AllByRecursion S want) (type : X → ℕ) (had wanted : List X)
      (had_is : (k : ℕ) → option_map f (last_of_type k have) ≡ last_of type k had)
      (wanted_is : (k : ℕ) → option_map g (last_of_type k want) ≡ last_of type k wanted) where
    pub lasts_meet : AllByRecursion (λ p. counts want p ≡ true → G (last_like have p) p) want
        ↔ LastsMeet type Meets had wanted
    lasts_meet =
        let Good = λ (w : PlacedNla). G (last_like have w) w in (
          λ all k. rw (← had_is k, ← wanted_is k)
              ((last_met k).0 (lasts_from_counted want Good all k)),
          λ meet.
              counted_from_lasts S same want stand Good
              (λ k. (last_met k).1 (rw (had_is k, wanted_is k) (meet k))) want stand,
        )

-- ---- nothing is unmet

not_found : {A : Type 0} (test : A → Bool) (list : List A) → find test list ≡ None →
    AllByRecursion (λ x. test x ≡ false) list
not_found test [] e = tt
not_found test (x ∷ more) e =
    elim (cases_Bool (test x)) [
      | inl passes ↦ absurd (let h = rw passes at e in cc)
      | inr other ↦ (other, not_found test more (rw other at e))
    ]

all_fail : {A : Type 0} (test : A → Bool) (list : List A) →
    AllByRecursion (λ x. test x ≡ false) list →
    find test list ≡ None
all_fail test [] all = refl
all_fail test (x ∷ more) all = rw all.0 (all_fail test more all.1)

none_mapped : {A B : Type 0} (f : A → B) (o : Option A) → option_map f o ≡ None → o ≡ None
none_mapped f None e = refl
none_mapped f (Some x) e = absurd cc

not_false : (b : Bool) → not b ≡ false → b ≡ true
not_false true e = refl
not_false false e = absurd cc

-- a set is met if and only if each of its attributes has one like it
any_mapped : (test : Attribute → Bool) (list : List PlacedNla) →
    list_any (λ p. test p.nla) list ≡ list_any test (map (λ p. p.nla) list)
any_mapped test [] = refl
any_mapped test (p ∷ more) = ap (λ (b : Bool). test p.nla || b) (any_mapped test more)

pub members_met : (name : Family) (alike : Attribute → Attribute → Bool)
    (have want : List PlacedNla) →
    members_unmet name alike have want ≡ None
    ↔ MembersMeet alike (map (λ p. p.nla) have) (map (λ p. p.nla) want)
members_met name alike have want = (
  λ e. each want (not_found (λ w. not (list_any (is_like alike w) have)) want (none_mapped _ _ e)),
  λ all.
      ap (option_map (λ w. whole_unmet name w None))
      (all_fail (λ w. not (list_any (is_like alike w) have)) want (all_met want all)),
)
  where
    like : Attribute → Attribute → Bool
    like w h = (type_of h == type_of w) && meets alike h w

    is_any : (w : PlacedNla) → (not (list_any (is_like alike w) have)) ≡ false →
        IsTrue (list_any (like w.nla) (map (λ p. p.nla) have))
    is_any w e = sym (any_mapped (like w.nla) have) ∙ not_false (list_any (is_like alike w) have) e

    each : (list : List PlacedNla) →
        AllByRecursion (λ w. (not (list_any (is_like alike w) have)) ≡ false) list →
        MembersMeet alike (map (λ p. p.nla) have) (map (λ p. p.nla) list)
    each [] all = tt
    each (w ∷ more) all = (is_any w all.0, each more all.1)

    all_met : (list : List PlacedNla) →
        MembersMeet alike (map (λ p. p.nla) have) (map (λ p. p.nla) list) →
        AllByRecursion (λ w. (not (list_any (is_like alike w) have)) ≡ false) list
    all_met [] all = tt
    all_met (w ∷ more) all =
        (ap not (any_mapped (like w.nla) have ∙ all.0), all_met more all.1)

if_counted : (c : Bool) (o : Option Unmet) → (if c then o else None) ≡ None ↔ (c ≡ true → o ≡ None)
if_counted true o = (λ e c. e, λ e. e refl)
if_counted false o = (λ e c. absurd cc, λ e. refl)

first_none : (unmet : PlacedNla → Option Unmet) (list : List PlacedNla) →
    first_of unmet list ≡ None ↔ AllByRecursion (λ p. unmet p ≡ None) list
first_none unmet [] = (λ e. tt, λ all. refl)
first_none unmet (p ∷ more) =
    let rest = first_none unmet more in
    (λ e. go (unmet p) refl rest.0 e, λ all. first_later unmet p more all.0 ∙ rest.1 all.1)
  where
    go : (o : Option Unmet) → unmet p ≡ o →
        (first_of unmet more ≡ None → AllByRecursion (λ q. unmet q ≡ None) more) →
        first_of unmet (p ∷ more) ≡ None → AllByRecursion (λ q. unmet q ≡ None) (p ∷ more)
    go None is rest e = (is, rest (sym (first_later unmet p more is) ∙ e))
    go (Some u) is rest e = absurd (let h = first_here unmet p more u is in cc)

pub first_counted : (test : PlacedNla → Bool) (unmet : PlacedNla → Option Unmet)
    (list : List PlacedNla) →
    first_of (λ p. if test p then unmet p else None) list ≡ None
    ↔ AllByRecursion (λ p. test p ≡ true → unmet p ≡ None) list
first_counted test unmet list =
    let all = first_none (λ p. if test p then unmet p else None) list in
    let one = λ (p : PlacedNla). if_counted (test p) (unmet p) in (
      λ e. all_weaker _ _ (λ p. (one p).0) list (all.0 e),
      λ a. all.1 (all_weaker _ _ (λ p. (one p).1) list a),
    )
