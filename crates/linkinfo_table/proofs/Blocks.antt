-- What the first unmet attribute is, found in parts by types.
use Rattle.std.specs.Prelude.{
  ◌≡◌,
  ◌+◌,
  ◌<◌,
  ◌≤◌,
  ◌||◌,
  nat_lt,
  ℕ,
  Bool,
  true,
  false,
  List,
  [],
  ◌∷◌,
  length,
  refl,
  Option,
  None,
  Some,
  IfSome,
  ⊤,
  if◌then◌else◌,
}
use Rattle.std.specs.List.{AllByRecursion}
use Rattle.std.specs.Option.{option_map}
use Rattle.std.proofs.Common.{arith, ap, ◌∙◌, inl, inr}
use Rattle.std.proofs.lemmas.Bool.{cases_Bool}
use Rattle.std.proofs.lemmas.Bool.Decides.{nat_tests}
use Rattle.nla_frame.specs.Attribute.{aligned, masked}
use Rattle.nla_frame.specs.NlaItems.{nla_items}
use Rattle.nla_frame.proofs.Stepping.{by_nla_items, nla_items_nil}
use Rattle.linkinfo_table.specs.Last.{attributes_of, covers, placed_from, types_end}
use Rattle.linkinfo_table.specs.declared.last.PlacedNla.{PlacedNla}
use Rattle.linkinfo_table.specs.Difference.{first_or}
use Rattle.linkinfo_table.specs.Unmet.{earlier, first_of, first_told, told_from}
use Rattle.linkinfo_table.specs.declared.unmet.Unmet.{Unmet}
use Rattle.linkinfo_table.specs.declared.unmet.UnmetAt.{UnmetAt}

-- ---- the attributes of a string are in order

abbrev pub AreAfter : ℕ → List PlacedNla → Type 0
AreAfter n list = AllByRecursion (λ p. n < p.offset) list

abbrev pub AreInOrder : List PlacedNla → Type 0
AreInOrder [] = ⊤
AreInOrder (p ∷ more) = AreAfter p.offset more × AreInOrder more

raised : (m n : ℕ) (list : List PlacedNla) → m ≤ n → AreAfter n list → AreAfter m list
raised m n [] le h = tt
raised m n (p ∷ more) le h = (omega (arith, le, h.0), raised m n more le h.1)

-- from an offset on
record Ordered (n : ℕ) (s : List ℕ) : Type 0 where
  from : (m : ℕ) → m < n → AreAfter m (placed_from n (nla_items s))
  order : AreInOrder (placed_from n (nla_items s))

ordered : (s : List ℕ) (n : ℕ) → Ordered n s
ordered s =
    by_nla_items (λ s. (n : ℕ) → Ordered n s)
    (λ n. record { from = λ m lt. rw nla_items_nil tt; order = rw nla_items_nil tt })
    (λ t some e n. record { from = λ m lt. rw e tt; order = rw e tt })
    (λ t a rest e room more n.
    let next = n + aligned (4 + length a.value) in
    let tail = more next in
    record {
      from = λ m lt. rw e (lt, tail.from m (omega (arith, lt)));
      order = rw e (tail.from n (omega arith), tail.order);
    })
    s

pub all_in_order : (s : List ℕ) → AreInOrder (attributes_of s)
unfolding attributes_of
all_in_order s = (ordered s 0).order

-- ---- the first one, step by step

module _ (of_type : ℕ → Bool) (unmet : PlacedNla → Option Unmet) (p : PlacedNla)
    (more : List PlacedNla) where
  pub told_here : (told : UnmetAt) → told_from of_type unmet p ≡ Some told →
      first_told of_type unmet (p ∷ more) ≡ Some told
  told_here told e = rw e refl

  pub told_later : told_from of_type unmet p ≡ None →
      first_told of_type unmet (p ∷ more) ≡ first_told of_type unmet more
  told_later e = rw e refl

-- tests that agree tell the same
pub same_told : (one other : ℕ → Bool) (unmet : PlacedNla → Option Unmet) (list : List PlacedNla) →
    ((k : ℕ) → one k ≡ other k) → first_told one unmet list ≡ first_told other unmet list
same_told one other unmet [] same = refl
same_told one other unmet (p ∷ more) same =
    rw (same (masked p.nla.kind), same_told one other unmet more same) refl

-- ---- two parts together

-- what is told of an attribute, where it passes
abbrev told_if : Bool → Option Unmet → PlacedNla → Option UnmetAt
told_if passes u p =
    if passes then option_map (λ u. record { offset = p.offset; unmet = u }) u else None

abbrev IsAfter : ℕ → Option UnmetAt → Type 0
IsAfter n o = IfSome o (λ t. n < t.offset)

after_step : (n : ℕ) (passes : Bool) (u : Option Unmet) (p : PlacedNla) (tail : Option UnmetAt) →
    n < p.offset → IsAfter n tail → IsAfter n (first_or (told_if passes u p) tail)
after_step n true (Some u) p tail h k = h
after_step n true None p tail h k = k
after_step n false u p tail h k = k

after_told : (n : ℕ) (of_type : ℕ → Bool) (unmet : PlacedNla → Option Unmet)
    (list : List PlacedNla) → AreAfter n list → IsAfter n (first_told of_type unmet list)
after_told n of_type unmet [] h = tt
after_told n of_type unmet (p ∷ more) h =
    after_step n (of_type (masked p.nla.kind)) (unmet p) p (first_told of_type unmet more) h.0
    (after_told n of_type unmet more h.1)

with_itself : (t : UnmetAt) → earlier (Some t) (Some t) ≡ Some t
with_itself t =
    elim (cases_Bool (nat_lt t.offset t.offset)) [
      | inl is ↦ rw is refl
      | inr other ↦ rw other refl
    ]

is_earlier : (t : UnmetAt) (o : Option UnmetAt) → IsAfter t.offset o →
    earlier (Some t) o ≡ Some t
is_earlier t None h = refl
is_earlier t (Some other) h =
    let not_before : nat_lt other.offset t.offset ≡ false = grind (arith, nat_tests, h) in
    rw not_before refl

is_later : (t : UnmetAt) (o : Option UnmetAt) → IsAfter t.offset o →
    earlier o (Some t) ≡ Some t
is_later t None h = refl
is_later t (Some other) h =
    let before : nat_lt t.offset other.offset ≡ true = grind (arith, nat_tests, h) in
    rw before refl

merge_step : (a b : Bool) (u : Option Unmet) (p : PlacedNla) (x y : Option UnmetAt) →
    IsAfter p.offset x → IsAfter p.offset y →
    earlier (first_or (told_if a u p) x) (first_or (told_if b u p) y)
    ≡ first_or (told_if (a || b) u p) (earlier x y)
merge_step true true (Some u) p x y h k = with_itself (record { offset = p.offset; unmet = u })
merge_step true true None p x y h k = refl
merge_step true false (Some u) p x y h k =
    is_earlier (record { offset = p.offset; unmet = u }) y k
merge_step true false None p x y h k = refl
merge_step false true (Some u) p x y h k =
    is_later (record { offset = p.offset; unmet = u }) x h
merge_step false true None p x y h k = refl
merge_step false false u p x y h k = refl

pub merged : (one other : ℕ → Bool) (unmet : PlacedNla → Option Unmet) (list : List PlacedNla) →
    AreInOrder list →
    earlier (first_told one unmet list) (first_told other unmet list)
    ≡ first_told (λ k. one k || other k) unmet list
merged one other unmet [] order = refl
merged one other unmet (p ∷ more) order =
    merge_step (one (masked p.nla.kind)) (other (masked p.nla.kind)) (unmet p) p
    (first_told one unmet more) (first_told other unmet more)
    (after_told p.offset one unmet more order.0) (after_told p.offset other unmet more order.0)
    ∙ ap (λ (o : Option UnmetAt).
    first_or
    (told_if (one (masked p.nla.kind) || other (masked p.nla.kind)) (unmet p) p) o)
    (merged one other unmet more order.1)

-- ---- all parts

-- no type is below 0
pub none_below : (unmet : PlacedNla → Option Unmet) (list : List PlacedNla) →
    first_told (λ k. nat_lt k 0) unmet list ≡ None
none_below unmet [] = refl
none_below unmet (p ∷ more) =
    let not_below : nat_lt (masked p.nla.kind) 0 ≡ false = grind (arith, nat_tests) in
    rw not_below (none_below unmet more)

next_types : (n k : ℕ) → (nat_lt k n || covers n k) ≡ nat_lt k (n + 64)
next_types n k = grind (arith, nat_tests)

-- the types of the next part are added
pub next_block : (n : ℕ) (unmet : PlacedNla → Option Unmet) (s : List ℕ) →
    earlier (first_told (λ k. nat_lt k n) unmet (attributes_of s))
    (first_told (covers n) unmet (attributes_of s))
    ≡ first_told (λ k. nat_lt k (n + 64)) unmet (attributes_of s)
next_block n unmet s =
    merged (λ k. nat_lt k n) (covers n) unmet (attributes_of s) (all_in_order s)
    ∙ same_told (λ k. nat_lt k n || covers n k) (λ k. nat_lt k (n + 64)) unmet (attributes_of s)
    (next_types n)

-- beyond the largest type nothing is left
pub all_types : (n : ℕ) (unmet : PlacedNla → Option Unmet) (list : List PlacedNla) →
    types_end list ≤ n →
    first_told (λ k. nat_lt k n) unmet list ≡ first_told (λ k. true) unmet list
all_types n unmet [] le = refl
all_types n unmet (p ∷ more) le =
    let below : nat_lt (masked p.nla.kind) n ≡ true = grind (arith, nat_tests, le) in
    let rest : types_end more ≤ n = grind (arith, nat_tests, le) in
    rw (below, all_types n unmet more rest) refl

-- the offset of the attribute is left out
abbrev pub unmet_in : Option UnmetAt → Option Unmet
unmet_in told = option_map (λ t. t.unmet) told

-- .. which gives the first one of the whole list, once no type is left
first_step : (u : Option Unmet) (p : PlacedNla) (tail : Option UnmetAt) (rest : Option Unmet) →
    unmet_in tail ≡ rest →
    unmet_in (first_or (option_map (λ u. record { offset = p.offset; unmet = u }) u) tail)
    ≡ first_or u rest
first_step (Some u) p tail rest e = refl
first_step None p tail rest e = e

first_of_told : (unmet : PlacedNla → Option Unmet) (list : List PlacedNla) →
    unmet_in (first_told (λ k. true) unmet list) ≡ first_of unmet list
first_of_told unmet [] = refl
first_of_told unmet (p ∷ more) =
    first_step (unmet p) p (first_told (λ k. true) unmet more) (first_of unmet more)
    (first_of_told unmet more)

pub whole_list : (unmet : PlacedNla → Option Unmet) (want : List PlacedNla) (n : ℕ)
    (first : Option UnmetAt) → first ≡ first_told (λ k. nat_lt k n) unmet want →
    types_end want ≤ n → unmet_in first ≡ first_of unmet want
whole_list unmet want n first e le =
    ap unmet_in (e ∙ all_types n unmet want le) ∙ first_of_told unmet want
