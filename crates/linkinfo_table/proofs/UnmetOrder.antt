-- The attributes of a list that are not met are in the order of their offsets.
use Rattle.std.specs.Prelude.{
  ◌≡◌,
  ⊤,
  ℕ,
  ◌+◌,
  ◌<◌,
  ◌≤◌,
  ◌++◌,
  nat_le,
  Bool,
  true,
  false,
  not,
  if◌then◌else◌,
  List,
  [],
  ◌∷◌,
  length,
  map,
  refl,
  Option,
  None,
  Some,
}
use Rattle.std.specs.List.{AllByRecursion, filter, flat_map, list_any}
use Rattle.std.proofs.Common.{arith, sym, ap, subst, ◌∙◌, inl, inr}
use Rattle.std.proofs.lemmas.Bool.{cases_Bool}
use Rattle.std.proofs.lemmas.Bool.Decides.{nat_tests}
use Rattle.nla_frame.specs.Attribute.{Attribute, aligned, masked}
use Rattle.nla_frame.specs.NlaItems.{nla_items}
use Rattle.nla_frame.specs.declared.error.Family.{Family}
use Rattle.nla_frame.proofs.Stepping.{by_nla_items, nla_items_nil}
use Rattle.linkinfo_table.specs.Contents.{Contents, ListOf, Listed, NoList}
use Rattle.linkinfo_table.specs.Difference.{end_of}
use Rattle.linkinfo_table.specs.Last.{attributes_of, placed_from}
use Rattle.linkinfo_table.specs.Unmet.{counts, inner_unmet, is_like, last_like, meets, whole_unmet}
use Rattle.linkinfo_table.specs.Unmets.{
  all_at,
  attribute_unmets,
  attributes_unmets,
  counted_unmets,
  first_at,
  found_unmets,
  item_unmets,
  lasts_unmets,
  list_unmets,
  members_unmets,
  payload_unmets,
}
use Rattle.linkinfo_table.specs.declared.last.PlacedNla.{PlacedNla}
use Rattle.linkinfo_table.specs.declared.unmet.Unmet.{Unmet}
use Rattle.linkinfo_table.proofs.AllUnmets.{
  AllBelow,
  below_append,
  below_raised,
  found_below,
  payload_below,
}

-- each is after the one before it, and the first at this offset or after it
abbrev pub AreFrom : ℕ → List Unmet → Type 0
AreFrom n [] = ⊤
AreFrom n (u ∷ more) = (n ≤ u.want) × AreFrom (u.want + 1) more

pub earlier_start : (m n : ℕ) (list : List Unmet) → m ≤ n → AreFrom n list → AreFrom m list
earlier_start m n [] le h = tt
earlier_start m n (u ∷ more) le h = (omega (arith, le, h.0), h.1)

one_after_another : (m n : ℕ) (xs ys : List Unmet) → m ≤ n → AreFrom m xs → AllBelow n xs →
    AreFrom n ys → AreFrom m (xs ++ ys)
one_after_another m n [] ys le h below k = earlier_start m n ys le k
one_after_another m n (u ∷ more) ys le h below k = (
  h.0,
  one_after_another (u.want + 1) n more ys (omega (arith, below.0)) h.1 below.1 k,
)

-- those of one attribute are in it
record AreIn (p : PlacedNla) (list : List Unmet) : Type 0 where
  order : AreFrom p.offset list
  below : AllBelow (end_of p) list

-- those of the attributes of a string, from an offset on
flat_order : (of_one : PlacedNla → List Unmet) → ((p : PlacedNla) → AreIn p (of_one p)) →
    (s : List ℕ) (n : ℕ) → AreFrom n (flat_map of_one (placed_from n (nla_items s)))
flat_order of_one each s =
    by_nla_items (λ s. (n : ℕ) → AreFrom n (flat_map of_one (placed_from n (nla_items s))))
    (λ n. rw nla_items_nil tt)
    (λ t some e n. rw e tt)
    (λ t a rest e room more n.
    let p : PlacedNla = record { offset = n; nla = a } in
    let next = n + aligned (4 + length a.value) in
    let here = each p in
    rw e
    (one_after_another n next (of_one p) (flat_map of_one (placed_from next (nla_items rest)))
    (omega arith) here.order
    (below_raised (end_of p) next (of_one p) (omega arith) here.below) (more next)))
    s

all_order : (of_one : PlacedNla → List Unmet) → ((p : PlacedNla) → AreIn p (of_one p)) →
    (s : List ℕ) → AreFrom 0 (flat_map of_one (attributes_of s))
unfolding attributes_of
all_order of_one each s = flat_order of_one each s 0

-- ---- of a list of a family

pub inside_order : (want have : PlacedNla) (n : ℕ) (list : List Unmet) → AreFrom n list →
    AreFrom (want.offset + 4 + n) (map (inner_unmet want have) list)
inside_order want have n [] h = tt
inside_order want have n (u ∷ more) h = (
  omega (arith, h.0),
  earlier_start (want.offset + 4 + u.want + 1) (want.offset + 4 + (u.want + 1))
      (map (inner_unmet want have) more) (omega arith)
      (inside_order want have (u.want + 1) more h.1),
)

pub item_in : (family : Family) (met : Bool) (have want : PlacedNla) →
    AreFrom want.offset (item_unmets family met have want)
item_in family true have want = tt
item_in family false have want = (omega arith, tt)

found_in : (family : Family) (unmets : PlacedNla → PlacedNla → List Unmet) →
    ((h w : PlacedNla) → AreIn w (unmets h w)) → (found : Option PlacedNla) (w : PlacedNla) →
    AreIn w (found_unmets family unmets found w)
found_in family unmets each None w =
    record { order = (omega arith, tt); below = (omega arith, tt) }
found_in family unmets each (Some h) w = each h w

counted_in : (unmets : Option PlacedNla → PlacedNla → List Unmet) →
    ((found : Option PlacedNla) (w : PlacedNla) → AreIn w (unmets found w)) →
    (have want : List PlacedNla) (p : PlacedNla) → AreIn p (counted_unmets unmets have want p)
counted_in unmets each have want p = by_count (counts want p)
  where
    by_count : (b : Bool) → AreIn p (if b then unmets (last_like have p) p else [])
    by_count true = each (last_like have p) p
    by_count false = record { order = tt; below = tt }

-- a member of a set, where none meets it
abbrev member_of : Family → (Attribute → Attribute → Bool) → List PlacedNla → PlacedNla →
    List Unmet
member_of family alike have w =
    if list_any (is_like alike w) have then [] else whole_unmet family w None ∷ []

members_are : (family : Family) (alike : Attribute → Attribute → Bool)
    (have list : List PlacedNla) →
    flat_map (member_of family alike have) list ≡ members_unmets family alike have list
members_are family alike have [] = refl
members_are family alike have (w ∷ more) =
    elim (cases_Bool (list_any (is_like alike w) have)) [
      | inl met ↦ rw met (members_are family alike have more)
      | inr unmet ↦
          rw unmet
          (ap (λ (list : List Unmet). whole_unmet family w None ∷ list)
          (members_are family alike have more))
    ]

member_in : (family : Family) (alike : Attribute → Attribute → Bool) (have : List PlacedNla)
    (w : PlacedNla) → AreIn w (member_of family alike have w)
member_in family alike have w = by_like (list_any (is_like alike w) have)
  where
    by_like : (b : Bool) → AreIn w (if b then [] else whole_unmet family w None ∷ [])
    by_like true = record { order = tt; below = tt }
    by_like false = record { order = (omega arith, tt); below = (omega arith, tt) }

pub lasts_order : (unmets : Option PlacedNla → PlacedNla → List Unmet) →
    ((found : Option PlacedNla) (w : PlacedNla) → AreFrom w.offset (unmets found w)) →
    ((found : Option PlacedNla) (w : PlacedNla) → AllBelow (end_of w) (unmets found w)) →
    (have : List PlacedNla) (want : List ℕ) →
    AreFrom 0 (lasts_unmets unmets have (attributes_of want))
lasts_order unmets order below have want =
    all_order (counted_unmets unmets have (attributes_of want))
    (counted_in unmets
    (λ found w. record { order = order found w; below = below found w }) have
    (attributes_of want))
    want

attributes_order : (l : Listed) (unmets : PlacedNla → PlacedNla → List Unmet) →
    ((h w : PlacedNla) → AreIn w (unmets h w)) → (have : List PlacedNla) (want : List ℕ) →
    AreFrom 0 (attributes_unmets l unmets have (attributes_of want))
attributes_order l unmets each have want = by_kind l.is_set
  where
    by_kind : (b : Bool) →
        AreFrom 0 (if b then members_unmets l.family l.alike have (attributes_of want)
        else lasts_unmets (found_unmets l.family unmets) have (attributes_of want))
    by_kind true =
        rw (← members_are l.family l.alike have (attributes_of want))
        (all_order (member_of l.family l.alike have) (member_in l.family l.alike have) want)
    by_kind false =
        all_order (counted_unmets (found_unmets l.family unmets) have (attributes_of want))
        (counted_in (found_unmets l.family unmets) (found_in l.family unmets each) have
        (attributes_of want))
        want

pub payload_order : (c : Contents) (family : Family) (met : Bool) (have want : PlacedNla) →
    AreFrom want.offset (payload_unmets c family met have want)
payload_order (NoList place count) family met have want = item_in family met have want
payload_order (ListOf l inside) family met have want =
    by_kind l.is_whole
    (λ h w. payload_order (inside (masked w.nla.kind)) l.family (meets l.alike h.nla w.nla) h w)
  where
    unmets : PlacedNla → PlacedNla → List Unmet
    unmets h w =
        payload_unmets (inside (masked w.nla.kind)) l.family (meets l.alike h.nla w.nla) h w

    by_kind : (b : Bool) → ((h w : PlacedNla) → AreFrom w.offset (unmets h w)) →
        AreFrom want.offset
        (if b then item_unmets family met have want
        else map (inner_unmet want have)
        (attributes_unmets l unmets (attributes_of have.nla.value)
        (attributes_of want.nla.value)))
    by_kind true each = item_in family met have want
    by_kind false each =
        earlier_start want.offset (want.offset + 4 + 0) _ (omega arith)
        (inside_order want have 0 _
        (attributes_order l unmets
        (λ h w. record {
          order = each h w;
          below =
              payload_below (inside (masked w.nla.kind)) l.family (meets l.alike h.nla w.nla) h w;
        })
        (attributes_of have.nla.value) want.nla.value))

-- of a payload that is a list
pub list_order : (l : Listed) (inside : ℕ → Contents) (have want : List ℕ) →
    AreFrom 0 (list_unmets l inside have want)
list_order l inside have want =
    attributes_order l (attribute_unmets inside l.family l.alike)
    (λ h w. record {
      order =
          payload_order (inside (masked w.nla.kind)) l.family (meets l.alike h.nla w.nla) h w;
      below =
          payload_below (inside (masked w.nla.kind)) l.family (meets l.alike h.nla w.nla) h w;
    })
    (attributes_of have) want

-- ---- one after another

-- all of them are at their first offset or after it
all_from : (from n : ℕ) (list : List Unmet) → from ≤ n → AreFrom n list → all_at from list ≡ list
all_from from n [] le h = refl
all_from from n (u ∷ more) le h =
    let at : nat_le from u.want ≡ true = grind (arith, nat_tests, le, h.0) in
    rw at
    (ap (λ (list : List Unmet). u ∷ list)
    (all_from from (u.want + 1) more (omega (arith, le, h.0)) h.1))

-- those after an attribute that is found are those after its offset
pub next_is : (from n : ℕ) (list : List Unmet) (u : Unmet) → AreFrom n list →
    first_at from list ≡ Some u → all_at from list ≡ u ∷ all_at (u.want + 1) list
next_is from n [] u h e = absurd cc
next_is from n (v ∷ more) u h e =
    elim (cases_Bool (nat_le from v.want)) [
      | inl at ↦
          let same : v ≡ u = (let told = rw at at e in cc) in
          let not_again : nat_le (v.want + 1) v.want ≡ false = grind (arith, nat_tests) in
          let rest = all_from from (v.want + 1) more (grind (arith, nat_tests, at)) h.1 in
          let rest_again = all_from (v.want + 1) (v.want + 1) more (omega arith) h.1 in
          rw at
          (subst (λ (w : Unmet). v ∷ all_at from more ≡ w ∷ all_at (w.want + 1) (v ∷ more)) same
          (rw not_again (ap (λ (list : List Unmet). v ∷ list) (rest ∙ sym rest_again))))
      | inr before ↦
          let found = rw before at e in
          let later = next_is from (v.want + 1) more u h.1 found in
          rw (before, skipped v before u (first_passes from more u found)) later
    ]
  where
    -- the one that is found is at the offset or after it
    first_passes : (from : ℕ) (list : List Unmet) (u : Unmet) → first_at from list ≡ Some u →
        nat_le from u.want ≡ true
    first_passes from [] u e = absurd cc
    first_passes from (v ∷ more) u e =
        elim (cases_Bool (nat_le from v.want)) [
          | inl at ↦
              let same : v ≡ u = (let told = rw at at e in cc) in
              rw (← same) at
          | inr before ↦ first_passes from more u (rw before at e)
        ]

    skipped : (v : Unmet) → nat_le from v.want ≡ false → (u : Unmet) →
        nat_le from u.want ≡ true → nat_le (u.want + 1) v.want ≡ false
    skipped v before u at = grind (arith, nat_tests, before, at)

-- none is left where none is found
pub none_left : (from : ℕ) (list : List Unmet) → first_at from list ≡ None →
    all_at from list ≡ []
none_left from [] e = refl
none_left from (v ∷ more) e =
    elim (cases_Bool (nat_le from v.want)) [
      | inl at ↦ absurd (let told = rw at at e in cc)
      | inr before ↦ rw before (none_left from more (rw before at e))
    ]
