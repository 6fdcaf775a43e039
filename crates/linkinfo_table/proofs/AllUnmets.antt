-- What finding unmet attributes from an offset on rests on: the first one of a part of a list, and
-- where attributes that are not met are.
use Rattle.std.specs.Prelude.{
  ◌≡◌,
  ℕ,
  ◌+◌,
  ◌-◌,
  ◌<◌,
  ◌≤◌,
  ◌++◌,
  nat_le,
  Bool,
  true,
  false,
  not,
  if◌then◌else◌,
  List,
  [],
  ◌∷◌,
  length,
  map,
  refl,
  Option,
  None,
  Some,
}
use Rattle.std.specs.List.{AllByRecursion, filter, find, flat_map, list_any}
use Rattle.std.specs.Option.{option_map}
use Rattle.std.proofs.Common.{arith, sym, ap, ◌∙◌, inl, inr}
use Rattle.std.proofs.lemmas.Bool.{cases_Bool}
use Rattle.std.proofs.lemmas.Bool.Decides.{nat_tests}
use Rattle.nla_frame.specs.Attribute.{Attribute, masked}
use Rattle.nla_frame.specs.declared.error.Family.{Family}
use Rattle.linkinfo_table.specs.Contents.{Contents, ListOf, Listed, NoList}
use Rattle.linkinfo_table.specs.Difference.{end_of, first_or}
use Rattle.linkinfo_table.specs.Last.{StandsIn, attributes_of}
use Rattle.linkinfo_table.specs.Unmet.{
  attribute_unmet,
  attributes_unmet,
  counted_unmet,
  counts,
  first_of,
  found_unmet,
  inner_unmet,
  is_like,
  item_unmet,
  last_like,
  lasts_unmet,
  list_unmet,
  meets,
  members_unmet,
  payload_unmet,
  whole_unmet,
}
use Rattle.linkinfo_table.specs.Unmets.{
  attribute_unmets,
  attributes_unmets,
  counted_unmets,
  first_at,
  found_unmets,
  item_unmets,
  lasts_unmets,
  list_unmets,
  members_unmets,
  payload_unmets,
}
use Rattle.linkinfo_table.specs.declared.last.PlacedNla.{PlacedNla}
use Rattle.linkinfo_table.specs.declared.unmet.Unmet.{Unmet}
use Rattle.linkinfo_table.proofs.Lasts.{all_stand, stands_within}

-- ---- the first one of two lists, one after the other

pub first_append : (from : ℕ) (xs ys : List Unmet) →
    first_at from (xs ++ ys) ≡ first_or (first_at from xs) (first_at from ys)
first_append from [] ys = refl
first_append from (u ∷ more) ys =
    elim (cases_Bool (nat_le from u.want)) [
      | inl at ↦ rw at refl
      | inr before ↦ rw before (first_append from more ys)
    ]

-- by offsets in a payload
pub first_inside : (from : ℕ) (want have : PlacedNla) (list : List Unmet) →
    first_at from (map (inner_unmet want have) list)
    ≡ option_map (inner_unmet want have) (first_at (from - (want.offset + 4)) list)
first_inside from want have [] = refl
first_inside from want have (u ∷ more) =
    let same : nat_le from (want.offset + 4 + u.want)
    ≡ nat_le (from - (want.offset + 4)) u.want =
    grind (arith, nat_tests) in
    elim (cases_Bool (nat_le (from - (want.offset + 4)) u.want)) [
      | inl at ↦ rw (same, at) refl
      | inr before ↦ rw (same, before) (first_inside from want have more)
    ]

found_inside : (from inner : ℕ) (want have : PlacedNla) (list : List Unmet) (u : Unmet) →
    inner ≡ from - (want.offset + 4) → Some u ≡ first_at inner list →
    Some (inner_unmet want have u) ≡ first_at from (map (inner_unmet want have) list)
found_inside from inner want have list u is e =
    ap (option_map (inner_unmet want have)) (e ∙ ap (λ (n : ℕ). first_at n list) is)
    ∙ sym (first_inside from want have list)

-- .. of the lists that two attributes contain
pub listed_inside : (l : Listed) (inside : ℕ → Contents) (from inner : ℕ) (want have : PlacedNla)
    (w h : List ℕ) (u : Unmet) → w ≡ want.nla.value → h ≡ have.nla.value →
    inner ≡ from - (want.offset + 4) → Some u ≡ first_at inner (list_unmets l inside h w) →
    Some (inner_unmet want have u)
    ≡ first_at from
    (map (inner_unmet want have) (list_unmets l inside have.nla.value want.nla.value))
listed_inside l inside from inner want have w h u wanted had is e =
    found_inside from inner want have _ u is
    (e ∙ ap (λ (s : List ℕ). first_at inner (list_unmets l inside s w)) had
    ∙ ap (λ (s : List ℕ). first_at inner (list_unmets l inside have.nla.value s)) wanted)

-- ---- by the last attribute of each type

if_counts : (from : ℕ) (b : Bool) (list : List Unmet) →
    first_at from (if b then list else []) ≡ (if b then first_at from list else None)
if_counts from true list = refl
if_counts from false list = refl

module _ (from : ℕ) (unmets : Option PlacedNla → PlacedNla → List Unmet)
    (have want : List PlacedNla) where
  each_first : (list : List PlacedNla) →
      first_at from (flat_map (counted_unmets unmets have want) list)
      ≡ first_of (counted_unmet (λ found p. first_at from (unmets found p)) have want) list
  each_first [] = refl
  each_first (p ∷ more) =
      first_append from (counted_unmets unmets have want p)
      (flat_map (counted_unmets unmets have want) more)
      ∙ ap (λ (o : Option Unmet).
      first_or o (first_at from (flat_map (counted_unmets unmets have want) more)))
      (if_counts from (counts want p) (unmets (last_like have p) p))
      ∙ ap (λ (o : Option Unmet).
      first_or (counted_unmet (λ found p. first_at from (unmets found p)) have want p) o)
      (each_first more)

  pub first_lasts : lasts_unmet (λ found p. first_at from (unmets found p)) have want
      ≡ first_at from (lasts_unmets unmets have want)
  first_lasts = sym (each_first want)

-- ---- in a set

pub next_member : (from : ℕ) (family : Family) (alike : Attribute → Attribute → Bool)
    (have more : List PlacedNla) (w : PlacedNla) →
    first_at from (members_unmets family alike have (w ∷ more))
    ≡ first_or (first_at from (members_unmets family alike have (w ∷ [])))
    (first_at from (members_unmets family alike have more))
next_member from family alike have more w =
    elim (cases_Bool (list_any (is_like alike w) have)) [
      | inl met ↦ rw met refl
      | inr unmet ↦
          rw unmet
          (elim (cases_Bool (nat_le from w.offset)) [
            | inl at ↦ rw at refl
            | inr before ↦ rw before refl
          ])
    ]

-- ---- where attributes that are not met are: before the end of the attribute that they are in

abbrev pub AllBelow : ℕ → List Unmet → Type 0
AllBelow n list = AllByRecursion (λ u. u.want < n) list

pub below_append : (n : ℕ) (xs ys : List Unmet) → AllBelow n xs → AllBelow n ys →
    AllBelow n (xs ++ ys)
below_append n [] ys h k = k
below_append n (u ∷ more) ys h k = (h.0, below_append n more ys h.1 k)

pub below_raised : (m n : ℕ) (list : List Unmet) → m ≤ n → AllBelow m list → AllBelow n list
below_raised m n [] le h = tt
below_raised m n (u ∷ more) le h = (omega (arith, le, h.0), below_raised m n more le h.1)

pub below_inside : (want have : PlacedNla) (list : List Unmet) →
    AllBelow (length want.nla.value) list →
    AllBelow (end_of want) (map (inner_unmet want have) list)
below_inside want have [] h = tt
below_inside want have (u ∷ more) h = (omega (arith, h.0), below_inside want have more h.1)

pub item_below : (family : Family) (met : Bool) (have want : PlacedNla) →
    AllBelow (end_of want) (item_unmets family met have want)
item_below family true have want = tt
item_below family false have want = (omega arith, tt)

pub found_below : (family : Family) (unmets : PlacedNla → PlacedNla → List Unmet) →
    ((h w : PlacedNla) → AllBelow (end_of w) (unmets h w)) → (found : Option PlacedNla)
    (w : PlacedNla) → AllBelow (end_of w) (found_unmets family unmets found w)
found_below family unmets each None w = (omega arith, tt)
found_below family unmets each (Some h) w = each h w

module _ (s : List ℕ) where
  pub lasts_below : (unmets : Option PlacedNla → PlacedNla → List Unmet) →
      ((found : Option PlacedNla) (w : PlacedNla) → AllBelow (end_of w) (unmets found w)) →
      (have want list : List PlacedNla) → AllByRecursion (StandsIn s) list →
      AllBelow (length s) (flat_map (counted_unmets unmets have want) list)
  lasts_below unmets each have want [] stand = tt
  lasts_below unmets each have want (p ∷ more) stand =
      below_append (length s) (counted_unmets unmets have want p)
      (flat_map (counted_unmets unmets have want) more)
      (counted (counts want p))
      (lasts_below unmets each have want more stand.1)
    where
      counted : (b : Bool) →
          AllBelow (length s) (if b then unmets (last_like have p) p else [])
      counted true =
          below_raised (end_of p) (length s) (unmets (last_like have p) p)
          (omega (arith, stands_within s p stand.0)) (each (last_like have p) p)
      counted false = tt

  members_below : (family : Family) (alike : Attribute → Attribute → Bool)
      (have list : List PlacedNla) → AllByRecursion (StandsIn s) list →
      AllBelow (length s) (members_unmets family alike have list)
  members_below family alike have [] stand = tt
  members_below family alike have (p ∷ more) stand =
      let rest = members_below family alike have more stand.1 in
      elim (cases_Bool (list_any (is_like alike p) have)) [
        | inl met ↦ rw met rest
        | inr unmet ↦ rw unmet (omega (arith, stands_within s p stand.0), rest)
      ]

  attributes_below : (l : Listed) (unmets : PlacedNla → PlacedNla → List Unmet) →
      ((h w : PlacedNla) → AllBelow (end_of w) (unmets h w)) → (have : List PlacedNla) →
      AllBelow (length s) (attributes_unmets l unmets have (attributes_of s))
  attributes_below l unmets each have = by_kind l.is_set
    where
      by_kind : (b : Bool) → AllBelow (length s)
          (if b then members_unmets l.family l.alike have (attributes_of s)
          else lasts_unmets (found_unmets l.family unmets) have (attributes_of s))
      by_kind true = members_below l.family l.alike have (attributes_of s) (all_stand s)
      by_kind false =
          lasts_below (found_unmets l.family unmets) (found_below l.family unmets each) have
          (attributes_of s) (attributes_of s) (all_stand s)

pub payload_below : (c : Contents) (family : Family) (met : Bool) (have want : PlacedNla) →
    AllBelow (end_of want) (payload_unmets c family met have want)
payload_below (NoList place count) family met have want = item_below family met have want
payload_below (ListOf l inside) family met have want =
    by_kind l.is_whole
    (λ h w. payload_below (inside (masked w.nla.kind)) l.family (meets l.alike h.nla w.nla) h w)
  where
    unmets : PlacedNla → PlacedNla → List Unmet
    unmets h w =
        payload_unmets (inside (masked w.nla.kind)) l.family (meets l.alike h.nla w.nla) h w

    by_kind : (b : Bool) → ((h w : PlacedNla) → AllBelow (end_of w) (unmets h w)) →
        AllBelow (end_of want)
        (if b then item_unmets family met have want
        else map (inner_unmet want have)
        (attributes_unmets l unmets (attributes_of have.nla.value)
        (attributes_of want.nla.value)))
    by_kind true each = item_below family met have want
    by_kind false each =
        below_inside want have _
        (attributes_below want.nla.value l unmets each (attributes_of have.nla.value))

-- those of a payload that is a list are in it
pub list_below : (l : Listed) (inside : ℕ → Contents) (have want : List ℕ) →
    AllBelow (length want) (list_unmets l inside have want)
list_below l inside have want =
    attributes_below want l (attribute_unmets inside l.family l.alike)
    (λ h w.
    payload_below (inside (masked w.nla.kind)) l.family (meets l.alike h.nla w.nla) h w)
    (attributes_of have)

-- so none is at an offset after that, or later
pub none_at : (from n : ℕ) (list : List Unmet) → n ≤ from → AllBelow n list →
    first_at from list ≡ None
none_at from n [] le h = refl
none_at from n (u ∷ more) le h =
    let before : nat_le from u.want ≡ false = grind (arith, nat_tests, le, h.0) in
    rw before (none_at from n more le h.1)

pub none_after : (from : ℕ) (contents : ℕ → Contents) (family : Family)
    (alike : Attribute → Attribute → Bool) (found : Option PlacedNla) (w : PlacedNla) →
    end_of w ≤ from →
    first_at from (found_unmets family (attribute_unmets contents family alike) found w) ≡ None
none_after from contents family alike found w le =
    none_at from (end_of w) _ le
    (found_below family (attribute_unmets contents family alike)
    (λ h w.
    payload_below (contents (masked w.nla.kind)) family (meets alike h.nla w.nla) h w) found w)

-- ---- the first of all is the first one

from_zero : (n : ℕ) → nat_le 0 n ≡ true
from_zero n = grind (arith, nat_tests)

module _ (one other : Option PlacedNla → PlacedNla → Option Unmet)
    (same : (found : Option PlacedNla) (p : PlacedNla) → one found p ≡ other found p)
    (have want : List PlacedNla) where
  same_counted : (p : PlacedNla) →
      counted_unmet one have want p ≡ counted_unmet other have want p
  same_counted p =
      ap (λ (o : Option Unmet). if counts want p then o else None) (same (last_like have p) p)

  same_first : (list : List PlacedNla) →
      first_of (counted_unmet one have want) list ≡ first_of (counted_unmet other have want) list
  same_first [] = refl
  same_first (p ∷ more) =
      ap (λ (o : Option Unmet). first_or o (first_of (counted_unmet one have want) more))
      (same_counted p)
      ∙ ap (λ (o : Option Unmet). first_or (counted_unmet other have want p) o) (same_first more)

-- of the attributes of a list that count
pub lasts_first : (one : Option PlacedNla → PlacedNla → Option Unmet)
    (unmets : Option PlacedNla → PlacedNla → List Unmet) (have want : List PlacedNla) →
    ((found : Option PlacedNla) (p : PlacedNla) → first_at 0 (unmets found p) ≡ one found p) →
    first_at 0 (lasts_unmets unmets have want) ≡ lasts_unmet one have want
lasts_first one unmets have want same =
    sym (first_lasts 0 unmets have want)
    ∙ same_first (λ found p. first_at 0 (unmets found p)) one same have want want

members_first : (family : Family) (alike : Attribute → Attribute → Bool)
    (have list : List PlacedNla) →
    first_at 0 (members_unmets family alike have list) ≡ members_unmet family alike have list
members_first family alike have [] = refl
members_first family alike have (w ∷ more) =
    elim (cases_Bool (list_any (is_like alike w) have)) [
      | inl met ↦ rw met (members_first family alike have more)
      | inr unmet ↦ rw (unmet, from_zero w.offset) refl
    ]

found_first : (family : Family) (unmets : PlacedNla → PlacedNla → List Unmet)
    (unmet : PlacedNla → PlacedNla → Option Unmet) →
    ((h w : PlacedNla) → first_at 0 (unmets h w) ≡ unmet h w) → (found : Option PlacedNla)
    (w : PlacedNla) →
    first_at 0 (found_unmets family unmets found w) ≡ found_unmet family unmet found w
found_first family unmets unmet same None w = rw (from_zero w.offset) refl
found_first family unmets unmet same (Some h) w = same h w

pub item_first : (family : Family) (met : Bool) (have want : PlacedNla) →
    first_at 0 (item_unmets family met have want) ≡ item_unmet family met have want
item_first family true have want = refl
item_first family false have want = rw (from_zero want.offset) refl

attributes_first : (l : Listed) (unmets : PlacedNla → PlacedNla → List Unmet)
    (unmet : PlacedNla → PlacedNla → Option Unmet) →
    ((h w : PlacedNla) → first_at 0 (unmets h w) ≡ unmet h w) → (have want : List PlacedNla) →
    first_at 0 (attributes_unmets l unmets have want) ≡ attributes_unmet l unmet have want
attributes_first l unmets unmet same have want = by_kind l.is_set
  where
    by_kind : (b : Bool) →
        first_at 0 (if b then members_unmets l.family l.alike have want
        else lasts_unmets (found_unmets l.family unmets) have want)
        ≡ (if b then members_unmet l.family l.alike have want
        else lasts_unmet (found_unmet l.family unmet) have want)
    by_kind true = members_first l.family l.alike have want
    by_kind false =
        lasts_first (found_unmet l.family unmet) (found_unmets l.family unmets) have want
        (found_first l.family unmets unmet same)

payload_first : (c : Contents) (family : Family) (met : Bool) (have want : PlacedNla) →
    first_at 0 (payload_unmets c family met have want) ≡ payload_unmet c family met have want
payload_first (NoList place count) family met have want = item_first family met have want
payload_first (ListOf l inside) family met have want =
    by_kind l.is_whole
    (λ h w. payload_first (inside (masked w.nla.kind)) l.family (meets l.alike h.nla w.nla) h w)
  where
    unmets : PlacedNla → PlacedNla → List Unmet
    unmets h w =
        payload_unmets (inside (masked w.nla.kind)) l.family (meets l.alike h.nla w.nla) h w

    unmet : PlacedNla → PlacedNla → Option Unmet
    unmet h w =
        payload_unmet (inside (masked w.nla.kind)) l.family (meets l.alike h.nla w.nla) h w

    all : List Unmet
    all = attributes_unmets l unmets (attributes_of have.nla.value) (attributes_of want.nla.value)

    by_kind : (b : Bool) → ((h w : PlacedNla) → first_at 0 (unmets h w) ≡ unmet h w) →
        first_at 0 (if b then item_unmets family met have want
        else map (inner_unmet want have) all)
        ≡ (if b then item_unmet family met have want
        else option_map (inner_unmet want have)
        (attributes_unmet l unmet (attributes_of have.nla.value) (attributes_of want.nla.value)))
    by_kind true same = item_first family met have want
    by_kind false same =
        first_inside 0 want have all
        ∙ ap (λ (n : ℕ). option_map (inner_unmet want have) (first_at n all)) (omega arith)
        ∙ ap (option_map (inner_unmet want have))
        (attributes_first l unmets unmet same (attributes_of have.nla.value)
        (attributes_of want.nla.value))

pub list_first : (l : Listed) (inside : ℕ → Contents) (have want : List ℕ) →
    first_at 0 (list_unmets l inside have want) ≡ list_unmet l inside have want
list_first l inside have want =
    attributes_first l (attribute_unmets inside l.family l.alike)
    (attribute_unmet inside l.family l.alike)
    (λ h w. payload_first (inside (masked w.nla.kind)) l.family (meets l.alike h.nla w.nla) h w)
    (attributes_of have) (attributes_of want)
