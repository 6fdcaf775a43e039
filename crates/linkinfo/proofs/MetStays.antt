-- What is met stays met where attributes of other types are added.
use Rattle.std.specs.Prelude.{◌≡◌, ◌⊎◌, ℕ, ◌==◌, ◌&&◌, Bool, true, false, if◌then◌else◌, List, []}
use Rattle.std.specs.Prelude.{◌∷◌, Option, None, Some, refl, IfSome}
use Rattle.std.specs.List.{AllByRecursion, AllZip, filter, list_any}
use Rattle.std.proofs.lemmas.List.Folds.{Any-from_list_any, list_any-from_Any}
use Rattle.std.proofs.Common.{ap, inl, inr, subst, sym, ◌∙◌}
use Rattle.std.proofs.lemmas.Bool.{cases_Bool, eq-eqb, eqb-true}
use Rattle.nla_frame.specs.Attribute.{Attribute}
use Rattle.nla_frame.specs.Payload.{stripped}
use Rattle.linkinfo_table.proofs.Lasts.{last_holds}
use Rattle.linkinfo_data.specs.DataFamilies.{DataFamilies, DataTypes}
use Rattle.linkinfo_table.specs.Contents.{Contents, Listed}
use Rattle.linkinfo_table.specs.Unmet.{list_unmet, meets}
use Rattle.linkinfo.specs.Met.{AttributeMeets, AttributesMeet, AttributesStay, Chosen}
use Rattle.linkinfo.specs.Met.{DifferElsewhere, HaveAll, HaveSameLasts, IsMet, Item, ItemMeets}
use Rattle.linkinfo.specs.Met.{LastsMeet, MembersMeet, RoleMeets}
use Rattle.linkinfo.specs.Met.{has_type, items_of, items_under, last_of, nlas_of, role_of_item}
use Rattle.linkinfo.specs.Met.{type_of, type_of_item}
use Rattle.linkinfo.specs.Unmet.{Named, names_after, no_names, strings_unmet}
use Rattle.linkinfo.proofs.Meeting.{list_met, or_first, or_second, string_met}
use Rattle.linkinfo.proofs.MetLasts.{AreBoth, all_weaker, last_kept, last_pair, last_typed}
use Rattle.linkinfo.proofs.MetNames.{agree_at, agree_kind}

-- what holds by the type of each element holds by that of the last one
by_last_type : {X : Type 0} (type : X → ℕ) (Q : ℕ → Type 0) (k : ℕ) (list : List X) →
    AllByRecursion (λ x. Q (type x)) list → IfSome (last_of type k list) (λ _. Q k)
by_last_type {X = X} type Q k list all =
    go (last_of type k list) (last_typed type k list)
    (last_holds (λ x. Q (type x)) (λ x. type x == k) None list all tt)
  where
    go : (o : Option X) → IfSome o (λ x. type x ≡ k) → IfSome o (λ x. Q (type x)) →
        IfSome o (λ _. Q k)
    go None typed holds = tt
    go (Some x) typed holds = subst Q typed holds

-- ---- data

option_data : (Meets : Attribute → Attribute → Type 0) (h m w : Option Attribute) →
    IfSome w (λ _. m ≡ h) → IsMet Meets h w → IsMet Meets m w
option_data Meets h m None is met = tt
option_data Meets h m (Some w) is met =
    subst (λ (o : Option Attribute). IsMet Meets o (Some w)) (sym is) met

lasts_stay : (Meets : Attribute → Attribute → Type 0) (have more want : List ℕ) →
    HaveSameLasts want have more → LastsMeet type_of Meets (nlas_of have) (nlas_of want) →
    LastsMeet type_of Meets (nlas_of more) (nlas_of want)
lasts_stay Meets have more want same met = λ k.
    option_data Meets (last_of type_of k (nlas_of have)) (last_of type_of k (nlas_of more))
    (last_of type_of k (nlas_of want))
    (by_last_type type_of
    (λ n. last_of type_of n (nlas_of more) ≡ last_of type_of n (nlas_of have)) k
    (nlas_of want) same)
    (met k)

-- a list with all attributes of another one has one that passes
any_stays : (test : Attribute → Bool) (have more : List ℕ) → HaveAll have more →
    list_any test (nlas_of have) ≡ true → list_any test (nlas_of more) ≡ true
any_stays test have more all e =
    let h = Any-from_list_any test (nlas_of have) e in
    let there = all h.1 (h.0, h.2, h.3) in
    list_any-from_Any test (nlas_of more) (there.0, h.1, there.1, there.2, h.4)

members_stay : (alike : Attribute → Attribute → Bool) (have more : List ℕ) → HaveAll have more →
    (want : List Attribute) → MembersMeet alike (nlas_of have) want →
    MembersMeet alike (nlas_of more) want
members_stay alike have more all [] met = tt
members_stay alike have more all (w ∷ rest) met = (
  any_stays (λ h. (type_of h == type_of w) && meets alike h w) have more all met.0,
  members_stay alike have more all rest met.1,
)

pub attributes_stay : (l : Listed) (Meets : Attribute → Attribute → Type 0)
    (have more want : List ℕ) → AttributesStay l want have more →
    AttributesMeet l Meets (nlas_of have) (nlas_of want) →
    AttributesMeet l Meets (nlas_of more) (nlas_of want)
attributes_stay l Meets have more want stay met = go l.is_set stay met
  where
    go : (b : Bool) → Chosen b (HaveAll have more) (HaveSameLasts want have more) →
        Chosen b (MembersMeet l.alike (nlas_of have) (nlas_of want))
        (LastsMeet type_of Meets (nlas_of have) (nlas_of want)) →
        Chosen b (MembersMeet l.alike (nlas_of more) (nlas_of want))
        (LastsMeet type_of Meets (nlas_of more) (nlas_of want))
    go true all met = members_stay l.alike have more all (nlas_of want) met
    go false same met = lasts_stay Meets have more want same met

pub data_stays : (l : Listed) (inside : ℕ → Contents) (have more want : List ℕ) →
    AttributesStay l want have more → list_unmet l inside have want ≡ None →
    list_unmet l inside more want ≡ None
data_stays l inside have more want stay e =
    (list_met l inside more want).1
    (attributes_stay l (AttributeMeets inside l.alike) have more want stay
    ((list_met l inside have want).0 e))

-- ---- the names that matter to a list

-- each attribute is one of the list
one_of_them : (list : List Attribute) → AllByRecursion (λ a. has_type list (type_of a) ≡ true) list
one_of_them [] = tt
one_of_them (a ∷ more) = (
  or_first _ _ (eq-eqb (type_of a) (type_of a) refl),
  all_weaker _ _ (λ b e. or_second (type_of a == type_of b) _ e) more (one_of_them more),
)

-- a name is not current, or the list has an attribute with it
abbrev IsUsed : List Attribute → ℕ → Option (List ℕ) → Type 0
IsUsed want k name = (name ≡ None) ⊎ (has_type want k ≡ true)

record AreUsed (want : List Attribute) (names : Named) : Type 0 where
  kind : IsUsed want 1 names.kind
  port : IsUsed want 4 names.port

used_here : (want : List Attribute) (a : Attribute) (k : ℕ) (name : Option (List ℕ)) →
    has_type want (type_of a) ≡ true → IsUsed want k name →
    IsUsed want k (if type_of a == k then Some (stripped a.value) else name)
used_here want a k name here h =
    elim (cases_Bool (type_of a == k)) [
      | inl is ↦ inr (subst (λ (n : ℕ). has_type want n ≡ true) (eqb-true (type_of a) k is) here)
      | inr other ↦ rw other h
    ]

not_used : (want : List Attribute) (c : Bool) (k : ℕ) (name : Option (List ℕ)) →
    IsUsed want k name →
    IsUsed want k (if c then None else name)
not_used want true k name h = inl refl
not_used want false k name h = h

used_next : (want : List Attribute) (a : Attribute) → has_type want (type_of a) ≡ true →
    (names : Named) → AreUsed want names → AreUsed want (names_after names a)
used_next want a here names h = record {
  kind = used_here want a 1 names.kind here h.kind;
  port =
      used_here want a 4 (if type_of a == 5 then None else names.port) here
      (not_used want (type_of a == 5) 4 names.port h.port);
}

-- what is known of each attribute of a list
record IsWanted (want : List Attribute) (item : Item) : Type 0 where
  here : has_type want (type_of_item item) ≡ true
  named : AreUsed want item.named

all_wanted : (want list : List Attribute) (names : Named) → AreUsed want names →
    AllByRecursion (λ a. has_type want (type_of a) ≡ true) list →
    AllByRecursion (IsWanted want) (items_under names list)
all_wanted want [] names h all = tt
all_wanted want (a ∷ more) names h all = (
  record { here = all.0; named = h },
  all_wanted want more (names_after names a) (used_next want a all.0 names h) all.1,
)

-- ---- .. are the same where others are left out

record HaveSameNames (want : List Attribute) (m n : Named) : Type 0 where
  kind : has_type want 1 ≡ true → m.kind ≡ n.kind
  port : has_type want 4 ≡ true → has_type want 5 ≡ true → m.port ≡ n.port

record AreSame (want : List Attribute) (x y : Item) : Type 0 where
  nla : x.nla ≡ y.nla
  named : HaveSameNames want x.named y.named

-- the same way, or not this way
both_ifs : {A : Type 0} (c : Bool) (x y z : A) → y ≡ z → (if c then x else y) ≡ (if c then x else z)
both_ifs true x y z e = refl
both_ifs false x y z e = e

not_if : {A : Type 0} (c : Bool) (x y z : A) → c ≡ false → y ≡ z → (if c then x else y) ≡ z
not_if true x y z off e = absurd cc
not_if false x y z off e = e

kept_names : (want : List Attribute) (a : Attribute) (m n : Named) → HaveSameNames want m n →
    HaveSameNames want (names_after m a) (names_after n a)
kept_names want a m n h = record {
  kind = λ one. both_ifs (type_of a == 1) _ m.kind n.kind (h.kind one);
  port = λ four five.
      both_ifs (type_of a == 4) _ _ _
      (both_ifs (type_of a == 5) None m.port n.port (h.port four five));
}

other_type : (want : List Attribute) (a : Attribute) (k : ℕ) → has_type want (type_of a) ≡ false →
    has_type want k ≡ true → (type_of a == k) ≡ false
other_type want a k left there =
    elim (cases_Bool (type_of a == k)) [
      | inl is ↦
          let same : has_type want (type_of a) ≡ has_type want k =
          ap (has_type want) (eqb-true (type_of a) k is) in
          absurd (let e : true ≡ false = sym there ∙ (sym same ∙ left) in cc)
      | inr other ↦ other
    ]

left_names : (want : List Attribute) (a : Attribute) → has_type want (type_of a) ≡ false →
    (m n : Named) → HaveSameNames want m n → HaveSameNames want (names_after m a) n
left_names want a left m n h = record {
  kind = λ one. not_if (type_of a == 1) _ m.kind n.kind (other_type want a 1 left one) (h.kind one);
  port = λ four five.
      not_if (type_of a == 4) _ _ n.port (other_type want a 4 left four)
      (not_if (type_of a == 5) None m.port n.port (other_type want a 5 left five)
      (h.port four five));
}

kept_pairs : (want : List Attribute) (m n : Named) (list : List Attribute) →
    HaveSameNames want m n →
    AllZip (AreSame want) (filter (λ item. has_type want (type_of_item item)) (items_under m list))
    (items_under n (filter (λ a. has_type want (type_of a)) list))
kept_pairs want m n [] h = tt
kept_pairs want m n (a ∷ more) h =
    elim (cases_Bool (has_type want (type_of a))) [
      | inl kept ↦
          rw kept (
            record { nla = refl; named = h },
            kept_pairs want (names_after m a) (names_after n a) more (kept_names want a m n h),
          )
      | inr left ↦
          rw left (kept_pairs want (names_after m a) n more (left_names want a left m n h))
    ]

-- the last one of a type of the list
kept_last : (want : List Attribute) (k : ℕ) → has_type want k ≡ true → (s : List ℕ) →
    AreBoth (AreSame want) (last_of type_of_item k (items_of s))
    (last_of type_of_item k
    (items_under no_names (filter (λ a. has_type want (type_of a)) (nlas_of s))))
kept_last want k there s =
    let test = λ (item : Item). type_of_item item == k in
    let keep = λ (item : Item). has_type want (type_of_item item) in
    let list = filter (λ a. has_type want (type_of a)) (nlas_of s) in
    rw (last_kept keep test kept None (items_of s))
    (last_pair (AreSame want) test (λ x y same. ap (λ (a : Attribute). type_of a == k) same.nla)
    None None tt (filter keep (items_of s)) (items_under no_names list)
    (kept_pairs want no_names no_names (nlas_of s)
    (record { kind = λ one. refl; port = λ four five. refl })))
  where
    kept : (x : Item) → (type_of_item x == k) ≡ true → has_type want (type_of_item x) ≡ true
    kept x e = subst (λ (n : ℕ). has_type want n ≡ true) (sym (eqb-true (type_of_item x) k e)) there

-- ---- the list

module _ {L : DataTypes} (layer : DataFamilies L) where
  -- an attribute of the same payload, that belongs to the same where it matters
  item_stays : (want : List Attribute) (h m kept w : Item) → AreSame want h kept →
      AreSame want m kept → IsWanted want w → ItemMeets layer h w → ItemMeets layer m w
  item_stays want h m kept w had more wanted met =
      let r = role_of_item w in
      let nla : h.nla ≡ m.nla = had.nla ∙ sym more.nla in
      let kind : (w.named.kind ≡ None) ⊎ (m.named.kind ≡ h.named.kind) =
      elim wanted.named.kind [
        | inl none ↦ inl none
        | inr one ↦ inr (more.named.kind one ∙ sym (had.named.kind one))
      ] in
      let port : type_of_item w ≡ 5 → (w.named.port ≡ None) ⊎ (m.named.port ≡ h.named.port) =
      λ is.
      let five : has_type want 5 ≡ true =
      subst (λ (n : ℕ). has_type want n ≡ true) is wanted.here in
      elim wanted.named.port [
        | inl none ↦ inl none
        | inr four ↦ inr (more.named.port four five ∙ sym (had.named.port four five))
      ] in
      record {
        kind =
            agree_kind r m.named h.named w.named
            (agree_at w.named m.named h.named (type_of_item w) kind port) met.kind;
        payload = subst (λ (a : Attribute). RoleMeets layer r a w.nla) nla met.payload;
      }

  option_stays : (want : List Attribute) (h m kept w : Option Item) →
      IfSome w (λ _. AreBoth (AreSame want) h kept × AreBoth (AreSame want) m kept) →
      IfSome w (IsWanted want) → IsMet (ItemMeets layer) h w → IsMet (ItemMeets layer) m w
  option_stays want h m kept None same wanted met = tt
  option_stays want None m kept (Some w) same wanted met = absurd met
  option_stays want (Some h) m None (Some w) same wanted met = absurd same.0
  option_stays want (Some h) None (Some x) (Some w) same wanted met = absurd same.1
  option_stays want (Some h) (Some m) (Some x) (Some w) same wanted met =
      item_stays want h m x w same.0 same.1 wanted met

  module _ (have more want : List ℕ) (same : DifferElsewhere want have more) where
    abbrev wanted : List Attribute
    wanted = nlas_of want

    abbrev kept : List Item
    kept = items_under no_names (filter (λ a. has_type wanted (type_of a)) (nlas_of have))

    abbrev Same : ℕ → Type 0
    Same k =
        AreBoth (AreSame wanted) (last_of type_of_item k (items_of have))
        (last_of type_of_item k kept)
        × AreBoth (AreSame wanted) (last_of type_of_item k (items_of more))
        (last_of type_of_item k kept)

    both_same : (k : ℕ) → has_type wanted k ≡ true → Same k
    both_same k there = (
      kept_last wanted k there have,
      subst
          (λ (list : List Attribute).
          AreBoth (AreSame wanted) (last_of type_of_item k (items_of more))
          (last_of type_of_item k (items_under no_names list)))
          same (kept_last wanted k there more),
    )

    each : AllByRecursion (IsWanted wanted) (items_of want)
    each =
        all_wanted wanted wanted no_names (record { kind = inl refl; port = inl refl })
        (one_of_them wanted)

    last_same : (k : ℕ) → IfSome (last_of type_of_item k (items_of want)) (λ _. Same k)
    last_same k =
        by_last_type type_of_item (λ n. Same n) k (items_of want)
        (all_weaker (IsWanted wanted) (λ item. Same (type_of_item item))
        (λ item w. both_same (type_of_item item) w.here) (items_of want) each)

    pub string_stays :
        strings_unmet layer have want ≡ None → strings_unmet layer more want ≡ None
    string_stays e =
        (string_met layer more want).1 (λ k.
        option_stays wanted (last_of type_of_item k (items_of have))
        (last_of type_of_item k (items_of more)) (last_of type_of_item k kept)
        (last_of type_of_item k (items_of want)) (last_same k)
        (last_holds (IsWanted wanted) (λ item. type_of_item item == k) None (items_of want) each tt)
        ((string_met layer have want).0 e k))
