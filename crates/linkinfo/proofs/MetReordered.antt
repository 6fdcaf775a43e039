-- Lists in another order meet one another.
use Rattle.std.specs.Prelude.{◌≡◌, ◌≢◌, ◌⊎◌, ℕ, ◌<◌, ◌^◌, ◌==◌, Bool, true, false, IsOk, IsTrue}
use Rattle.std.specs.Prelude.{if◌then◌else◌, List, [], ◌∷◌, Option, None, Some, map, length, refl}
use Rattle.std.specs.Prelude.{◌&&◌, IfSome, is_some}
use Rattle.std.specs.List.{AllByRecursion, Any, Contains, filter, last_or}
use Rattle.std.specs.List.Sorted.{IsPermutation}
use Rattle.std.specs.Option.{option_map}
use Rattle.std.proofs.Common.{arith, sym, ap, subst, ◌∙◌, inl, inr}
use Rattle.std.proofs.lemmas.Bool.{and_from, cases_Bool, eq-eqb, eqb-true}
use Rattle.std.proofs.lemmas.List.Folds.{list_any-from_Any}
use Rattle.std.proofs.lemmas.Bool.Decides.{nat_tests}
use Rattle.std.proofs.lemmas.List.Elements.{All-contains_itself, All-from_recursion, All-weaker}
use Rattle.std.proofs.lemmas.List.Elements.{recursion_from_All}
use Rattle.std.proofs.lemmas.List.Sorted.{Contains-permutation, IsPermutation-sym}
use Rattle.std.proofs.lemmas.Map.Keys.{IsDistinct-IsPermutation, IsDistinct-head, IsDistinct-tail}
use Rattle.nla_frame.specs.Attribute.{Attribute}
use Rattle.nla_frame.specs.Payload.{stripped}
use Rattle.linkinfo_table.proofs.Lasts.{last_holds}
use Rattle.linkinfo_data.specs.Data.{family_of}
use Rattle.linkinfo_data.specs.DataFamilies.{DataFamilies, DataTypes}
use Rattle.linkinfo_data.specs.Lists.{family_in}
use Rattle.linkinfo_data.specs.PortData.{port_family_of}
use Rattle.linkinfo_table.specs.Contents.{Contents, ListOf, Listed, NoList}
use Rattle.linkinfo_table.specs.Unmet.{list_unmet, meets}
use Rattle.linkinfo.specs.Met.{EachHasOneLike, HasNoTypeTwice, IsLikeIn, IsReorderedData}
use Rattle.linkinfo.specs.Met.{AttributeMeets, AttributesMeet, Chosen, ContentsMeet}
use Rattle.linkinfo.specs.Met.{IsReorderedList, IsReordering, Item, ItemMeets, LastsMeet, ListMeets}
use Rattle.linkinfo.specs.Met.{MembersMeet, RoleMeets, is_list, items_of, items_under, last_of}
use Rattle.linkinfo.specs.Met.{name_in_list, names_in_list, nlas_of, role_of_item, type_of}
use Rattle.linkinfo.specs.Met.{type_of_item}
use Rattle.linkinfo.specs.Roles.{role_of}
use Rattle.linkinfo.specs.Strings.{reading}
use Rattle.linkinfo.specs.Unmet.{Named, kinds_named, names_after, no_names, same_kind}
use Rattle.linkinfo.specs.Unmet.{strings_unmet}
use Rattle.linkinfo.specs.declared.role.CurrentKinds.{CurrentKinds}
use Rattle.linkinfo.specs.declared.role.Role.TheVariants as role
use Rattle.linkinfo.specs.declared.role.Role.{Role}
use Rattle.linkinfo.proofs.Meeting.{list_met, meets_equal, payload_equal, role_equal, string_met}
use Rattle.linkinfo.proofs.MetLasts.{AreBoth, all_weaker, both_meet, last_mapped, last_typed}
use Rattle.linkinfo.proofs.MetLasts.{same_named}
use Rattle.linkinfo.proofs.MetNames.{Agree, agree_at, agree_same, agree_then, agree_turned}
use Rattle.linkinfo.proofs.MetNames.{none_misplaced}
use Rattle.linkinfo.proofs.Unmets.{one_role}

-- ---- where no type is twice, each attribute is the last one of its type

abbrev TheLast : List Attribute → Attribute → Type 0
TheLast list a = last_of type_of (type_of a) list ≡ Some a

-- no attribute passes
none_passes : (test : Attribute → Bool) (before : Option Attribute) (list : List Attribute) →
    AllByRecursion (λ a. test a ≡ false) list → last_or before (filter test list) ≡ before
none_passes test before [] all = refl
none_passes test before (a ∷ more) all = rw all.0 (none_passes test before more all.1)

turned : (m n : ℕ) → (m == n) ≡ false → (n == m) ≡ false
turned m n e = grind (arith, nat_tests, e)

each_last : (list : List Attribute) → HasNoTypeTwice list → (before : Option Attribute) →
    AllByRecursion (λ a. last_or before (filter (λ b. type_of b == type_of a) list) ≡ Some a) list
each_last [] distinct before = tt
each_last (a ∷ more) distinct before =
    let same = λ (b c : Attribute). type_of b == type_of c in
    let others = IsDistinct-head same a more distinct in
    let rest = each_last more (IsDistinct-tail same a more distinct) before in
    let turned_others = all_weaker _ _ (λ b e. turned (type_of a) (type_of b) e) more others in (
      rw (eq-eqb (type_of a) (type_of a) refl)
          (none_passes (λ b. type_of b == type_of a) (Some a) more turned_others),
      later more others rest,
    )
  where
    later : (list : List Attribute) → AllByRecursion (λ b. (type_of a == type_of b) ≡ false) list →
        AllByRecursion
        (λ b. last_or before (filter (λ c. type_of c == type_of b) more) ≡ Some b) list →
        AllByRecursion
        (λ b. last_or before (filter (λ c. type_of c == type_of b) (a ∷ more)) ≡ Some b) list
    later [] other all = tt
    later (b ∷ rest) other all = (rw other.0 all.0, later rest other.1 all.1)

-- ---- a permutation is a reordering

flips : (m n : ℕ) → (m == n) ≡ (n == m)
flips m n =
    elim (cases_Bool (m == n)) [
      | inl is ↦ is ∙ sym (eq-eqb n m (sym (eqb-true m n is)))
      | inr other ↦ other ∙ sym (turned m n other)
    ]

module _ (IsLike : Attribute → Attribute → Type 0) (itself : (a : Attribute) → IsLike a a) where
  each_contained : (list other : List Attribute) →
      ((a : Attribute) → Contains list a → Contains other a) → EachHasOneLike IsLike list other
  each_contained list other contains =
      let HasOne = λ (a : Attribute). Any (λ b. (type_of b ≡ type_of a) × IsLike a b) other in
      recursion_from_All HasOne list
      (All-weaker (Contains list) HasOne
      (λ a c. let there = contains a c in (there.0, a, there.1, there.2, (refl, itself a))) list
      (All-contains_itself list))

pub permuted : (IsLike : Attribute → Attribute → Type 0) → ((a : Attribute) → IsLike a a) →
    (list other : List Attribute) → HasNoTypeTwice list → IsPermutation list other →
    IsReordering IsLike list other
permuted IsLike itself list other distinct moved =
    let same = λ (a b : Attribute). type_of a == type_of b in
    record {
      first = distinct;
      second =
          IsDistinct-IsPermutation same (λ a b. flips (type_of a) (type_of b)) list other moved
          distinct;
      forth =
          each_contained IsLike itself list other (λ a. Contains-permutation list other a moved);
      back =
          each_contained (λ b a. IsLike a b) itself other list
          (λ a. Contains-permutation other list a (IsPermutation-sym list other moved));
    }

-- ---- attributes like one another are found by their type

-- the one of this type
abbrev HasLast : (Attribute → Attribute → Type 0) → List Attribute → Attribute → Type 0
HasLast IsLike list a = (b : Attribute) × (last_of type_of (type_of a) list ≡ Some b) × IsLike a b

has_last : (IsLike : Attribute → Attribute → Type 0) (list : List Attribute) → HasNoTypeTwice list →
    (a : Attribute) → Any (λ b. (type_of b ≡ type_of a) × IsLike a b) list → HasLast IsLike list a
has_last IsLike list distinct a h =
    let at = All-from_recursion (TheLast list) list (each_last list distinct None) h.0 h.1 h.2 in
    let last : TheLast list h.1 = subst (TheLast list) h.3 at in
    (h.1, ap (λ (k : ℕ). last_of type_of k list) (sym h.4.0) ∙ last, h.4.1)

module _ (IsLike : Attribute → Attribute → Type 0) (list other : List Attribute)
    (order : IsReordering IsLike list other) where
  forth : AllByRecursion (HasLast IsLike other) list
  forth = all_weaker _ (HasLast IsLike other) (has_last IsLike other order.second) list order.forth

  back : AllByRecursion (HasLast (λ b a. IsLike a b) list) other
  back =
      all_weaker _ (HasLast (λ b a. IsLike a b) list)
      (has_last (λ b a. IsLike a b) list order.first)
      other order.back

  pub are_both : (k : ℕ) → AreBoth IsLike (last_of type_of k list) (last_of type_of k other)
  are_both k =
      go (last_of type_of k list) (last_of type_of k other) refl refl
      (last_typed type_of k list) (last_typed type_of k other)
      (last_holds (HasLast IsLike other) (λ a. type_of a == k) None list forth tt)
      (last_holds (HasLast (λ b a. IsLike a b) list) (λ a. type_of a == k) None other back tt)
    where
      there : {a b : Attribute} (o : Option Attribute) → o ≡ Some a → o ≡ Some b → a ≡ b
      there o e f = cc

      go : (o p : Option Attribute) → last_of type_of k list ≡ o → last_of type_of k other ≡ p →
          IfSome o (λ a. type_of a ≡ k) → IfSome p (λ b. type_of b ≡ k) →
          IfSome o (HasLast IsLike other) → IfSome p (HasLast (λ b a. IsLike a b) list) →
          AreBoth IsLike o p
      go None None o_is p_is o_type p_type o_has p_has = tt
      go (Some a) None o_is p_is o_type p_type o_has p_has =
          let found = ap (λ (n : ℕ). last_of type_of n other) (sym o_type) ∙ o_has.1 in
          absurd (let e : Some o_has.0 ≡ None = sym found ∙ p_is in cc)
      go None (Some b) o_is p_is o_type p_type o_has p_has =
          let found = ap (λ (n : ℕ). last_of type_of n list) (sym p_type) ∙ p_has.1 in
          absurd (let e : Some p_has.0 ≡ None = sym found ∙ o_is in cc)
      go (Some a) (Some b) o_is p_is o_type p_type o_has p_has =
          let found = ap (λ (n : ℕ). last_of type_of n other) (sym o_type) ∙ o_has.1 in
          let same : o_has.0 ≡ b = there (last_of type_of k other) found p_is in
          subst (IsLike a) same o_has.2

-- ---- data in another order

-- met both ways
abbrev MeetBoth : {X : Type 0} → (X → X → Type 0) → X → X → Type 0
MeetBoth Meets a b = Meets a b × Meets b a

turned_both : {X : Type 0} (R : X → X → Type 0) (o p : Option X) → AreBoth R o p →
    AreBoth (λ y x. R x y) p o
turned_both R None None both = tt
turned_both R (Some x) (Some y) both = both
turned_both R None (Some y) both = absurd both
turned_both R (Some x) None both = absurd both

-- lists of which the last ones meet both ways
both_lists : {X : Type 0} (type : X → ℕ) (R Meets : X → X → Type 0) →
    ((x y : X) → R x y → MeetBoth Meets x y) → (list other : List X) →
    ((k : ℕ) → AreBoth R (last_of type k list) (last_of type k other)) →
    LastsMeet type Meets list other × LastsMeet type Meets other list
both_lists type R Meets meets list other both = (
  λ k. both_meet R Meets (λ x y r. (meets x y r).0) (last_of type k list) (last_of type k other)
      (both k),
  λ k.
      both_meet (λ y x. R x y) Meets (λ y x r. (meets x y r).1) (last_of type k other)
      (last_of type k list)
      (turned_both R (last_of type k list) (last_of type k other) (both k)),
)

-- each attribute of a list has one of its type in another list with an equal payload
members_like : (alike : Attribute → Attribute → Bool) (have : List Attribute)
    (IsLike : Attribute → Attribute → Type 0) →
    ((w h : Attribute) → IsLike w h → w.value ≡ h.value) → (want : List Attribute) →
    EachHasOneLike IsLike want have → MembersMeet alike have want
members_like alike have IsLike equal [] each = tt
members_like alike have IsLike equal (w ∷ more) each =
    let h = each.0 in (
      list_any-from_Any (λ h. (type_of h == type_of w) && meets alike h w) have (
        h.0,
        h.1,
        h.2,
        h.3,
        and_from (type_of h.1 == type_of w) (meets alike h.1 w) (eq-eqb _ _ h.4.0)
            (meets_equal alike h.1 w (sym (equal w h.1 h.4.1))),
      ),
      members_like alike have IsLike equal more each.1,
    )

-- a list in another order, given that attributes meet those with an equal payload
attributes_reordered : (l : Listed) (Meets : Attribute → Attribute → Type 0) →
    ((a b : Attribute) → a.value ≡ b.value → Meets a b) → (p q : List ℕ) → IsReorderedData p q →
    AttributesMeet l Meets (nlas_of p) (nlas_of q) × AttributesMeet l Meets (nlas_of q) (nlas_of p)
attributes_reordered l Meets equal p q order = by_set l.is_set
  where
    by_set : (b : Bool) →
        Chosen b (MembersMeet l.alike (nlas_of p) (nlas_of q))
        (LastsMeet type_of Meets (nlas_of p) (nlas_of q))
        × Chosen b (MembersMeet l.alike (nlas_of q) (nlas_of p))
        (LastsMeet type_of Meets (nlas_of q) (nlas_of p))
    by_set true = (
      members_like l.alike (nlas_of p) (λ w h. h.value ≡ w.value) (λ w h e. sym e) (nlas_of q)
          order.back,
      members_like l.alike (nlas_of q) (λ w h. w.value ≡ h.value) (λ w h e. e) (nlas_of p)
          order.forth,
    )
    by_set false =
        both_lists type_of (λ a b. a.value ≡ b.value) Meets
        (λ a b e. (equal a b e, equal b a (sym e))) (nlas_of p) (nlas_of q)
        (are_both (λ a b. a.value ≡ b.value) (nlas_of p) (nlas_of q) order)

list_reordered : (l : Listed) (inside : ℕ → Contents) (p q : List ℕ) → IsReorderedData p q →
    ListMeets l inside p q × ListMeets l inside q p
list_reordered l inside p q order =
    attributes_reordered l (AttributeMeets inside l.alike)
    (λ a b e.
    payload_equal (inside (type_of b)) (meets l.alike a b) a b (meets_equal l.alike a b e) e) p q
    order

pub data_reordered : (l : Listed) (inside : ℕ → Contents) (p q : List ℕ) → IsReorderedData p q →
    (list_unmet l inside p q ≡ None) × (list_unmet l inside q p ≡ None)
data_reordered l inside p q order =
    let both = list_reordered l inside p q order in
    ((list_met l inside p q).1 both.0, (list_met l inside q p).1 both.1)

contents_reordered : (c : Contents) (met other : Bool) (a b : Attribute) →
    IsTrue (is_some (family_in c)) → IsReorderedData a.value b.value →
    ContentsMeet c met a b × ContentsMeet c other b a
contents_reordered (NoList place count) met other a b listed order = absurd cc
contents_reordered (ListOf l inside) met other a b listed order =
    list_reordered l inside a.value b.value order

-- ---- the names before an attribute of a list without a type twice

-- a name that is not current yet, or no longer, or is the one in the list
abbrev IsNameOf : Option (List ℕ) → Option (List ℕ) → Type 0
IsNameOf known name = (name ≡ None) ⊎ (name ≡ known)

record AreNamesOf (list : List Attribute) (names : Named) : Type 0 where
  kind : IsNameOf (name_in_list list 1) names.kind
  port : IsNameOf (name_in_list list 4) names.port

next_name : (c : Bool) (known name new : Option (List ℕ)) → (c ≡ true → new ≡ known) →
    IsNameOf known name → IsNameOf known (if c then new else name)
next_name true known name new f h = inr (f refl)
next_name false known name new f h = h

used_name : (c : Bool) (known name : Option (List ℕ)) → IsNameOf known name →
    IsNameOf known (if c then None else name)
used_name true known name h = inl refl
used_name false known name h = h

name_here : (list : List Attribute) (a : Attribute) (k : ℕ) → TheLast list a →
    (type_of a == k) ≡ true →
    Some (stripped a.value) ≡ name_in_list list k
name_here list a k last e =
    ap (option_map (λ b. stripped b.value))
    (sym (ap (λ (n : ℕ). last_of type_of n list) (sym (eqb-true (type_of a) k e)) ∙ last))

names_next : (list : List Attribute) (a : Attribute) → TheLast list a → (names : Named) →
    AreNamesOf list names → AreNamesOf list (names_after names a)
names_next list a last names h =
    let port = if type_of a == 5 then None else names.port in
    record {
      kind =
          next_name (type_of a == 1) (name_in_list list 1) names.kind (Some (stripped a.value))
          (name_here list a 1 last) h.kind;
      port =
          next_name (type_of a == 4) (name_in_list list 4) port (Some (stripped a.value))
          (name_here list a 4 last)
          (used_name (type_of a == 5) (name_in_list list 4) names.port h.port);
    }

items_named : (list rest : List Attribute) (names : Named) → AreNamesOf list names →
    AllByRecursion (TheLast list) rest →
    AllByRecursion (λ item. AreNamesOf list item.named) (items_under names rest)
items_named list [] names h all = tt
items_named list (a ∷ more) names h all =
    (h, items_named list more (names_after names a) (names_next list a all.0 names h) all.1)

-- ---- .. decide its role and what it belongs to

-- the names in the list decide as those before it do
abbrev IsSettled : Named → Named → ℕ → Type 0
IsSettled names known k =
    (role_of (kinds_named names) k ≡ role_of (kinds_named known) k)
    × Agree (role_of (kinds_named known) k) names known

settled : (names known : Named) (k : ℕ) → IsNameOf known.kind names.kind →
    IsNameOf known.port names.port → role_of (kinds_named names) k ≢ role.Misplaced →
    IsSettled names known k
settled names known k kind port placed =
    let r = role_of (kinds_named names) k in
    let agree = agree_at names names known k kind (λ _. port) in
    let is : role_of (kinds_named known) k ≡ r =
    one_role known names k placed (agree_same r known names (agree_turned r names known agree)) in
    (sym is, subst (λ (q : Role). Agree q names known) (sym is) agree)

module _ {L : DataTypes} (layer : DataFamilies L) where
  -- ---- the attributes of an accepted list

  abbrev Settled : List ℕ → Item → Type 0
  Settled s item = IsSettled item.named (names_in_list (nlas_of s)) (type_of_item item)

  all_settled : (s : List ℕ) → length s < 2 ^ 64 → IsOk (reading layer s) →
      HasNoTypeTwice (nlas_of s) → AllByRecursion (Settled s) (items_of s)
  all_settled s small ok distinct =
      zip (items_of s)
      (items_named (nlas_of s) (nlas_of s) no_names (record { kind = inl refl; port = inl refl })
      (each_last (nlas_of s) distinct None))
      (none_misplaced layer s small ok)
    where
      zip : (items : List Item) → AllByRecursion (λ item. AreNamesOf (nlas_of s) item.named) items →
          AllByRecursion (λ item. role_of_item item ≢ role.Misplaced) items →
          AllByRecursion (Settled s) items
      zip [] names placed = tt
      zip (item ∷ more) names placed =
          let known = names_in_list (nlas_of s) in (
            settled item.named known (type_of_item item) names.0.kind names.0.port placed.0,
            zip more names.1 placed.1,
          )

  -- ---- attributes like one another meet

  like_meets : (r : Role) (a b : Attribute) →
      (a.value ≡ b.value) ⊎ (IsTrue (is_list layer r) × IsReorderedData a.value b.value) →
      MeetBoth (RoleMeets layer r) a b
  like_meets r a b (inl e) = (role_equal layer r a b e, role_equal layer r b a (sym e))
  like_meets (role.Data tag) a b (inr h) =
      contents_reordered (layer.data_of (family_of tag)).contents _ _ a b h.0 h.1
  like_meets (role.PortData tag) a b (inr h) =
      contents_reordered (layer.port_data_of (port_family_of tag)).contents _ _ a b h.0 h.1
  like_meets r a b (inr h) = absurd (let e = h.0 in cc)

  item_meets : (r : Role) (known : Named) (x y : Item) → role_of_item y ≡ r →
      Agree r x.named known →
      Agree r y.named known → RoleMeets layer r x.nla y.nla → ItemMeets layer x y
  item_meets r known x y is had wanted meets =
      record {
        kind =
            subst (λ (q : Role). IsTrue (same_kind q x.named y.named)) (sym is)
            (agree_same r x.named y.named
            (agree_then r x.named known y.named had (agree_turned r y.named known wanted)));
        payload = subst (λ (q : Role). RoleMeets layer q x.nla y.nla) (sym is) meets;
      }

  items_meet : (list other : List Attribute) (x y : Item) →
      names_in_list other ≡ names_in_list list → type_of_item y ≡ type_of_item x →
      IsSettled x.named (names_in_list list) (type_of_item x) →
      IsSettled y.named (names_in_list other) (type_of_item y) →
      IsLikeIn layer list x.nla y.nla → MeetBoth (ItemMeets layer) x y
  items_meet list other x y named typed first second like =
      let known = names_in_list list in
      let r = role_of (kinds_named known) (type_of_item x) in
      let too : IsSettled y.named known (type_of_item x) =
      let Q = λ (k : ℕ). IsSettled y.named known k in
      let there : IsSettled y.named known (type_of_item y) =
      subst (λ (n : Named). IsSettled y.named n (type_of_item y)) named second in
      subst Q typed there in
      let is : role_of_item y ≡ r =
      ap (λ (k : ℕ). role_of (kinds_named y.named) k) typed ∙ too.0 in
      let both = like_meets r x.nla y.nla like in (
        item_meets r known x y is first.1 too.1 both.0,
        item_meets r known y x first.0 too.1 first.1 both.1,
      )

  -- ---- lists in another order

  name_same : (list other : List Attribute) (k : ℕ) →
      is_list layer (role_of (kinds_named (names_in_list list)) k) ≡ false →
      IsReordering (IsLikeIn layer list) list other →
      name_in_list other k ≡ name_in_list list k
  name_same list other k plain order =
      go (last_of type_of k list) (last_of type_of k other) (last_typed type_of k list)
      (are_both (IsLikeIn layer list) list other order k)
    where
      go : (o p : Option Attribute) → IfSome o (λ a. type_of a ≡ k) →
          AreBoth (IsLikeIn layer list) o p →
          option_map (λ a. stripped a.value) p ≡ option_map (λ a. stripped a.value) o
      go None None typed both = refl
      go (Some a) (Some b) typed (inl e) = ap (λ (v : List ℕ). Some (stripped v)) (sym e)
      go (Some a) (Some b) typed (inr h) =
          let listed =
          subst
          (λ (n : ℕ). IsTrue (is_list layer (role_of (kinds_named (names_in_list list)) n)))
          typed h.0 in
          absurd (let e : true ≡ false = sym listed ∙ plain in cc)
      go None (Some b) typed both = absurd both
      go (Some a) None typed both = absurd both

  plain_one : (t : CurrentKinds) → is_list layer (role_of t 1) ≡ false
  unfolding role_of
  plain_one t = refl

  plain_four : (t : CurrentKinds) → is_list layer (role_of t 4) ≡ false
  unfolding role_of
  plain_four t = refl

  names_same : (list other : List Attribute) → IsReordering (IsLikeIn layer list) list other →
      names_in_list other ≡ names_in_list list
  names_same list other order =
      let t = kinds_named (names_in_list list) in
      same_named (names_in_list other) (names_in_list list)
      (name_same list other 1 (plain_one t) order) (name_same list other 4 (plain_four t) order)

  items_nlas : (names : Named) (list : List Attribute) →
      map (λ item. item.nla) (items_under names list) ≡ list
  items_nlas names [] = refl
  items_nlas names (a ∷ more) =
      ap (λ (list : List Attribute). a ∷ list) (items_nlas (names_after names a) more)

  last_nla : (s : List ℕ) (k : ℕ) →
      option_map (λ item. item.nla) (last_of type_of_item k (items_of s))
      ≡ last_of type_of k (nlas_of s)
  last_nla s k =
      last_mapped (λ item. item.nla) (λ a. type_of a == k) None (items_of s)
      ∙ ap (λ (list : List Attribute). last_of type_of k list) (items_nlas no_names (nlas_of s))

  module _ (s t : List ℕ) (s_small : length s < 2 ^ 64) (t_small : length t < 2 ^ 64)
      (s_ok : IsOk (reading layer s)) (t_ok : IsOk (reading layer t))
      (order : IsReorderedList layer s t) where
    last_both : (k : ℕ) →
        AreBoth (MeetBoth (ItemMeets layer)) (last_of type_of_item k (items_of s))
        (last_of type_of_item k (items_of t))
    last_both k =
        let o = last_of type_of_item k (items_of s) in
        let p = last_of type_of_item k (items_of t) in
        let test = λ (item : Item). type_of_item item == k in
        go o p (last_typed type_of_item k (items_of s)) (last_typed type_of_item k (items_of t))
        (last_holds (Settled s) test None (items_of s) (all_settled s s_small s_ok order.first) tt)
        (last_holds (Settled t) test None (items_of t) (all_settled t t_small t_ok order.second) tt)
        (rw (last_nla s k, last_nla t k)
        (are_both (IsLikeIn layer (nlas_of s)) (nlas_of s) (nlas_of t) order k))
      where
        go : (o p : Option Item) → IfSome o (λ x. type_of_item x ≡ k) →
            IfSome p (λ y. type_of_item y ≡ k) → IfSome o (Settled s) → IfSome p (Settled t) →
            AreBoth (IsLikeIn layer (nlas_of s)) (option_map (λ item. item.nla) o)
            (option_map (λ item. item.nla) p) →
            AreBoth (MeetBoth (ItemMeets layer)) o p
        go None None first second had wanted like = tt
        go (Some x) (Some y) first second had wanted like =
            items_meet (nlas_of s) (nlas_of t) x y (names_same (nlas_of s) (nlas_of t) order)
            (second ∙ sym first) had wanted like
        go None (Some y) first second had wanted like = absurd like
        go (Some x) None first second had wanted like = absurd like

    pub reordered_met : (strings_unmet layer s t ≡ None) × (strings_unmet layer t s ≡ None)
    reordered_met =
        let Meets = ItemMeets layer in
        let both =
        both_lists type_of_item (MeetBoth Meets) Meets (λ x y m. m) (items_of s) (items_of t)
        last_both in
        ((string_met layer s t).1 both.0, (string_met layer t s).1 both.1)
