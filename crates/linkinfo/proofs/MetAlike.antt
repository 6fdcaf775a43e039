-- Equivalent lists meet one another.
use Rattle.std.specs.Prelude.{◌≡◌, ℕ, ◌+◌, ◌==◌, ◌&&◌, Bool, true, false, if◌then◌else◌, IsOk}
use Rattle.std.specs.Prelude.{List, [], ◌∷◌, None, Some, Result, Ok, Err, map}
use Rattle.std.specs.Prelude.{is_ok, length, refl}
use Rattle.std.specs.List.{AllZip, list_any}
use Rattle.std.specs.Str.{bytes_eq}
use Rattle.std.proofs.Common.{sym, ap, subst, ◌∙◌}
use Rattle.std.proofs.lemmas.Bool.{and_from, and_parts, eq-eqb, eqb-true}
use Rattle.std.proofs.lemmas.Slice.Eq.{bytes_eq-Decides}
use Rattle.nla_frame.specs.Attribute.{Attribute, IsBytes, aligned, masked}
use Rattle.nla_frame.specs.Payload.{stripped}
use Rattle.nla_frame.specs.NlaItems.{nla_items}
use Rattle.nla_frame.specs.declared.error.DecodeError.{DecodeError}
use Rattle.linkinfo_table.specs.Last.{attributes_of, placed_from}
use Rattle.linkinfo_table.specs.EachAttribute.{both_parts}
use Rattle.linkinfo_table.specs.Rows.{alike_in, row_alike}
use Rattle.linkinfo_data.specs.Data.{family_of}
use Rattle.linkinfo_data.specs.DataFamilies.{DataFamilies, DataTypes}
use Rattle.linkinfo_data.specs.Lawful.{AreLawful}
use Rattle.linkinfo_data.specs.PortData.{port_family_of}
use Rattle.linkinfo_table.specs.Contents.{
  Contents,
  HasOneType,
  IsContent,
  IsPayloadContent,
  ListOf,
  Listed,
  NoList,
}
use Rattle.linkinfo_table.specs.Lists.{alike_pairs}
use Rattle.linkinfo_table.specs.Unmet.{meets}
use Rattle.linkinfo_data.specs.Payloads.{IsLawful, Payload}
use Rattle.linkinfo.specs.Items.{link_alike, link_meaning, link_row}
use Rattle.linkinfo.specs.Met.{AttributeMeets, ContentsMeet, DataMeets, Item, ItemMeets}
use Rattle.linkinfo.specs.Met.{ListMeets, MembersMeet, PayloadMeets, RoleMeets}
use Rattle.linkinfo.specs.Met.{items_of, items_under}
use Rattle.linkinfo.specs.Met.{nlas_of, role_of_item, type_of, type_of_item}
use Rattle.linkinfo.specs.Roles.{role_of}
use Rattle.linkinfo.specs.Strings.{alike_from, alike_strings, next_kinds, reading, values_from}
use Rattle.linkinfo.specs.Unmet.{Named, kinds_named, names_after, no_names, strings_unmet}
use Rattle.linkinfo.specs.Layered.{LinkOf}
use Rattle.linkinfo.specs.declared.role.CurrentKinds.{CurrentKinds}
use Rattle.linkinfo.specs.declared.role.Role.TheVariants as role
use Rattle.linkinfo.specs.declared.role.Role.{Role}
use Rattle.linkinfo.proofs.Items.{role_alike_after}
use Rattle.linkinfo.proofs.Meeting.{chosen, or_first, or_second, same_names, string_met}
use Rattle.linkinfo.proofs.MetLasts.{pairs_meet, same_named}
use Rattle.linkinfo.proofs.Unmets.{under_next}
use Rattle.linkinfo.proofs.Whole.{strings_alike}

-- ---- equivalent lists are equivalent in pairs

abbrev ArePair : (Attribute → Attribute → Bool) → Attribute → Attribute → Type 0
ArePair alike a b = (type_of a ≡ type_of b) × (alike a b ≡ true)

pairs_are : (alike : Attribute → Attribute → Bool) → HasOneType alike →
    (ps qs : List (Result Attribute ℕ)) (m n : ℕ) → alike_pairs alike ps qs ≡ true →
    AllZip (ArePair alike) (map (λ p. p.nla) (placed_from m ps))
    (map (λ p. p.nla) (placed_from n qs))
pairs_are alike typed [] [] m n e = tt
pairs_are alike typed [] (y ∷ ys) m n e = absurd cc
pairs_are alike typed ((Ok a) ∷ xs) [] m n e = absurd cc
pairs_are alike typed ((Err k) ∷ xs) [] m n e = absurd cc
pairs_are alike typed ((Ok a) ∷ xs) ((Ok b) ∷ ys) m n e =
    let h = and_parts (alike a b) (alike_pairs alike xs ys) e in
    ((typed a b h.0, h.0), pairs_are alike typed xs ys _ _ h.1)
pairs_are alike typed ((Ok a) ∷ xs) ((Err k) ∷ ys) m n e = absurd cc
pairs_are alike typed ((Err k) ∷ xs) (y ∷ ys) m n e = absurd cc

-- each attribute of the second list has one like it in the first, at its place
zip_members : (alike : Attribute → Attribute → Bool) (all have want : List Attribute) →
    ((test : Attribute → Bool) → list_any test have ≡ true → list_any test all ≡ true) →
    AllZip (ArePair alike) have want → MembersMeet alike all want
zip_members alike all [] [] f each = tt
zip_members alike all [] (w ∷ more) f each = absurd each
zip_members alike all (h ∷ rest) [] f each = tt
zip_members alike all (h ∷ rest) (w ∷ more) f each =
    let here =
    and_from (type_of h == type_of w) (meets alike h w)
    (eq-eqb (type_of h) (type_of w) each.0.0)
    (or_second (bytes_eq h.value w.value) (alike h w) each.0.1) in (
      f (λ x. (type_of x == type_of w) && meets alike x w) (or_first _ _ here),
      zip_members alike all rest more (λ test e. f test (or_second (test h) _ e)) each.1,
    )

-- equivalent lists meet, given that equivalent attributes of one type do
alike_list : (l : Listed) (inside : ℕ → Contents) → HasOneType l.alike →
    ((x y : Attribute) → ArePair l.alike x y → AttributeMeets inside l.alike x y) →
    (p q : List ℕ) → alike_pairs l.alike (nla_items p) (nla_items q) ≡ true →
    ListMeets l inside p q
unfolding attributes_of
alike_list l inside one_type each p q e =
    let pairs : AllZip (ArePair l.alike) (nlas_of p) (nlas_of q) =
    pairs_are l.alike one_type (nla_items p) (nla_items q) 0 0 e in
    chosen l.is_set
    (zip_members l.alike (nlas_of p) (nlas_of p) (nlas_of q) (λ test t. t) pairs)
    (pairs_meet type_of (ArePair l.alike) (AttributeMeets inside l.alike) (λ x y r. r.0) each
    (nlas_of p) (nlas_of q) pairs)

alike_contents : (c : Contents) (n : ℕ) (accepts : Attribute → Bool)
    (alike : Attribute → Attribute → Bool) (a b : Attribute) → IsContent c n accepts alike →
    type_of a ≡ n → alike a b ≡ true → PayloadMeets c (meets alike a b) a b
alike_contents (NoList place count) n accepts alike a b law at e =
    or_second (bytes_eq a.value b.value) (alike a b) e
alike_contents (ListOf l inside) n accepts alike a b law at e =
    let pairs =
    (and_parts (masked b.kind == masked a.kind)
    (alike_pairs l.alike (nla_items a.value) (nla_items b.value)) (sym (law.1 a b at) ∙ e)).1 in
    chosen l.is_whole (or_second (bytes_eq a.value b.value) (alike a b) e)
    (alike_list l inside law.2
    (λ x y r.
    alike_contents (inside (type_of y)) (type_of y) l.accepts l.alike x y (law.3 (type_of y)) r.0
    r.1)
    a.value b.value pairs)

payload_alike : {X : Type 0} (payload : Payload X) (canon : X → List ℕ) →
    IsLawful payload canon → (a b : Attribute) → payload.alike a.value b.value ≡ true →
    DataMeets payload a b
payload_alike payload canon law a b e = by_contents payload.contents law.contained
  where
    by_contents : (c : Contents) →
        IsPayloadContent c (λ p. is_ok (payload.means p)) payload.alike →
        ContentsMeet c (meets (λ x y. payload.alike x.value y.value) a b) a b
    by_contents (NoList place count) law =
        or_second (bytes_eq a.value b.value) (payload.alike a.value b.value) e
    by_contents (ListOf l inside) law =
        alike_list l inside law.2
        (λ x y r.
        alike_contents (inside (type_of y)) (type_of y) l.accepts l.alike x y (law.3 (type_of y))
        r.0 r.1)
        a.value b.value (sym (law.1 a.value b.value) ∙ e)

if_same : {A : Type 0} (c d : Bool) (p q o : A) → c ≡ d → (c ≡ true → p ≡ q) →
    (if c then p else o) ≡ (if d then q else o)
if_same true true p q o e f = f refl
if_same true false p q o e f = absurd cc
if_same false true p q o e f = absurd cc
if_same false false p q o e f = refl

module _ {L : DataTypes} (layer : DataFamilies L) (law : AreLawful layer) where
  role_alike : (r : Role) (a b : Attribute) → row_alike (link_row layer r) a b ≡ true →
      RoleMeets layer r a b
  role_alike (role.Data tag) a b e =
      let payload = layer.data_of (family_of tag) in
      payload_alike payload _ (law.link (family_of tag)) a b
      (and_parts (masked b.kind == masked a.kind) (payload.alike a.value b.value) e).1
  role_alike (role.PortData tag) a b e =
      let payload = layer.port_data_of (port_family_of tag) in
      payload_alike payload _ (law.port (port_family_of tag)) a b
      (and_parts (masked b.kind == masked a.kind) (payload.alike a.value b.value) e).1
  role_alike r a b e =
      or_second (bytes_eq a.value b.value) (row_alike (link_row layer r) a b) e

  -- ---- the names after equivalent attributes

  stripped_same : (a b : Attribute) →
      ((masked b.kind == masked a.kind) && bytes_eq (stripped a.value) (stripped b.value)) ≡ true →
      stripped a.value ≡ stripped b.value
  stripped_same a b e =
      (bytes_eq-Decides (stripped a.value) (stripped b.value)).0
      (and_parts (masked b.kind == masked a.kind)
      (bytes_eq (stripped a.value) (stripped b.value)) e).1

  kind_role : (t : CurrentKinds) (n : ℕ) → (n == 1) ≡ true → role_of t n ≡ role.Kind
  unfolding role_of
  kind_role t n e = rw e refl

  port_role : (t : CurrentKinds) (n : ℕ) → (n == 4) ≡ true → role_of t n ≡ role.PortKind
  unfolding role_of
  port_role t n e = let is = eqb-true n 4 e in rw is refl

  names_alike : (t : CurrentKinds) (names : Named) (a b : Attribute) →
      row_alike (link_row layer (role_of t (type_of a))) a b ≡ true →
      names_after names a ≡ names_after names b
  names_alike t names a b e =
      let typed : type_of a ≡ type_of b =
      sym (role_alike_after layer (role_of t (type_of a)) t a b e).0 in
      let is = λ (n : ℕ). ap (λ (k : ℕ). k == n) typed in
      let first = stripped a.value in
      let second = stripped b.value in
      let kept = λ (c : Bool). if c then None else names.port in
      same_named (names_after names a) (names_after names b)
      (if_same (type_of a == 1) (type_of b == 1) (Some first) (Some second) names.kind (is 1)
      (λ one. ap Some (stripped_same a b (rw (kind_role t (type_of a) one) at e))))
      (if_same (type_of a == 4) (type_of b == 4) (Some first) (Some second) (kept (type_of a == 5))
      (is 4) (λ four. ap Some (stripped_same a b (rw (port_role t (type_of a) four) at e)))
      ∙ ap (λ (c : Bool). if type_of b == 4 then Some second else kept c) (is 5))

  -- ---- equivalent strings

  -- of one type, under the same names, and equivalent
  record AreAlike (x y : Item) : Type 0 where
    typed : type_of_item x ≡ type_of_item y
    named : x.named ≡ y.named
    same : row_alike (link_row layer (role_of_item x)) x.nla y.nla ≡ true

  alike_meet : (x y : Item) → AreAlike x y → ItemMeets layer x y
  alike_meet x y pair =
      let roles : role_of_item x ≡ role_of_item y =
      ap (λ (names : Named). role_of (kinds_named names) (type_of_item x)) pair.named
      ∙ ap (λ (n : ℕ). role_of (kinds_named y.named) n) pair.typed in
      record {
        kind =
            same_names (role_of_item y) x.named y.named (ap (λ (n : Named). n.kind) pair.named)
            (ap (λ (n : Named). n.port) pair.named);
        payload =
            subst (λ (r : Role). RoleMeets layer r x.nla y.nla) roles
            (role_alike (role_of_item x) x.nla y.nla pair.same);
      }

  abbrev items_from : Named → ℕ → List (Result Attribute ℕ) → List Item
  items_from names n ps = items_under names (map (λ p. p.nla) (placed_from n ps))

  alike_first : (t : CurrentKinds) (a b : Attribute) → link_alike layer t a b ≡ true →
      row_alike (link_row layer (role_of t (type_of a))) a b ≡ true
  unfolding alike_in
  alike_first t a b e = e

  pairs_from : (ps qs : List (Result Attribute ℕ)) (names : Named) (m n : ℕ) →
      IsOk (values_from layer (kinds_named names) ps) →
      alike_from layer (kinds_named names) ps qs ≡ true →
      AllZip AreAlike (items_from names m ps) (items_from names n qs)
  pairs_from [] [] names m n ok e = tt
  pairs_from [] (y ∷ ys) names m n ok e = absurd cc
  pairs_from ((Ok a) ∷ xs) [] names m n ok e = absurd cc
  pairs_from ((Err k) ∷ xs) [] names m n ok e = absurd cc
  pairs_from ((Ok a) ∷ xs) ((Ok b) ∷ ys) names m n ok e =
      let t = kinds_named names in
      let h = and_parts (link_alike layer t a b)
      (alike_from layer (next_kinds t a) xs ys) e in
      let first = alike_first t a b h.0 in
      let oks =
      both_parts (link_meaning layer t a) (values_from layer (next_kinds t a) xs) ok in
      let next = names_after names a in
      let more =
      pairs_from xs ys next (m + aligned (4 + length a.value)) (n + aligned (4 + length b.value))
      (under_next layer (λ u. IsOk (values_from layer u xs)) names a oks.0 oks.1)
      (under_next layer (λ u. alike_from layer u xs ys ≡ true) names a oks.0 h.1) in
      let typed : type_of a ≡ type_of b =
      sym (role_alike_after layer (role_of t (type_of a)) t a b first).0 in (
        record { typed = typed; named = refl; same = first },
        subst
            (λ (other : Named).
            AllZip AreAlike (items_from next (m + aligned (4 + length a.value)) xs)
            (items_from other (n + aligned (4 + length b.value)) ys))
            (names_alike t names a b first) more,
      )
  pairs_from ((Ok a) ∷ xs) ((Err k) ∷ ys) names m n ok e = absurd cc
  pairs_from ((Err k) ∷ xs) (y ∷ ys) names m n ok e = absurd cc

  pub alike_met : (a b : List ℕ) → IsOk (reading layer a) → alike_strings layer a b ≡ true →
      strings_unmet layer a b ≡ None
  unfolding reading alike_strings attributes_of
  alike_met a b ok e =
      (string_met layer a b).1
      (pairs_meet type_of_item AreAlike (ItemMeets layer) (λ x y pair. pair.typed) alike_meet
      (items_of a) (items_of b) (pairs_from (nla_items a) (nla_items b) no_names 0 0 ok e))

-- equivalence has no order
module _ {L : DataTypes} (layer : DataFamilies L) (law : AreLawful layer) where
  pub alike_turned : (a b : List ℕ) → IsBytes a → IsBytes b → IsOk (reading layer a) →
      IsOk (reading layer b) → alike_strings layer a b ≡ true →
      alike_strings layer b a ≡ true
  alike_turned a b a_bytes b_bytes a_ok b_ok e =
      go (reading layer a) (reading layer b) refl refl a_ok b_ok
    where
      go : (m n : Result (List (LinkOf L)) DecodeError) → reading layer a ≡ m →
          reading layer b ≡ n → IsOk m → IsOk n → alike_strings layer b a ≡ true
      go (Ok xs) (Ok ys) a_is b_is i j =
          (strings_alike layer law b a ys xs b_bytes a_bytes b_is a_is).1
          (sym ((strings_alike layer law a b xs ys a_bytes b_bytes a_is b_is).0 e))
      go (Err d) n a_is b_is i j = absurd cc
      go (Ok xs) (Err d) a_is b_is i j = absurd cc
