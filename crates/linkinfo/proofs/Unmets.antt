-- What finding the first unmet attribute of a list rests on.
use Rattle.std.specs.Prelude.{
  ◌≡◌,
  ◌≢◌,
  ⊤,
  ℕ,
  zero,
  suc,
  ◌+◌,
  ◌<◌,
  ◌≤◌,
  ◌^◌,
  nat_lt,
  Bool,
  true,
  false,
  List,
  [],
  ◌∷◌,
  ◌==◌,
  drop,
  length,
  refl,
}
use Rattle.std.specs.Prelude.{Option, None, Some, Result, Ok, Err, IsOk, IfSome, if◌then◌else◌}
use Rattle.std.specs.List.{AllByRecursion}
use Rattle.std.specs.Option.{option_eq, option_map}
use Rattle.std.specs.Str.{bytes_eq}
use Rattle.std.proofs.Common.{arith, sym, ap, subst, ◌∙◌, inl, inr, cond, eqb, ◌||◌}
use Rattle.std.proofs.lemmas.Bool.{cases_Bool}
use Rattle.std.proofs.lemmas.Bool.Decides.{nat_tests}
use Rattle.nla_frame.specs.Attribute.{Attribute, aligned, masked}
use Rattle.nla_frame.specs.Payload.{stripped}
use Rattle.nla_frame.specs.NlaItems.{attribute_at, nla_items}
use Rattle.nla_frame.specs.declared.error.DecodeError.{DecodeError}
use Rattle.nla_frame.proofs.Stepping.{by_nla_items, nla_items_nil}
use Rattle.linkinfo_numbers.specs.Kind.{tag_of_name}
use Rattle.linkinfo_numbers.specs.PortKind.{port_tag_of_name}
use Rattle.linkinfo_numbers.specs.declared.tags.KindTag.{KindTag}
use Rattle.linkinfo_numbers.specs.declared.tags.PortTag.{PortTag}
use Rattle.linkinfo_table.specs.Last.{StandsIn, attributes_of, placed_from}
use Rattle.linkinfo_table.specs.declared.last.PlacedNla.{PlacedNla}
use Rattle.linkinfo_table.proofs.Lasts.{all_stand, stands_within}
use Rattle.linkinfo_data.specs.DataFamilies.{DataFamilies, DataTypes}
use Rattle.linkinfo_table.specs.Unmet.{first_of, whole_unmet}
use Rattle.linkinfo_table.specs.declared.unmet.Unmet.{Unmet}
use Rattle.linkinfo.specs.Items.{link_meaning, link_row}
use Rattle.linkinfo_table.specs.Difference.{first_or}
use Rattle.linkinfo.specs.Strings.{next_kinds, reading, values_from}
use Rattle.linkinfo.specs.Unmet.{
  Linked,
  Named,
  kinds_named,
  link_at,
  names_after,
  names_before,
  no_names,
  role_of_link,
  same_kind,
}
use Rattle.linkinfo.specs.Unmets.{link_unmets, role_unmets, whole_item_unmets}
use Rattle.linkinfo.specs.UnmetSteps.{
  HasAttribute,
  IsAcceptedLink,
  belongs_to_a_kind,
  kind_place,
  name_there,
  port_place,
}
use Rattle.linkinfo.specs.Layered.{LinkOf}
use Rattle.linkinfo.specs.declared.link_info.LinkInfoOf.TheVariants as info
use Rattle.linkinfo.specs.declared.role.CurrentKinds.{CurrentKinds}
use Rattle.linkinfo.specs.declared.role.Role.TheVariants as role
use Rattle.linkinfo.specs.declared.role.Role.{Role}
use Rattle.linkinfo.specs.Roles.{role_at, role_of, role_under}
use Rattle.nla_frame.specs.declared.error.Family.TheVariants as family
use Rattle.std.proofs.lemmas.Slice.Eq.{bytes_eq-Decides}
use Rattle.linkinfo_table.specs.Rows.{labelled, row_alike}
use Rattle.linkinfo_table.specs.SelfList.{inside as in_payload}
use Rattle.linkinfo_data.specs.Data.{family_of}
use Rattle.linkinfo_table.specs.Equal.{option_decides}
use Rattle.linkinfo_data.specs.PortData.{port_family_of}
use Rattle.linkinfo.proofs.Items.{unknown_from_six}
use Rattle.linkinfo.proofs.Steps.{meaning_is, meant}
use Rattle.linkinfo.proofs.Pairs.{front}
use Rattle.linkinfo.proofs.Places.{kinds_after_at, meaning_enters}

-- ---- the kinds of the names are those that are current

kind_named : (one : Bool) (s : List ℕ) (before : Option (List ℕ)) →
    first_or (cond one (Some (tag_of_name s)) None) (option_map tag_of_name before)
    ≡ option_map tag_of_name (if one then Some s else before)
kind_named true s before = refl
kind_named false s before = refl

port_named : (four five : Bool) (s : List ℕ) (before : Option (List ℕ)) →
    cond (four || five) (cond four (Some (port_tag_of_name s)) None)
    (option_map port_tag_of_name before)
    ≡ option_map port_tag_of_name (if four then Some s else if five then None else before)
port_named true true s before = refl
port_named true false s before = refl
port_named false true s before = refl
port_named false false s before = refl

kinds_are : (u : CurrentKinds) (kind : Option KindTag) (port : Option PortTag) → u.kind ≡ kind →
    u.port ≡ port →
    u ≡ record { kind = kind; port = port }
kinds_are u kind port e f =
    ap (λ (k : Option KindTag). let v : CurrentKinds = record { kind = k; port = u.port } in v) e
    ∙ ap (λ (p : Option PortTag). let v : CurrentKinds = record { kind = kind; port = p } in v) f

-- ---- the attributes of a string are in order

-- each of these is at an offset or after it
abbrev AllAfter : ℕ → List PlacedNla → Type 0
AllAfter n list = AllByRecursion (λ p. n ≤ p.offset) list

raised : (m n : ℕ) (list : List PlacedNla) → m ≤ n → AllAfter n list → AllAfter m list
raised m n [] le h = tt
raised m n (p ∷ more) le h = (omega (arith, le, h.0), raised m n more le h.1)

pub before_counts : (n : ℕ) (names : Named) (p : PlacedNla) (more : List PlacedNla) →
    nat_lt p.offset n ≡ true →
    names_before n names (p ∷ more) ≡ names_before n (names_after names p.nla) more
before_counts n names p more e = rw e refl

pub before_passes : (n : ℕ) (names : Named) (p : PlacedNla) (more : List PlacedNla) →
    nat_lt p.offset n ≡ false →
    names_before n names (p ∷ more) ≡ names_before n names more
before_passes n names p more e = rw e refl

none_before : (n : ℕ) (names : Named) (list : List PlacedNla) → AllAfter (n + 4) list →
    names_before n names list ≡ names
none_before n names [] far = refl
none_before n names (p ∷ more) far =
    let later : nat_lt p.offset n ≡ false = grind (arith, nat_tests, far.0) in
    rw later (none_before n names more far.1)

module _ {L : DataTypes} (layer : DataFamilies L) where
  named_after : (names : Named) (a : Attribute) →
      IsOk (link_meaning layer (kinds_named names) a) →
      next_kinds (kinds_named names) a ≡ kinds_named (names_after names a)
  named_after names a ok = go (link_meaning layer (kinds_named names) a) refl ok
    where
      go : (m : Result (LinkOf L) DecodeError) →
          link_meaning layer (kinds_named names) a ≡ m → IsOk m →
          next_kinds (kinds_named names) a ≡ kinds_named (names_after names a)
      go (Ok x) e i =
          let u = next_kinds (kinds_named names) a in
          let is =
          kinds_after_at (masked a.kind) (kinds_named names) a u
          (meaning_enters layer (kinds_named names) a x e) in
          kinds_are u _ _
          (is.kind ∙ kind_named (eqb (masked a.kind) 1) (stripped a.value) names.kind)
          (is.port
          ∙ port_named (eqb (masked a.kind) 4) (eqb (masked a.kind) 5) (stripped a.value)
          names.port)
      go (Err d) e i = absurd cc

  -- what holds under the kinds after an attribute holds under those of the names after it
  pub under_next : (Q : CurrentKinds → Type 0) (names : Named) (a : Attribute) →
      IsOk (link_meaning layer (kinds_named names) a) → Q (next_kinds (kinds_named names) a) →
      Q (kinds_named (names_after names a))
  under_next Q names a ok h = subst Q (named_after names a ok) h

  -- ---- each attribute of an accepted list means something under its names

  abbrev MeansUnder : Named → PlacedNla → Type 0
  MeansUnder names p = IsOk (link_meaning layer (kinds_named names) p.nla)

  -- under the names before it, from some names on
  abbrev MeansIn : Named → List PlacedNla → PlacedNla → Type 0
  MeansIn names list p = MeansUnder (names_before p.offset names list) p

  -- what follows an attribute has the names after it
  skipped : (names : Named) (p : PlacedNla) (more list : List PlacedNla) →
      AllAfter (p.offset + 4) list →
      AllByRecursion (MeansIn (names_after names p.nla) more) list →
      AllByRecursion (MeansIn names (p ∷ more)) list
  skipped names p more [] far h = tt
  skipped names p more (q ∷ rest) far h =
      let later : nat_lt p.offset q.offset ≡ true = grind (arith, nat_tests, far.0) in (
        subst (λ (names : Named). MeansUnder names q)
            (sym (before_counts q.offset names p more later)) h.0,
        skipped names p more rest far.1 h.1,
      )

  here : (names : Named) (p : PlacedNla) (more : List PlacedNla) → AllAfter (p.offset + 4) more →
      MeansUnder names p → MeansIn names (p ∷ more) p
  here names p more far h =
      let not_before : nat_lt p.offset p.offset ≡ false = grind (arith, nat_tests) in
      subst (λ (names : Named). MeansUnder names p)
      (sym (before_passes p.offset names p more not_before ∙ none_before p.offset names more far)) h

  pub record Each (names : Named) (n : ℕ) (s : List ℕ) : Type 0 where
    pub means : AllByRecursion (MeansIn names (placed_from n (nla_items s)))
        (placed_from n (nla_items s))
    pub all_after : AllAfter n (placed_from n (nla_items s))

  each : (s : List ℕ) (names : Named) (n : ℕ) →
      IsOk (values_from layer (kinds_named names) (nla_items s)) → Each names n s
  each s =
      by_nla_items (λ s. (names : Named) (n : ℕ) →
      IsOk (values_from layer (kinds_named names) (nla_items s)) → Each names n s)
      (λ names n ok. record { means = rw nla_items_nil tt; all_after = rw nla_items_nil tt })
      (λ t some e names n ok. record { means = rw e tt; all_after = rw e tt })
      (λ t a rest e room more names n ok.
      let f = front layer (kinds_named names) a t rest e ok in
      let next = names_after names a in
      let after = n + aligned (4 + length a.value) in
      let go : IsOk (values_from layer (kinds_named next) (nla_items rest)) =
      subst (λ (t : CurrentKinds). IsOk (values_from layer t (nla_items rest)))
      (named_after names a f.first) f.more in
      let tail = more next after go in
      let p : PlacedNla = record { offset = n; nla = a } in
      let far : AllAfter (n + 4) (placed_from after (nla_items rest)) =
      raised (n + 4) after (placed_from after (nla_items rest)) (omega arith) tail.all_after in
      record {
        means = rw e (
          here names p (placed_from after (nla_items rest)) far f.first,
          skipped names p (placed_from after (nla_items rest))
              (placed_from after (nla_items rest)) far
              tail.means,
        );
        all_after = rw e (
          omega arith,
          raised n after (placed_from after (nla_items rest)) (omega arith) tail.all_after,
        );
      })
      s

  -- .. and is in memory as a whole
  accepted : (s : List ℕ) (list : List PlacedNla) → length s < 2 ^ 64 →
      AllByRecursion (StandsIn s) list →
      AllByRecursion (MeansIn no_names (attributes_of s)) list →
      AllByRecursion (λ p. IsAcceptedLink layer (link_at s p)) list
  accepted s [] small h k = tt
  accepted s (p ∷ more) small h k = (
    record { means = k.0; room = omega (arith, stands_within s p h.0, small) },
    accepted s more small h.1 k.1,
  )

  pub links_accepted : (s : List ℕ) → length s < 2 ^ 64 → IsOk (reading layer s) →
      AllByRecursion (λ p. IsAcceptedLink layer (link_at s p)) (attributes_of s)
  unfolding reading attributes_of
  links_accepted s small ok =
      accepted s (attributes_of s) small (all_stand s) (each s no_names 0 ok).means

-- ---- the names by the offsets of their attributes

abbrev pub named_at : List ℕ → Option ℕ → Option ℕ → Named
named_at s kind port = record {
  kind = option_map (name_there s) kind;
  port = option_map (name_there s) port;
}

module _ (s : List ℕ) (at : ℕ) (a : Attribute) (there : attribute_at (drop at s) ≡ Ok a)
    (small : at ≤ length s) where
  has_attribute : HasAttribute s at
  has_attribute = record { within = small; attribute = rw there refl }

  name_is : name_there s at ≡ stripped a.value
  name_is = rw there refl

  pub kind_kept : (is_before : Bool) (kind : ℕ) (old : Option ℕ) → IfSome old (HasAttribute s) →
      IfSome (kind_place is_before kind at old) (HasAttribute s)
  kind_kept true kind old h =
      elim (cases_Bool (kind == 1)) [
        | inl is ↦ rw is has_attribute
        | inr other ↦ rw other h
      ]
  kind_kept false kind old h = h

  pub port_kept : (is_before : Bool) (kind : ℕ) (old : Option ℕ) → IfSome old (HasAttribute s) →
      IfSome (port_place is_before kind at old) (HasAttribute s)
  port_kept true kind old h =
      elim (cases_Bool (kind == 4)) [
        | inl is ↦ rw is has_attribute
        | inr other ↦
            elim (cases_Bool (kind == 5)) [
              | inl used ↦ rw (other, used) tt
              | inr none ↦ rw (other, none) h
            ]
      ]
  port_kept false kind old h = h

  kind_is : (kind : ℕ) (old : Option ℕ) → option_map (name_there s) (kind_place true kind at old)
      ≡ (if kind == 1 then Some (stripped a.value) else option_map (name_there s) old)
  kind_is kind old =
      elim (cases_Bool (kind == 1)) [
        | inl is ↦ rw is (ap Some name_is)
        | inr other ↦ rw other refl
      ]

  port_is : (kind : ℕ) (old : Option ℕ) → option_map (name_there s) (port_place true kind at old)
      ≡ (if kind == 4 then Some (stripped a.value) else if kind == 5 then None
      else option_map (name_there s) old)
  port_is kind old =
      elim (cases_Bool (kind == 4)) [
        | inl is ↦ rw is (ap Some name_is)
        | inr other ↦
            elim (cases_Bool (kind == 5)) [
              | inl used ↦ rw (other, used) refl
              | inr none ↦ rw (other, none) refl
            ]
      ]

  named_is : (m n : Named) → m.kind ≡ n.kind → m.port ≡ n.port → m ≡ n
  named_is m n e f =
      ap (λ (k : Option (List ℕ)). let v : Named = record { kind = k; port = m.port } in v) e
      ∙ ap (λ (p : Option (List ℕ)). let v : Named = record { kind = n.kind; port = p } in v) f

  pub named_step : (is_before : Bool) (kind port : Option ℕ) →
      named_at s (kind_place is_before (masked a.kind) at kind)
      (port_place is_before (masked a.kind) at port)
      ≡ (if is_before then names_after (named_at s kind port) a else named_at s kind port)
  named_step true kind port =
      named_is _ _ (kind_is (masked a.kind) kind) (port_is (masked a.kind) port)
  named_step false kind port = refl

-- ---- the first one

module _ (unmet : PlacedNla → Option Unmet) (p : PlacedNla) (more : List PlacedNla) where
  pub first_here : (found : Unmet) → unmet p ≡ Some found → first_of unmet (p ∷ more) ≡ Some found
  first_here found e = rw e refl

  pub first_later : unmet p ≡ None → first_of unmet (p ∷ more) ≡ first_of unmet more
  first_later e = rw e refl

-- ---- attributes of one type and kind have one role

same_names : (m n : Option (List ℕ)) → option_eq bytes_eq m n ≡ true → m ≡ n
same_names m n e = (option_decides bytes_eq-Decides m n).0 e

role_is : (m n : Named) (k : ℕ) (r : Role) → r ≡ role_of (kinds_named n) k → r ≢ role.Misplaced →
    same_kind r m n ≡ true → role_of (kinds_named m) k ≡ r
unfolding role_of
role_is m n zero r e known same = sym e
role_is m n (suc zero) r e known same = sym e
role_is m n (suc (suc zero)) r e known same = go n.kind refl
  where
    go : (o : Option (List ℕ)) → n.kind ≡ o → role_of (kinds_named m) 2 ≡ r
    go None is =
        absurd (known (e
        ∙ ap (λ (p : Option (List ℕ)). role_under (option_map tag_of_name p) (λ tag. role.Data tag))
        is))
    go (Some name) is =
        let of_kind =
        e
        ∙ ap (λ (p : Option (List ℕ)). role_under (option_map tag_of_name p) (λ tag. role.Data tag))
        is in
        let names = same_names m.kind n.kind (rw of_kind at same) in
        ap (λ (p : Option (List ℕ)). role_under (option_map tag_of_name p) (λ tag. role.Data tag))
        names ∙ sym e
role_is m n (suc (suc (suc zero))) r e known same = go n.kind refl
  where
    go : (o : Option (List ℕ)) → n.kind ≡ o → role_of (kinds_named m) 3 ≡ r
    go None is =
        absurd (known (e
        ∙ ap (λ (p : Option (List ℕ)). role_under (option_map tag_of_name p) (λ _. role.Xstats))
        is))
    go (Some name) is =
        let of_kind =
        e
        ∙ ap (λ (p : Option (List ℕ)). role_under (option_map tag_of_name p) (λ _. role.Xstats))
        is in
        let names = same_names m.kind n.kind (rw of_kind at same) in
        ap (λ (p : Option (List ℕ)). role_under (option_map tag_of_name p) (λ _. role.Xstats)) names
        ∙ sym e
role_is m n (suc (suc (suc (suc zero)))) r e known same = sym e
role_is m n (suc (suc (suc (suc (suc zero))))) r e known same = go n.port refl
  where
    go : (o : Option (List ℕ)) → n.port ≡ o → role_of (kinds_named m) 5 ≡ r
    go None is =
        absurd (known (e
        ∙ ap (λ (p : Option (List ℕ)).
        role_under (option_map port_tag_of_name p) (λ tag. role.PortData tag)) is))
    go (Some name) is =
        let of_kind =
        e
        ∙ ap (λ (p : Option (List ℕ)).
        role_under (option_map port_tag_of_name p) (λ tag. role.PortData tag)) is in
        let names = same_names m.port n.port (rw of_kind at same) in
        ap (λ (p : Option (List ℕ)).
        role_under (option_map port_tag_of_name p) (λ tag. role.PortData tag)) names ∙ sym e
role_is m n (suc (suc (suc (suc (suc (suc k)))))) r e known same =
    unknown_from_six (kinds_named m) k ∙ sym (e ∙ unknown_from_six (kinds_named n) k)

-- ---- a type whose role does not depend on a kind

abbrev IsFree : Role → Type 0
IsFree (role.Data tag) = ⊥
IsFree role.Xstats = ⊥
IsFree (role.PortData tag) = ⊥
IsFree _ = ⊤

free_role : (t : CurrentKinds) (k : ℕ) → belongs_to_a_kind k ≡ false → IsFree (role_of t k)
unfolding role_of
free_role t zero h = tt
free_role t (suc zero) h = tt
free_role t (suc (suc zero)) h = absurd cc
free_role t (suc (suc (suc zero))) h = absurd cc
free_role t (suc (suc (suc (suc zero)))) h = tt
free_role t (suc (suc (suc (suc (suc zero))))) h = absurd cc
free_role t (suc (suc (suc (suc (suc (suc k)))))) h = subst IsFree (sym (unknown_from_six t k)) tt

same_role : (t u : CurrentKinds) (k : ℕ) → belongs_to_a_kind k ≡ false → role_of t k ≡ role_of u k
unfolding role_of
same_role t u zero h = refl
same_role t u (suc zero) h = refl
same_role t u (suc (suc zero)) h = absurd cc
same_role t u (suc (suc (suc zero))) h = absurd cc
same_role t u (suc (suc (suc (suc zero)))) h = refl
same_role t u (suc (suc (suc (suc (suc zero))))) h = absurd cc
same_role t u (suc (suc (suc (suc (suc (suc k)))))) h =
    unknown_from_six t k ∙ sym (unknown_from_six u k)

-- a type has one role under names of one kind
pub one_role : (m n : Named) (k : ℕ) → role_of (kinds_named n) k ≢ role.Misplaced →
    same_kind (role_of (kinds_named n) k) m n ≡ true →
    role_of (kinds_named m) k ≡ role_of (kinds_named n) k
one_role m n k known same = role_is m n k (role_of (kinds_named n) k) refl known same

module _ {L : DataTypes} (layer : DataFamilies L) where
  abbrev ok_meant : Role → Attribute → Type 0
  ok_meant r a = IsOk (meant layer r a)

  is_placed : (r : Role) (a : Attribute) → ok_meant r a → r ≢ role.Misplaced
  is_placed r a ok e = no (subst (λ (q : Role). ok_meant q a) e ok)
    where
      no : ok_meant role.Misplaced a → ⊥
      no h = absurd cc

  -- what two attributes mean by the role of the second
  pub record Roles (have want : List ℕ) (h w : PlacedNla) (r : Role) : Type 0 where
    pub found : IsOk (meant layer r h.nla)
    pub wanted : IsOk (meant layer r w.nla)

  pub roles : (have want : List ℕ) (h w : PlacedNla) (k : ℕ) (t : CurrentKinds) (m n : Named)
      (r : Role) →
      r ≡ role_of t k → k ≡ masked w.nla.kind → t ≡ kinds_named n → n ≡ (link_at want w).named →
      m ≡ (link_at have h).named →
      true ≡ same_kind r m n → masked h.nla.kind ≡ masked w.nla.kind →
      IsAcceptedLink layer (link_at have h) → IsAcceptedLink layer (link_at want w) →
      Roles have want h w r
  roles have want h w k t m n r is number kinds named had same typed hok wok =
      let role : r ≡ role_of (kinds_named n) (masked w.nla.kind) =
      is
      ∙ ap (λ (q : ℕ). role_of t q) number
      ∙ ap (λ (u : CurrentKinds). role_of u (masked w.nla.kind)) kinds in
      let at_want : r ≡ role_at (kinds_named (link_at want w).named) w.nla =
      role ∙ ap (λ (q : Named). role_of (kinds_named q) (masked w.nla.kind)) named in
      let wanted = subst (λ (x : Result (LinkOf L) DecodeError). IsOk x)
      (meaning_is layer (kinds_named (link_at want w).named) w.nla r at_want) wok.means in
      let other = role_is m n (masked w.nla.kind) r role (is_placed r w.nla wanted) (sym same) in
      let at_have : r ≡ role_at (kinds_named (link_at have h).named) h.nla =
      sym other ∙ ap (λ (q : Named). role_of (kinds_named q) (masked w.nla.kind)) had
      ∙ ap (λ (q : ℕ). role_of (kinds_named (link_at have h).named) q) (sym typed) in
      record {
        found = subst (λ (x : Result (LinkOf L) DecodeError). IsOk x)
            (meaning_is layer (kinds_named (link_at have h).named) h.nla r at_have) hok.means;
        wanted = wanted;
      }

  payload_ok : {X : Type 0} (n : ℕ) (label : X → LinkOf L) (r : Result X DecodeError) →
      IsOk (labelled family.LinkInfo n label (in_payload r)) → IsOk r
  payload_ok n label (Ok x) ok = refl
  payload_ok n label (Err e) ok = absurd cc

  pub data_ok : (tag : KindTag) (r : Role) (a : Attribute) → r ≡ role.Data tag →
      IsOk (meant layer r a) →
      IsOk ((layer.data_of (family_of tag)).means a.value)
  data_ok tag r a is ok =
      payload_ok (masked a.kind) (λ d. info.Data d)
      ((layer.data_of (family_of tag)).means a.value)
      (subst (λ (q : Role). ok_meant q a) is ok)

  pub port_ok : (tag : PortTag) (r : Role) (a : Attribute) → r ≡ role.PortData tag →
      IsOk (meant layer r a) →
      IsOk ((layer.port_data_of (port_family_of tag)).means a.value)
  port_ok tag r a is ok =
      payload_ok (masked a.kind) (λ d. info.PortData d)
      ((layer.port_data_of (port_family_of tag)).means a.value)
      (subst (λ (q : Role). ok_meant q a) is ok)

  -- what an attribute of such a type means, and what of it is not met, by its role under any kinds
  free_ok : (s : List ℕ) (p : PlacedNla) (k : ℕ) (t : CurrentKinds) (r : Role) → r ≡ role_of t k →
      k ≡ masked p.nla.kind → belongs_to_a_kind k ≡ false → IsAcceptedLink layer (link_at s p) →
      IsOk (meant layer r p.nla)
  free_ok s p k t r is number free ok =
      let u = kinds_named (link_at s p).named in
      let role : r ≡ role_at u p.nla =
      is ∙ same_role t u k free ∙ ap (λ (n : ℕ). role_of u n) number in
      subst (λ (x : Result (LinkOf L) DecodeError). IsOk x) (meaning_is layer u p.nla r role)
      ok.means

  pub free_roles : (have want : List ℕ) (h w : PlacedNla) (k : ℕ) (t : CurrentKinds) (r : Role) →
      r ≡ role_of t k → k ≡ masked w.nla.kind → belongs_to_a_kind k ≡ false →
      masked h.nla.kind ≡ masked w.nla.kind →
      IsAcceptedLink layer (link_at have h) → IsAcceptedLink layer (link_at want w) →
      Roles have want h w r
  free_roles have want h w k t r is number free typed hok wok = record {
    found = free_ok have h k t r is (number ∙ sym typed) free hok;
    wanted = free_ok want w k t r is number free wok;
  }

  whole_by_role : (h w : Linked) (r : Role) → IsFree r →
      (if same_kind r h.named w.named then role_unmets layer r h.at w.at
      else whole_unmet family.LinkInfo w.at (Some h.at) ∷ [])
      ≡ whole_item_unmets (row_alike (link_row layer r)) h.at w.at
  whole_by_role h w (role.Data tag) free = absurd free
  whole_by_role h w role.Xstats free = absurd free
  whole_by_role h w (role.PortData tag) free = absurd free
  whole_by_role h w role.Kind free = refl
  whole_by_role h w role.PortKind free = refl
  whole_by_role h w role.Misplaced free = refl
  whole_by_role h w role.Unknown free = refl

  pub free_unmets : (h w : Linked) (k : ℕ) (t : CurrentKinds) (r : Role) →
      r ≡ role_of t k → k ≡ masked w.at.nla.kind → belongs_to_a_kind k ≡ false →
      whole_item_unmets (row_alike (link_row layer r)) h.at w.at ≡ link_unmets layer (Some h) w
  free_unmets h w k t r is number free =
      let u = kinds_named w.named in
      let role : r ≡ role_of_link w =
      is ∙ same_role t u k free ∙ ap (λ (n : ℕ). role_of u n) number in
      let has_none : IsFree (role_of_link w) =
      subst (λ (n : ℕ). IsFree (role_of u n)) number (free_role u k free) in
      ap (λ (q : Role). whole_item_unmets (row_alike (link_row layer q)) h.at w.at) role
      ∙ sym (whole_by_role h w (role_of_link w) has_none)
