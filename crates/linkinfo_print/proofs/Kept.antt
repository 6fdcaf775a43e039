-- No attribute of a list is hidden: the names of members are distinct, and none is `others`.
use Rattle.std.proofs.Common.{
  ◌≡◌,
  ℕ,
  Bool,
  true,
  false,
  cond,
  eqb,
  IsOk,
  List,
  [],
  ◌∷◌,
  ◌++◌,
  Option,
  Some,
  None,
  Result,
  Ok,
  Err,
  bytes_eq,
  codes,
  refl,
  sym,
  ap,
  subst,
  ◌∙◌,
}
use Rattle.std.proofs.lemmas.Bool.{eqb-false, eqb-true, or_parts}
use Rattle.nla_frame.specs.Attribute.{Attribute, masked}
use Rattle.nla_frame.specs.NlaItems.{nla_items, seen}
use Rattle.nla_frame.specs.declared.error.DecodeError.{DecodeError}
use Rattle.nla_frame.proofs.Stepping.{by_nla_items, nla_items_nil}
use Rattle.linkinfo_data.specs.BytesLayer.{bytes_layer}
use Rattle.linkinfo.specs.Items.{link_meaning}
use Rattle.linkinfo.specs.Roles.{kinds_after, no_kinds, role_at}
use Rattle.linkinfo.specs.Strings.{kinds_after_all, next_kinds, reading, values_from}
use Rattle.linkinfo.specs.Walks.{item_or_error, walk_items}
use Rattle.linkinfo.specs.declared.role.CurrentKinds.{CurrentKinds}
use Rattle.linkinfo.proofs.Pairs.{front}
use Rattle.linkinfo.proofs.Steps.{after_is, meaning_is, own_error_is}
use Rattle.linkinfo_view.specs.Attributes.{whole}
use Rattle.linkinfo_view.specs.declared.format.Table.{Table}
use Rattle.linkinfo_print.specs.Laws.{HasEach, KeepsOthers, KeepsShown, accepted, items_in}
use Rattle.linkinfo_print.specs.ListData.{
  comes_again,
  if_other,
  list_data,
  member_name,
  members_on,
  named_after,
  named_after_all,
  other_data,
  others_in,
  put_if,
  role_data,
  shown_as,
  with_others,
}
use Rattle.serde_json.specs.Data.{Data, Members, array, no_members}
use Rattle.serde_json.specs.Find.{get_member}
use Rattle.serde_json.specs.View.{items_of}
use Rattle.serde_json.proofs.Views.{get_member-put, get_member-put_other}

-- ---- an accepted list

abbrev Items : Type 0
Items = List (Result Attribute DecodeError)

never : {X E : Type 0} (r : Result X E) (e : E) → r ≡ Err e → IsOk r → ⊥
never (Ok x) e is ok = cc
never (Err d) e is ok = cc

abbrev WalksEach : List ℕ → Type 0
WalksEach z =
    (t : CurrentKinds) → IsOk (values_from bytes_layer t (nla_items z)) →
    walk_items t (nla_items z) ≡ accepted (whole (nla_items z))

walks_none : WalksEach []
walks_none t ok =
    ap (walk_items t) nla_items_nil
    ∙ sym (ap (λ (ps : List (Result Attribute ℕ)). accepted (whole ps)) nla_items_nil)

walks_rest : (z : List ℕ) → nla_items z ≡ Err (seen z) ∷ [] → WalksEach z
walks_rest z broken t ok =
    absurd (never _ _ (ap (values_from bytes_layer t) broken) ok)

walks_more : (z : List ℕ) (a : Attribute) (rest : List ℕ) → nla_items z ≡ Ok a ∷ nla_items rest →
    WalksEach rest → WalksEach z
walks_more z a rest is more t ok =
    ap (walk_items t) is ∙ go (kinds_after t a) refl
    ∙ sym (ap (λ (ps : List (Result Attribute ℕ)). accepted (whole ps)) is)
  where
    go : (k : Result CurrentKinds DecodeError) → kinds_after t a ≡ k →
        item_or_error a k (λ u. walk_items u (nla_items rest))
        ≡ Ok a ∷ accepted (whole (nla_items rest))
    go (Ok u) e =
        let first = front bytes_layer t a z rest is ok in
        ap (λ (xs : Items). Ok a ∷ xs)
        (more u (subst (λ (v : CurrentKinds). IsOk (values_from bytes_layer v (nla_items rest)))
        (after_is t u a e) first.more))
    go (Err d) e =
        let first = front bytes_layer t a z rest is ok in
        absurd (never (link_meaning bytes_layer t a) d
        (meaning_is bytes_layer t a (role_at t a) refl
        ∙ (own_error_is bytes_layer (role_at t a) t a d e).0) first.first)

walks_each : (z : List ℕ) → WalksEach z
walks_each z = by_nla_items WalksEach walks_none (λ y some broken. walks_rest y broken)
    (λ y a rest is room more. walks_more y a rest is more) z

pub has_each : (s : List ℕ) → HasEach s
unfolding reading
has_each s ok = walks_each s no_kinds ok

-- ---- the names of members

some_same : (x y : List ℕ) → Some x ≡ Some y → x ≡ y
some_same x y e = cc

-- the type of the attributes that a member shows
abbrev type_named : List ℕ → ℕ
type_named name =
    cond (bytes_eq name (codes "info_kind")) 1
    (cond (bytes_eq name (codes "info_data")) 2
    (cond (bytes_eq name (codes "info_xstats")) 3
    (cond (bytes_eq name (codes "info_slave_kind")) 4
    (cond (bytes_eq name (codes "info_slave_data")) 5 0))))

one_name : (b : Bool) (n k : ℕ) (here name : List ℕ) (rest : Option (List ℕ)) → eqb n k ≡ b →
    type_named here ≡ k → (rest ≡ Some name → type_named name ≡ n) →
    cond b (Some here) rest ≡ Some name → type_named name ≡ n
one_name true n k here name rest e is later h =
    ap type_named (sym (some_same here name h)) ∙ is ∙ sym (eqb-true n k e)
one_name false n k here name rest e is later h = later h

type_of_member : (n : ℕ) (name : List ℕ) → member_name n ≡ Some name → type_named name ≡ n
type_of_member n name h =
    one_name (eqb n 1) n 1 (codes "info_kind") name _ refl refl
    (one_name (eqb n 2) n 2 (codes "info_data") name _ refl refl
    (one_name (eqb n 3) n 3 (codes "info_xstats") name _ refl refl
    (one_name (eqb n 4) n 4 (codes "info_slave_kind") name _ refl refl
    (one_name (eqb n 5) n 5 (codes "info_slave_data") name _ refl refl
    (λ none. absurd (cc)))))) h

others_apart : (n : ℕ) (name : List ℕ) → member_name n ≡ Some name → name ≡ codes "others" → ⊥
others_apart n name h e =
    let zero_is : 0 ≡ n = ap type_named (sym e) ∙ type_of_member n name h in
    let none : member_name 0 ≡ Some name = subst (λ (k : ℕ). member_name k ≡ Some name)
    (sym zero_is) h in
    absurd (cc)

-- ---- the member of an attribute

unless_some : (b : Bool) (o : Option (List ℕ)) (name : List ℕ) → cond b None o ≡ Some name →
    (b ≡ false) × (o ≡ Some name)
unless_some true o name h = absurd (cc)
unless_some false o name h = (refl, h)

put_if_other : (q : List ℕ) (o : Option (List ℕ)) (d : Data) (ms : Members) →
    ((k : List ℕ) → o ≡ Some k → q ≡ k → ⊥) → get_member q (put_if o d ms) ≡ get_member q ms
put_if_other q None d ms h = refl
put_if_other q (Some k) d ms h = get_member-put_other q k d ms (h k refl)

-- later attributes of other types leave it
later_leave : (n : ℕ) (name : List ℕ) (items : Items) (ms : Members) (t : CurrentKinds)
    (rows : Option Table) → member_name n ≡ Some name → comes_again n items ≡ false →
    get_member name (members_on ms t rows items) ≡ get_member name ms
later_leave n name [] ms t rows named none = refl
later_leave n name ((Err e) ∷ more) ms t rows named none = refl
later_leave n name ((Ok b) ∷ more) ms t rows named none =
    let kind = masked b.kind in
    let parts = or_parts (eqb kind n) (comes_again n more) none in
    later_leave n name more (put_if (shown_as b more) (role_data (role_at t b) rows b.value) ms)
    (next_kinds t b) (named_after rows b) named parts.1
    ∙ put_if_other name (shown_as b more) _ ms (λ k shown same.
    eqb-false kind n parts.0
    (sym (type_of_member kind k (unless_some (comes_again kind more) (member_name kind) k shown).1)
    ∙ ap type_named (sym same)
    ∙ type_of_member n name named))

member_there : (before : List Attribute) (a : Attribute) (later : Items) (name : List ℕ)
    (ms : Members) (t : CurrentKinds) (rows : Option Table) → shown_as a later ≡ Some name →
    get_member name (members_on ms t rows (accepted before ++ Ok a ∷ later))
    ≡ Some (role_data (role_at (kinds_after_all t before) a) (named_after_all rows before) a.value)
member_there [] a later name ms t rows h =
    let kind = masked a.kind in
    let d = role_data (role_at t a) rows a.value in
    let parts = unless_some (comes_again kind later) (member_name kind) name h in
    ap (λ (o : Option (List ℕ)). get_member name
    (members_on (put_if o d ms) (next_kinds t a) (named_after rows a) later)) h
    ∙ later_leave kind name later _ (next_kinds t a) (named_after rows a) parts.1 parts.0
    ∙ get_member-put name d ms
member_there (f ∷ before) a later name ms t rows h =
    member_there before a later name
    (put_if (shown_as f (accepted before ++ Ok a ∷ later)) (role_data (role_at t f) rows f.value)
    ms)
    (next_kinds t f) (named_after rows f) h

with_others_apart : (q : List ℕ) (ds : List Data) (ms : Members) → (q ≡ codes "others" → ⊥) →
    get_member q (with_others ds ms) ≡ get_member q ms
with_others_apart q [] ms h = refl
with_others_apart q (d ∷ ds) ms h = get_member-put_other q (codes "others") _ ms h

pub keeps_shown : (s : List ℕ) → KeepsShown s
unfolding list_data
keeps_shown s = λ before a later name e h.
    let kind = masked a.kind in
    let named = (unless_some (comes_again kind later) (member_name kind) name h).1 in
    with_others_apart name (others_in (items_in s)) _ (others_apart kind name named)
    ∙ ap (λ (items : Items). get_member name (members_on no_members no_kinds None items)) e
    ∙ member_there before a later name no_members no_kinds None h

-- ---- the others

one_before : (o : Option (List ℕ)) (d : Data) (xs ys : List Data) →
    (before : List Data) × (xs ≡ before ++ ys) →
    (before : List Data) × (if_other o d xs ≡ before ++ ys)
one_before None d xs ys h = (d ∷ h.0, ap (λ (zs : List Data). d ∷ zs) h.1)
one_before (Some name) d xs ys h = h

others_split : (before : List Attribute) (a : Attribute) (later : Items) →
    shown_as a later ≡ None →
    (others : List Data) × (others_in (accepted before ++ Ok a ∷ later)
    ≡ others ++ other_data a ∷ others_in later)
others_split [] a later h =
    ([], ap (λ (o : Option (List ℕ)). if_other o (other_data a) (others_in later)) h)
others_split (f ∷ before) a later h =
    one_before (shown_as f (accepted before ++ Ok a ∷ later)) (other_data f) _ _
    (others_split before a later h)

others_there : (before : List Data) (d : Data) (more ds : List Data) (ms : Members) →
    ds ≡ before ++ d ∷ more →
    get_member (codes "others") (with_others ds ms) ≡ Some (array (items_of ds))
others_there [] d more ds ms e = subst
    (λ (xs : List Data). get_member (codes "others") (with_others xs ms)
    ≡ Some (array (items_of xs))) (sym e) (get_member-put (codes "others") _ ms)
others_there (b ∷ before) d more ds ms e = subst
    (λ (xs : List Data). get_member (codes "others") (with_others xs ms)
    ≡ Some (array (items_of xs))) (sym e) (get_member-put (codes "others") _ ms)

pub keeps_others : (s : List ℕ) → KeepsOthers s
unfolding list_data
keeps_others s = λ before a later e h.
    let split = others_split before a later h in
    let same = ap others_in e ∙ split.1 in (
      (split.0, same),
      others_there split.0 _ _ (others_in (items_in s)) _ same,
    )
