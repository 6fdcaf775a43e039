-- The current kinds are those of the last names, and unknown attributes are kept.
use Rattle.std.proofs.Common.{
  ◌≡◌,
  ℕ,
  zero,
  suc,
  Bool,
  true,
  false,
  cond,
  eqb,
  ◌||◌,
  List,
  [],
  ◌∷◌,
  map,
  refl,
  sym,
  ap,
  ◌∙◌,
  Result,
  Ok,
  Err,
  Option,
  Some,
  None,
}
use Rattle.std.proofs.Common.{arith}
use Rattle.std.specs.Iterator.{Yields}
use Rattle.std.specs.Str.{is_utf8}
use Rattle.std.proofs.lemmas.Bool.{ne_eqb}
use Rattle.linkinfo_numbers.specs.declared.tags.KindTag.{KindTag}
use Rattle.linkinfo_numbers.specs.declared.tags.PortTag.{PortTag}
use Rattle.linkinfo_numbers.specs.Kind.{kind_of_name, tag_of_name}
use Rattle.linkinfo_numbers.specs.PortKind.{port_kind_of_name, port_tag_of_name}
use Rattle.linkinfo_shapes.specs.Shapes.{means}
use Rattle.linkinfo_shapes.specs.declared.shape.Shape.TheVariants.{Name}
use Rattle.nla_frame.specs.Attribute.{Attribute, masked}
use Rattle.nla_frame.specs.Kept.{kept}
use Rattle.nla_frame.specs.Payload.{stripped}
use Rattle.nla_frame.specs.declared.error.Cause.TheVariants as cause
use Rattle.nla_frame.specs.declared.error.Family.TheVariants as family
use Rattle.nla_frame.specs.declared.error.DecodeError.{DecodeError}
use Rattle.linkinfo_data.specs.DataFamilies.{DataFamilies, DataTypes}
use Rattle.linkinfo_table.specs.FamilyRows.{own}
use Rattle.linkinfo_table.specs.Rows.{labelled, meaning_in, row_meaning}
use Rattle.linkinfo.specs.Layered.{LinkOf}
use Rattle.linkinfo.specs.declared.link_info.LinkInfoOf.TheVariants as info
use Rattle.linkinfo.specs.declared.role.CurrentKinds.{CurrentKinds}
use Rattle.linkinfo.specs.declared.role.Role.{Role}
use Rattle.linkinfo.specs.declared.role.Role.TheVariants as role
use Rattle.linkinfo.specs.Items.{link_meaning, link_other, link_row}
use Rattle.linkinfo.specs.Roles.{
  kinds_after,
  kinds_after_role,
  name_meaning,
  name_or_error,
  no_kinds,
  role_at,
  role_of,
  role_under,
  with_name,
}
use Rattle.linkinfo_table.specs.Difference.{first_or}
use Rattle.linkinfo.specs.Strings.{
  or_stay,
  next_kinds,
  MeansEach,
  kinds_after_all,
  last_kind,
  names_or_uses,
  last_port,
}
use Rattle.linkinfo.specs.Walks.{LinkWalk, Moves, TagsByPlace, attribute_of_item, given, link_walk}
use Rattle.linkinfo.specs.declared.walk.LinkInfoItem.{LinkInfoItem}
use Rattle.linkinfo.proofs.Items.{name_read, unknown_from_six}

module _ {L : DataTypes} (layer : DataFamilies L) where
  pub unknown_is_kept : (t : CurrentKinds) (a : Attribute) → role_at t a ≡ role.Unknown →
      link_meaning layer t a ≡ Ok (link_other (kept a))
  unfolding meaning_in
  unknown_is_kept t a e =
      ap (λ (r : Role). row_meaning family.LinkInfo link_other (link_row layer r) a) e

-- ---- the current kinds, by the last names

abbrev pub named_kind : ℕ → Attribute → Option KindTag
named_kind n a = cond (eqb n 1) (Some (tag_of_name (stripped a.value))) None

abbrev pub named_port : ℕ → Attribute → Option PortTag
named_port n a = cond (eqb n 4) (Some (port_tag_of_name (stripped a.value))) None

-- the current kinds after an attribute, by its type
pub record KindsAfter (n : ℕ) (t : CurrentKinds) (a : Attribute) (u : CurrentKinds) : Type 0 where
  pub kind : u.kind ≡ first_or (named_kind n a) t.kind
  pub port : u.port ≡ cond (eqb n 4 || eqb n 5) (named_port n a) t.port

stays : (n : ℕ) (t : CurrentKinds) (a : Attribute) (u : CurrentKinds) → u ≡ t → eqb n 1 ≡ false →
    eqb n 4 ≡ false → eqb n 5 ≡ false → KindsAfter n t a u
stays n t a u e one four five = record {
  kind = ap (λ (v : CurrentKinds). v.kind) e ∙ sym (rw one refl);
  port = ap (λ (v : CurrentKinds). v.port) e ∙ sym (rw (four, five) refl);
}

abbrev leaves : CurrentKinds → Result CurrentKinds DecodeError
leaves u = Ok u

leaves_same : (t u : CurrentKinds) → leaves t ≡ leaves u → u ≡ t
leaves_same t u e = cc

-- a name is the payload without one closing NUL
named : (a : Attribute) (kinds : List ℕ → CurrentKinds) (u : CurrentKinds) →
    with_name (name_meaning a) kinds ≡ Ok u → u ≡ kinds (stripped a.value)
unfolding name_meaning
named a kinds u e = go (is_utf8 (stripped a.value)) e
  where
    go : (b : Bool) →
        with_name (name_or_error a (cond b (Ok (stripped a.value)) (Err cause.Utf8))) kinds ≡ Ok u →
        u ≡ kinds (stripped a.value)
    go true h = leaves_same (kinds (stripped a.value)) u h
    go false h = absurd cc

data_stays : (o : Option KindTag) (at : KindTag → Role) (t : CurrentKinds) (a : Attribute)
    (u : CurrentKinds) → ((tag : KindTag) → kinds_after_role (at tag) t a ≡ Ok t) →
    kinds_after_role (role_under o at) t a ≡ Ok u → u ≡ t
data_stays (Some tag) at t a u h e = leaves_same t u (sym (h tag) ∙ e)
data_stays None at t a u h e = absurd cc

port_used : (o : Option PortTag) (t : CurrentKinds) (a : Attribute) (u : CurrentKinds) →
    kinds_after_role (role_under o (λ tag. role.PortData tag)) t a ≡ Ok u →
    u ≡ record { kind = t.kind; port = None }
port_used (Some tag) t a u e = leaves_same (record { kind = t.kind; port = None }) u e
port_used None t a u e = absurd cc

pub kinds_after_at : (n : ℕ) (t : CurrentKinds) (a : Attribute) (u : CurrentKinds) →
    kinds_after_role (role_of t n) t a ≡ Ok u → KindsAfter n t a u
unfolding role_of
kinds_after_at zero t a u e = stays zero t a u (leaves_same t u e) refl refl refl
kinds_after_at (suc zero) t a u e =
    let is = named a (λ name. record { kind = Some (tag_of_name name); port = t.port }) u e in
    record {
      kind = ap (λ (v : CurrentKinds). v.kind) is;
      port = ap (λ (v : CurrentKinds). v.port) is;
    }
kinds_after_at (suc (suc zero)) t a u e =
    stays 2 t a u (data_stays t.kind (λ tag. role.Data tag) t a u (λ tag. refl) e) refl refl refl
kinds_after_at (suc (suc (suc zero))) t a u e =
    stays 3 t a u (data_stays t.kind (λ _. role.Xstats) t a u (λ tag. refl) e) refl refl refl
kinds_after_at (suc (suc (suc (suc zero)))) t a u e =
    let is = named a (λ name. record { kind = t.kind; port = Some (port_tag_of_name name) }) u e in
    record {
      kind = ap (λ (v : CurrentKinds). v.kind) is;
      port = ap (λ (v : CurrentKinds). v.port) is;
    }
kinds_after_at (suc (suc (suc (suc (suc zero))))) t a u e =
    let is = port_used t.port t a u e in
    record {
      kind = ap (λ (v : CurrentKinds). v.kind) is;
      port = ap (λ (v : CurrentKinds). v.port) is;
    }
kinds_after_at (suc (suc (suc (suc (suc (suc n)))))) t a u e =
    let k : ℕ = suc (suc (suc (suc (suc (suc n))))) in
    let unknown = ap (λ (r : Role). kinds_after_role r t a) (unknown_from_six t n) in
    stays k t a u (leaves_same t u (sym unknown ∙ e)) (ne_eqb k 1 (λ h. omega (arith, h)))
    (ne_eqb k 4 (λ h. omega (arith, h))) (ne_eqb k 5 (λ h. omega (arith, h)))

kind_on : (later here before : Option KindTag) →
    first_or later (first_or here before) ≡ first_or (first_or later here) before
kind_on (Some g) here before = refl
kind_on None here before = refl

port_on : (n here : Bool) (later named before : Option PortTag) →
    cond n later (cond here named before) ≡ cond (here || n) (cond n later named) before
port_on true true later named before = refl
port_on true false later named before = refl
port_on false true later named before = refl
port_on false false later named before = refl

-- attributes without an error of their own lead from some current kinds to others
abbrev LeadsTo : CurrentKinds → List Attribute → CurrentKinds → Type 0
LeadsTo t [] u = t ≡ u
LeadsTo t (a ∷ more) u = (v : CurrentKinds) × (kinds_after t a ≡ Ok v) × LeadsTo v more u

-- the current kinds after these attributes, by the last names
abbrev by_place : CurrentKinds → List Attribute → CurrentKinds
by_place t front = record {
  kind = first_or (last_kind front) t.kind;
  port = cond (names_or_uses front) (last_port front) t.port;
}

all_after : (t u : CurrentKinds) (front : List Attribute) → LeadsTo t front u → u ≡ by_place t front
all_after t u [] h = sym h
all_after t u (a ∷ more) h =
    let one = kinds_after_at (masked a.kind) t a h.0 h.1 in
    all_after h.0 u more h.2
    ∙ ap (λ (k : Option KindTag). let w : CurrentKinds =
    record {
      kind = first_or (last_kind more) k;
      port = cond (names_or_uses more) (last_port more) h.0.port;
    } in w) one.kind
    ∙ ap (λ (k : Option KindTag). let w : CurrentKinds =
    record { kind = k; port = cond (names_or_uses more) (last_port more) h.0.port } in w)
    (kind_on (last_kind more) (named_kind (masked a.kind) a) t.kind)
    ∙ ap (λ (p : Option PortTag). let w : CurrentKinds =
    record {
      kind = first_or (last_kind (a ∷ more)) t.kind;
      port = cond (names_or_uses more) (last_port more) p;
    } in w) one.port
    ∙ ap (λ (p : Option PortTag). let w : CurrentKinds =
    record { kind = first_or (last_kind (a ∷ more)) t.kind; port = p } in w)
    (port_on (names_or_uses more) (eqb (masked a.kind) 4 || eqb (masked a.kind) 5) (last_port more)
    (named_port (masked a.kind) a) t.port)

or_none : {A : Type 0} (o : Option A) → first_or o None ≡ o
or_none (Some x) = refl
or_none None = refl

port_none : (front : List Attribute) →
    cond (names_or_uses front) (last_port front) None ≡ last_port front
port_none [] = refl
port_none (a ∷ more) = go (eqb (masked a.kind) 4) (eqb (masked a.kind) 5) (names_or_uses more)
  where
    go : (four five n : Bool) →
        cond ((four || five) || n)
        (cond n (last_port more) (cond four (Some (port_tag_of_name (stripped a.value))) None)) None
        ≡ cond n (last_port more) (cond four (Some (port_tag_of_name (stripped a.value))) None)
    go true true true = refl
    go true true false = refl
    go true false true = refl
    go true false false = refl
    go false true true = refl
    go false true false = refl
    go false false true = refl
    go false false false = refl

from_none : (u : CurrentKinds) (front : List Attribute) → LeadsTo no_kinds front u →
    u ≡ record { kind = last_kind front; port = last_port front }
from_none u front h =
    all_after no_kinds u front h
    ∙ ap (λ (k : Option KindTag). let w : CurrentKinds =
    record { kind = k; port = cond (names_or_uses front) (last_port front) None } in w)
    (or_none (last_kind front))
    ∙ ap
    (λ (p : Option PortTag). let w : CurrentKinds =
    record { kind = last_kind front; port = p } in w)
    (port_none front)

-- the items that calls have returned lead to the current kinds of the walk
calls_lead : (s : LinkWalk) (items : List LinkInfoItem) (t : LinkWalk) →
    Yields Moves s (given items) t → LeadsTo s.kinds (map attribute_of_item items) t.kinds
calls_lead s [] t e = ap (λ (w : LinkWalk). w.kinds) e
calls_lead s (item ∷ more) t h = (h.0.kinds, h.1.holds.kinds_after, calls_lead h.0 more t h.2)

pub tags_by_place : (s : List ℕ) (before : List LinkInfoItem) (item : LinkInfoItem)
    (u v : LinkWalk) → Yields Moves (link_walk s) (given before) u →
    Moves u (Some (Ok item)) v → TagsByPlace before item
tags_by_place s before item u v led gave =
    let is =
    from_none u.kinds (map attribute_of_item before) (calls_lead (link_walk s) before u led) in
    record {
      kind_tag = gave.holds.kind_tag ∙ ap (λ (t : CurrentKinds). t.kind) is;
      port_tag = gave.holds.port_tag ∙ ap (λ (t : CurrentKinds). t.port) is;
    }

module _ {L : DataTypes} (layer : DataFamilies L) where
  -- an accepted attribute has no error of its own
  named_enters : (a : Attribute) (t : CurrentKinds) (label : List ℕ → LinkOf L)
      (x : LinkOf L) →
      labelled family.LinkInfo (masked a.kind) label (own (means Name a.value)) ≡ Ok x →
      (kinds : List ℕ → CurrentKinds) →
      with_name (name_meaning a) kinds ≡ Ok (or_stay t (with_name (name_meaning a) kinds))
  named_enters a t label x e kinds =
      let n = name_read layer a label x e in
      ap (λ (m : Result (List ℕ) DecodeError). with_name m kinds) n.1
      ∙ ap (λ (m : Result (List ℕ) DecodeError). leaves (or_stay t (with_name m kinds))) (sym n.1)

  role_enters : (r : Role) (t : CurrentKinds) (a : Attribute) (x : LinkOf L) →
      row_meaning family.LinkInfo link_other (link_row layer r) a ≡ Ok x →
      kinds_after_role r t a ≡ Ok (or_stay t (kinds_after_role r t a))
  role_enters role.Kind t a x e =
      named_enters a t (λ name. info.Kind (kind_of_name name)) x e
      (λ name. record { kind = Some (tag_of_name name); port = t.port })
  role_enters role.PortKind t a x e =
      named_enters a t (λ name. info.PortKind (port_kind_of_name name)) x e
      (λ name. record { kind = t.kind; port = Some (port_tag_of_name name) })
  role_enters (role.Data tag) t a x e = refl
  role_enters role.Xstats t a x e = refl
  role_enters (role.PortData tag) t a x e = refl
  role_enters role.Misplaced t a x e = absurd cc
  role_enters role.Unknown t a x e = refl

  pub meaning_enters : (t : CurrentKinds) (a : Attribute) (x : LinkOf L) →
      link_meaning layer t a ≡ Ok x → kinds_after t a ≡ Ok (next_kinds t a)
  unfolding meaning_in next_kinds
  meaning_enters t a x e = role_enters (role_at t a) t a x e

  each_leads : (t : CurrentKinds) (front : List Attribute) (xs : List (LinkOf L)) →
      MeansEach layer t front xs → LeadsTo t front (kinds_after_all t front)
  each_leads t [] xs h = refl
  each_leads t (a ∷ more) [] h = absurd h
  each_leads t (a ∷ more) (x ∷ xs) h = (
    next_kinds t a,
    meaning_enters t a x h.0,
    each_leads (next_kinds t a) more xs h.1,
  )

  pub kinds_by_place : (front : List Attribute) (xs : List (LinkOf L)) →
      MeansEach layer no_kinds front xs →
      kinds_after_all no_kinds front
      ≡ record { kind = last_kind front; port = last_port front }
  kinds_by_place front xs h =
      from_none (kinds_after_all no_kinds front) front (each_leads no_kinds front xs h)
