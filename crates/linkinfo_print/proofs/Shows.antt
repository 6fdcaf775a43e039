-- One step of a walk, and what is printed of the attributes so far.
use Rattle.std.proofs.Common.{
  ◌≡◌,
  ℕ,
  List,
  [],
  ◌++◌,
  Option,
  Some,
  None,
  Ok,
  Err,
  refl,
  sym,
  ap,
  ◌∙◌,
  append_assoc,
  append-nil,
}
use Rattle.nla_frame.specs.Attribute.{Attribute, masked}
use Rattle.nla_frame.specs.declared.error.DecodeError.{DecodeError}
use Rattle.linkinfo.specs.Roles.{kinds_after, no_kinds, role_at, role_of}
use Rattle.linkinfo.specs.Strings.{next_kinds, or_stay}
use Rattle.linkinfo.specs.Walks.{LinkWalk, Moves, attribute_of_item, items_left, link_walk}
use Rattle.linkinfo.specs.declared.role.CurrentKinds.{CurrentKinds}
use Rattle.linkinfo.specs.declared.walk.LinkInfoItem.{LinkInfoItem}
use Rattle.linkinfo_print.specs.ListData.{
  if_other,
  list_data,
  members_on,
  named_after,
  other_data,
  others_in,
  put_if,
  role_data,
  shown_as,
  with_others,
}
use Rattle.linkinfo_view.specs.declared.format.Table.{Table}
use Rattle.serde_json.specs.Data.{Data, Members, no_members, object}

-- the current kinds before an item
abbrev kinds_of : LinkInfoItem → CurrentKinds
kinds_of item = record { kind = item.kind_tag; port = item.port_tag }

kinds_before : (u : LinkWalk) (item : LinkInfoItem) (t : LinkWalk) → Moves u (Some (Ok item)) t →
    kinds_of item ≡ u.kinds
kinds_before u item t moves =
    ap (λ (k : Option _). record { kind = k; port = item.port_tag }) moves.holds.kind_tag
    ∙ ap (λ (p : Option _). record { kind = u.kinds.kind; port = p }) moves.holds.port_tag

next_is : (t u : CurrentKinds) (a : Attribute) → kinds_after t a ≡ Ok u → next_kinds t a ≡ u
unfolding next_kinds
next_is t u a e = ap (or_stay t) e

pub members_step : (u : LinkWalk) (item : LinkInfoItem) (t : LinkWalk) (rows later : Option Table)
    (before after whole : Members) (name : Option (List ℕ)) →
    Moves u (Some (Ok item)) t → name ≡ shown_as (attribute_of_item item) (items_left t) →
    later ≡ named_after rows (attribute_of_item item) →
    after
    ≡ put_if name (role_data (role_of (kinds_of item) (masked item.raw_kind)) rows item.value.now)
    before →
    members_on before u.kinds rows (items_left u) ≡ whole →
    members_on after t.kinds later (items_left t) ≡ whole
members_step u item t rows later before after whole name moves named table put so_far =
    let a = attribute_of_item item in
    let shown = role_data (role_at u.kinds a) rows a.value in
    let now =
    put
    ∙ ap (λ (n : Option (List ℕ)). put_if n
    (role_data (role_of (kinds_of item) (masked item.raw_kind)) rows item.value.now) before) named
    ∙ ap (λ (k : CurrentKinds). put_if (shown_as a (items_left t))
    (role_data (role_of k (masked item.raw_kind)) rows item.value.now) before)
    (kinds_before u item t moves) in
    ap (λ (ms : Members). members_on ms t.kinds later (items_left t)) now
    ∙ ap (λ (o : Option Table). members_on (put_if (shown_as a (items_left t)) shown before)
    t.kinds o (items_left t)) table
    ∙ ap (λ (k : CurrentKinds). members_on (put_if (shown_as a (items_left t)) shown before) k
    (named_after rows a) (items_left t)) (sym (next_is u.kinds t.kinds a moves.holds.kinds_after))
    ∙ ap (members_on before u.kinds rows) (sym moves.gives)
    ∙ so_far

others_after : (name : Option (List ℕ)) (d : Data) (ds : List Data) →
    if_other name d [] ++ ds ≡ if_other name d ds
others_after (Some name) d ds = refl
others_after None d ds = refl

pub others_step : (u : LinkWalk) (item : LinkInfoItem) (t : LinkWalk)
    (before after whole : List Data) (name : Option (List ℕ)) →
    Moves u (Some (Ok item)) t → name ≡ shown_as (attribute_of_item item) (items_left t) →
    after ≡ before ++ if_other name (other_data (attribute_of_item item)) [] →
    before ++ others_in (items_left u) ≡ whole → after ++ others_in (items_left t) ≡ whole
others_step u item t before after whole name moves named pushed so_far =
    let a = attribute_of_item item in
    let d = other_data a in
    let more = others_in (items_left t) in
    ap (λ (ds : List Data). ds ++ more) pushed
    ∙ append_assoc before (if_other name d []) more
    ∙ ap (λ (ds : List Data). before ++ ds) (others_after name d more)
    ∙ ap (λ (n : Option (List ℕ)). before ++ if_other n d more) named
    ∙ ap (λ items. before ++ others_in items) (sym moves.gives)
    ∙ so_far

-- at the error, and at the end, nothing is added
pub members_stop : (u : LinkWalk) (e : DecodeError) (t : LinkWalk) (rows : Option Table)
    (before whole : Members) → Moves u (Some (Err e)) t →
    members_on before u.kinds rows (items_left u) ≡ whole → before ≡ whole
members_stop u e t rows before whole moves so_far =
    ap (members_on before u.kinds rows) (sym moves.gives) ∙ so_far

pub others_stop : (u : LinkWalk) (e : DecodeError) (t : LinkWalk) (before whole : List Data) →
    Moves u (Some (Err e)) t → before ++ others_in (items_left u) ≡ whole → before ≡ whole
others_stop u e t before whole moves so_far =
    sym (append-nil before) ∙ ap (λ items. before ++ others_in items) (sym moves.gives) ∙ so_far

pub members_end : (u t : LinkWalk) (rows : Option Table) (before whole : Members) →
    Moves u None t → members_on before u.kinds rows (items_left u) ≡ whole → before ≡ whole
members_end u t rows before whole moves so_far =
    ap (members_on before u.kinds rows) (sym moves.gives.0) ∙ so_far

pub others_end : (u t : LinkWalk) (before whole : List Data) →
    Moves u None t → before ++ others_in (items_left u) ≡ whole → before ≡ whole
others_end u t before whole moves so_far =
    sym (append-nil before) ∙ ap (λ items. before ++ others_in items) (sym moves.gives.0) ∙ so_far

-- the object of all attributes is the list's
pub list_is : (s : List ℕ) (shown : Members) (rest : List Data) →
    shown ≡ members_on no_members no_kinds None (items_left (link_walk s)) →
    rest ≡ others_in (items_left (link_walk s)) →
    object (with_others rest shown) ≡ list_data s
unfolding list_data
list_is s shown rest m o =
    ap (λ (ms : Members). object (with_others rest ms)) m
    ∙ ap (λ (ds : List Data). object (with_others ds
    (members_on no_members no_kinds None (items_left (link_walk s))))) o
