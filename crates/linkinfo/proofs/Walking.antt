-- One step over the attributes of a list.
use Rattle.std.proofs.Common.{
  ◌≡◌,
  ℕ,
  Bool,
  true,
  false,
  List,
  [],
  ◌∷◌,
  length,
  refl,
  sym,
  ap,
  subst,
  ◌∙◌,
  arith,
  Result,
  Ok,
  Err,
  Option,
  Some,
  None,
  is_some,
  unwrap_or,
  if◌then◌else◌,
}
use Rattle.std.specs.Iterator.{MakesProgress, item_count}
use Rattle.nla_frame.specs.Attribute.{Attribute, masked}
use Rattle.nla_frame.specs.Error.{header_error}
use Rattle.nla_frame.specs.NlaItems.{nla_items, items_of, seen}
use Rattle.nla_frame.specs.Walk.{Walk, unread, Passes, Fails, Moves as AttributeMoves}
use Rattle.nla_frame.specs.declared.error.DecodeError.{DecodeError}
use Rattle.nla_frame.proofs.Stepping.{nla_items_nil, seen_room}
use Rattle.linkinfo.specs.declared.role.CurrentKinds.{CurrentKinds}
use Rattle.linkinfo.specs.declared.walk.LinkInfoItem.{LinkInfoItem}
use Rattle.linkinfo.specs.declared.role.Role.{Role}
use Rattle.linkinfo.specs.Roles.{kinds_after, kinds_after_role, role_of}
use Rattle.linkinfo.specs.Walks.{
  LinkWalk,
  left,
  item_or_error,
  walk_items,
  items_left,
  ErrorOf,
  Stops,
  Moves,
}

abbrev walk : Walk → CurrentKinds → Option ℕ → LinkWalk
walk attributes kinds error = record { attributes = attributes; kinds = kinds; error = error }

-- what is left, by whether the walk has met an error
abbrev left_by : Bool → Walk → List ℕ
left_by met attributes = if met then [] else unread attributes

-- after an error nothing is left
pub none_left : (attributes : Walk) (kinds : CurrentKinds) (error : Option ℕ) →
    is_some error ≡ true →
    nla_items (left (walk attributes kinds error)) ≡ []
none_left attributes kinds error e =
    ap (λ (met : Bool). nla_items (left_by met attributes)) e ∙ nla_items_nil

-- before an error the offset of a walk is that of its attributes
stands_at : (met : Option ℕ) (next place : ℕ) → is_some met ≡ false → place ≡ next →
    Some place ≡ Some (unwrap_or met next)
stands_at None next place going here = ap (λ (n : ℕ). Some n) here
stands_at (Some at) next place going here = absurd cc

-- the role of an attribute is that of its masked type
pub kinds_after_is : (t : CurrentKinds) (a : Attribute) (r : Role) (k : ℕ) → r ≡ role_of t k →
    k ≡ masked a.kind → kinds_after_role r t a ≡ kinds_after t a
kinds_after_is t a r k e h =
    ap (λ (s : Role). kinds_after_role s t a) (e ∙ ap (λ (n : ℕ). role_of t n) h)

-- an error of an attribute itself
pub own_error : (attributes after : Walk) (kinds : CurrentKinds) (met : Option ℕ) (place : ℕ)
    (a : Attribute) (e : DecodeError) → is_some met ≡ false →
    place ≡ attributes.place → Passes attributes a after → kinds_after kinds a ≡ Err e →
    Stops (walk attributes kinds met) e (walk after kinds (Some place))
own_error attributes after kinds met place a e going here passes error =
    let parts : nla_items (left (walk attributes kinds met)) ≡ Ok a ∷ nla_items (unread after) =
    ap (λ (f : Bool). nla_items (left_by f attributes)) going ∙ passes.nla_items_are in
    record {
      seen = 1;
      error =
          subst (λ (ps : List (Result Attribute ℕ)). ErrorOf kinds ps e 1) (sym parts)
          (error, refl);
      at = stands_at met attributes.place place going here;
      kinds = refl;
      examined = passes.examined;
      room = omega (arith, ap (λ (f : Bool). length (left_by f attributes)) going, passes.room);
    }

-- a header that is not accepted
abbrev error : DecodeError → Result Attribute DecodeError
error e = Err e

first_error : (d e : DecodeError) (xs ys : List (Result Attribute DecodeError)) →
    (error d ∷ xs) ≡ (error e ∷ ys) → d ≡ e
first_error d e xs ys h = cc

pub no_header : (attributes after : Walk) (kinds : CurrentKinds) (met : Option ℕ) (place : ℕ)
    (e : DecodeError) → is_some met ≡ false →
    place ≡ attributes.place → AttributeMoves attributes (Some (Err e)) after →
    Stops (walk attributes kinds met) e (walk after kinds (Some place))
no_header attributes after kinds met place e going here moves =
    let fails : Fails attributes after = moves.steps in
    let is : e ≡ header_error =
    first_error e header_error _ [] (sym moves.gives ∙ ap items_of fails.nla_items_are) in
    let unread_is : left (walk attributes kinds met) ≡ unread attributes =
    ap (λ (f : Bool). left_by f attributes) going in
    let parts : nla_items (left (walk attributes kinds met)) ≡ Err (seen (unread attributes)) ∷ [] =
    ap nla_items unread_is ∙ fails.nla_items_are in
    record {
      seen = seen (unread attributes);
      error =
          subst (λ (ps : List (Result Attribute ℕ)). ErrorOf kinds ps e (seen (unread attributes)))
          (sym parts) (is, refl);
      at = stands_at met attributes.place place going here;
      kinds = refl;
      examined = fails.examined;
      room = omega (arith, ap length unread_is, seen_room (unread attributes));
    }

-- the error is the one item left
error_first : (t : CurrentKinds) (ps : List (Result Attribute ℕ)) (e : DecodeError) (n : ℕ) →
    ErrorOf t ps e n → walk_items t ps ≡ Err e ∷ []
error_first t [] e n h = absurd h
error_first t ((Err k) ∷ more) e n h = ap (λ (d : DecodeError). Err d ∷ []) (sym h.0)
error_first t ((Ok a) ∷ more) e n h =
    ap (λ (r : Result CurrentKinds DecodeError). item_or_error a r (λ u. walk_items u more)) h.0

pub stops_gives : (s t : LinkWalk) (e : DecodeError) → Stops s e t →
    items_left s ≡ Err e ∷ items_left t
stops_gives s t e h =
    error_first s.kinds (nla_items (left s)) e h.seen h.error
    ∙ ap (λ (ps : List (Result Attribute ℕ)). Err e ∷ walk_items t.kinds ps)
    (sym (none_left t.attributes t.kinds t.error (ap is_some h.at)))

pub progress : (s t : LinkWalk) (x : Result LinkInfoItem DecodeError) → Moves s (Some x) t →
    MakesProgress (λ _. Unit {0}) (item_count items_left) s (Some x) t
progress s t (Ok item) h = record {
  on = λ _. (tt, tt, omega (arith, ap length h.gives));
  keeps = tt;
  rests = λ _. tt;
}
progress s t (Err e) h = record {
  on = λ _. (tt, tt, omega (arith, ap length h.gives));
  keeps = tt;
  rests = λ _. tt;
}
