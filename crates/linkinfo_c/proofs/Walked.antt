-- A walk that has returned items, and what an array has of them.
use Rattle.std.proofs.Common.{
  ◌≡◌,
  ℕ,
  ◌+◌,
  min,
  List,
  [],
  ◌∷◌,
  ◌++◌,
  length,
  map,
  refl,
  sym,
  ap,
  subst,
  ◌∙◌,
  arith,
  Ok,
  Err,
  Option,
  Some,
  None,
}
use Rattle.std.specs.Prelude.{slice_set}
use Rattle.std.specs.Iterator.{Yields}
use Rattle.std.proofs.lemmas.List.{map-append}
use Rattle.nla_frame.specs.Attribute.{Attribute, aligned}
use Rattle.nla_frame.specs.declared.error.DecodeError.{DecodeError}
use Rattle.linkinfo.specs.Placed.{place_after}
use Rattle.linkinfo.specs.Strings.{last_kind}
use Rattle.linkinfo.specs.Walks.{
  LinkWalk,
  Moves,
  attribute_of_item,
  given,
  items_left,
  link_walk,
  place_of,
}
use Rattle.linkinfo.specs.declared.walk.LinkInfoItem.{LinkInfoItem}
use Rattle.linkinfo.proofs.Places.{tags_by_place}
use Rattle.linkinfo_numbers.specs.declared.tags.KindTag.{KindTag}
use Rattle.linkinfo_numbers.specs.declared.tags.PortTag.{PortTag}
use Rattle.linkinfo_c.specs.declared.items.LinkinfoItem.{LinkinfoItem}
use Rattle.linkinfo_c.specs.Codes.{kind_code, port_kind_code}
use Rattle.linkinfo_c.specs.Errors.{no_error, error_record}
use Rattle.linkinfo_c.specs.Items.{code_in, given_by, item_after}
use Rattle.linkinfo_c.proofs.Listing.{Lists, Listed}
use Rattle.linkinfo_c.proofs.Listing as listing

abbrev attributes_of : List LinkInfoItem → List Attribute
attributes_of before = map attribute_of_item before

-- a walk from the beginning of a byte string, and the items that it has returned
pub record Walked (s : List ℕ) (old new : List LinkinfoItem) (count place : ℕ) (w : LinkWalk) : Type
    0 where
  pub before : List LinkInfoItem
  pub led : Yields Moves (link_walk s) (given before) w
  pub lists : Lists (item_after s) s (given_by s) (items_left w) old new (attributes_of before)
      count place
  pub source : w.attributes.source ≡ s
  pub examined : w.attributes.examined ≡ count
  pub stands : place_of w ≡ place

pub begins : (s : List ℕ) (old : List LinkinfoItem) → Walked s old old 0 0 (link_walk s)
begins s old = record {
  before = [];
  led = refl;
  lists = listing.begins (item_after s) s (given_by s) old;
  source = refl;
  examined = refl;
  stands = refl;
}

led-push : (s : LinkWalk) (before : List LinkInfoItem) (u : LinkWalk) (item : LinkInfoItem)
    (t : LinkWalk) → Yields Moves s (given before) u → Moves u (Some (Ok item)) t →
    Yields Moves s (given (before ++ item ∷ [])) t
led-push s [] u item t e m = (
  t,
  subst (λ (w : LinkWalk). Moves w (Some (Ok item)) t) (sym e) m,
  refl,
)
led-push s (b ∷ before) u item t h m = (h.0, h.1, led-push h.0 before u item t h.2 m)

-- the record of an item
abbrev pub record_of : ℕ → LinkInfoItem → Option KindTag → Option PortTag → LinkinfoItem
record_of place item kind port =
    record {
      place = place;
      len = length item.value.now;
      raw_kind = item.raw_kind;
      kind = code_in kind_code kind;
      port_kind = code_in port_kind_code port;
    }

item_is : (s : List ℕ) (old new : List LinkinfoItem) (count place : ℕ) (w : LinkWalk)
    (item : LinkInfoItem) (t : LinkWalk) (r : LinkinfoItem) →
    (walked : Walked s old new count place w) → Moves w (Some (Ok item)) t →
    r ≡ record_of item.place item item.kind_tag item.port_tag →
    r ≡ item_after s (attributes_of walked.before) (attribute_of_item item)
item_is s old new count place w item t r walked moves is =
    let front = attributes_of walked.before in
    let tags = tags_by_place s walked.before item w t walked.led moves in
    is
    ∙ ap (λ (n : ℕ). record_of n item item.kind_tag item.port_tag)
    (moves.holds.place ∙ walked.stands ∙ walked.lists.place_is)
    ∙ ap (λ (k : Option KindTag). record_of (place_after s front) item k item.port_tag)
    tags.kind_tag
    ∙ ap (λ (k : Option PortTag). record_of (place_after s front) item (last_kind front) k)
    tags.port_tag

-- one more item
pub goes_on : (s : List ℕ) (old new after : List LinkinfoItem) (count next place following : ℕ)
    (w : LinkWalk) (item : LinkInfoItem) (t : LinkWalk) (r : LinkinfoItem) →
    Walked s old new count place w → Moves w (Some (Ok item)) t →
    r ≡ record_of item.place item item.kind_tag item.port_tag → after ≡ slice_set new count r →
    next ≡ t.attributes.examined → following ≡ place_of t → Walked s old after next following t
goes_on s old new after count next place following w item t r walked moves is put counted at =
    let a = attribute_of_item item in
    let front = attributes_of walked.before in
    let pushed : attributes_of (walked.before ++ item ∷ []) ≡ front ++ a ∷ [] =
    map-append attribute_of_item walked.before (item ∷ []) in
    let passes : following ≡ min (length s) (place + aligned (4 + length a.value)) =
    at
    ∙ moves.holds.passes
    ∙ ap (λ (z : List ℕ). min (length z) (place_of w + aligned (4 + length a.value))) walked.source
    ∙ ap (λ (n : ℕ). min (length s) (n + aligned (4 + length a.value))) walked.stands in
    let more =
    listing.goes_on (item_after s) s (given_by s) (items_left w) (items_left t) old new after front
    count next place following a r walked.lists moves.gives
    (item_is s old new count place w item t r walked moves is) put
    (omega (arith, counted, moves.examined, walked.examined)) passes in
    record {
      before = walked.before ++ item ∷ [];
      led = led-push (link_walk s) walked.before w item t walked.led moves;
      lists =
          subst (λ (xs : List Attribute).
          Lists (item_after s) s (given_by s) (items_left t) old after xs next following)
          (sym pushed)
          more;
      source = moves.source ∙ walked.source;
      examined = sym counted;
      stands = sym at;
    }

pub ends : (s : List ℕ) (old new : List LinkinfoItem) (count place : ℕ) (w t : LinkWalk) →
    Walked s old new count place w → Moves w None t →
    Listed (item_after s) s (given_by s) old new count place no_error
ends s old new count place w t walked moves =
    listing.ends (item_after s) s (given_by s) (items_left w) old new (attributes_of walked.before)
    count place walked.lists moves.gives.0

pub stops : (s : List ℕ) (old new : List LinkinfoItem) (count place : ℕ) (w t : LinkWalk)
    (e : DecodeError) → Walked s old new count place w → Moves w (Some (Err e)) t →
    Listed (item_after s) s (given_by s) old new count place (error_record e)
stops s old new count place w t e walked moves =
    listing.stops (item_after s) s (given_by s) (items_left w) (items_left t) old new
    (attributes_of walked.before) count place e walked.lists moves.gives
