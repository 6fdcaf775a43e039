-- The links of a byte string, message by message.
use Rattle.std.proofs.Common.{
  ◌≡◌,
  ℕ,
  ◌+◌,
  ◌-◌,
  ◌*◌,
  ◌≤◌,
  ◌<◌,
  min,
  Bool,
  true,
  false,
  cond,
  ltb,
  eqb,
  List,
  [],
  ◌∷◌,
  length,
  drop,
  refl,
  sym,
  ap,
  subst,
  ◌∙◌,
  arith,
  Option,
  Some,
  None,
  Result,
  Ok,
  Err,
}
use Rattle.std.proofs.lemmas.Bool.{ltb-false}
use Rattle.std.proofs.lemmas.List.{length-take, length-drop, drop_all}
use Rattle.std.specs.Prelude.{slice_range, option_copied}
use Rattle.nla_frame.specs.Attribute.{Attribute, aligned}
use Rattle.nla_frame.specs.NlaItems.{nla_items}
use Rattle.linkinfo_messages.specs.declared.error.MessageError.{MessageError}
use Rattle.linkinfo_messages.specs.declared.link.LinkEvent.{LinkEvent}
use Rattle.linkinfo_messages.specs.declared.link.LinkEvent.TheVariants.{New, Deleted}
use Rattle.linkinfo_messages.specs.declared.error.MessageCause.TheVariants.{
  Header,
  Short,
  Long,
  LinkHeader,
}
use Rattle.linkinfo_messages.specs.Integers.{le16}
use Rattle.linkinfo_messages.specs.Messages.{
  Message,
  message_error,
  message_at,
  messages,
  length_of,
  rejected_headers,
}
use Rattle.linkinfo_messages.specs.Links.{
  Link,
  located,
  damaged_at,
  link_with,
  link_of_items,
  unless_damaged,
  link_as,
  link_of,
  links_before,
  links_of,
  attribute_headers,
  headers_after,
  headers_of,
}
use Rattle.linkinfo_messages.specs.Reading.{followed}
use Rattle.linkinfo_messages.specs.declared.link.LinkMessage.{LinkMessage}
use Rattle.linkinfo_messages.specs.Slices.{IsSlice}
use Rattle.linkinfo_messages.specs.Views.{HasSlices, info_seen, link_in}
use Rattle.linkinfo_messages.specs.Walks.{
  Walk,
  links_from,
  headers_from,
  FindsLink,
  FindsError,
  FindsEnd,
  Moves,
}
use Rattle.linkinfo_messages.proofs.Slicing.{range_slice, rest_slice, slice_in, slices_in}
use Rattle.linkinfo_messages.proofs.Items.{
  TakesSome,
  items_nil,
  items_at,
  items-bound,
  of_choice,
}

-- ---- a message, and what it says, have the offset of its header

abbrev pub ReadsAt : ℕ → List ℕ → Result (Message × ℕ) MessageError → Type 0
ReadsAt place s (Ok x) =
    (x.0.place ≡ place)
    × (16 + length x.0.payload ≤ x.1)
    × (x.1 ≤ length s)
    × IsSlice x.0.payload s 16
ReadsAt place s (Err e) = (e.place ≡ place) × (16 * rejected_headers e.cause ≤ length s)

pub reads_at : (place : ℕ) (s : List ℕ) → ReadsAt place s (message_at place s)
unfolding message_at
reads_at place s =
    let P : Result (Message × ℕ) MessageError → Type 0 = ReadsAt place s in
    let n : ℕ = length_of s in
    let message : Result (Message × ℕ) MessageError = Ok (
      record { place = place; kind = le16 s 4; payload = slice_range s 16 n },
      min (length s) (aligned n),
    ) in
    let bounded : Result (Message × ℕ) MessageError =
    cond (ltb (length s) n) (Err (message_error place (Long n))) message in
    let long : Result (Message × ℕ) MessageError =
    cond (ltb n 16) (Err (message_error place (Short n))) bounded in
    of_choice P (ltb (length s) 16) (Err (message_error place Header)) long
    (λ _. (refl, omega arith)) (λ whole.
    let more : 16 ≤ length s = ltb-false (length s) 16 whole in
    of_choice P (ltb n 16) (Err (message_error place (Short n))) bounded (λ _. (refl, more)) (λ low.
    of_choice P (ltb (length s) n) (Err (message_error place (Long n))) message
    (λ _. (refl, more)) (λ high.
    let least : 16 ≤ n = ltb-false n 16 low in
    let whole' : n ≤ length s = ltb-false (length s) n high in
    let payload : IsSlice (slice_range s 16 n) s 16 = range_slice s 16 n least whole' in
    let size : length (slice_range s 16 n) ≡ n - 16 =
    omega (arith, length-take (n - 16) (drop 16 s), length-drop 16 s, least, whole') in
    (refl, omega (arith, size, least, whole'), omega arith, payload))))

pub takes_some : TakesSome message_at
takes_some place s x e =
    let at : ReadsAt place s (Ok x) = subst (ReadsAt place s) e (reads_at place s) in
    (omega (arith, at.1), at.2)

abbrev pub SaysAt : ℕ → Result (Option Link) MessageError → Type 0
SaysAt place (Ok None) = Unit {0}
SaysAt place (Ok (Some link)) = link.place ≡ place
SaysAt place (Err e) = e.place ≡ place

unless_damaged_at : (o : Option ℕ) (place : ℕ) (link : Link) → link.place ≡ place →
    SaysAt place (unless_damaged o place link)
unless_damaged_at None place link h = h
unless_damaged_at (Some at) place link h = refl

link_as_at : (event : LinkEvent) (m : Message) → SaysAt m.place (link_as event m)
unfolding link_as
link_as_at event m =
    let attributes : List (Result Attribute ℕ) = nla_items (drop 16 m.payload) in
    of_choice (SaysAt m.place) (ltb (length m.payload) 16)
    (Err (message_error m.place (LinkHeader (16 + length m.payload))))
    (link_of_items event m attributes) (λ _. refl)
    (λ _. unless_damaged_at (damaged_at (m.place + 32) attributes) m.place
    (link_with event m (located (m.place + 32) attributes)) refl)

pub says_at : (m : Message) → SaysAt m.place (link_of m)
unfolding link_of
says_at m =
    let other : Result (Option Link) MessageError =
    cond (eqb m.kind 17) (link_as Deleted m) (Ok None) in
    of_choice (SaysAt m.place) (eqb m.kind 16) (link_as New m) other (λ _. link_as_at New m) (λ _.
    of_choice (SaysAt m.place) (eqb m.kind 17) (link_as Deleted m) (Ok None)
    (λ _. link_as_at Deleted m) (λ _. tt))

-- ---- the links from an offset on

-- at the end there are no messages
pub messages_end : (s : List ℕ) (place : ℕ) → length s ≤ place → messages place (drop place s) ≡ []
messages_end s place h =
    ap (λ u. messages place u) (drop_all place s h) ∙ items_nil message_at place

pub messages_first : (s : List ℕ) (place : ℕ) (r : Result (Message × ℕ) MessageError) →
    place < length s → r ≡ message_at place (drop place s) →
    messages place (drop place s)
    ≡ followed r (λ k. messages (place + k) (drop (place + k) s))
messages_first s place r h e =
    items_at message_at takes_some place s h
    ∙ ap (λ r. followed r (λ k. messages (place + k) (drop (place + k) s))) (sym e)

-- a message at an offset, and then those after it
pub record Ahead (s : List ℕ) (place : ℕ) (m : Message) (k : ℕ) : Type 0 where
  pub links : links_from s place ≡ links_before (link_of m) (links_from s (place + k))
  pub headers : headers_from s place
      ≡ 1 + (attribute_headers m + headers_after (link_of m) (headers_from s (place + k)))
  pub here : message_at place (drop place s) ≡ Ok (m, k)
  pub at : m.place ≡ place
  pub some : 16 + length m.payload ≤ k
  pub within : place + k ≤ length s
  pub payload : IsSlice m.payload s (place + 16)

pub ahead : (s u : List ℕ) (place : ℕ) (m : Message) (k : ℕ) → place < length s →
    u ≡ drop place s → Ok (m, k) ≡ message_at place u → Ahead s place m k
ahead s u place m k h from e =
    let here : Ok (m, k) ≡ message_at place (drop place s) =
    e ∙ ap (λ (x : List ℕ). message_at place x) from in
    let reads : ReadsAt place (drop place s) (Ok (m, k)) =
    subst (ReadsAt place (drop place s)) (sym here) (reads_at place (drop place s)) in
    let messages_are = messages_first s place (Ok (m, k)) h here in
    record {
      links = ap links_of messages_are;
      headers = ap headers_of messages_are;
      here = sym here;
      at = reads.0;
      some = reads.1;
      within = omega (arith, reads.2, length-drop place s, h);
      payload =
          slice_in m.payload (drop place s) s 16 place reads.3
          (rest_slice (drop place s) s place (omega (arith, h)) refl);
    }

-- From an offset and a count of headers to others, without a link on the way: the count is that of
-- the headers between them.
pub record Passed (s : List ℕ) (start old place now : ℕ) : Type 0 where
  pub from : start ≤ place
  pub within : place ≤ length s
  pub links : links_from s place ≡ links_from s start
  pub counted : now + headers_from s place ≡ old + headers_from s start
  pub quarter : 4 * now ≤ place

-- a message at that offset, and the count after it
pub record Visits (s : List ℕ) (start old place : ℕ) (m : Message) (k new : ℕ) : Type 0 where
  pub ahead : Ahead s place m k
  pub from : start ≤ place
  pub links : links_from s place ≡ links_from s start
  pub counted : new + headers_after (link_of m) (headers_from s (place + k))
      ≡ old + headers_from s start
  pub quarter : 4 * new ≤ place + k

pub visits : (s : List ℕ) (start old place now mid new : ℕ) (m : Message) (k : ℕ) →
    Passed s start old place now → Ahead s place m k → mid ≡ now + 1 →
    new ≡ mid + attribute_headers m → 4 * new ≤ 4 * mid + length m.payload →
    Visits s start old place m k new
visits s start old place now mid new m k passed h one attributes quarter = record {
  ahead = h;
  from = passed.from;
  links = passed.links;
  counted = omega (arith, one, attributes, passed.counted, h.headers);
  quarter = omega (arith, one, quarter, passed.quarter, h.some);
}

-- what is counted after a message, of which this is said
counted_by : (s : List ℕ) (start old place : ℕ) (m : Message) (k new : ℕ)
    (r : Result (Option Link) MessageError) → Visits s start old place m k new → r ≡ link_of m →
    new + headers_after r (headers_from s (place + k)) ≡ old + headers_from s start
counted_by s start old place m k new r h says =
    ap (λ r. new + headers_after r (headers_from s (place + k))) says ∙ h.counted

-- no link in a message
pub passes : (s : List ℕ) (start old place : ℕ) (m : Message) (k new : ℕ) →
    Visits s start old place m k new → Ok None ≡ link_of m → Passed s start old (place + k) new
passes s start old place m k new h none = record {
  from = omega (arith, h.from);
  within = h.ahead.within;
  links =
      ap (λ r. links_before r (links_from s (place + k))) none ∙ sym h.ahead.links ∙ h.links;
  counted = counted_by s start old place m k new (Ok None) h none;
  quarter = h.quarter;
}

-- a link in a message
pub finds_link : (s : List ℕ) (start old place : ℕ) (m : Message) (k new : ℕ)
    (link : LinkMessage) → Visits s start old place m k new →
    Ok (Some (link_in link)) ≡ link_of m → HasSlices link m.payload (m.place + 16) →
    FindsLink s start old new link (place + k)
finds_link s start old place m k new link v some slices =
    let h : Ahead s place m k = v.ahead in
    let at : link.place ≡ m.place = subst (SaysAt m.place) (sym some) (says_at m) in
    record {
      links_are =
          sym v.links ∙ h.links ∙ ap (λ r. links_before r (links_from s (place + k))) (sym some);
      from = omega (arith, at, h.at, v.from);
      ends = (
        m,
        k,
        subst (λ p. message_at p (drop p s) ≡ Ok (m, k)) (sym (at ∙ h.at)) h.here,
        ap (λ p. p + k) (sym (at ∙ h.at)),
      );
      advances = omega (arith, at, h.at, h.some);
      within = h.within;
      slices =
          slices_in (option_copied link.name) link.name_place (info_seen link.info) m.payload s 0
          (place + 16)
          (m.place + 16) (omega (arith, h.at)) slices h.payload;
      counted = counted_by s start old place m k new (Ok (Some (link_in link))) v some;
      quarter = v.quarter;
    }

-- a link message that is rejected
pub finds_bad_link : (s : List ℕ) (start old place : ℕ) (m : Message) (k new : ℕ)
    (e : MessageError) → Visits s start old place m k new → Err e ≡ link_of m →
    FindsError s start old new e
finds_bad_link s start old place m k new e v bad =
    let h : Ahead s place m k = v.ahead in
    let at : e.place ≡ m.place = subst (SaysAt m.place) (sym bad) (says_at m) in
    record {
      links_are =
          sym v.links ∙ h.links ∙ ap (λ r. links_before r (links_from s (place + k))) (sym bad);
      from = omega (arith, at, h.at, v.from);
      within = omega (arith, at, h.at, h.some, h.within);
      counted = omega (arith, counted_by s start old place m k new (Err e) v bad);
      quarter = omega (arith, v.quarter, h.within);
    }

-- a message that is rejected
pub finds_bad_message : (s u : List ℕ) (start old place now new : ℕ) (e : MessageError) →
    Passed s start old place now → place < length s → u ≡ drop place s →
    Err e ≡ message_at place u → new ≡ now + rejected_headers e.cause →
    FindsError s start old new e
finds_bad_message s u start old place now new e passed h unread bad counted =
    let here : Err e ≡ message_at place (drop place s) =
    bad ∙ ap (λ (x : List ℕ). message_at place x) unread in
    let reads : ReadsAt place (drop place s) (Err e) =
    subst (ReadsAt place (drop place s)) (sym here) (reads_at place (drop place s)) in
    let messages_are = messages_first s place (Err e) h here in
    let headers : headers_from s place ≡ rejected_headers e.cause = ap headers_of messages_are in
    record {
      links_are = sym passed.links ∙ ap links_of messages_are;
      from = omega (arith, reads.0, passed.from);
      within = omega (arith, reads.0, h);
      counted = omega (arith, counted, headers, passed.counted);
      quarter = omega (arith, counted, reads.1, length-drop place s, passed.quarter, h);
    }

-- the end
pub finds_end : (s : List ℕ) (start old place now : ℕ) → Passed s start old place now →
    length s ≤ place → FindsEnd s start old now
finds_end s start old place now passed h = record {
  links_are = sym passed.links ∙ ap links_of (messages_end s place h);
  counted = omega (arith, passed.counted, ap headers_of (messages_end s place h));
  quarter = omega (arith, passed.quarter, passed.within);
}

-- ---- how many there are

links_before-length : (r : Result (Option Link) MessageError)
    (more : List (Result Link MessageError)) → length (links_before r more) ≤ 1 + length more
links_before-length (Ok None) more = omega arith
links_before-length (Ok (Some link)) more = omega arith
links_before-length (Err e) more = omega arith

links_of-length : (l : List (Result Message MessageError)) → length (links_of l) ≤ length l
links_of-length [] = omega arith
links_of-length ((Ok m) ∷ more) =
    omega (arith, links_before-length (link_of m) (links_of more), links_of-length more)
links_of-length ((Err e) ∷ more) = omega arith

pub links-bound : (s : List ℕ) (place : ℕ) → 16 * length (links_from s place) ≤ length s + 15
links-bound s place =
    omega (
      arith,
      links_of-length (messages place (drop place s)),
      items-bound message_at takes_some place (drop place s),
      length-drop place s,
    )

-- ---- one call of the iterator

abbrev walk : List ℕ → ℕ → ℕ → Bool → Walk
walk s place n failed = record { source = s; place = place; examined = n; failed = failed }

pub on_end : (s : List ℕ) (place n m : ℕ) (failed : Bool) → failed ≡ false →
    FindsEnd s place n m → Moves (walk s place n failed) None (walk s (length s) m failed)
on_end s place n m true going h = absurd cc
on_end s place n m false going h =
    let none = messages_end s (length s) (omega arith) in
    record {
      gives = (h.links_are, ap links_of none);
      source = refl;
      counted = omega (arith, h.counted, ap headers_of none);
      steps = (refl, refl);
    }

pub on_failed : (s : List ℕ) (place n : ℕ) (failed : Bool) → failed ≡ true →
    Moves (walk s place n failed) None (walk s place n failed)
on_failed s place n true h =
    record { gives = (refl, refl); source = refl; counted = refl; steps = (refl, refl) }
on_failed s place n false h = absurd cc
