-- The same bytes, beginning later: the items differ in their offsets alone.
use Rattle.std.proofs.Common.{
  ◌≡◌,
  ℕ,
  zero,
  suc,
  ◌+◌,
  min,
  Bool,
  true,
  false,
  cond,
  ltb,
  eqb,
  List,
  [],
  ◌∷◌,
  length,
  map,
  drop,
  refl,
  ap,
  ◌∙◌,
  arith,
  Option,
  Some,
  None,
  Result,
  Ok,
  Err,
}
use Rattle.std.specs.Prelude.{slice_range, option_map}
use Rattle.std.specs.Option.{option_or}
use Rattle.std.specs.Int.{w32, cast_signed}
use Rattle.nla_frame.specs.Attribute.{Attribute, aligned, masked}
use Rattle.nla_frame.specs.NlaItems.{nla_items}
use Rattle.nla_frame.specs.Payload.{stripped}
use Rattle.linkinfo_messages.specs.declared.capture.CaptureFormat.{CaptureFormat}
use Rattle.linkinfo_messages.specs.declared.capture_error.CaptureCause.TheVariants as cause
use Rattle.linkinfo_messages.specs.declared.capture_error.CaptureError.{CaptureError}
use Rattle.linkinfo_messages.specs.declared.error.MessageCause.TheVariants.{
  Header,
  Short,
  Long,
  LinkHeader,
}
use Rattle.linkinfo_messages.specs.declared.error.MessageError.{MessageError}
use Rattle.linkinfo_messages.specs.declared.link.LinkEvent.{LinkEvent}
use Rattle.linkinfo_messages.specs.declared.link.LinkEvent.TheVariants.{New, Deleted}
use Rattle.linkinfo_messages.specs.Integers.{le16, le32}
use Rattle.linkinfo_messages.specs.Reading.{Reader, items, items_up_to, followed}
use Rattle.linkinfo_messages.specs.Messages.{
  Message,
  message_error,
  length_of,
  message_at,
  messages,
}
use Rattle.linkinfo_messages.specs.Links.{
  Link,
  located,
  damaged_at,
  last_of,
  name_in,
  name_place_in,
  info_in,
  link_with,
  unless_damaged,
  link_of_items,
  link_as,
  link_of,
  links_before,
  links_of,
}
use Rattle.linkinfo_messages.specs.Captures.{
  RecordParts,
  capture_error,
  captured_len,
  nanoseconds_of,
  number,
  record_at,
  records,
}
use Rattle.linkinfo_messages.specs.Offsets.{
  moved,
  message_moved,
  error_moved,
  info_moved,
  link_moved,
  name_place_moved,
  record_moved,
  capture_error_moved,
}

-- a function of both choices
pushed : {A B : Type 0} (f : A → B) (b : Bool) (x y : A) → cond b (f x) (f y) ≡ f (cond b x y)
pushed f true x y = refl
pushed f false x y = refl

-- ---- any items

abbrev read_moved : {X E : Type 0} → (X → X) → (E → E) → Result (X × ℕ) E → Result (X × ℕ) E
read_moved f g (Ok x) = Ok (f x.0, x.1)
read_moved f g (Err e) = Err (g e)

followed_moved : {X E : Type 0} (f : X → X) (g : E → E) (r : Result (X × ℕ) E)
    (next next' : ℕ → List (Result X E)) → ((k : ℕ) → next' k ≡ map (moved f g) (next k)) →
    followed (read_moved f g r) next' ≡ map (moved f g) (followed r next)
followed_moved f g (Ok x) next next' h = ap (λ l. Ok (f x.0) ∷ l) (h x.1)
followed_moved f g (Err e) next next' h = refl

-- a reader that gives the same wherever the bytes begin
abbrev MovesBy : {X E : Type 0} → Reader X E → (X → X) → (E → E) → ℕ → Type 0
MovesBy read f g by =
    (place : ℕ) → (s : List ℕ) → read (by + place) s ≡ read_moved f g (read place s)

items_up_to_moved : {X E : Type 0} (read : Reader X E) (f : X → X) (g : E → E) (by : ℕ) →
    MovesBy read f g by → (n place : ℕ) (s : List ℕ) →
    items_up_to read n (by + place) s ≡ map (moved f g) (items_up_to read n place s)
unfolding items_up_to
items_up_to_moved read f g by h zero place s = refl
items_up_to_moved read f g by h (suc n) place [] = refl
items_up_to_moved read f g by h (suc n) place (b ∷ s) =
    ap (λ r. followed r (λ k. items_up_to read n ((by + place) + k) (drop k (b ∷ s))))
    (h place (b ∷ s))
    ∙ followed_moved f g (read place (b ∷ s)) _ _ (λ k.
    ap (λ p. items_up_to read n p (drop k (b ∷ s))) (omega arith)
    ∙ items_up_to_moved read f g by h n (place + k) (drop k (b ∷ s)))

items_moved : {X E : Type 0} (read : Reader X E) (f : X → X) (g : E → E) (by : ℕ) →
    MovesBy read f g by → (place : ℕ) (s : List ℕ) →
    items read (by + place) s ≡ map (moved f g) (items read place s)
unfolding items
items_moved read f g by h place s = items_up_to_moved read f g by h (length s) place s

-- ---- messages

message_at_moved : (by : ℕ) → MovesBy message_at (message_moved by) (error_moved by) by
unfolding message_at
message_at_moved by place s =
    let F : Result (Message × ℕ) MessageError → Result (Message × ℕ) MessageError =
    read_moved (message_moved by) (error_moved by) in
    let n : ℕ = length_of s in
    let message : Result (Message × ℕ) MessageError = Ok (
      record { place = place; kind = le16 s 4; payload = slice_range s 16 n },
      min (length s) (aligned n),
    ) in
    let header : Result (Message × ℕ) MessageError = Err (message_error place Header) in
    let short : Result (Message × ℕ) MessageError = Err (message_error place (Short n)) in
    let long : Result (Message × ℕ) MessageError = Err (message_error place (Long n)) in
    let bounded : Result (Message × ℕ) MessageError = cond (ltb (length s) n) long message in
    ap (λ r. cond (ltb (length s) 16) (F header) (cond (ltb n 16) (F short) r))
    (pushed F (ltb (length s) n) long message)
    ∙ ap (λ r. cond (ltb (length s) 16) (F header) r) (pushed F (ltb n 16) short bounded)
    ∙ pushed F (ltb (length s) 16) header (cond (ltb n 16) short bounded)

pub messages_moved : (by place : ℕ) (s : List ℕ) →
    messages (by + place) s
    ≡ map (moved (message_moved by) (error_moved by)) (messages place s)
messages_moved by place s =
    items_moved message_at (message_moved by) (error_moved by) by (message_at_moved by) place s

-- ---- attributes

abbrev attribute_moved : ℕ → ℕ × Attribute → ℕ × Attribute
attribute_moved by x = (by + x.0, x.1)

located_moved : (by place : ℕ) (l : List (Result Attribute ℕ)) →
    located (by + place) l ≡ map (attribute_moved by) (located place l)
located_moved by place [] = refl
located_moved by place ((Err n) ∷ more) = refl
located_moved by place ((Ok a) ∷ more) =
    ap (λ p. (by + place, a) ∷ located p more) (omega arith)
    ∙ ap (λ l. (by + place, a) ∷ l)
    (located_moved by (place + aligned (4 + length a.value)) more)

damaged_moved : (by place : ℕ) (l : List (Result Attribute ℕ)) →
    damaged_at (by + place) l ≡ option_map (λ at. by + at) (damaged_at place l)
damaged_moved by place [] = refl
damaged_moved by place ((Err n) ∷ more) = refl
damaged_moved by place ((Ok a) ∷ more) =
    ap (λ p. damaged_at p more) (omega arith)
    ∙ damaged_moved by (place + aligned (4 + length a.value)) more

or_moved : {A : Type 0} (f : A → A) (o : Option A) (b : Bool) (x : A) →
    option_or (option_map f o) (cond b (Some (f x)) None)
    ≡ option_map f (option_or o (cond b (Some x) None))
or_moved f None true x = refl
or_moved f None false x = refl
or_moved f (Some y) b x = refl

last_moved : (by kind : ℕ) (l : List (ℕ × Attribute)) →
    last_of kind (map (attribute_moved by) l) ≡ option_map (attribute_moved by) (last_of kind l)
last_moved by kind [] = refl
last_moved by kind (x ∷ more) =
    ap (λ o. option_or o (cond (eqb (masked x.1.kind) kind) (Some (attribute_moved by x)) None))
    (last_moved by kind more)
    ∙ or_moved (attribute_moved by) (last_of kind more) (eqb (masked x.1.kind) kind) x

name_unmoved : (by : ℕ) (o : Option (ℕ × Attribute)) →
    option_map (λ x. stripped x.1.value) (option_map (attribute_moved by) o)
    ≡ option_map (λ x. stripped x.1.value) o
name_unmoved by None = refl
name_unmoved by (Some x) = refl

contents_moved : (by : ℕ) (o : Option (ℕ × Attribute)) →
    option_map (λ x. (x.0 + 4, x.1.value)) (option_map (attribute_moved by) o)
    ≡ info_moved by (option_map (λ x. (x.0 + 4, x.1.value)) o)
contents_moved by None = refl
contents_moved by (Some x) = ap (λ p. Some (p, x.1.value)) (omega arith)

-- ---- links

abbrev said_moved : ℕ → Result (Option Link) MessageError → Result (Option Link) MessageError
said_moved by r = moved (option_map (link_moved by)) (error_moved by) r

name_place_is_moved : (by : ℕ) (o : Option (ℕ × Attribute)) →
    option_map (λ x. x.0 + 4) (option_map (attribute_moved by) o)
    ≡ name_place_moved by (option_map (λ x. x.0 + 4) o)
name_place_is_moved by None = refl
name_place_is_moved by (Some x) = ap (λ p. Some p) (omega arith)

abbrev link_named : LinkEvent → Message → Option (List ℕ) → Option ℕ → Option (ℕ × List ℕ) → Link
link_named event m name name_place info = record {
  place = m.place;
  event = event;
  index = cast_signed w32 (le32 m.payload 4);
  flags = le32 m.payload 8;
  name = name;
  name_place = name_place;
  info = info;
}

link_with_moved : (by : ℕ) (event : LinkEvent) (m : Message) (l : List (ℕ × Attribute)) →
    link_with event (message_moved by m) (map (attribute_moved by) l)
    ≡ link_moved by (link_with event m l)
link_with_moved by event m l =
    let l' : List (ℕ × Attribute) = map (attribute_moved by) l in
    ap (λ n. link_named event (message_moved by m) n (name_place_in l') (info_in l'))
    (ap (λ o. option_map (λ x. stripped x.1.value) o) (last_moved by 3 l)
    ∙ name_unmoved by (last_of 3 l))
    ∙ ap (λ p. link_named event (message_moved by m) (name_in l) p (info_in l'))
    (ap (λ o. option_map (λ x. x.0 + 4) o) (last_moved by 3 l)
    ∙ name_place_is_moved by (last_of 3 l))
    ∙ ap (λ i. link_named event (message_moved by m) (name_in l)
    (name_place_moved by (name_place_in l)) i)
    (ap (λ o. option_map (λ x. (x.0 + 4, x.1.value)) o) (last_moved by 18 l)
    ∙ contents_moved by (last_of 18 l))

unless_moved : (by : ℕ) (o : Option ℕ) (place : ℕ) (link : Link) →
    unless_damaged (option_map (λ at. by + at) o) (by + place) (link_moved by link)
    ≡ said_moved by (unless_damaged o place link)
unless_moved by None place link = refl
unless_moved by (Some at) place link = refl

of_items_moved : (by : ℕ) (event : LinkEvent) (m : Message) (l : List (Result Attribute ℕ)) →
    link_of_items event (message_moved by m) l ≡ said_moved by (link_of_items event m l)
of_items_moved by event m l =
    let start : (by + m.place) + 32 ≡ by + (m.place + 32) = omega arith in
    ap (λ p. unless_damaged (damaged_at p l) (by + m.place)
    (link_with event (message_moved by m) (located p l))) start
    ∙ ap (λ o. unless_damaged o (by + m.place)
    (link_with event (message_moved by m) (located (by + (m.place + 32)) l)))
    (damaged_moved by (m.place + 32) l)
    ∙ ap (λ k. unless_damaged (option_map (λ at. by + at) (damaged_at (m.place + 32) l))
    (by + m.place) k)
    (ap (λ x. link_with event (message_moved by m) x) (located_moved by (m.place + 32) l)
    ∙ link_with_moved by event m (located (m.place + 32) l))
    ∙ unless_moved by (damaged_at (m.place + 32) l) m.place
    (link_with event m (located (m.place + 32) l))

link_as_moved : (by : ℕ) (event : LinkEvent) (m : Message) →
    link_as event (message_moved by m) ≡ said_moved by (link_as event m)
unfolding link_as
link_as_moved by event m =
    let short : Result (Option Link) MessageError =
    Err (message_error m.place (LinkHeader (16 + length m.payload))) in
    let attributes : List (Result Attribute ℕ) = nla_items (drop 16 m.payload) in
    ap (λ r. cond (ltb (length m.payload) 16) (said_moved by short) r)
    (of_items_moved by event m attributes)
    ∙ pushed (said_moved by) (ltb (length m.payload) 16) short (link_of_items event m attributes)

link_of_moved : (by : ℕ) (m : Message) →
    link_of (message_moved by m) ≡ said_moved by (link_of m)
unfolding link_of
link_of_moved by m =
    let other : Result (Option Link) MessageError =
    cond (eqb m.kind 17) (link_as Deleted m) (Ok None) in
    ap (λ r. cond (eqb m.kind 16) r
    (cond (eqb m.kind 17) (link_as Deleted (message_moved by m)) (Ok None)))
    (link_as_moved by New m)
    ∙ ap (λ r. cond (eqb m.kind 16) (said_moved by (link_as New m))
    (cond (eqb m.kind 17) r (Ok None))) (link_as_moved by Deleted m)
    ∙ ap (λ r. cond (eqb m.kind 16) (said_moved by (link_as New m)) r)
    (pushed (said_moved by) (eqb m.kind 17) (link_as Deleted m) (Ok None))
    ∙ pushed (said_moved by) (eqb m.kind 16) (link_as New m) other

before_moved : (by : ℕ) (r : Result (Option Link) MessageError)
    (l : List (Result Link MessageError)) →
    links_before (said_moved by r) (map (moved (link_moved by) (error_moved by)) l)
    ≡ map (moved (link_moved by) (error_moved by)) (links_before r l)
before_moved by (Ok None) l = refl
before_moved by (Ok (Some link)) l = refl
before_moved by (Err e) l = refl

links_of_moved : (by : ℕ) (l : List (Result Message MessageError)) →
    links_of (map (moved (message_moved by) (error_moved by)) l)
    ≡ map (moved (link_moved by) (error_moved by)) (links_of l)
links_of_moved by [] = refl
links_of_moved by ((Ok m) ∷ more) =
    ap (λ r. links_before r (links_of (map (moved (message_moved by) (error_moved by)) more)))
    (link_of_moved by m)
    ∙ ap (λ l. links_before (said_moved by (link_of m)) l) (links_of_moved by more)
    ∙ before_moved by (link_of m) (links_of more)
links_of_moved by ((Err e) ∷ more) = refl

pub links_moved : (by place : ℕ) (s : List ℕ) →
    links_of (messages (by + place) s)
    ≡ map (moved (link_moved by) (error_moved by)) (links_of (messages place s))
links_moved by place s =
    ap links_of (messages_moved by place s) ∙ links_of_moved by (messages place s)

-- ---- records

record_at_moved : (format : CaptureFormat) (by : ℕ) →
    MovesBy (record_at format) (record_moved by) (capture_error_moved by) by
unfolding record_at
record_at_moved format by place s =
    let F : Result (RecordParts × ℕ) CaptureError → Result (RecordParts × ℕ) CaptureError =
    read_moved (record_moved by) (capture_error_moved by) in
    let n : ℕ = captured_len format s in
    let all : Result (RecordParts × ℕ) CaptureError = Ok (
      record {
        place = place;
        seconds = number format s 0;
        nanoseconds = nanoseconds_of format (number format s 4);
        original = number format s 12;
        packet = slice_range s 16 (16 + n);
      },
      16 + n,
    ) in
    let header : Result (RecordParts × ℕ) CaptureError =
    Err (capture_error place cause.RecordHeader) in
    let cut : Result (RecordParts × ℕ) CaptureError = Err (capture_error place (cause.Cut n)) in
    ap (λ r. cond (ltb (length s) 16) (F header) r) (pushed F (ltb (length s) (16 + n)) cut all)
    ∙ pushed F (ltb (length s) 16) header (cond (ltb (length s) (16 + n)) cut all)

pub records_moved : (format : CaptureFormat) (by place : ℕ) (s : List ℕ) →
    records format (by + place) s
    ≡ map (moved (record_moved by) (capture_error_moved by)) (records format place s)
records_moved format by place s =
    items_moved (record_at format) (record_moved by) (capture_error_moved by) by
    (record_at_moved format by) place s
