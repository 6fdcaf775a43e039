-- The attributes of a link, one after another.
use Rattle.std.proofs.Common.{
  ◌≡◌,
  ℕ,
  ◌+◌,
  ◌≤◌,
  ◌<◌,
  Bool,
  true,
  false,
  cond,
  eqb,
  List,
  [],
  ◌∷◌,
  length,
  drop,
  refl,
  sym,
  ap,
  ◌∙◌,
  arith,
  inl,
  inr,
  Option,
  Some,
  None,
  Result,
}
use Rattle.std.specs.Prelude.{option_map}
use Rattle.std.specs.Option.{option_or}
use Rattle.std.proofs.lemmas.Bool.{cases_lt}
use Rattle.std.proofs.lemmas.List.{drop_all, length-drop}
use Rattle.nla_frame.specs.Attribute.{Attribute, aligned, masked}
use Rattle.nla_frame.specs.NlaItems.{nla_items, headers_in, split, split_up_to}
use Rattle.nla_frame.specs.Payload.{stripped}
use Rattle.linkinfo_messages.specs.Links.{
  located,
  damaged_at,
  last_of,
  name_in,
  name_place_in,
  info_in,
}
use Rattle.nla_frame.specs.Walk.{Walk, unread, headers_left, Passes, Fails}

pub no_items : nla_items [] ≡ []
unfolding nla_items split split_up_to
no_items = refl

none_unread : (s : List ℕ) (place : ℕ) (failed : Bool) → length s ≤ place →
    cond failed [] (drop place s) ≡ []
none_unread s place true h = refl
none_unread s place false h = drop_all place s h

unread_room : (s : List ℕ) (place : ℕ) (failed : Bool) (n : ℕ) → 0 < n →
    n ≤ length (cond failed [] (drop place s)) → place + n ≤ length s
unread_room s place true n some h = absurd (omega (arith, some, h))
unread_room s place false n some h = omega (arith, some, h, length-drop place s)

-- an attribute ends within the byte string
pub room : (s t : Walk) (a : Attribute) → Passes s a t →
    s.place + (4 + length a.value) ≤ length s.source
room s t a h = unread_room s.source s.place s.failed _ (omega arith) (omega (arith, h.room))

-- The offset of the next header is after the padding. Where the string ends before, no attribute
-- is left, and a function that ignores the offset then says the same.
pub at_next : {X : Type 0} (f : ℕ → List (Result Attribute ℕ) → X) → ((p q : ℕ) → f p [] ≡ f q []) →
    (s t : Walk) (a : Attribute) (start : ℕ) → Passes s a t → t.source ≡ s.source →
    f (start + t.place) (nla_items (unread t))
    ≡ f ((start + s.place) + aligned (4 + length a.value)) (nla_items (unread t))
at_next f same s t a start h source =
    elim (cases_lt (length s.source) (s.place + aligned (4 + length a.value))) [
      | inl past ↦
          let none : nla_items (unread t) ≡ [] =
          ap nla_items (none_unread t.source t.place t.failed
          (omega (arith, ap length source, h.place, past))) ∙ no_items in
          ap (λ l. f (start + t.place) l) none ∙ same _ _
          ∙ ap (λ l. f ((start + s.place) + aligned (4 + length a.value)) l) (sym none)
      | inr within ↦ ap (λ p. f p (nla_items (unread t))) (omega (arith, h.place, within))
    ]

-- the last one that a function tells, with one more in front
pub latest : {A B : Type 0} (f : A → B) (later : Option A) (b : Bool) (x : A) (old : Option B) →
    option_or (option_map f later) (cond b (Some (f x)) old)
    ≡ option_or (option_map f (option_or later (cond b (Some x) None))) old
latest f None true x old = refl
latest f None false x old = refl
latest f (Some y) b x old = refl

pub or_none : {A : Type 0} (o : Option A) → option_or o None ≡ o
or_none None = refl
or_none (Some x) = refl

-- ---- one step of the iterator

-- the attributes that are left, before an attribute and after it
pub moved : (s t : Walk) (a : Attribute) (start place : ℕ) → Passes s a t → t.source ≡ s.source →
    place ≡ start + s.place →
    located place (nla_items (unread s))
    ≡ (place, a) ∷ located (start + t.place) (nla_items (unread t))
moved s t a start place h source at =
    ap (located place) h.nla_items_are
    ∙ ap (λ p. (place, a) ∷ located (p + aligned (4 + length a.value)) (nla_items (unread t))) at
    ∙ ap (λ l. (place, a) ∷ l) (sym (at_next located (λ _ _. refl) s t a start h source))

-- the damaged header is the same
pub damage_moves : (s t : Walk) (a : Attribute) (start place : ℕ) → Passes s a t →
    t.source ≡ s.source → place ≡ start + s.place →
    damaged_at (start + t.place) (nla_items (unread t)) ≡ damaged_at place (nla_items (unread s))
damage_moves s t a start place h source at =
    at_next damaged_at (λ _ _. refl) s t a start h source
    ∙ ap (λ p. damaged_at (p + aligned (4 + length a.value)) (nla_items (unread t))) (sym at)
    ∙ ap (damaged_at place) (sym h.nla_items_are)

-- the last name, and the last contents, are the same
pub name_moves : (l l' : List (ℕ × Attribute)) (place : ℕ) (a : Attribute)
    (old new all : Option (List ℕ)) → l ≡ (place, a) ∷ l' →
    new ≡ cond (eqb (masked a.kind) 3) (Some (stripped a.value)) old →
    option_or (name_in l) old ≡ all → option_or (name_in l') new ≡ all
name_moves l l' place a old new all e n h =
    ap (option_or (name_in l')) n
    ∙ latest (λ x. stripped x.1.value) (last_of 3 l') (eqb (masked a.kind) 3) (place, a) old
    ∙ ap (λ x. option_or (name_in x) old) (sym e) ∙ h

pub name_place_moves : (l l' : List (ℕ × Attribute)) (place : ℕ) (a : Attribute)
    (old new all : Option ℕ) → l ≡ (place, a) ∷ l' →
    new ≡ cond (eqb (masked a.kind) 3) (Some (place + 4)) old →
    option_or (name_place_in l) old ≡ all → option_or (name_place_in l') new ≡ all
name_place_moves l l' place a old new all e n h =
    ap (option_or (name_place_in l')) n
    ∙ latest (λ x. x.0 + 4) (last_of 3 l') (eqb (masked a.kind) 3) (place, a) old
    ∙ ap (λ x. option_or (name_place_in x) old) (sym e) ∙ h

pub info_moves : (l l' : List (ℕ × Attribute)) (place : ℕ) (a : Attribute)
    (old new all : Option (ℕ × List ℕ)) → l ≡ (place, a) ∷ l' →
    new ≡ cond (eqb (masked a.kind) 18) (Some (place + 4, a.value)) old →
    option_or (info_in l) old ≡ all → option_or (info_in l') new ≡ all
info_moves l l' place a old new all e n h =
    ap (option_or (info_in l')) n
    ∙ latest (λ x. (x.0 + 4, x.1.value)) (last_of 18 l') (eqb (masked a.kind) 18) (place, a) old
    ∙ ap (λ x. option_or (info_in x) old) (sym e) ∙ h

-- ---- the headers examined

-- at the end all are counted
pub counted_at_end : (s t : Walk) (n : ℕ) → t ≡ s → nla_items (unread s) ≡ [] →
    s.examined + headers_left s ≡ n → t.examined ≡ n
counted_at_end s t n same none h =
    let e : t.examined ≡ s.examined = ap (λ (w : Walk). w.examined) same in
    omega (arith, e, ap headers_in none, h)

-- and so they are where a header is not accepted
pub counted_at_damage : (s t : Walk) (n : ℕ) → Fails s t → s.examined + headers_left s ≡ n →
    t.examined ≡ n
counted_at_damage s t n h e = omega (arith, h.examined, ap headers_in h.nla_items_are, e)

-- a message too short for `struct ifinfomsg` has none
pub no_headers : (payload : List ℕ) → length payload < 16 →
    headers_in (nla_items (drop 16 payload)) ≡ 0
no_headers payload h =
    ap (λ l. headers_in (nla_items l)) (drop_all 16 payload (omega (arith, h)))
    ∙ ap headers_in no_items
