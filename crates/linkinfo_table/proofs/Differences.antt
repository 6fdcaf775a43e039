-- Lemmas for the first difference of two lists and for the offset of the error of a list.
use Rattle.std.specs.Prelude.{
  ◌≡◌,
  ◌↔◌,
  ℕ,
  ◌==◌,
  ◌+◌,
  ◌-◌,
  ◌<◌,
  ◌≤◌,
  ◌^◌,
  ◌&&◌,
  Bool,
  true,
  false,
  if◌then◌else◌,
  is_none,
  is_ok,
  is_some,
}
use Rattle.std.specs.Prelude.{
  List,
  [],
  ◌∷◌,
  length,
  Option,
  None,
  Some,
  Result,
  Ok,
  Err,
  IfSome,
  IsOk,
  refl,
}
use Rattle.std.specs.Option.{option_map}
use Rattle.std.proofs.Common.{arith, sym, ap, subst, ◌∙◌, inl, inr}
use Rattle.std.proofs.lemmas.Bool.{cases_Bool, eq-eqb, eqb-true}
use Rattle.nla_frame.specs.Attribute.{Attribute, aligned, masked}
use Rattle.nla_frame.specs.NlaItems.{GoesOn, nla_items}
use Rattle.nla_frame.specs.declared.error.DecodeError.{DecodeError}
use Rattle.nla_frame.specs.declared.error.Family.{Family}
use Rattle.linkinfo_table.proofs.Lasts.{moved, stands_within}
use Rattle.linkinfo_table.specs.Contents.{
  Contents,
  HasOneType,
  IsContent,
  IsPayloadContent,
  ListOf,
  Listed,
  NoList,
  accepted_under,
  each_accepted,
}
use Rattle.linkinfo_table.specs.Difference.{
  IsWithin,
  attribute_difference,
  attribute_error,
  differ,
  end_of,
  error_offset,
  first_or,
  inner_difference,
  list_difference,
  list_error,
  own_error,
  pair_difference,
  pairs_difference,
  payload_difference,
  payload_error,
  stays,
  typed_difference,
}
use Rattle.linkinfo_table.specs.EachAttribute.{both_parts}
use Rattle.linkinfo_table.specs.Last.{StandsIn, attributes_of, placed_from}
use Rattle.linkinfo_table.specs.Lists.{alike_pairs, alike_under, values}
use Rattle.linkinfo_table.specs.declared.difference.Difference.{Difference}
use Rattle.linkinfo_table.specs.declared.last.PlacedNla.{PlacedNla}

both_true : (x y : Bool) → (x && y) ≡ true → (x ≡ true) × (y ≡ true)
both_true true y e = (refl, e)
both_true false y e = absurd cc

pub ok_true : {X E : Type 0} (r : Result X E) → IsOk r → is_ok r ≡ true
ok_true (Ok x) ok = refl
ok_true (Err e) ok = absurd cc

pub true_ok : {X E : Type 0} (r : Result X E) → is_ok r ≡ true → IsOk r
true_ok (Ok x) e = refl
true_ok (Err e) h = absurd cc

-- ---- accepted lists

-- the first attribute of an accepted list is accepted, and so are the others
pub front_ok : {X : Type 0} (m : Attribute → Result X DecodeError) (s rest : List ℕ)
    (a : Attribute) → IsOk (values m (nla_items s)) → nla_items s ≡ Ok a ∷ nla_items rest →
    IsOk (m a) × IsOk (values m (nla_items rest))
front_ok m s rest a ok e =
    both_parts (m a) (values m (nla_items rest))
    (subst (λ (ps : List (Result Attribute ℕ)). IsOk (values m ps)) e ok)

-- ---- what is left of two lists, and of one list

abbrev pub pairs_left : Listed → (ℕ → Contents) → List PlacedNla → List PlacedNla →
    Option Difference
pairs_left l inside ps qs =
    pairs_difference l.family
    (λ _ p q. typed_difference l.family (attribute_difference inside l.family l.alike) p q) stays tt
    ps qs

abbrev pub error_left : Listed → (ℕ → Contents) → ℕ → List (Result Attribute ℕ) → Option ℕ
error_left l inside n ps =
    error_offset (λ _ a. attribute_error inside l.accepts a) stays tt n ps

pub no_difference : (o : Option Difference) → is_some o ≡ false → o ≡ None
no_difference None e = refl
no_difference (Some d) e = absurd cc

pub some_difference : (o : Option Difference) → is_some o ≡ true →
    (d : Difference) × (o ≡ Some d)
some_difference None e = absurd cc
some_difference (Some d) e = (d, refl)

module _ (l : Listed) (inside : ℕ → Contents) where
  abbrev pair : PlacedNla → PlacedNla → Option Difference
  pair p q = typed_difference l.family (attribute_difference inside l.family l.alike) p q

  pub pair_passes : (p q : PlacedNla) (ps qs : List PlacedNla) → pair p q ≡ None →
      pairs_left l inside (p ∷ ps) (q ∷ qs) ≡ pairs_left l inside ps qs
  pair_passes p q ps qs e =
      ap (λ (o : Option Difference). first_or o (pairs_left l inside ps qs)) e

  pub pair_differs : (p q : PlacedNla) (ps qs : List PlacedNla) (o : Option Difference) →
      is_some o ≡ true → o ≡ pair p q → pairs_left l inside (p ∷ ps) (q ∷ qs) ≡ o
  pair_differs p q ps qs o some e =
      let found = some_difference o some in
      ap (λ (r : Option Difference). first_or r (pairs_left l inside ps qs)) (sym e ∙ found.1)
      ∙ sym found.1

  pub error_passes : (s rest after : List ℕ) (a : Attribute) (old new : ℕ) →
      GoesOn rest old new a after → length rest ≤ length s →
      attribute_error inside l.accepts a ≡ None →
      error_left l inside (length s - length rest) (nla_items rest)
      ≡ error_left l inside (length s - length after) (nla_items after)
  error_passes s rest after a old new step le none =
      let n = length s - length rest in
      let same =
      moved (error_left l inside) (λ m k. refl) n (aligned (4 + length a.value)) s rest after le
      refl step.rest_is in
      ap (λ (ps : List (Result Attribute ℕ)). error_left l inside n ps) step.nla_items_are
      ∙ ap (λ (o : Option ℕ).
      first_or (option_map (λ k. n + k) o)
      (error_left l inside (n + aligned (4 + length a.value)) (nla_items after))) none
      ∙ same

  pub error_found : (s rest after : List ℕ) (a : Attribute) (old new k : ℕ) →
      GoesOn rest old new a after → attribute_error inside l.accepts a ≡ Some k →
      error_left l inside (length s - length rest) (nla_items rest)
      ≡ Some (length s - length rest + k)
  error_found s rest after a old new k step some =
      let n = length s - length rest in
      ap (λ (ps : List (Result Attribute ℕ)). error_left l inside n ps) step.nla_items_are
      ∙ ap (λ (o : Option ℕ).
      first_or (option_map (λ k. n + k) o)
      (error_left l inside (n + aligned (4 + length a.value)) (nla_items after))) some

-- ---- offsets are inside the lists

if_some_map : {A : Type 0} (P Q : A → Type 0) (o : Option A) → ((x : A) → P x → Q x) → IfSome o P →
    IfSome o Q
if_some_map P Q None f h = tt
if_some_map P Q (Some x) f h = f x h

-- an offset in the payload of an attribute, as one in the list of the attribute
pub offset_room : (o : Option ℕ) (n len : ℕ) → IfSome o (λ k. k ≤ len) →
    n + (4 + len) < 2 ^ 64 → IfSome o (λ k. n + 4 + k < 2 ^ 64)
offset_room o n len h small =
    if_some_map (λ k. k ≤ len) (λ k. n + 4 + k < 2 ^ 64) o (λ k le. omega (arith, le, small)) h

lifted : (o : Option ℕ) (n len : ℕ) → IfSome o (λ k. k ≤ len) →
    IfSome (option_map (λ k. n + 4 + k) o) (λ k. k ≤ n + (4 + len))
lifted None n len h = tt
lifted (Some k) n len h = omega (arith, h)

pub offset_lifted : (o : Option ℕ) (n len : ℕ) → IfSome o (λ k. k ≤ len) →
    IfSome (option_map (λ k. n + 4 + k) o) (λ k. k ≤ n + (4 + len))
offset_lifted o n len h = lifted o n len h

pub inner_within : (p q : PlacedNla) (d : Difference) →
    IsWithin (length p.nla.value) (length q.nla.value) d →
    IsWithin (end_of p) (end_of q) (inner_difference p q d)
inner_within p q d inside = record {
  first_in = lifted d.first p.offset (length p.nla.value) inside.first_in;
  second_in = lifted d.second q.offset (length q.nla.value) inside.second_in;
}

-- a difference of two attributes is in their lists
pub pair_within : (s t : List ℕ) (p q : PlacedNla) (o : Option Difference) → StandsIn s p →
    StandsIn t q → IfSome o (IsWithin (end_of p) (end_of q)) →
    IfSome o (IsWithin (length s) (length t))
pair_within s t p q None one other h = tt
pair_within s t p q (Some d) one other h = record {
  first_in =
      if_some_map (λ n. n ≤ end_of p) (λ n. n ≤ length s) d.first
      (λ n le. omega (arith, le, stands_within s p one)) h.first_in;
  second_in =
      if_some_map (λ n. n ≤ end_of q) (λ n. n ≤ length t) d.second
      (λ n le. omega (arith, le, stands_within t q other)) h.second_in;
}

-- ---- two lists have a difference if and only if they are not equivalent

module _ {T : Type 0} (family : Family) (pair : T → PlacedNla → PlacedNla → Option Difference)
    (alike : T → Attribute → Attribute → Bool) (accepts : T → Attribute → Bool)
    (after : T → Attribute → T)
    (same_pair : (t : T) (p q : PlacedNla) → accepts t p.nla ≡ true → accepts t q.nla ≡ true →
    is_none (pair t p q) ≡ alike t p.nla q.nla)
    (same_after : (t : T) (a b : Attribute) → accepts t a ≡ true → accepts t b ≡ true →
    alike t a b ≡ true → after t a ≡ after t b) where
  none_first : (o more : Option Difference) → is_none o ≡ true → first_or o more ≡ more
  none_first None more e = refl
  none_first (Some d) more e = absurd cc

  some_first : (o more : Option Difference) → is_none o ≡ false → is_none (first_or o more) ≡ false
  some_first None more e = absurd cc
  some_first (Some d) more e = refl

  pub pairs_none : (t : T) (n k : ℕ) (ps qs : List (Result Attribute ℕ)) →
      accepted_under accepts after t ps ≡ true → accepted_under accepts after t qs ≡ true →
      is_none (pairs_difference family pair after t (placed_from n ps) (placed_from k qs))
      ≡ alike_under alike after t ps qs
  pairs_none t n k [] [] h g = refl
  pairs_none t n k [] ((Ok b) ∷ qs) h g = refl
  pairs_none t n k ps ((Err seen) ∷ qs) h g = absurd cc
  pairs_none t n k ((Err seen) ∷ ps) qs h g = absurd cc
  pairs_none t n k ((Ok a) ∷ ps) [] h g = refl
  pairs_none t n k ((Ok a) ∷ ps) ((Ok b) ∷ qs) h g =
      let first = both_true (accepts t a) (accepted_under accepts after (after t a) ps) h in
      let second = both_true (accepts t b) (accepted_under accepts after (after t b) qs) g in
      let p : PlacedNla = record { offset = n; nla = a } in
      let q : PlacedNla = record { offset = k; nla = b } in
      let after_a = n + aligned (4 + length a.value) in
      let after_b = k + aligned (4 + length b.value) in
      let here = same_pair t p q first.0 second.0 in
      let later =
      pairs_difference family pair after (after t a) (placed_from after_a ps)
      (placed_from after_b qs) in
      elim (cases_Bool (alike t a b)) [
        | inl e ↦
            let state = same_after t a b first.0 second.0 e in
            let rest : accepted_under accepts after (after t a) qs ≡ true = rw state second.1 in
            ap (λ (o : Option Difference). is_none o) (none_first (pair t p q) later (here ∙ e))
            ∙ pairs_none (after t a) after_a after_b ps qs first.1 rest
            ∙ sym (ap (λ (r : Bool). r && alike_under alike after (after t a) ps qs) e)
        | inr e ↦
            some_first (pair t p q) later (here ∙ e)
            ∙ sym (ap (λ (r : Bool). r && alike_under alike after (after t a) ps qs) e)
      ]

-- ---- a list has an error if and only if it is rejected

module _ {T : Type 0} (inside : T → Attribute → Option ℕ) (accepts : T → Attribute → Bool)
    (after : T → Attribute → T)
    (same : (t : T) (a : Attribute) → is_none (inside t a) ≡ accepts t a) where
  found : (o : Option ℕ) (n : ℕ) (r : Bool) (more : Option ℕ) → is_none o ≡ r →
      is_none (first_or (option_map (λ k. n + k) o) more) ≡ (r && is_none more)
  found None n true more e = refl
  found None n false more e = absurd cc
  found (Some k) n true more e = absurd cc
  found (Some k) n false more e = refl

  pub error_none : (t : T) (n : ℕ) (ps : List (Result Attribute ℕ)) →
      is_none (error_offset inside after t n ps) ≡ accepted_under accepts after t ps
  error_none t n [] = refl
  error_none t n ((Err seen) ∷ more) = refl
  error_none t n ((Ok a) ∷ more) =
      let later = error_none (after t a) (n + aligned (4 + length a.value)) more in
      found (inside t a) n (accepts t a) _ (same t a)
      ∙ ap (λ (r : Bool). accepts t a && r) later

-- ---- lists inside attributes

pub pair_none : (family : Family) (alike : Bool) (p q : PlacedNla) →
    is_none (pair_difference family alike p q) ≡ alike
pair_none family true p q = refl
pair_none family false p q = refl

own_none : (accepted : Bool) (place : ℕ) → is_none (own_error accepted place) ≡ accepted
own_none true place = refl
own_none false place = refl

pub mapped_none : {A B : Type 0} (f : A → B) (o : Option A) → is_none (option_map f o) ≡ is_none o
mapped_none f None = refl
mapped_none f (Some x) = refl

-- two attributes of one type have a difference if and only if they are not equivalent
abbrev PairSame : Contents → Type 0
PairSame contents = (n : ℕ) (accepts : Attribute → Bool) (alike : Attribute → Attribute → Bool)
    (family : Family) (p q : PlacedNla) → IsContent contents n accepts alike →
    masked p.nla.kind ≡ n → masked q.nla.kind ≡ n → accepts p.nla ≡ true → accepts q.nla ≡ true →
    is_none (payload_difference contents family (alike p.nla q.nla) p q) ≡ alike p.nla q.nla

-- .. then two of any types do
typed_same : (inside : ℕ → Contents) (accepts : Attribute → Bool)
    (alike : Attribute → Attribute → Bool) (family : Family) → HasOneType alike →
    ((n : ℕ) → IsContent (inside n) n accepts alike) → ((n : ℕ) → PairSame (inside n)) →
    (p q : PlacedNla) → accepts p.nla ≡ true → accepts q.nla ≡ true →
    is_none (typed_difference family (attribute_difference inside family alike) p q)
    ≡ alike p.nla q.nla
typed_same inside accepts alike family one_type law same p q h g =
    by_types (masked q.nla.kind == masked p.nla.kind) (alike p.nla q.nla) refl refl
  where
    by_types : (b r : Bool) → (masked q.nla.kind == masked p.nla.kind) ≡ b →
        alike p.nla q.nla ≡ r →
        is_none (if b then attribute_difference inside family alike p q
        else Some (differ family p q)) ≡ alike p.nla q.nla
    by_types true r types is =
        same (masked p.nla.kind) (masked p.nla.kind) accepts alike family p q
        (law (masked p.nla.kind)) refl (eqb-true (masked q.nla.kind) (masked p.nla.kind) types) h g
    by_types false true types is =
        let typed : masked q.nla.kind ≡ masked p.nla.kind = sym (one_type p.nla q.nla is) in
        absurd (let never = sym types ∙ eq-eqb (masked q.nla.kind) (masked p.nla.kind) typed in cc)
    by_types false false types is = sym is

lists_same : (l : Listed) (inside : ℕ → Contents) → HasOneType l.alike →
    ((n : ℕ) → IsContent (inside n) n l.accepts l.alike) → ((n : ℕ) → PairSame (inside n)) →
    (s t : List ℕ) → each_accepted l.accepts (nla_items s) ≡ true →
    each_accepted l.accepts (nla_items t) ≡ true →
    is_none (list_difference l inside s t) ≡ alike_pairs l.alike (nla_items s) (nla_items t)
unfolding attributes_of
lists_same l inside one_type law same s t h g =
    pairs_none l.family
    (λ _ p q. typed_difference l.family (attribute_difference inside l.family l.alike) p q)
    (λ _ a b. l.alike a b) (λ _ a. l.accepts a) stays
    (λ _ p q. typed_same inside l.accepts l.alike l.family one_type law same p q)
    (λ t a b i j e. refl) tt 0 0 (nla_items s) (nla_items t) h g

pairs_same : (contents : Contents) → PairSame contents
pairs_same (NoList place count) n accepts alike family p q law at other h g =
    pair_none family (alike p.nla q.nla) p q
pairs_same (ListOf l inside) n accepts alike family p q law at other h g =
    mapped_none (inner_difference p q) (list_difference l inside p.nla.value q.nla.value)
    ∙ lists_same l inside law.2 law.3 (λ k. pairs_same (inside k)) p.nla.value q.nla.value
    (sym (law.0 p.nla at) ∙ h) (sym (law.0 q.nla other) ∙ g)
    ∙ sym (law.1 p.nla q.nla at
    ∙ ap (λ (b : Bool). b && alike_pairs l.alike (nla_items p.nla.value) (nla_items q.nla.value))
    (eq-eqb (masked q.nla.kind) (masked p.nla.kind) (other ∙ sym at)))

-- an attribute has an error if and only if it is rejected
abbrev ErrorSame : Contents → Type 0
ErrorSame contents = (n : ℕ) (accepts : Attribute → Bool) (alike : Attribute → Attribute → Bool)
    (a : Attribute) → IsContent contents n accepts alike → masked a.kind ≡ n →
    is_none (payload_error contents (accepts a) a.value) ≡ accepts a

lists_accept : (l : Listed) (inside : ℕ → Contents) →
    ((n : ℕ) → IsContent (inside n) n l.accepts l.alike) → ((n : ℕ) → ErrorSame (inside n)) →
    (s : List ℕ) → is_none (list_error l inside s) ≡ each_accepted l.accepts (nla_items s)
lists_accept l inside law same s =
    error_none (λ _ a. attribute_error inside l.accepts a) (λ _ a. l.accepts a) stays
    (λ _ a.
    same (masked a.kind) (masked a.kind) l.accepts l.alike a (law (masked a.kind)) refl) tt 0
    (nla_items s)

errors_same : (contents : Contents) → ErrorSame contents
errors_same (NoList place count) n accepts alike a law at = own_none (accepts a) (place a.value)
errors_same (ListOf l inside) n accepts alike a law at =
    mapped_none (λ k. 4 + k) (list_error l inside a.value)
    ∙ lists_accept l inside law.3 (λ k. errors_same (inside k)) a.value
    ∙ sym (law.0 a at)

-- ---- the laws of payloads

module _ (contents : Contents) (accepts : List ℕ → Bool) (alike : List ℕ → List ℕ → Bool) where
  -- two accepted payloads differ if and only if they are not equivalent
  pub payloads_none : IsPayloadContent contents accepts alike → (family : Family)
      (p q : PlacedNla) →
      accepts p.nla.value ≡ true → accepts q.nla.value ≡ true →
      is_none (payload_difference contents family (alike p.nla.value q.nla.value) p q)
      ≡ alike p.nla.value q.nla.value
  payloads_none law family p q h g = by_contents contents law
    where
      by_contents : (c : Contents) → IsPayloadContent c accepts alike →
          is_none (payload_difference c family (alike p.nla.value q.nla.value) p q)
          ≡ alike p.nla.value q.nla.value
      by_contents (NoList place count) law = pair_none family (alike p.nla.value q.nla.value) p q
      by_contents (ListOf l inside) law =
          mapped_none (inner_difference p q) (list_difference l inside p.nla.value q.nla.value)
          ∙ lists_same l inside law.2 law.3 (λ k. pairs_same (inside k)) p.nla.value q.nla.value
          (sym (law.0 p.nla.value) ∙ h) (sym (law.0 q.nla.value) ∙ g)
          ∙ sym (law.1 p.nla.value q.nla.value)

  -- a payload has an error if and only if it is rejected
  pub errors_none : IsPayloadContent contents accepts alike → (p : List ℕ) →
      is_none (payload_error contents (accepts p) p) ≡ accepts p
  errors_none law p = by_contents contents law
    where
      by_contents : (c : Contents) → IsPayloadContent c accepts alike →
          is_none (payload_error c (accepts p) p) ≡ accepts p
      by_contents (NoList place count) law = own_none (accepts p) (place p)
      by_contents (ListOf l inside) law =
          mapped_none (λ k. 4 + k) (list_error l inside p)
          ∙ lists_accept l inside law.3 (λ k. errors_same (inside k)) p
          ∙ sym (law.0 p)

pub none_where : {A : Type 0} (o : Option A) (r : Bool) → is_none o ≡ r → (o ≡ None) ↔ (r ≡ true)
none_where None r e = (λ n. sym e, λ is. refl)
none_where (Some x) r e = (λ n. absurd cc, λ is. absurd cc)

pub accepted_where : {A X : Type 0} (o : Option A) (r : Result X DecodeError) →
    is_none o ≡ is_ok r →
    (o ≡ None) ↔ IsOk r
accepted_where None r e = (λ n. true_ok r (sym e), λ ok. refl)
accepted_where (Some x) r e = (λ n. absurd cc, λ ok. absurd (let same = ok_true r ok in cc))
