-- A list of attributes of another family as a payload: that it is lawful, and which errors it has.
use Rattle.std.specs.Prelude.{
  ◌≡◌,
  ◌≢◌,
  ◌&&◌,
  ℕ,
  Bool,
  List,
  [],
  ◌∷◌,
  Result,
  Ok,
  Err,
  is_ok,
  refl,
}
use Rattle.std.proofs.Common.{ap, ◌∙◌}
use Rattle.nla_frame.specs.Attribute.{Attribute, masked}
use Rattle.nla_frame.specs.NlaItems.{nla_items}
use Rattle.nla_frame.specs.declared.default_nla.DefaultNla.{DefaultNla}
use Rattle.nla_frame.specs.declared.error.Cause.{Cause}
use Rattle.nla_frame.specs.declared.error.DecodeError.{DecodeError}
use Rattle.nla_frame.specs.declared.error.Family.{Family}
use Rattle.linkinfo_shapes.specs.declared.shape.Shape.TheVariants.{Nested, Peer}
use Rattle.linkinfo_table.specs.Codecs.{Inside, Own}
use Rattle.linkinfo_table.specs.Contents.{
  Contents,
  IsPayloadContent,
  ListOf,
  accepted_under,
  listed,
}
use Rattle.linkinfo_table.specs.ErrorNames.{names_list}
use Rattle.linkinfo_table.specs.Lists.{◌>>=◌, alike_pairs, values, values_under}
use Rattle.linkinfo_table.specs.Lookups.{LookupSays}
use Rattle.linkinfo_table.specs.Members.{IsFamily, list_of, list_of_is_codec, members_at}
use Rattle.linkinfo_table.specs.Payloads.{IsPayload}
use Rattle.linkinfo_table.specs.SelfList.{inside}
use Rattle.linkinfo_table.specs.declared.lookup.Lookup.{Lookup}

abbrev bad : {X E : Type 0} → E → Result X E
bad e = Err e

inner_error : {X : Type 0} (r : Result X DecodeError) (e : DecodeError) →
    inside r ≡ Err (Inside e) → r ≡ Err e
inner_error (Ok x) e h = absurd cc
inner_error {X = X} (Err d) e h =
    let same : Inside d ≡ Inside e = cc in
    let errors : d ≡ e = cc in ap (λ (z : DecodeError). bad {X = X} z) errors

not_own : {X : Type 0} (r : Result X DecodeError) (own : Cause) → inside r ≢ Err (Own own)
not_own (Ok x) own h = absurd cc
not_own (Err e) own h = absurd cc

no_peer : (family : Family) → Nested family ≡ Peer → ⊥
no_peer family h = absurd cc

-- ---- a list is accepted if each of its attributes is

module _ {T X : Type 0} (m : T → Attribute → Result X DecodeError) (after : T → Attribute → T) where
  item_ok : (r : Result X DecodeError) (s : Result (List X) DecodeError) →
      is_ok (r >>= λ x. s >>= λ xs. let v : Result (List X) DecodeError = Ok (x ∷ xs) in v)
      ≡ (is_ok r && is_ok s)
  item_ok (Ok x) (Ok xs) = refl
  item_ok (Ok x) (Err e) = refl
  item_ok (Err e) s = refl

  pub values_accepted : (t : T) (ps : List (Result Attribute ℕ)) →
      is_ok (values_under m after t ps) ≡ accepted_under (λ u a. is_ok (m u a)) after t ps
  values_accepted t [] = refl
  values_accepted t ((Err seen) ∷ more) = refl
  values_accepted t ((Ok a) ∷ more) =
      item_ok (m t a) (values_under m after (after t a) more)
      ∙ ap (λ (r : Bool). is_ok (m t a) && r) (values_accepted (after t a) more)

inside_ok : {X : Type 0} (r : Result X DecodeError) → is_ok (inside r) ≡ is_ok r
inside_ok (Ok x) = refl
inside_ok (Err e) = refl

module _ {C X : Type 0} (f : Family) (among : List Family) (keeping : DefaultNla → X)
    (lookup : C → ℕ → Lookup) (meaning : C → Attribute → Result X DecodeError)
    (headers : C → Attribute → ℕ) (alike : C → Attribute → Attribute → Bool)
    (needs_memory : C → Attribute → Bool) (attribute : X → Attribute) (well : C → X → Type 0)
    (contents : C → ℕ → Contents) (is_set : Bool) where
  pub list_is_payload :
      ((c : C) →
      IsFamily (members_at f among meaning headers alike needs_memory attribute well contents is_set
      c)) →
      ((c : C) (a : Attribute) →
      LookupSays f among keeping attribute meaning a (lookup c (masked a.kind)) (meaning c a)) →
      (c : C) →
      IsPayload (Nested f) (f ∷ among)
      (list_of (members_at f among meaning headers alike needs_memory attribute well contents
      is_set c))
  list_is_payload lawful says c = record {
    shaped = tt;
    codec =
        list_of_is_codec
        (members_at f among meaning headers alike needs_memory attribute well contents is_set c)
        (lawful c);
    named = λ p e h.
        names_list f among keeping attribute lookup meaning says c p e
        (inner_error (values (meaning c) (nla_items p)) e h);
    nest = λ inner _ p own. not_own (values (meaning c) (nla_items p)) own;
    peer = λ e. absurd (no_peer f e);
    exact = λ i. absurd i;
    exact_accepted = λ i. absurd i;
    addresses_accepted = λ i. absurd i;
    addresses = λ i. absurd i;
  }

-- what it contains agrees with which payloads are accepted, and which two are equivalent
pub list_contained : {C X : Type 0} (f : Family) (among : List Family)
    (meaning : C → Attribute → Result X DecodeError) (headers : C → Attribute → ℕ)
    (alike : C → Attribute → Attribute → Bool) (needs_memory : C → Attribute → Bool)
    (attribute : X → Attribute) (well : C → X → Type 0) (contents : C → ℕ → Contents)
    (is_set : Bool) {c : C} →
    IsFamily (members_at f among meaning headers alike needs_memory attribute well contents is_set
    c) →
    IsPayloadContent (ListOf (listed f (meaning c) (alike c) is_set) (contents c))
    (λ p. is_ok (inside (values (meaning c) (nla_items p))))
    (λ p q. alike_pairs (alike c) (nla_items p) (nla_items q))
list_contained f among meaning headers alike needs_memory attribute well contents is_set {c = c}
    lawful = (
      λ p.
          inside_ok (values (meaning c) (nla_items p))
          ∙ values_accepted (λ _ a. meaning c a) (λ t _. t) (tt {0}) (nla_items p),
      λ p q. refl,
      lawful.one_type,
      lawful.contained,
    )
