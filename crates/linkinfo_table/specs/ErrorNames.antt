-- The family of an attribute's error: the attribute's own or one of a list inside it, or the frame
-- if a header of a list inside it is rejected.
use Rattle.std.specs.Prelude.{
  ◌≡◌,
  ℕ,
  zero,
  suc,
  ◌<◌,
  ◌≤◌,
  List,
  [],
  ◌∷◌,
  length,
  Result,
  Ok,
  Err,
}
use Rattle.std.proofs.Common.{sym, ap, subst, ◌∙◌, arith, inl, inr}
use Rattle.nla_frame.specs.Attribute.{Attribute, masked}
use Rattle.nla_frame.specs.Error.{header_error}
use Rattle.nla_frame.specs.NlaItems.{nla_items}
use Rattle.nla_frame.specs.declared.default_nla.DefaultNla.{DefaultNla}
use Rattle.nla_frame.specs.declared.error.DecodeError.{DecodeError}
use Rattle.nla_frame.specs.declared.error.Family.{Family}
use Rattle.nla_frame.proofs.Stepping.{nla_items_nil, by_nla_items}
use Rattle.linkinfo_shapes.specs.declared.shape.Shape.{Shape}
use Rattle.linkinfo_table.specs.declared.lookup.Lookup.{Lookup}
use Rattle.linkinfo_table.specs.declared.lookup.Lookup.TheVariants as lookup
use Rattle.linkinfo_table.specs.Lists.{◌>>=◌, first_meaning, values}
use Rattle.linkinfo_table.specs.LookupLaws.{
  Exactly,
  OfAddresses,
  OfPeer,
  OfTable,
  OtherList,
  OwnList,
  ShapeIs,
  exact_holds_none,
  own_family,
  plain_holds_none,
  which,
}
use Rattle.linkinfo_table.specs.Lookups.{HoldsList, HoldsNoList, LookupSays, ShapeSays}
use Rattle.linkinfo_table.specs.Named.{EachNamed, IsNamed, named_after, named_first}

abbrev bad : {X : Type 0} → DecodeError → Result X DecodeError
bad e = Err e

bad_same : {X : Type 0} (d e : DecodeError) → bad {X = X} d ≡ bad e → e ≡ d
bad_same d e h = cc

-- a list has an error of the header, or that of one of its attributes, whose payloads are shorter
pub list_names : {X : Type 0} (families : List Family) (m : Attribute → Result X DecodeError)
    (n : ℕ) → ((a : Attribute) → length a.value < n → EachNamed families (m a)) → (s : List ℕ) →
    length s ≤ n → EachNamed families (values m (nla_items s))
list_names {X = X} families m n each s =
    by_nla_items (λ z. length z ≤ n → EachNamed families (values m (nla_items z)))
    (λ le e h.
    absurd (none e (sym (ap (λ (ps : List (Result Attribute ℕ)). values m ps) nla_items_nil) ∙ h)))
    (λ z some broken le e h.
    inl (bad_same header_error e
    (sym (ap (λ (ps : List (Result Attribute ℕ)). values m ps) broken) ∙ h)))
    (λ z a rest front room more le e h.
    step a rest (m a) (values m (nla_items rest)) (each a (omega (arith, room, le)))
    (more (omega (arith, room, le))) e
    (sym (ap (λ (ps : List (Result Attribute ℕ)). values m ps) front) ∙ h))
    s
  where
    none : (e : DecodeError) → Ok (let xs : List X = [] in xs) ≡ bad e → ⊥
    none e h = absurd cc

    step : (a : Attribute) (rest : List ℕ) (r : Result X DecodeError)
        (q : Result (List X) DecodeError) → EachNamed families r → EachNamed families q →
        EachNamed families (r >>= λ x. q >>= λ xs. Ok (x ∷ xs))
    step a rest (Ok x) (Ok xs) first others e h = absurd cc
    step a rest (Ok x) (Err d) first others e h =
        others e (ap (λ (z : DecodeError). bad {X = List X} z) (sym (bad_same {X = List X} d e h)))
    step a rest (Err d) q first others e h =
        first e (ap (λ (z : DecodeError). bad {X = X} z) (sym (bad_same {X = List X} d e h)))

-- the error of a first attribute is that of the header, or its own
pub first_names : {X : Type 0} (families : List Family) (m : Attribute → Result X DecodeError) →
    ((a : Attribute) → EachNamed families (m a)) → (ps : List (Result Attribute ℕ)) →
    EachNamed families (first_meaning m ps)
first_names {X = X} families m each [] e h = inl (bad_same {X = X} header_error e h)
first_names {X = X} families m each ((Err n) ∷ more) e h =
    inl (bad_same {X = X} header_error e h)
first_names families m each ((Ok a) ∷ more) e h = each a e h

module _ {C X : Type 0} (f : Family) (inside : List Family) (keeping : DefaultNla → X)
    (attribute : X → Attribute) (lookup_in : C → ℕ → Lookup)
    (meaning : C → Attribute → Result X DecodeError)
    (says : (c : C) (a : Attribute) →
    LookupSays f inside keeping attribute meaning a (lookup_in c (masked a.kind))
    (meaning c a)) where
  held_names : (a : Attribute) (r : Result (List X) DecodeError) (m : Result X DecodeError) →
      HoldsList attribute a r m → EachNamed (f ∷ inside) r → EachNamed (f ∷ inside) m
  held_names a (Ok xs) m holds each e h =
      let same : Ok holds.0 ≡ bad e = sym holds.1 ∙ h in absurd cc
  held_names a (Err d) m holds each e h =
      each e
      (ap (λ (z : DecodeError). bad {X = List X} z) (sym (bad_same {X = X} d e (sym holds ∙ h))))

  up_to : (n : ℕ) (c : C) (a : Attribute) → length a.value < n →
      EachNamed (f ∷ inside) (meaning c a)
  up_to zero c a less e h = absurd (omega (arith, less))
  up_to (suc n) c a less e h =
      go (λ k b small. up_to n k b small) (lookup_in c (masked a.kind)) (says c a)
    where
      own : (l : Lookup) → LookupSays f inside keeping attribute meaning a l (meaning c a) →
          HoldsNoList l → IsNamed (f ∷ inside) e
      own l k none =
          named_first f inside e
          (own_family f inside keeping attribute meaning a l (meaning c a) k none e h).0

      by_shape : ((k : C) (b : Attribute) → length b.value < n →
          EachNamed (f ∷ inside) (meaning k b)) → (s : Shape) →
          ShapeSays f inside attribute meaning a s (meaning c a) → ShapeIs s →
          IsNamed (f ∷ inside) e
      by_shape smaller s k (OfTable plain) = own (lookup.Is s) k (plain_holds_none s plain)
      by_shape smaller s k (OwnList list) =
          let held = k.list list in
          held_names a (values (meaning held.0) (nla_items a.value)) (meaning c a) held.1
          (list_names (f ∷ inside) (meaning held.0) n (λ b small. smaller held.0 b small) a.value
          (omega (arith, less))) e h
      by_shape smaller s k (OfPeer peer) =
          own (lookup.Is s) k
          (subst (λ (z : Shape). HoldsNoList (lookup.Is z)) (sym peer) (tt {0}))
      by_shape smaller s k (OtherList inner nest) =
          named_after (f ∷ []) inside e (k.nest inner nest e h)
      by_shape smaller s k (Exactly exact) = own (lookup.Is s) k (exact_holds_none s exact)
      by_shape smaller s k (OfAddresses addresses) =
          elim (k.addresses addresses e h) [
            | inl length ↦
                named_first f inside e (ap (λ (d : DecodeError). d.family) length)
            | inr header ↦ inl header
          ]

      go : ((k : C) (b : Attribute) → length b.value < n → EachNamed (f ∷ inside) (meaning k b)) →
          (l : Lookup) → LookupSays f inside keeping attribute meaning a l (meaning c a) →
          IsNamed (f ∷ inside) e
      go smaller (lookup.Is s) k = by_shape smaller s k (which s)
      go smaller (lookup.Refused cause) k = own (lookup.Refused cause) k tt
      go smaller lookup.Unknown k = own lookup.Unknown k tt

  -- each error of an attribute
  pub names : (c : C) (a : Attribute) → EachNamed (f ∷ inside) (meaning c a)
  names c a = up_to (suc (length a.value)) c a (omega arith)

  -- each error of a list of attributes
  pub names_list : (c : C) (s : List ℕ) →
      EachNamed (f ∷ inside) (values (meaning c) (nla_items s))
  names_list c s = list_names (f ∷ inside) (meaning c) (length s) (λ a _. names c a) s (omega arith)

  -- each error of a first attribute
  pub names_first : (c : C) (s : List ℕ) →
      EachNamed (f ∷ inside) (first_meaning (meaning c) (nla_items s))
  names_first c s = first_names (f ∷ inside) (meaning c) (λ a. names c a) (nla_items s)
