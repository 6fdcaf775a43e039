-- Lists of attributes under two meanings, or two relations: what holds of each attribute holds of
-- the list.
use Rattle.std.specs.Prelude.{
  ◌≡◌,
  ◌&&◌,
  ℕ,
  Bool,
  true,
  List,
  [],
  ◌∷◌,
  Result,
  Ok,
  Err,
  IsOk,
  refl,
}
use Rattle.std.specs.List.{AllByRecursion}
use Rattle.std.proofs.Common.{subst, sym, ap, ◌∙◌}
use Rattle.std.proofs.lemmas.Bool.{and_from, and_parts}
use Rattle.nla_frame.specs.Attribute.{Attribute, IsAttribute, IsBytes}
use Rattle.nla_frame.specs.NlaItems.{nla_items, nla_items_of}
use Rattle.nla_frame.specs.declared.error.DecodeError.{DecodeError}
use Rattle.linkinfo_table.specs.ListLaws.{accepted}
use Rattle.linkinfo_table.specs.Lists.{◌>>=◌, alike_under, values_under}

-- a first value and the values after it
abbrev both : {X : Type 0} → Result X DecodeError → Result (List X) DecodeError →
    Result (List X) DecodeError
both m v = m >>= λ x. v >>= λ xs. Ok (x ∷ xs)

pub both_parts : {X : Type 0} (m : Result X DecodeError) (v : Result (List X) DecodeError) →
    IsOk (both m v) → IsOk m × IsOk v
both_parts (Ok x) (Ok xs) e = (refl, refl)
both_parts (Ok x) (Err d) e = absurd cc
both_parts (Err d) v e = absurd cc

both_ok : {X : Type 0} (m : Result X DecodeError) (v : Result (List X) DecodeError) → IsOk m →
    IsOk v → IsOk (both m v)
both_ok (Ok x) (Ok xs) h k = refl
both_ok (Ok x) (Err d) h k = absurd cc
both_ok (Err d) v h k = absurd cc

module _ {T X : Type 0} (m : T → Attribute → Result X DecodeError) (after : T → Attribute → T) where
  -- a list is accepted under a second meaning that accepts each attribute that the first one does
  pub list_accepts : {Y : Type 0} (k : T → Attribute → Result Y DecodeError) →
      ((t : T) (a : Attribute) → IsOk (m t a) → IsOk (k t a)) →
      (t : T) (ps : List (Result Attribute ℕ)) → IsOk (values_under m after t ps) →
      IsOk (values_under k after t ps)
  list_accepts k each t [] h = refl
  list_accepts k each t ((Err n) ∷ more) h = absurd cc
  list_accepts k each t ((Ok a) ∷ more) h =
      let parts = both_parts (m t a) (values_under m after (after t a) more) h in
      both_ok (k t a) (values_under k after (after t a) more) (each t a parts.0)
      (list_accepts k each (after t a) more parts.1)

  module _ (fine coarse : T → Attribute → Attribute → Bool)
      (each : (t : T) (a b : Attribute) → IsAttribute a → IsOk (m t a) → coarse t a b ≡ true →
      fine t a b ≡ true) where
    fronts_alike : (t : T) (front : List Attribute) (qs : List (Result Attribute ℕ)) →
        AllByRecursion IsAttribute front → IsOk (values_under m after t (nla_items_of front [])) →
        alike_under coarse after t (nla_items_of front []) qs ≡ true →
        alike_under fine after t (nla_items_of front []) qs ≡ true
    fronts_alike t [] [] i h e = refl
    fronts_alike t [] (q ∷ qs) i h e = absurd cc
    fronts_alike t (a ∷ more) [] i h e = absurd cc
    fronts_alike t (a ∷ more) ((Err n) ∷ qs) i h e = absurd cc
    fronts_alike t (a ∷ more) ((Ok b) ∷ qs) i h e =
        let next = after t a in
        let items = nla_items_of more [] in
        let means = both_parts (m t a) (values_under m after next items) h in
        let parts = and_parts (coarse t a b) (alike_under coarse after next items qs) e in
        and_from (fine t a b) (alike_under fine after next items qs)
        (each t a b i.0 means.0 parts.0) (fronts_alike next more qs i.1 means.1 parts.1)

    -- an accepted list is equivalent to a second one by a relation that has each pair that the
    -- other one has
    pub list_alike : (t : T) (s u : List ℕ) → IsBytes s →
        IsOk (values_under m after t (nla_items s)) →
        alike_under coarse after t (nla_items s) (nla_items u) ≡ true →
        alike_under fine after t (nla_items s) (nla_items u) ≡ true
    list_alike t s u b h e = go (values_under m after t (nla_items s)) refl h
      where
        go : (r : Result (List X) DecodeError) → values_under m after t (nla_items s) ≡ r →
            IsOk r → alike_under fine after t (nla_items s) (nla_items u) ≡ true
        go (Err d) is i = absurd cc
        go (Ok xs) is i =
            let whole = accepted m after t s xs b is in
            let items = whole.nla_items_are in
            ap (λ (ps : List (Result Attribute ℕ)). alike_under fine after t ps (nla_items u)) items
            ∙ fronts_alike t whole.front (nla_items u) whole.attributes
            (subst (λ (r : Result (List X) DecodeError). IsOk r) (sym whole.values_are) i)
            (ap (λ (ps : List (Result Attribute ℕ)). alike_under coarse after t ps (nla_items u))
            (sym items)
            ∙ e)
