-- One attribute of a list of addresses more.
use Rattle.std.proofs.Common.{
  ◌≡◌,
  ℕ,
  ◌+◌,
  ◌<◌,
  ◌-◌,
  ◌≤◌,
  Bool,
  true,
  false,
  List,
  ◌∷◌,
  ◌++◌,
  Option,
  None,
  Result,
  Ok,
  Err,
  length,
  drop,
  get_or,
  refl,
  sym,
  ap,
  ◌∙◌,
}
use Rattle.std.specs.Prelude.{◌==◌, ◌&&◌, if◌then◌else◌, IsOk, is_ok}
use Rattle.std.proofs.lemmas.Bool.{cond-true, eqb-true}
use Rattle.std.proofs.lemmas.List.{at_drop_more}
use Rattle.nla_frame.specs.Attribute.{
  Attribute,
  IsAttribute,
  aligned,
  canonical_string,
  list_string,
}
use Rattle.nla_frame.specs.Canonical.{bytes_for}
use Rattle.nla_frame.specs.NlaItems.{GoesOn, nla_items}
use Rattle.nla_frame.specs.declared.error.Cause.TheVariants as cause
use Rattle.linkinfo_table.specs.Codecs.{Own, PayloadError}
use Rattle.linkinfo_table.specs.Described.{each_framed, or_zero}
use Rattle.linkinfo_table.specs.Difference.{error_offset, own_error, stays}
use Rattle.linkinfo_table.proofs.Lasts.{moved}
use Rattle.linkinfo_payloads.specs.Addresses.{addresses, numbered, with_first}
use Rattle.linkinfo_payloads.specs.Fixed.{IsFixed}

-- what follows values that are read already
abbrev pub with_front : {X : Type 0} → List X → Result (List X) PayloadError →
    Result (List X) PayloadError
with_front front (Ok xs) = Ok (front ++ xs)
with_front front (Err e) = Err e

-- ---- an accepted list

-- the canonical payload of what a list means, with types from a number on
abbrev pub written_from : {X : Type 0} → ℕ → (List ℕ → X) → (X → List ℕ) → ℕ →
    List (Result Attribute ℕ) → List ℕ
written_from width of bytes k ps =
    bytes_for (λ xs. list_string (numbered bytes k xs)) (addresses width of ps)

module _ {X : Type 0} (width : ℕ) (of : List ℕ → X) (bytes : X → List ℕ) (holds : X → Type 0)
    (fixed : IsFixed width of bytes holds) where
  pub record Accepted (a : Attribute) (more : List (Result Attribute ℕ)) : Type 0 where
    pub long : length a.value ≡ width
    pub others : IsOk (addresses width of more)
    pub written : IsAttribute a → (k : ℕ) →
        written_from width of bytes k (Ok a ∷ more)
        ≡ canonical_string (record { kind = k; value = a.value })
        ++ written_from width of bytes (k + 1) more

  pub accepted_on : (a : Attribute) (more : List (Result Attribute ℕ)) →
      IsOk (addresses width of (Ok a ∷ more)) → Accepted a more
  accepted_on a more h = go (length a.value == width) refl h
    where
      ok_rest : (r : Result (List X) PayloadError) → IsOk (with_first (of a.value) r) → IsOk r
      ok_rest (Ok xs) i = refl
      ok_rest (Err e) i = i

      string_of : (k : ℕ) (r : Result (List X) PayloadError) → IsOk r →
          bytes (of a.value) ≡ a.value →
          bytes_for (λ (xs : List X). list_string (numbered bytes k xs))
          (with_first (of a.value) r)
          ≡ canonical_string (record { kind = k; value = a.value })
          ++ bytes_for (λ (xs : List X). list_string (numbered bytes (k + 1) xs)) r
      string_of k (Ok xs) i same =
          ap (λ (v : List ℕ). canonical_string (record { kind = k; value = v })
          ++ list_string (numbered bytes (k + 1) xs)) same
      string_of k (Err e) i same = absurd cc

      go : (b : Bool) → (length a.value == width) ≡ b →
          IsOk (if b then with_first (of a.value) (addresses width of more)
          else Err (Own cause.Length)) → Accepted a more
      go true e i =
          let long = eqb-true (length a.value) width e in
          let others = ok_rest (addresses width of more) i in record {
            long = long;
            others = others;
            written = λ attribute k.
                ap (λ (r : Result (List X) PayloadError).
                bytes_for (λ (xs : List X). list_string (numbered bytes k xs)) r)
                (cond-true (length a.value == width) _ _ e)
                ∙ string_of k (addresses width of more) others
                (fixed.back a.value attribute.bytes long);
          }
      go false e i = absurd cc

-- ---- addresses of a list

module _ {X : Type 0} (bytes : X → List ℕ) where
  -- the addresses from one on begin with it
  pub numbered_on : (k : ℕ) (xs : List X) (i : ℕ) (x : X) → i < length xs → x ≡ get_or xs i x →
      list_string (numbered bytes k (drop i xs))
      ≡ canonical_string (record { kind = k; value = bytes x })
      ++ list_string (numbered bytes (k + 1) (drop (i + 1) xs))
  numbered_on k xs i x h e =
      at_drop_more (λ ys. list_string (numbered bytes k ys)) xs i x h
      ∙ ap (λ y. canonical_string (record { kind = k; value = bytes y })
      ++ list_string (numbered bytes (k + 1) (drop (i + 1) xs))) (sym e)

-- ---- the offset of an error

-- the offset of the error in what is left of a list from an offset
abbrev pub error_from : {X : Type 0} → ℕ → (List ℕ → X) → ℕ → List (Result Attribute ℕ) → Option ℕ
error_from width of n ps =
    own_error (is_ok (addresses width of ps))
    (if each_framed (λ a. length a.value == width) ps
    then 4 + or_zero (error_offset (λ _ _. None) stays tt n ps)
    else 0)

module _ {X : Type 0} (width : ℕ) (of : List ℕ → X) where
  with_first_ok : (x : X) (r : Result (List X) PayloadError) → is_ok (with_first x r) ≡ is_ok r
  with_first_ok x (Ok xs) = refl
  with_first_ok x (Err e) = refl

  -- after an address the error is that of the others
  one_address : (n : ℕ) (a : Attribute) (more : List (Result Attribute ℕ)) →
      (length a.value == width) ≡ true →
      error_from width of n (Ok a ∷ more)
      ≡ error_from width of (n + aligned (4 + length a.value)) more
  one_address n a more e =
      let next = n + aligned (4 + length a.value) in
      ap (λ (b : Bool).
      own_error
      (is_ok (if b then with_first (of a.value) (addresses width of more)
      else Err (Own cause.Length)))
      (if b && each_framed (λ x. length x.value == width) more
      then 4 + or_zero (error_offset (λ _ _. None) stays tt next more)
      else 0)) e
      ∙ ap (λ (b : Bool).
      own_error b
      (if each_framed (λ x. length x.value == width) more
      then 4 + or_zero (error_offset (λ _ _. None) stays tt next more)
      else 0)) (with_first_ok (of a.value) (addresses width of more))

  pub address_passes : (s rest after : List ℕ) (a : Attribute) (old new : ℕ) →
      GoesOn rest old new a after → length rest ≤ length s → (length a.value == width) ≡ true →
      error_from width of (length s - length rest) (nla_items rest)
      ≡ error_from width of (length s - length after) (nla_items after)
  address_passes s rest after a old new step le long =
      let n = length s - length rest in
      ap (λ (ps : List (Result Attribute ℕ)). error_from width of n ps) step.nla_items_are
      ∙ one_address n a (nla_items after) long
      ∙ moved (error_from width of) (λ m k. refl) n (aligned (4 + length a.value)) s rest after le
      refl step.rest_is
