-- Attributes of a byte string that a loop writes into an array, one after another.
use Rattle.std.proofs.Common.{
  ◌≡◌,
  ℕ,
  zero,
  suc,
  ◌+◌,
  min,
  List,
  [],
  ◌∷◌,
  ◌++◌,
  length,
  take,
  refl,
  sym,
  ap,
  ◌∙◌,
  append_assoc,
  arith,
  Result,
  Ok,
  Err,
}
use Rattle.std.specs.Prelude.{slice_set}
use Rattle.std.proofs.lemmas.List.{append-nil, length-append}
use Rattle.nla_frame.specs.Attribute.{Attribute, aligned}
use Rattle.nla_frame.specs.declared.error.DecodeError.{DecodeError}
use Rattle.linkinfo.specs.Placed.{place_after}
use Rattle.linkinfo.proofs.Placing.{place_after-push}
use Rattle.linkinfo_c.specs.declared.error.LinkinfoError.{LinkinfoError}
use Rattle.linkinfo_c.specs.Buffers.{with_front}
use Rattle.linkinfo_c.specs.Errors.{no_error, error_record}
use Rattle.linkinfo_c.specs.Items.{attributes_in, each_after, error_after}

-- ---- an array with one more value

take_none : {A : Type 0} (n : ℕ) → take {A = A} n [] ≡ []
take_none zero = refl
take_none (suc n) = refl

pub with_none : {A : Type 0} (buffer : List A) → buffer ≡ with_front [] buffer
with_none buffer = ap (λ xs. xs ++ buffer) (sym (take_none (length buffer)))

with_front-push : {A : Type 0} (values : List A) (x : A) (buffer : List A) →
    slice_set (with_front values buffer) (length values) x ≡ with_front (values ++ x ∷ []) buffer
with_front-push [] x [] = refl
with_front-push [] x (b ∷ buffer) = ap (λ xs. x ∷ xs) (with_none buffer)
with_front-push (y ∷ values) x [] = refl
with_front-push (y ∷ values) x (b ∷ buffer) = ap (λ zs. y ∷ zs) (with_front-push values x buffer)

-- ---- attributes before those still to come

abbrev pub in_front : List Attribute → List (Result Attribute DecodeError) →
    List (Result Attribute DecodeError)
in_front [] more = more
in_front (a ∷ front) more = Ok a ∷ in_front front more

in_front-push : (front : List Attribute) (a : Attribute)
    (more : List (Result Attribute DecodeError)) →
    in_front front (Ok a ∷ more) ≡ in_front (front ++ a ∷ []) more
in_front-push [] a more = refl
in_front-push (b ∷ front) a more =
    ap (λ (rs : List (Result Attribute DecodeError)). Ok b ∷ rs) (in_front-push front a more)

ended : (front : List Attribute) →
    (attributes_in (in_front front []) ≡ front) × (error_after (in_front front []) ≡ no_error)
ended [] = (refl, refl)
ended (a ∷ front) = (ap (λ (xs : List Attribute). a ∷ xs) (ended front).0, (ended front).1)

stopped : (front : List Attribute) (e : DecodeError) (more : List (Result Attribute DecodeError)) →
    (attributes_in (in_front front (Err e ∷ more)) ≡ front)
    × (error_after (in_front front (Err e ∷ more)) ≡ error_record e)
stopped [] e more = (refl, refl)
stopped (a ∷ front) e more = (
  ap (λ (xs : List Attribute). a ∷ xs) (stopped front e more).0,
  (stopped front e more).1,
)

module _ {R : Type 0} (of : List Attribute → Attribute → R) where
  each_after-push : (front xs : List Attribute) (a : Attribute) →
      each_after of front (xs ++ a ∷ []) ≡ each_after of front xs ++ of (front ++ xs) a ∷ []
  each_after-push front [] a = ap (λ (xs : List Attribute). of xs a ∷ []) (sym (append-nil front))
  each_after-push front (x ∷ xs) a =
      ap (λ (ys : List R). of front x ∷ ys) (
      each_after-push (front ++ x ∷ []) xs a
      ∙ ap (λ (ys : List Attribute). each_after of (front ++ x ∷ []) xs ++ of ys a ∷ [])
      (append_assoc front (x ∷ []) xs)
      )

  length-each_after : (front xs : List Attribute) → length (each_after of front xs) ≡ length xs
  length-each_after front [] = refl
  length-each_after front (x ∷ xs) =
      ap (λ (n : ℕ). suc n) (length-each_after (front ++ x ∷ []) xs)

  -- ---- what the array has of the attributes of a byte string, while the rest is still to come

  pub record Lists (s : List ℕ) (all rest : List (Result Attribute DecodeError)) (old new : List R)
      (front : List Attribute) (count place : ℕ) : Type 0 where
    pub shown : all ≡ in_front front rest
    pub count_is : count ≡ length front
    pub place_is : place ≡ place_after s front
    pub values : new ≡ with_front (each_after of [] front) old

  pub begins : (s : List ℕ) (all : List (Result Attribute DecodeError)) (old : List R) →
      Lists s all all old old [] 0 0
  begins s all old = record {
    shown = refl;
    count_is = refl;
    place_is = omega arith;
    values = with_none old;
  }

  pub goes_on : (s : List ℕ) (all rest more : List (Result Attribute DecodeError))
      (old new after : List R) (front : List Attribute) (count next place following : ℕ)
      (a : Attribute) (r : R) →
      Lists s all rest old new front count place → rest ≡ Ok a ∷ more → r ≡ of front a →
      after ≡ slice_set new count r → next ≡ count + 1 →
      following ≡ min (length s) (place + aligned (4 + length a.value)) →
      Lists s all more old after (front ++ a ∷ []) next following
  goes_on s all rest more old new after front count next place following a r h gives is put counted
      passes = record {
        shown =
            h.shown
            ∙ ap (λ (rs : List (Result Attribute DecodeError)). in_front front rs) gives
            ∙ in_front-push front a more;
        count_is = omega (arith, counted, h.count_is, length-append front (a ∷ []));
        place_is =
            passes
            ∙ ap (λ (n : ℕ). min (length s) (n + aligned (4 + length a.value))) h.place_is
            ∙ place_after-push s front a;
        values =
            put
            ∙ ap (λ (v : R). slice_set new count v) is
            ∙ ap (λ (n : ℕ). slice_set new n (of front a))
            (h.count_is ∙ sym (length-each_after [] front))
            ∙ ap (λ (xs : List R). slice_set xs (length (each_after of [] front)) (of front a))
            h.values
            ∙ with_front-push (each_after of [] front) (of front a) old
            ∙ ap (λ (xs : List R). with_front xs old) (sym (each_after-push [] front a));
      }

  -- ---- the end, or an error

  pub record Listed (s : List ℕ) (all : List (Result Attribute DecodeError)) (old new : List R)
      (count place : ℕ) (error : LinkinfoError) : Type 0 where
    pub values : new ≡ with_front (each_after of [] (attributes_in all)) old
    pub count_is : count ≡ length (each_after of [] (attributes_in all))
    pub error_is : error ≡ error_after all
    pub place_is : place ≡ place_after s (attributes_in all)

  listed_by : (s : List ℕ) (all rest : List (Result Attribute DecodeError)) (old new : List R)
      (front : List Attribute) (count place : ℕ) (error : LinkinfoError) →
      Lists s all rest old new front count place → attributes_in all ≡ front →
      error ≡ error_after all → Listed s all old new count place error
  listed_by s all rest old new front count place error h same is = record {
    values =
        h.values ∙ ap (λ (xs : List Attribute). with_front (each_after of [] xs) old) (sym same);
    count_is =
        h.count_is
        ∙ sym (length-each_after [] front)
        ∙ ap (λ (xs : List Attribute). length (each_after of [] xs)) (sym same);
    error_is = is;
    place_is = h.place_is ∙ ap (λ (xs : List Attribute). place_after s xs) (sym same);
  }

  pub ends : (s : List ℕ) (all rest : List (Result Attribute DecodeError)) (old new : List R)
      (front : List Attribute) (count place : ℕ) →
      Lists s all rest old new front count place → rest ≡ [] →
      Listed s all old new count place no_error
  ends s all rest old new front count place h none =
      let whole : all ≡ in_front front [] =
      h.shown ∙ ap (λ (rs : List (Result Attribute DecodeError)). in_front front rs) none in
      listed_by s all rest old new front count place no_error h
      (ap attributes_in whole ∙ (ended front).0) (sym (ap error_after whole ∙ (ended front).1))

  pub stops : (s : List ℕ) (all rest more : List (Result Attribute DecodeError)) (old new : List R)
      (front : List Attribute) (count place : ℕ) (e : DecodeError) →
      Lists s all rest old new front count place → rest ≡ Err e ∷ more →
      Listed s all old new count place (error_record e)
  stops s all rest more old new front count place e h gives =
      let whole : all ≡ in_front front (Err e ∷ more) =
      h.shown ∙ ap (λ (rs : List (Result Attribute DecodeError)). in_front front rs) gives in
      listed_by s all rest old new front count place (error_record e) h
      (ap attributes_in whole ∙ (stopped front e more).0)
      (sym (ap error_after whole ∙ (stopped front e more).1))
