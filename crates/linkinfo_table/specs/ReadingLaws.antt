-- The meaning of a list of items is what the relations say of its byte string. Each byte string is
-- accepted or has exactly one error.
use Rattle.std.specs.Prelude.{
  ◌≡◌,
  ◌↔◌,
  ℕ,
  ◌+◌,
  ◌-◌,
  ◌≤◌,
  false,
  ◌⊎◌,
  List,
  [],
  ◌∷◌,
  ◌++◌,
  drop,
  length,
  Result,
  Ok,
  Err,
  refl,
}
use Rattle.std.proofs.Common.{sym, ap, subst, ◌∙◌, arith, inl, inr}
use Rattle.std.proofs.lemmas.Bool.{cond-false, le-ltb}
use Rattle.std.proofs.lemmas.List.{length-append, take_at}
use Rattle.nla_frame.specs.Attribute.{Attribute, IsAttribute, IsBytes, aligned, header}
use Rattle.nla_frame.specs.Error.{header_error}
use Rattle.nla_frame.specs.Framing.{Begins, Broken, HasNoHeader, Splits, length_field, kind_field}
use Rattle.nla_frame.specs.NlaItems.{
  nla_items,
  nla_items_of,
  split,
  has_no_header,
  first_attribute,
  attribute_at,
  seen,
}
use Rattle.nla_frame.specs.declared.error.DecodeError.{DecodeError}
use Rattle.nla_frame.proofs.Framing.{split_is}
use Rattle.nla_frame.proofs.Stepping.{nla_items_split, nla_items_only, nla_items_nil, goes_on}
use Rattle.linkinfo_table.specs.Lists.{values, ◌>>=◌, values_under, first_meaning}
use Rattle.linkinfo_table.specs.ListLaws.{reads, together, accepted}
use Rattle.linkinfo_table.specs.Readings.{
  MeanEach,
  state_after,
  MeansList,
  HasError,
  FirstMeans,
  FirstHasError,
  IsDecided,
}

abbrev good : {A : Type 0} → A → Result A DecodeError
good x = Ok x

abbrev bad : {A : Type 0} → DecodeError → Result A DecodeError
bad e = Err e

good_same : {A : Type 0} (x y : A) → good x ≡ good y → x ≡ y
good_same x y e = cc

bad_same : {A : Type 0} (d e : DecodeError) → bad {A = A} d ≡ bad e → d ≡ e
bad_same d e h = cc

-- a result decides between acceptance and an error
pub is_decided : {X : Type 0} (Accepted : X → Type 0) (Refused : DecodeError → Type 0)
    (r : Result X DecodeError) → ((x : X) → (r ≡ Ok x) ↔ Accepted x) →
    ((e : DecodeError) → (r ≡ Err e) ↔ Refused e) → IsDecided Accepted Refused
is_decided {X = X} Accepted Refused r reads_ok reads_err = record {
  either = go r refl;
  one_value = λ x y h k. good_same x y (sym ((reads_ok x).1 h) ∙ (reads_ok y).1 k);
  one_error = λ d e h k. bad_same d e (sym ((reads_err d).1 h) ∙ (reads_err e).1 k);
  never_both = λ x e h k. apart x e (sym ((reads_ok x).1 h) ∙ (reads_err e).1 k);
}
  where
    apart : (x : X) (e : DecodeError) → good x ≡ bad e → ⊥
    apart x e h = cc

    go : (s : Result X DecodeError) → r ≡ s →
        ((x : X) × Accepted x) ⊎ ((e : DecodeError) × Refused e)
    go (Ok x) h = inl (x, (reads_ok x).0 h)
    go (Err e) h = inr (e, (reads_err e).0 h)

module _ {T X : Type 0} (m : T → Attribute → Result X DecodeError) (after : T → Attribute → T) where
  means_each : (t : T) (front : List Attribute) (xs : List X) →
      values_under m after t (nla_items_of front []) ≡ Ok xs → MeanEach m after t front xs
  means_each t [] [] e = tt
  means_each t [] (x ∷ xs) e = absurd cc
  means_each t (a ∷ more) xs e =
      let p = reads m after t a (nla_items_of more []) xs e in
      subst (λ (ys : List X). MeanEach m after t (a ∷ more) ys) (sym p.whole) (
        p.first,
        means_each (after t a) more p.xs p.others,
      )

  each_read : (t : T) (front : List Attribute) (xs : List X) → MeanEach m after t front xs →
      values_under m after t (nla_items_of front []) ≡ Ok xs
  each_read t [] [] h = refl
  each_read t [] (x ∷ xs) h = absurd h
  each_read t (a ∷ more) [] h = absurd h
  each_read t (a ∷ more) (x ∷ xs) h =
      together m after t a (nla_items_of more []) x xs h.0 (each_read (after t a) more xs h.1)

  pub list_means : (t : T) (s : List ℕ) (xs : List X) → IsBytes s →
      (values_under m after t (nla_items s) ≡ Ok xs) ↔ MeansList m after t s xs
  list_means t s xs bytes = (
    λ e. let u = accepted m after t s xs bytes e in
        (u.front, u.frames, means_each t u.front xs u.values_are),
    λ h.
        ap (λ (ps : List (Result Attribute ℕ)). values_under m after t ps)
        (nla_items_only s h.0 [] h.1) ∙ each_read t h.0 xs h.2,
  )

  -- ---- the error

  -- among the attributes in front, the first without a meaning
  record At (t : T) (all : List Attribute) (e : DecodeError) : Type 0 where
    front : List Attribute
    item : Attribute
    more : List Attribute
    whole : all ≡ front ++ (item ∷ more)
    values : List X
    mean : MeanEach m after t front values
    error : m (state_after after t front) item ≡ Err e

  -- all attributes in front have a meaning, and a rest is left
  record Behind (t : T) (all : List Attribute) (left : List ℕ) (e : DecodeError) : Type 0 where
    byte : ℕ
    bytes : List ℕ
    rest : left ≡ byte ∷ bytes
    values : List X
    mean : MeanEach m after t all values
    error : e ≡ header_error

  error_in_list : (t : T) (all : List Attribute) (left : List ℕ) (e : DecodeError) →
      values_under m after t (nla_items_of all left) ≡ Err e → At t all e ⊎ Behind t all left e
  error_in_list t [] [] e h = absurd cc
  error_in_list t [] (b ∷ r) e h =
      inr (record {
        byte = b;
        bytes = r;
        rest = refl;
        values = [];
        mean = tt;
        error = sym (bad_same {A = List X} header_error e h);
      })
  error_in_list t (a ∷ all) left e h =
      go (λ k. error_in_list (after t a) all left e k) (m t a)
      (values_under m after (after t a) (nla_items_of all left)) refl refl h
    where
      go : (values_under m after (after t a) (nla_items_of all left) ≡ Err e →
          At (after t a) all e ⊎ Behind (after t a) all left e) →
          (r : Result X DecodeError) (s : Result (List X) DecodeError) → m t a ≡ r →
          values_under m after (after t a) (nla_items_of all left) ≡ s →
          (r >>= λ x. s >>= λ xs. Ok (x ∷ xs)) ≡ Err e →
          At t (a ∷ all) e ⊎ Behind t (a ∷ all) left e
      go others (Err d) s f g k = inl (record {
        front = [];
        item = a;
        more = all;
        whole = refl;
        values = [];
        mean = tt;
        error = f ∙ ap (λ (z : DecodeError). bad z) (bad_same {A = List X} d e k);
      })
      go others (Ok x) (Ok xs) f g k = absurd cc
      go others (Ok x) (Err d) f g k =
          let same : d ≡ e = bad_same {A = List X} d e k in
          elim (others (g ∙ ap (λ (z : DecodeError). bad z) same)) [
            | inl p ↦ inl (record {
              front = a ∷ p.front;
              item = p.item;
              more = p.more;
              whole = ap (λ (z : List Attribute). a ∷ z) p.whole;
              values = x ∷ p.values;
              mean = (f, p.mean);
              error = p.error;
            })
            | inr p ↦
                inr (record {
                  byte = p.byte;
                  bytes = p.bytes;
                  rest = p.rest;
                  values = x ∷ p.values;
                  mean = (f, p.mean);
                  error = p.error;
                })
          ]

  item_error : (t : T) (front : List Attribute) (item : Attribute) (more : List Attribute)
      (left : List ℕ) (values : List X) (e : DecodeError) →
      MeanEach m after t front values → m (state_after after t front) item ≡ Err e →
      values_under m after t (nla_items_of (front ++ (item ∷ more)) left) ≡ Err e
  item_error t [] item more left values e h k =
      ap (λ (r : Result X DecodeError). r
      >>= λ x. values_under m after (after t item) (nla_items_of more left) >>= λ xs. Ok (x ∷ xs)) k
  item_error t (a ∷ front) item more left [] e h k = absurd h
  item_error t (a ∷ front) item more left (x ∷ values) e h k =
      ap (λ (r : Result X DecodeError). r
      >>= λ x. values_under m after (after t a) (nla_items_of (front ++ (item ∷ more)) left)
      >>= λ xs. Ok (x ∷ xs)) h.0
      ∙ ap (λ (r : Result (List X) DecodeError). r >>= λ xs. Ok (x ∷ xs))
      (item_error (after t a) front item more left values e h.1 k)

  rest_error : (t : T) (front : List Attribute) (b : ℕ) (r : List ℕ) (values : List X) →
      MeanEach m after t front values →
      values_under m after t (nla_items_of front (b ∷ r)) ≡ Err header_error
  rest_error t [] b r values h = refl
  rest_error t (a ∷ front) b r [] h = absurd h
  rest_error t (a ∷ front) b r (x ∷ values) h =
      ap (λ (z : Result X DecodeError). z
      >>= λ x. values_under m after (after t a) (nla_items_of front (b ∷ r))
      >>= λ xs. Ok (x ∷ xs)) h.0
      ∙ ap (λ (z : Result (List X) DecodeError). z >>= λ xs. Ok (x ∷ xs))
      (rest_error (after t a) front b r values h.1)

  -- a broken byte string has a rest
  broken_rest : (s : List ℕ) (front : List Attribute) → Broken s front [] → ⊥
  broken_rest s [] h = absurd (omega (arith, h.1.0))
  broken_rest s (a ∷ more) h = broken_rest h.1 more h.4

  broken_error : (t : T) (s : List ℕ) (front : List Attribute) (rest : List ℕ) (values : List X)
      (e : DecodeError) → Broken s front rest → MeanEach m after t front values →
      e ≡ header_error → values_under m after t (nla_items s) ≡ Err e
  broken_error t s front [] values e h k f = absurd (broken_rest s front h)
  broken_error t s front (b ∷ r) values e h k f =
      ap (λ (ps : List (Result Attribute ℕ)). values_under m after t ps)
      (nla_items_only s front (b ∷ r) h)
      ∙ rest_error t front b r values k
      ∙ ap (λ (d : DecodeError). bad d) (sym f)

  pub list_has_error : (t : T) (s : List ℕ) (e : DecodeError) → IsBytes s →
      (values_under m after t (nla_items s) ≡ Err e) ↔ HasError m after t s e
  list_has_error t s e bytes = (
    λ h.
        elim (error_in_list t (split s).front (split s).left e
        (ap (λ (ps : List (Result Attribute ℕ)). values_under m after t ps)
        (sym (nla_items_split s))
        ∙ h)) [
          | inl p ↦ inl (record {
            front = p.front;
            item = p.item;
            more = p.more;
            left = (split s).left;
            splits =
                subst (λ (z : List Attribute). Splits s z (split s).left) p.whole
                (split_is s bytes);
            values = p.values;
            mean = p.mean;
            error = p.error;
          })
          | inr p ↦ inr (record {
            front = (split s).front;
            rest = p.byte ∷ p.bytes;
            broken = subst (λ (z : List ℕ). Splits s (split s).front z) p.rest (split_is s bytes);
            values = p.values;
            mean = p.mean;
            error = p.error;
          })
        ],
    λ h.
        elim h [
          | inl p ↦
              ap (λ (ps : List (Result Attribute ℕ)). values_under m after t ps)
              (nla_items_only s (p.front ++ (p.item ∷ p.more)) p.left p.splits)
              ∙ item_error t p.front p.item p.more p.left p.values e p.mean p.error
          | inr p ↦ broken_error t s p.front p.rest p.values e p.broken p.mean p.error
        ],
  )

  -- each byte string is accepted or has exactly one error
  pub list_decided : (t : T) (s : List ℕ) → IsBytes s →
      IsDecided (MeansList m after t s) (HasError m after t s)
  list_decided t s bytes =
      is_decided (MeansList m after t s) (HasError m after t s)
      (values_under m after t (nla_items s))
      (λ xs. list_means t s xs bytes) (λ e. list_has_error t s e bytes)

-- ---- the first attribute alone

record Front (s : List ℕ) (a : Attribute) : Type 0 where
  fine : has_no_header s ≡ false
  first : first_attribute s ≡ a

front_of : (a : Attribute) (rest : List ℕ) → IsAttribute a → Front (header a ++ (a.value ++ rest)) a
front_of a rest is_a =
    let s : List ℕ = header a ++ (a.value ++ rest) in
    let short = is_a.short in
    let fits = is_a.kind in
    let field : length_field s ≡ 4 + length a.value = omega arith in
    let kind : kind_field s ≡ a.kind = omega arith in
    let len : length s ≡ 4 + (length a.value + length rest) = simp length-append (omega arith) in
    record {
      fine = is_accepted s (omega (arith, len)) (omega (arith, field)) (omega (arith, len, field));
      first =
          same_fields _ _ _ _ kind
          (take_at a.value rest (length_field s - 4) (omega (arith, field)));
    }
  where
    same_fields : (k l : ℕ) (v w : List ℕ) → k ≡ l → v ≡ w →
        (let x : Attribute = record { kind = k; value = v } in x) ≡ record { kind = l; value = w }
    same_fields k l v w p q = cc

    is_accepted : (s : List ℕ) → 4 ≤ length s → 4 ≤ length_field s → length_field s ≤ length s →
        has_no_header s ≡ false
    is_accepted s whole low high = rw (le-ltb _ _ whole, le-ltb _ _ low, le-ltb _ _ high) refl

front_read : (s : List ℕ) (a : Attribute) (rest : List ℕ) → Begins s a [] rest →
    attribute_at s ≡ Ok a
unfolding attribute_at
front_read s a rest h =
    let front = subst (λ (z : List ℕ). Front z a) (sym h.string) (front_of a rest h.is_attribute) in
    cond-false (has_no_header s) _ _ front.fine ∙ ap (λ (z : Attribute). good z) front.first

-- what a byte string begins with is the first of its items
begun : (s : List ℕ) (a : Attribute) (rest : List ℕ) → Begins s a [] rest →
    (more : List (Result Attribute ℕ)) × (nla_items s ≡ Ok a ∷ more)
begun s a rest h = (
  nla_items left,
  (goes_on s 0 (0 + seen s) (4 + length a.value) a left (front_read s a rest h) h.is_attribute refl
      refl refl).nla_items_are,
)
  where
    left : List ℕ
    left = drop (aligned (4 + length a.value)) s

-- a byte string begins with an attribute, or with none
abbrev None : List ℕ → Type 0
None s = (s ≡ []) ⊎ HasNoHeader s

starts : (s : List ℕ) → IsBytes s →
    ((a : Attribute) × (rest : List ℕ) × Begins s a [] rest) ⊎ None s
starts s bytes = go (split s).front (split s).left (split_is s bytes)
  where
    begins : (a : Attribute) (padding rest : List ℕ) → Begins s a padding rest →
        (b : Attribute) × (left : List ℕ) × Begins s b [] left
    begins a padding rest h = (
      a,
      padding ++ rest,
      record { is_attribute = h.is_attribute; string = h.string },
    )

    go : (front : List Attribute) (left : List ℕ) → Splits s front left →
        ((a : Attribute) × (rest : List ℕ) × Begins s a [] rest) ⊎ None s
    go [] [] h = inr (inl h)
    go [] (b ∷ r) h = inr (inr (subst HasNoHeader (sym h.0) h.1))
    go (a ∷ []) [] h = inl (begins a h.0 [] h.2)
    go (a ∷ b ∷ more) [] h = inl (begins a h.0 h.1 h.3)
    go (a ∷ more) (b ∷ r) h = inl (begins a h.0 h.1 h.3)

module _ {X : Type 0} (m : Attribute → Result X DecodeError) where
  first_is : (s : List ℕ) (a : Attribute) (rest : List ℕ) → Begins s a [] rest →
      first_meaning m (nla_items s) ≡ m a
  first_is s a rest h =
      let u = begun s a rest h in ap (λ (ps : List (Result Attribute ℕ)). first_meaning m ps) u.1

  first_of_none : (s : List ℕ) → None s → first_meaning m (nla_items s) ≡ Err header_error
  first_of_none s (inl e) =
      ap (λ (z : List ℕ). first_meaning m (nla_items z)) e
      ∙ ap (λ (ps : List (Result Attribute ℕ)). first_meaning m ps) nla_items_nil
  first_of_none [] (inr h) = absurd (omega (arith, h.0))
  first_of_none (b ∷ r) (inr h) =
      ap (λ (ps : List (Result Attribute ℕ)). first_meaning m ps)
      (nla_items_only (b ∷ r) [] (b ∷ r) (refl, h))

  pub first_means : (s : List ℕ) (x : X) → IsBytes s →
      (first_meaning m (nla_items s) ≡ Ok x) ↔ FirstMeans m s x
  first_means s x bytes = (λ e. go (starts s bytes) e, λ h. first_is s h.0 h.1 h.2 ∙ h.3)
    where
      apart : (e : DecodeError) → bad e ≡ good x → ⊥
      apart e h = cc

      go : ((a : Attribute) × (rest : List ℕ) × Begins s a [] rest) ⊎ None s →
          first_meaning m (nla_items s) ≡ Ok x → FirstMeans m s x
      go (inl p) k = (p.0, p.1, p.2, sym (first_is s p.0 p.1 p.2) ∙ k)
      go (inr n) k = absurd (apart header_error (sym (first_of_none s n) ∙ k))

  pub first_has_error : (s : List ℕ) (e : DecodeError) → IsBytes s →
      (first_meaning m (nla_items s) ≡ Err e) ↔ FirstHasError m s e
  first_has_error s e bytes = (
    λ h. go (starts s bytes) h,
    λ h.
        elim h [
          | inl p ↦ first_is s p.0 p.1 p.2 ∙ p.3
          | inr p ↦ first_of_none s p.0 ∙ ap (λ (d : DecodeError). bad d) (sym p.1)
        ],
  )
    where
      go : ((a : Attribute) × (rest : List ℕ) × Begins s a [] rest) ⊎ None s →
          first_meaning m (nla_items s) ≡ Err e → FirstHasError m s e
      go (inl p) k = inl (p.0, p.1, p.2, sym (first_is s p.0 p.1 p.2) ∙ k)
      go (inr n) k = inr (n, bad_same {A = X} e header_error (sym k ∙ first_of_none s n))

  pub first_decided : (s : List ℕ) → IsBytes s → IsDecided (FirstMeans m s) (FirstHasError m s)
  first_decided s bytes =
      is_decided (FirstMeans m s) (FirstHasError m s) (first_meaning m (nla_items s))
      (λ x. first_means s x bytes) (λ e. first_has_error s e bytes)
