-- The computed split of a byte string satisfies the relation, and no other split does.
use Rattle.std.proofs.Common.{
  ◌≡◌,
  ℕ,
  zero,
  suc,
  ◌+◌,
  ◌-◌,
  ◌%◌,
  ◌<◌,
  ◌≤◌,
  min,
  Bool,
  true,
  false,
  ltb,
  ◌||◌,
  List,
  [],
  ◌∷◌,
  ◌++◌,
  length,
  take,
  drop,
  replicate,
  refl,
  sym,
  ap,
  subst,
  ◌∙◌,
  append_assoc,
  arith,
  inl,
  inr,
}
use Rattle.std.proofs.lemmas.Bool.{
  ltb-false,
  ltb-true,
  le-ltb,
  lt-ltb,
  cases_Bool,
  or_parts,
  or_cases,
  cond-false,
  cond-true,
}
use Rattle.std.proofs.lemmas.List.{
  take_at,
  drop_at,
  take-append-drop,
  length-append,
  length-take,
  length-drop,
  length-replicate,
  drop-drop,
  drop_all,
}
use Rattle.std.specs.List.{AllByRecursion}
use Rattle.nla_frame.specs.Attribute.{
  Attribute,
  IsAttribute,
  IsBytes,
  pad,
  aligned,
  header,
  canonical_string,
  list_string,
}
use Rattle.nla_frame.specs.Framing.{Begins, length_field, kind_field, HasNoHeader, Splits}
use Rattle.nla_frame.specs.NlaItems.{
  has_no_header,
  first_attribute,
  after_first,
  Split,
  with_first,
  split_up_to,
  split,
}
use Rattle.nla_frame.proofs.ByteLists.{IsBytes-drop, IsBytes-take}

-- ---- the tests of a header

-- what is known of an accepted header
pub record Accepts (s : List ℕ) : Type 0 where
  pub whole : 4 ≤ length s
  pub low : 4 ≤ length_field s
  pub high : length_field s ≤ length s

pub accepts : (s : List ℕ) → has_no_header s ≡ false → Accepts s
accepts s fine =
    let tests = or_parts (ltb (length s) 4) _ fine in
    let fields = or_parts (ltb (length_field s) 4) _ tests.1 in
    record {
      whole = ltb-false _ _ tests.0;
      low = ltb-false _ _ fields.0;
      high = ltb-false _ _ fields.1;
    }

is_accepted : (s : List ℕ) → Accepts s → has_no_header s ≡ false
is_accepted s h = rw (le-ltb _ _ h.whole, le-ltb _ _ h.low, le-ltb _ _ h.high) refl

or_left : (x y : Bool) → x ≡ true → (x || y) ≡ true
or_left x y e = rw e refl

or_right : (x y : Bool) → y ≡ true → (x || y) ≡ true
or_right true y e = refl
or_right false y e = e

is_refused : (s : List ℕ) → HasNoHeader s → has_no_header s ≡ true
is_refused s h =
    elim h.1 [
      | inl short ↦ or_left (ltb (length s) 4) _ (lt-ltb _ _ short)
      | inr other ↦ or_right (ltb (length s) 4) _ (elim other [
        | inl low ↦ or_left (ltb (length_field s) 4) _ (lt-ltb _ _ low)
        | inr high ↦ or_right (ltb (length_field s) 4) _ (lt-ltb _ _ high)
      ])
    ]

refuses : (s : List ℕ) → 0 < length s → has_no_header s ≡ true → HasNoHeader s
refuses s some e = (
  some,
  elim (or_cases (ltb (length s) 4) _ e) [
    | inl short ↦ inl (ltb-true _ _ short)
    | inr other ↦ inr (elim (or_cases (ltb (length_field s) 4) _ other) [
      | inl low ↦ inl (ltb-true _ _ low)
      | inr high ↦ inr (ltb-true _ _ high)
    ])
  ],
)

-- ---- a byte string that begins with an attribute

-- how the padding ends: with exact length before more bytes, and never longer
pub record Ends (a : Attribute) (padding rest : List ℕ) : Type 0 where
  pub exact : 0 < length rest → length padding ≡ pad (length a.value)
  pub most : length padding ≤ pad (length a.value)

pub padded : (a : Attribute) (padding rest : List ℕ) → length padding ≡ pad (length a.value) →
    Ends a padding rest
padded a padding rest e = record { exact = λ _. e; most = omega (arith, e) }

last_padded : (a : Attribute) (padding : List ℕ) → length padding ≤ pad (length a.value) →
    Ends a padding []
last_padded a padding le = record { exact = λ h. absurd (omega (arith, h)); most = le }

-- what is computed at the front
pub record Steps (s : List ℕ) (a : Attribute) (rest : List ℕ) : Type 0 where
  pub fine : has_no_header s ≡ false
  pub first : first_attribute s ≡ a
  pub goes_on : after_first s ≡ rest
  pub shorter : length rest < length s

abbrev attribute_of : ℕ → List ℕ → Attribute
attribute_of kind value = record { kind = kind; value = value }

same_fields : (k l : ℕ) (v w : List ℕ) → k ≡ l → v ≡ w → attribute_of k v ≡ attribute_of l w
same_fields k l v w p q = cc

aligned_four : (m n : ℕ) → m ≡ 4 + n → aligned m ≡ 4 + aligned n
aligned_four m n e = omega arith

length_field_is : (a : Attribute) (more : List ℕ) → IsAttribute a →
    length_field (header a ++ more) ≡ 4 + length a.value
length_field_is a more is_a = let short = is_a.short in omega arith

kind_field_is : (a : Attribute) (more : List ℕ) → IsAttribute a →
    kind_field (header a ++ more) ≡ a.kind
kind_field_is a more is_a = let fits = is_a.kind in omega arith

rest_is : (a : Attribute) (padding rest s : List ℕ) →
    s ≡ header a ++ (a.value ++ (padding ++ rest)) →
    length s ≡ 4 + (length a.value + (length padding + length rest)) →
    length_field s ≡ 4 + length a.value → Ends a padding rest → after_first s ≡ rest
rest_is a padding [] s e len field ends =
    drop_all (aligned (length_field s)) s
    (omega (arith, aligned_four (length_field s) (length a.value) field, ends.most, len))
rest_is a padding (b ∷ rest) s e len field ends =
    let whole : s ≡ (header a ++ (a.value ++ padding)) ++ (b ∷ rest) =
    e ∙ ap (λ (x : List ℕ). header a ++ x) (sym (append_assoc a.value padding (b ∷ rest))) in
    let size : length (header a ++ (a.value ++ padding)) ≡ aligned (length_field s) =
    simp length-append (omega
    (arith, aligned_four (length_field s) (length a.value) field, ends.exact (omega arith))) in
    ap (λ (x : List ℕ). drop (aligned (length_field s)) x) whole
    ∙ drop_at (header a ++ (a.value ++ padding)) (b ∷ rest) (aligned (length_field s)) size

string_steps : (a : Attribute) (padding rest : List ℕ) → IsAttribute a → Ends a padding rest →
    Steps (header a ++ (a.value ++ (padding ++ rest))) a rest
string_steps a padding rest is_a ends =
    let s : List ℕ = header a ++ (a.value ++ (padding ++ rest)) in
    let len : length s ≡ 4 + (length a.value + (length padding + length rest)) =
    simp length-append (omega arith) in
    let field : length_field s ≡ 4 + length a.value =
    length_field_is a (a.value ++ (padding ++ rest)) is_a in
    let size : length a.value ≡ length_field s - 4 = omega (arith, field) in
    record {
      fine =
          is_accepted s (record {
            whole = omega (arith, len);
            low = omega (arith, field);
            high = omega (arith, len, field);
          });
      first =
          same_fields _ _ _ _ (kind_field_is a (a.value ++ (padding ++ rest)) is_a)
          (take_at a.value (padding ++ rest) (length_field s - 4) size);
      goes_on = rest_is a padding rest s refl len field ends;
      shorter = omega (arith, len);
    }

pub begins_steps : (s : List ℕ) (a : Attribute) (padding rest : List ℕ) → Begins s a padding rest →
    Ends a padding rest → Steps s a rest
begins_steps s a padding rest begins ends =
    subst (λ (x : List ℕ). Steps x a rest) (sym begins.string)
    (string_steps a padding rest begins.is_attribute ends)

-- ---- the relation determines what is computed

split_nil : (n : ℕ) → split_up_to n [] ≡ record { front = []; left = [] }
unfolding split_up_to
split_nil zero = refl
split_nil (suc n) = refl

split_step : (n : ℕ) (s : List ℕ) (a : Attribute) (rest : List ℕ) → Steps s a rest →
    split_up_to (suc n) s ≡ with_first a (split_up_to n rest)
unfolding split_up_to
split_step n [] a rest st = absurd (omega (arith, st.shorter))
split_step n (b ∷ bytes) a rest st =
    cond-false (has_no_header (b ∷ bytes)) _ _ st.fine
    ∙ ap (λ (x : Attribute). with_first x (split_up_to n (after_first (b ∷ bytes)))) st.first
    ∙ ap (λ (r : List ℕ). with_first a (split_up_to n r)) st.goes_on

split_stop : (n b : ℕ) (bytes : List ℕ) → has_no_header (b ∷ bytes) ≡ true →
    split_up_to (suc n) (b ∷ bytes) ≡ record { front = []; left = b ∷ bytes }
unfolding split_up_to
split_stop n b bytes refused = cond-true (has_no_header (b ∷ bytes)) _ _ refused

then_same : (n : ℕ) (s : List ℕ) (a : Attribute) (rest : List ℕ) (more : List Attribute)
    (r : List ℕ) → Steps s a rest →
    split_up_to n rest ≡ record { front = more; left = r } →
    split_up_to (suc n) s ≡ record { front = a ∷ more; left = r }
then_same n s a rest more r st e = split_step n s a rest st ∙ ap (λ (x : Split). with_first a x) e

only_split : (n : ℕ) (s : List ℕ) (front : List Attribute) (r : List ℕ) → length s ≤ n →
    Splits s front r →
    split_up_to n s ≡ record { front = front; left = r }
only_split n s [] [] le h = ap (λ (x : List ℕ). split_up_to n x) h ∙ split_nil n
only_split zero s [] (b ∷ r) le h = absurd (omega (arith, ap length h.0, le))
only_split (suc n) s [] (b ∷ r) le h =
    ap (λ (x : List ℕ). split_up_to (suc n) x) h.0 ∙ split_stop n b r (is_refused (b ∷ r) h.1)
only_split zero s (a ∷ []) [] le h =
    let st = begins_steps s a h.0 [] h.2 (last_padded a h.0 h.1) in
    absurd (omega (arith, st.shorter))
only_split (suc n) s (a ∷ []) [] le h =
    then_same n s a [] [] [] (begins_steps s a h.0 [] h.2 (last_padded a h.0 h.1)) (split_nil n)
only_split zero s (a ∷ b ∷ more) [] le h =
    let st = begins_steps s a h.0 h.1 h.3 (padded a h.0 h.1 h.2) in
    absurd (omega (arith, st.shorter))
only_split (suc n) s (a ∷ b ∷ more) [] le h =
    let st = begins_steps s a h.0 h.1 h.3 (padded a h.0 h.1 h.2) in
    then_same n s a h.1 (b ∷ more) [] st
    (only_split n h.1 (b ∷ more) [] (omega (arith, st.shorter)) h.4)
only_split zero s (a ∷ more) (b ∷ r) le h =
    let st = begins_steps s a h.0 h.1 h.3 (padded a h.0 h.1 h.2) in
    absurd (omega (arith, st.shorter))
only_split (suc n) s (a ∷ more) (b ∷ r) le h =
    let st = begins_steps s a h.0 h.1 h.3 (padded a h.0 h.1 h.2) in
    then_same n s a h.1 more (b ∷ r) st
    (only_split n h.1 more (b ∷ r) (omega (arith, st.shorter)) h.4)

-- ---- what is computed satisfies the relation

cells : (a a' b b' c c' d d' : ℕ) (t t' : List ℕ) → a ≡ a' → b ≡ b' → c ≡ c' → d ≡ d' → t ≡ t' →
    (a ∷ b ∷ c ∷ d ∷ t) ≡ (a' ∷ b' ∷ c' ∷ d' ∷ t')
cells a a' b b' c c' d d' t t' p q r s e = cc

-- the padding after the first attribute
abbrev first_padding : List ℕ → List ℕ
first_padding s = take (pad (length_field s - 4)) (drop (length_field s) s)

pub begins_first : (s : List ℕ) → IsBytes s → Accepts s →
    Begins s (first_attribute s) (first_padding s) (after_first s)
begins_first [] fits h = absurd (omega (arith, h.whole))
begins_first (b0 ∷ []) fits h = absurd (omega (arith, h.whole))
begins_first (b0 ∷ b1 ∷ []) fits h = absurd (omega (arith, h.whole))
begins_first (b0 ∷ b1 ∷ b2 ∷ []) fits h = absurd (omega (arith, h.whole))
begins_first (b0 ∷ b1 ∷ b2 ∷ b3 ∷ t) fits h =
    let s : List ℕ = b0 ∷ b1 ∷ b2 ∷ b3 ∷ t in
    let f0 : b0 < 256 = fits 0 in
    let f1 : b1 < 256 = fits 1 in
    let f2 : b2 < 256 = fits 2 in
    let f3 : b3 < 256 = fits 3 in
    let n : ℕ = length_field s - 4 in
    let field : length_field s ≡ suc (suc (suc (suc n))) = omega (arith, h.low) in
    let whole : aligned (length_field s) ≡ suc (suc (suc (suc (n + pad n)))) =
    aligned_four (length_field s) n (omega (arith, h.low)) ∙ omega arith in
    let size : length (take n t) ≡ n = omega (arith, length-take n t, h.high, field) in
    let after : drop (length_field s) s ≡ drop n t = ap (λ (k : ℕ). drop k s) field in
    let rest : after_first s ≡ drop (pad n) (drop n t) =
    ap (λ (k : ℕ). drop k s) whole ∙ sym (drop-drop (pad n) n t) in
    let tail : t ≡ take n t ++ (first_padding s ++ after_first s) =
    sym (take-append-drop n t)
    ∙ ap (λ (x : List ℕ). take n t ++ x) (sym (take-append-drop (pad n) (drop n t)))
    ∙ ap (λ (x : List ℕ). take n t ++ (take (pad n) x ++ drop (pad n) (drop n t))) (sym after)
    ∙ ap (λ (x : List ℕ). take n t ++ (first_padding s ++ x)) (sym rest) in
    record {
      is_attribute = record {
        kind = omega arith;
        short = omega (arith, size);
        bytes = IsBytes-take n t (λ i. fits (suc (suc (suc (suc i)))));
      };
      string =
          cells b0 _ b1 _ b2 _ b3 _ t _ (omega (arith, size, field)) (omega (arith, size, field))
          (omega arith) (omega arith) tail;
    }

least : (m n k : ℕ) → k ≡ min m n → m ≤ n → k ≡ m
least m n k e h = omega arith

ends_first : (s : List ℕ) → Accepts s → Ends (first_attribute s) (first_padding s) (after_first s)
ends_first s h =
    let n : ℕ = length_field s - 4 in
    let whole : aligned (length_field s) ≡ 4 + aligned n =
    aligned_four (length_field s) n (omega (arith, h.low)) in
    let size : length (take n (drop 4 s)) ≡ n =
    omega (arith, length-take n (drop 4 s), length-drop 4 s, h.high) in
    let padding = length-take (pad n) (drop (length_field s) s) in
    let after = length-drop (length_field s) s in
    let rest = length-drop (aligned (length_field s)) s in
    let same : pad (length (take n (drop 4 s))) ≡ pad n = ap pad size in
    record {
      exact = λ more.
          least (pad n) (length (drop (length_field s) s)) _ padding
          (omega (arith, more, rest, after, whole, h.low, h.high)) ∙ sym same;
      most = rw same (omega (arith, padding));
    }

begins_nonempty : (s : List ℕ) (a : Attribute) (padding rest : List ℕ) → Begins s a padding rest →
    0 < length s
begins_nonempty s a padding rest h = rw h.string (omega arith)

splits_nonempty : (s : List ℕ) (a : Attribute) (more : List Attribute) (r : List ℕ) →
    Splits s (a ∷ more) r → 0 < length s
splits_nonempty s a [] [] h = begins_nonempty s a h.0 [] h.2
splits_nonempty s a (b ∷ more) [] h = begins_nonempty s a h.0 h.1 h.3
splits_nonempty s a more (b ∷ r) h = begins_nonempty s a h.0 h.1 h.3

-- one attribute before a split
pub splits_cons : (s : List ℕ) (a : Attribute) (padding rest : List ℕ) (more : List Attribute)
    (r : List ℕ) → Begins s a padding rest →
    Ends a padding rest → Splits rest more r → Splits s (a ∷ more) r
splits_cons s a padding rest [] [] begins ends h = (
  padding,
  ends.most,
  subst (λ (x : List ℕ). Begins s a padding x) h begins,
)
splits_cons s a padding rest [] (b ∷ r) begins ends h = (
  padding,
  rest,
  ends.exact (rw h.0 (omega arith)),
  begins,
  h,
)
splits_cons s a padding rest (c ∷ more) [] begins ends h = (
  padding,
  rest,
  ends.exact (splits_nonempty rest c more [] h),
  begins,
  h,
)
splits_cons s a padding rest (c ∷ more) (b ∷ r) begins ends h = (
  padding,
  rest,
  ends.exact (splits_nonempty rest c more (b ∷ r) h),
  begins,
  h,
)

computed_splits : (n : ℕ) (s : List ℕ) → IsBytes s → length s ≤ n →
    Splits s (split_up_to n s).front (split_up_to n s).left
unfolding split_up_to
computed_splits zero [] fits le = refl
computed_splits zero (b ∷ bytes) fits le = absurd (omega (arith, le))
computed_splits (suc n) [] fits le = refl
computed_splits (suc n) (b ∷ bytes) fits le =
    let s : List ℕ = b ∷ bytes in
    let P : Split → Type 0 = λ x. Splits s x.front x.left in
    elim (cases_Bool (has_no_header s)) [
      | inl refused ↦ subst P (sym (cond-true (has_no_header s) _ _ refused)) (
        refl,
        refuses s (omega arith) refused,
      )
      | inr fine ↦ subst P (sym (cond-false (has_no_header s) _ _ fine)) (
          let h = accepts s fine in
          let begins = begins_first s fits h in
          let ends = ends_first s h in
          let st = begins_steps s _ _ _ begins ends in
          splits_cons s (first_attribute s) _ (after_first s) _ _ begins ends
          (computed_splits n (after_first s) (IsBytes-drop (aligned (length_field s)) s fits)
          (omega (arith, st.shorter, le))))
    ]

-- ---- the laws of framing

pub split_is : (s : List ℕ) → IsBytes s → Splits s (split s).front (split s).left
unfolding split
split_is s fits = computed_splits (length s) s fits (omega arith)

pub split_only : (s : List ℕ) (front : List Attribute) (r : List ℕ) → Splits s front r →
    split s ≡ record { front = front; left = r }
unfolding split
split_only s front r h = only_split (length s) s front r (omega arith) h

-- the entries of a split are attributes
pub splits_attributes : (s : List ℕ) (front : List Attribute) (r : List ℕ) → Splits s front r →
    AllByRecursion IsAttribute front
splits_attributes s [] r h = tt
splits_attributes s (a ∷ []) [] h = (h.2.is_attribute, tt)
splits_attributes s (a ∷ b ∷ more) [] h = (
  h.3.is_attribute,
  splits_attributes h.1 (b ∷ more) [] h.4,
)
splits_attributes s (a ∷ more) (b ∷ r) h = (
  h.3.is_attribute,
  splits_attributes h.1 more (b ∷ r) h.4,
)

-- the byte string of a list frames that list
string_begins : (a : Attribute) (rest : List ℕ) → IsAttribute a →
    Begins (canonical_string a ++ rest) a (replicate (pad (length a.value)) 0) rest
string_begins a rest is_a =
    let zeros : List ℕ = replicate (pad (length a.value)) 0 in
    record {
      is_attribute = is_a;
      string =
          append_assoc (header a) (a.value ++ zeros) rest
          ∙ ap (λ (x : List ℕ). header a ++ x) (append_assoc a.value zeros rest);
    }

pub list_string_splits : (attributes : List Attribute) → AllByRecursion IsAttribute attributes →
    Splits (list_string attributes) attributes []
list_string_splits [] h = refl
list_string_splits (a ∷ more) h =
    splits_cons (canonical_string a ++ list_string more) a _ (list_string more) more []
    (string_begins a (list_string more) h.0)
    (padded a _ (list_string more) (length-replicate (pad (length a.value)) 0))
    (list_string_splits more h.1)

-- ---- one byte string after another

begins_append : (s t : List ℕ) (a : Attribute) (padding rest : List ℕ) → Begins s a padding rest →
    Begins (s ++ t) a padding (rest ++ t)
begins_append s t a padding rest h = record {
  is_attribute = h.is_attribute;
  string =
      ap (λ (z : List ℕ). z ++ t) h.string
      ∙ append_assoc (header a) (a.value ++ (padding ++ rest)) t
      ∙ ap (λ (z : List ℕ). header a ++ z)
      (append_assoc a.value (padding ++ rest) t
      ∙ ap (λ (z : List ℕ). a.value ++ z) (append_assoc padding rest t));
}

begins_length : (s : List ℕ) (a : Attribute) (padding rest : List ℕ) → Begins s a padding rest →
    length s ≡ 4 + (length a.value + (length padding + length rest))
begins_length s a padding rest h = ap length h.string ∙ simp length-append (omega arith)

last_exact : (n v p : ℕ) → n ≡ 4 + (v + (p + 0)) → p ≤ pad v → n % 4 ≡ 0 → p ≡ pad v
last_exact n v p e h f = omega (arith, e, h, f)

rest_aligned : (n v p r : ℕ) → n ≡ 4 + (v + (p + r)) → p ≡ pad v → n % 4 ≡ 0 → r % 4 ≡ 0
rest_aligned n v p r e h f = omega (arith, e, h, f)

pub splits_append : (s t : List ℕ) (front other : List Attribute) → length s % 4 ≡ 0 →
    Splits s front [] → Splits t other [] → Splits (s ++ t) (front ++ other) []
splits_append s t [] other four h k = subst (λ (z : List ℕ). Splits (z ++ t) other []) (sym h) k
splits_append s t (a ∷ []) other four h k =
    splits_cons (s ++ t) a h.0 t other [] (begins_append s t a h.0 [] h.2)
    (padded a h.0 t (last_exact (length s) (length a.value) (length h.0)
    (begins_length s a h.0 [] h.2) h.1 four)) k
splits_append s t (a ∷ b ∷ more) other four h k =
    splits_cons (s ++ t) a h.0 (h.1 ++ t) ((b ∷ more) ++ other) [] (begins_append s t a h.0 h.1 h.3)
    (padded a h.0 (h.1 ++ t) h.2)
    (splits_append h.1 t (b ∷ more) other
    (rest_aligned (length s) (length a.value) (length h.0) (length h.1)
    (begins_length s a h.0 h.1 h.3) h.2 four) h.4 k)
