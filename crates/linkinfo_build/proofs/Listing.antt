-- A list of values, one value at a time.
use Rattle.std.proofs.Common.{
  ◌≡◌,
  ◌+◌,
  ◌-◌,
  ◌<◌,
  ◌≤◌,
  ◌++◌,
  ℕ,
  zero,
  suc,
  Bool,
  true,
  false,
  nat_le,
  List,
  [],
  ◌∷◌,
  length,
  take,
  drop,
  get_or,
  Result,
  Ok,
  Err,
  IsOk,
  is_ok,
  refl,
  sym,
  ap,
  subst,
  ◌∙◌,
  arith,
}
use Rattle.std.proofs.lemmas.Bool.{cond-true, cond-false, le-leb, leb-false, leb-true}
use Rattle.std.proofs.lemmas.List.{at_drop_more, drop-drop}
use Rattle.nla_frame.specs.Attribute.{
  Attribute,
  aligned,
  buffer_len_of,
  canonical_string,
  list_string,
}
use borrow.Rule.Slice.PartMut.{put_mid}
use Rattle.nla_frame.proofs.Emitting.{
  Written,
  length-canonical_string,
  length-list_string-cons,
  write_text,
}
use Rattle.linkinfo_shapes.specs.declared.datum.Datum.TheVariants as datum
use Rattle.linkinfo_build.proofs.Payloads.{few}
use Rattle.linkinfo_build.specs.Build.{
  after,
  attribute_of,
  attributes_up_to,
  attributes_with,
  bytes_in,
  fitted,
  inside_count,
  list_up_to,
  map_ok,
  measured,
  measured_list,
  payload_with,
  refused,
  with_first,
}
use Rattle.linkinfo_build.specs.declared.rows.Rows.{Rows}
use Rattle.linkinfo_build.specs.declared.value.BuildCause.TheVariants as cause
use Rattle.linkinfo_build.specs.declared.value.BuildDatum.TheVariants as given
use Rattle.linkinfo_build.specs.declared.value.BuildError.{BuildError}
use Rattle.linkinfo_build.specs.declared.value.BuildValue.{BuildValue}

-- what reading past the end of an array gives
abbrev pub no_value : BuildValue
no_value = record { kind = 0; value = given.Datum (datum.Number 0) }

-- so many bytes more
abbrev pub adding : ℕ → Result ℕ BuildError → Result ℕ BuildError
adding n r = map_ok (λ (k : ℕ). n + k) r

moved_twice : {X : Type 0} (a b : ℕ) (r : Result X BuildError) →
    after a (after b r) ≡ after (a + b) r
moved_twice a b (Ok x) = refl
moved_twice a b (Err e) =
    let same : a + (b + e.index) ≡ (a + b) + e.index = omega arith in
    ap (λ (n : ℕ). Err (record { index = n; cause = e.cause })) same

module _ (inside : Rows → List BuildValue → Result (List ℕ) BuildError) (f : Rows) where
  abbrev listed : ℕ → List BuildValue → Result (List Attribute) BuildError
  listed used values = attributes_with inside f used 0 values

  -- values inside a list before are passed over
  skip : (n used : ℕ) (values : List BuildValue) → n ≤ length values →
      attributes_with inside f used n values ≡ after n (listed used (drop n values))
  skip zero used values h = none (listed used values)
    where
      none : (r : Result (List Attribute) BuildError) → r ≡ after 0 r
      none (Ok x) = refl
      none (Err e) =
          let same : e.index ≡ 0 + e.index = omega arith in
          ap (λ (n : ℕ). Err (record { index = n; cause = e.cause })) same
  skip (suc n) used [] h = absurd (omega (arith, h))
  skip (suc n) used (v ∷ more) h =
      ap (λ (r : Result (List Attribute) BuildError). after 1 r)
      (skip n used more (omega (arith, h)))
      ∙ moved_twice 1 n (listed used (drop n more))
      ∙ ap (λ (k : ℕ). after k (listed used (drop n more))) one
    where
      one : 1 + n ≡ suc n
      one = omega arith

  module _ (used : ℕ) (v : BuildValue) (more : List BuildValue) where
    abbrev payload : Result (List ℕ) BuildError
    payload = payload_with inside f v more

    abbrev tail : ℕ → Result (List Attribute) BuildError
    tail size = attributes_with inside f size (inside_count v.value) more

    abbrev good : List ℕ → Result (List ℕ) BuildError
    good p = Ok p

    -- a value that is refused
    pub at_fault : (e : BuildError) → payload ≡ Err e → listed used (v ∷ more) ≡ Err e
    at_fault e h =
        ap (λ (r : Result (List ℕ) BuildError). fitted used (map_ok (attribute_of f v) r) tail) h

    module _ (p : List ℕ) (is : payload ≡ good p) where
      abbrev one : Attribute
      one = attribute_of f v p

      step : listed used (v ∷ more) ≡ fitted used (Ok one) tail
      step =
          ap (λ (r : Result (List ℕ) BuildError). fitted used (map_ok (attribute_of f v) r) tail)
          is

      -- a value that makes the list too long
      pub beyond : 65531 < used + buffer_len_of one →
          listed used (v ∷ more) ≡ refused cause.TooLong
      beyond long = step ∙ cond-false (nat_le (used + buffer_len_of one) 65531) _ _ (no long)
        where
          no : 65531 < used + buffer_len_of one → nat_le (used + buffer_len_of one) 65531 ≡ false
          no l = go (nat_le (used + buffer_len_of one) 65531) refl
            where
              go : (b : Bool) → nat_le (used + buffer_len_of one) 65531 ≡ b → b ≡ false
              go true e = absurd (omega (arith, l, leb-true (used + buffer_len_of one) 65531 e))
              go false e = refl

      -- a value, and then those after it
      pub goes_on : used + buffer_len_of one ≤ 65531 → inside_count v.value ≤ length more →
          listed used (v ∷ more)
          ≡ after (1 + inside_count v.value)
          (with_first one
          (listed (used + buffer_len_of one) (drop (inside_count v.value) more)))
      goes_on fits few =
          step
          ∙ cond-true (nat_le (used + buffer_len_of one) 65531) _ _
          (le-leb (used + buffer_len_of one) 65531 fits)
          ∙ ap (λ (r : Result (List Attribute) BuildError). with_first one (after 1 r))
          (skip (inside_count v.value) (used + buffer_len_of one) more few)
          ∙ out (inside_count v.value)
          (listed (used + buffer_len_of one) (drop (inside_count v.value) more))
        where
          out : (n : ℕ) (r : Result (List Attribute) BuildError) →
              with_first one (after 1 (after n r)) ≡ after (1 + n) (with_first one r)
          out n (Ok list) = refl
          out n (Err e) =
              let same : 1 + (n + e.index) ≡ (1 + n) + e.index = omega arith in
              ap (λ (k : ℕ). Err (record { index = k; cause = e.cause })) same

-- ---- measured

-- the length of a list with one attribute more
pub one_measured : (n used : ℕ) (a : Attribute) (r : Result (List Attribute) BuildError) →
    adding used (measured_list (after n (with_first a r)))
    ≡ after n (adding (used + buffer_len_of a) (measured_list r))
one_measured n used a (Ok list) =
    let same : used + length (list_string (a ∷ list))
    ≡ (used + buffer_len_of a) + length (list_string list) =
    omega (arith, length-list_string-cons a list) in
    ap (λ (k : ℕ). Ok k) same
one_measured n used a (Err e) = refl

pub adding_after : (n k : ℕ) (r : Result ℕ BuildError) → after n (after k r) ≡ after (n + k) r
adding_after n k r = moved_twice n k r

-- ---- what was measured

-- a payload with a length
pub record HasLength (r : Result (List ℕ) BuildError) (n : ℕ) : Type 0 where
  pub bytes : List ℕ
  pub is : r ≡ Ok bytes
  pub long : length bytes ≡ n

pub has_length : (r : Result (List ℕ) BuildError) (n : ℕ) → measured r ≡ Ok n → HasLength r n
has_length (Ok p) n h = record { bytes = p; is = refl; long = same (length p) n h }
  where
    same : (a b : ℕ) → (let x : Result ℕ BuildError = Ok a in x) ≡ Ok b → a ≡ b
    same a b e = cc
has_length (Err e) n h = absurd cc

pub has_error : (r : Result (List ℕ) BuildError) (e : BuildError) → measured r ≡ Err e → r ≡ Err e
has_error (Ok p) e h = absurd cc
has_error (Err d) e h = ap (λ (x : BuildError). Err x) (same d e h)
  where
    same : (a b : BuildError) → (let x : Result ℕ BuildError = Err a in x) ≡ Err b → a ≡ b
    same a b e = cc

-- ---- one step of the loop that measures

module _ (inside : Rows → List BuildValue → Result (List ℕ) BuildError) (f : Rows)
    (values : List BuildValue) (at total : ℕ) (d : BuildValue) (more : at < length values)
    (later : List BuildValue) (behind : later ≡ drop (at + 1) values) where
  abbrev here : BuildValue
  here = get_or values at d

  -- the answer for these values, after n others of so many bytes
  abbrev measured_after : ℕ → ℕ → List BuildValue → Result ℕ BuildError
  measured_after n size vs =
      after n (adding size (measured_list (attributes_with inside f size 0 vs)))

  abbrev left : ℕ → ℕ → Result ℕ BuildError
  left n size = measured_after n size (drop n values)

  first : left at total ≡ measured_after at total (here ∷ later)
  first =
      at_drop_more (λ (vs : List BuildValue). measured_after at total vs) values at d more
      ∙ ap (λ (vs : List BuildValue). measured_after at total (here ∷ vs)) (sym behind)

  pub measured_fault : (e moved : BuildError) →
      measured (payload_with inside f here later) ≡ Err e →
      moved ≡ record { index = at + e.index; cause = e.cause } → left at total ≡ Err moved
  measured_fault e moved h is =
      first
      ∙ ap (λ (r : Result (List Attribute) BuildError). after at (adding total (measured_list r)))
      (at_fault inside f total here later e (has_error _ e h))
      ∙ ap (λ (x : BuildError). Err x) (sym is)

  pub measured_beyond : (len size : ℕ) → measured (payload_with inside f here later) ≡ Ok len →
      size ≡ 4 + aligned len → 65531 < total + size →
      left at total ≡ Err (record { index = at + 0; cause = cause.TooLong })
  measured_beyond len size h same long =
      let p = has_length (payload_with inside f here later) len h in
      first
      ∙ ap (λ (r : Result (List Attribute) BuildError). after at (adding total (measured_list r)))
      (beyond inside f total here later p.bytes p.is (omega (arith, long, same, p.long)))

  pub measured_step : (len size n : ℕ) → measured (payload_with inside f here later) ≡ Ok len →
      size ≡ 4 + aligned len → total + size ≤ 65531 → n ≡ inside_count here.value →
      inside_count here.value ≤ length later →
      left at total ≡ left (at + (1 + n)) (total + size)
  measured_step len size n h same fits count few =
      let p = has_length (payload_with inside f here later) len h in
      let one : Attribute = attribute_of f here p.bytes in
      let long : buffer_len_of one ≡ size = omega (arith, same, p.long) in
      let rest : ℕ → ℕ → Result (List Attribute) BuildError =
      λ k s. attributes_with inside f s 0 (drop k later) in
      first
      ∙ ap (λ (r : Result (List Attribute) BuildError). after at (adding total (measured_list r)))
      (goes_on inside f total here later p.bytes p.is (omega (arith, long, fits)) few)
      ∙ ap (λ (r : Result ℕ BuildError). after at r)
      (one_measured (1 + inside_count here.value) total one
      (rest (inside_count here.value) (total + buffer_len_of one)))
      ∙ adding_after at (1 + inside_count here.value) _
      ∙ ap (λ (s : ℕ). after (at + (1 + inside_count here.value))
      (adding (total + s) (measured_list (rest (inside_count here.value) (total + s))))) long
      ∙ ap (λ (k : ℕ). after (at + (1 + k))
      (adding (total + size) (measured_list (rest k (total + size))))) (sym count)
      ∙ ap (λ (vs : List BuildValue). after (at + (1 + n))
      (adding (total + size) (measured_list (attributes_with inside f (total + size) 0 vs))))
      (ap (λ (vs : List BuildValue). drop n vs) behind
      ∙ drop-drop n (at + 1) values
      ∙ ap (λ (k : ℕ). drop k values) places)
    where
      places : at + 1 + n ≡ at + (1 + n)
      places = omega arith

-- ---- a list that has an encoding

-- its first value
pub record Goes (inside : Rows → List BuildValue → Result (List ℕ) BuildError) (f : Rows)
    (used : ℕ) (v : BuildValue) (more : List BuildValue) : Type 0 where
  pub payload : IsOk (payload_with inside f v more)
  pub fits : used + buffer_len_of (attribute_of f v (bytes_in (payload_with inside f v more)))
      ≤ 65531
  pub list : attributes_with inside f used 0 (v ∷ more)
      ≡ after (1 + inside_count v.value)
      (with_first (attribute_of f v (bytes_in (payload_with inside f v more)))
      (attributes_with inside f
      (used + buffer_len_of (attribute_of f v (bytes_in (payload_with inside f v more)))) 0
      (drop (inside_count v.value) more)))

pub goes : (inside : Rows → List BuildValue → Result (List ℕ) BuildError) (f : Rows)
    (used : ℕ) (v : BuildValue) (more : List BuildValue) →
    IsOk (attributes_with inside f used 0 (v ∷ more)) → Goes inside f used v more
goes inside f used v more h = by (payload_with inside f v more) refl
  where
    by : (r : Result (List ℕ) BuildError) → payload_with inside f v more ≡ r →
        Goes inside f used v more
    by (Err e) is = absurd (none (at_fault inside f used v more e is) h)
      where
        none : (attributes_with inside f used 0 (v ∷ more)) ≡ Err e →
            IsOk (attributes_with inside f used 0 (v ∷ more)) → ⊥
        none e k = absurd cc
    by (Ok p) is = fitting (nat_le (used + buffer_len_of (attribute_of f v p)) 65531) refl
      where
        ok : IsOk (payload_with inside f v more)
        ok = ap is_ok is

        same : bytes_in (payload_with inside f v more) ≡ p
        same = ap bytes_in is

        fitting : (b : Bool) → nat_le (used + buffer_len_of (attribute_of f v p)) 65531 ≡ b →
            Goes inside f used v more
        fitting true e =
            let low = leb-true (used + buffer_len_of (attribute_of f v p)) 65531 e in
            let list = goes_on inside f used v more p is low (few inside f v more ok) in
            record {
              payload = ok;
              fits =
                  subst (λ (q : List ℕ). used + buffer_len_of (attribute_of f v q) ≤ 65531)
                  (sym same) low;
              list =
                  subst (λ (q : List ℕ). attributes_with inside f used 0 (v ∷ more)
                  ≡ after (1 + inside_count v.value)
                  (with_first (attribute_of f v q)
                  (attributes_with inside f (used + buffer_len_of (attribute_of f v q)) 0
                  (drop (inside_count v.value) more)))) (sym same) list;
            }
        fitting false e =
            absurd (none (beyond inside f used v more p is
            (leb-false (used + buffer_len_of (attribute_of f v p)) 65531 e)) h)
          where
            none : (attributes_with inside f used 0 (v ∷ more)) ≡ refused cause.TooLong →
                IsOk (attributes_with inside f used 0 (v ∷ more)) → ⊥
            none e k = absurd cc

module _ (inside : Rows → List BuildValue → Result (List ℕ) BuildError) (f : Rows)
    (values : List BuildValue) (at used : ℕ) (d : BuildValue) (more : at < length values)
    (later : List BuildValue) (behind : later ≡ drop (at + 1) values)
    (fits : IsOk (attributes_with inside f used 0 (drop at values))) where
  abbrev value : BuildValue
  value = get_or values at d

  abbrev written : Attribute
  written = attribute_of f value (bytes_in (payload_with inside f value later))

  abbrev unwritten : ℕ → ℕ → Result (List Attribute) BuildError
  unwritten n size = attributes_with inside f size 0 (drop n values)

  begins : unwritten at used ≡ attributes_with inside f used 0 (value ∷ later)
  begins =
      at_drop_more (λ (vs : List BuildValue). attributes_with inside f used 0 vs) values at d more
      ∙ ap (λ (vs : List BuildValue). attributes_with inside f used 0 (value ∷ vs)) (sym behind)

  pub goes_at : Goes inside f used value later
  goes_at =
      goes inside f used value later
      (subst (λ (r : Result (List Attribute) BuildError). IsOk r) begins fits)

  pub few_at : inside_count value.value ≤ length later
  few_at = few inside f value later goes_at.payload

  -- the list is the attribute, and then what comes after it
  list_at : (size n : ℕ) → size ≡ buffer_len_of written → n ≡ inside_count value.value →
      unwritten at used
      ≡ after (1 + n) (with_first written (unwritten (at + (1 + n)) (used + size)))
  list_at size n long count =
      begins
      ∙ goes_at.list
      ∙ ap (λ (s : ℕ). after (1 + inside_count value.value)
      (with_first written
      (attributes_with inside f (used + s) 0 (drop (inside_count value.value) later)))) (sym long)
      ∙ ap (λ (k : ℕ). after (1 + k)
      (with_first written (attributes_with inside f (used + size) 0 (drop k later)))) (sym count)
      ∙ ap (λ (vs : List BuildValue). after (1 + n)
      (with_first written (attributes_with inside f (used + size) 0 vs)))
      (ap (λ (vs : List BuildValue). drop n vs) behind
      ∙ drop-drop n (at + 1) values
      ∙ ap (λ (k : ℕ). drop k values) places)
    where
      places : at + 1 + n ≡ at + (1 + n)
      places = omega arith

  ok_behind : (n : ℕ) (r : Result (List Attribute) BuildError) →
      IsOk (after n (with_first written r)) → IsOk r
  ok_behind n (Ok list) h = refl
  ok_behind n (Err e) h = absurd cc

  string_behind : (n : ℕ) (r : Result (List Attribute) BuildError) → IsOk r →
      bytes_in (map_ok list_string (after n (with_first written r)))
      ≡ canonical_string written ++ bytes_in (map_ok list_string r)
  string_behind n (Ok list) h = refl
  string_behind n (Err e) h = absurd cc

  pub ok_at : (size n : ℕ) → size ≡ buffer_len_of written → n ≡ inside_count value.value →
      IsOk (unwritten (at + (1 + n)) (used + size))
  ok_at size n long count =
      ok_behind (1 + n) (unwritten (at + (1 + n)) (used + size))
      (subst (λ (r : Result (List Attribute) BuildError). IsOk r) (list_at size n long count) fits)

  pub string_at : (size n : ℕ) → size ≡ buffer_len_of written → n ≡ inside_count value.value →
      bytes_in (map_ok list_string (unwritten at used))
      ≡ canonical_string written
      ++ bytes_in (map_ok list_string (unwritten (at + (1 + n)) (used + size)))
  string_at size n long count =
      ap (λ (r : Result (List Attribute) BuildError). bytes_in (map_ok list_string r))
      (list_at size n long count)
      ∙ string_behind (1 + n) (unwritten (at + (1 + n)) (used + size)) (ok_at size n long count)

  -- the attribute written into a buffer that has what comes before it
  pub write_at : (size n k : ℕ) (whole old buffer chunk : List ℕ) →
      size ≡ buffer_len_of written → n ≡ inside_count value.value →
      Written whole (bytes_in (map_ok list_string (unwritten at used))) used old buffer →
      length whole ≤ length buffer → k ≡ length buffer - used →
      chunk ≡ canonical_string written ++ drop (buffer_len_of written) (take k (drop used buffer)) →
      Written whole (bytes_in (map_ok list_string (unwritten (at + (1 + n)) (used + size))))
      (used + size) old (put_mid used k buffer chunk)
  write_at size n k whole old buffer chunk long count before room wide new =
      write_text whole (bytes_in (map_ok list_string (unwritten at used)))
      (canonical_string written)
      (bytes_in (map_ok list_string (unwritten (at + (1 + n)) (used + size)))) used old buffer
      before (string_at size n long count) room size (long ∙ sym (length-canonical_string written))
      k wide chunk
      (new
      ∙ ap (λ (j : ℕ). canonical_string written ++ drop j (take k (drop used buffer)))
      (sym long))

-- ---- a list in a list

module _ (f : Rows) (vs : List BuildValue) where
  deeper : (k : ℕ) → 0 < k →
      list_up_to k f vs ≡ after 1 (map_ok list_string (attributes_up_to (k - 1) f vs))
  unfolding list_up_to
  deeper zero some = absurd (omega (arith, some))
  deeper (suc k) some =
      ap (λ (j : ℕ). after 1 (map_ok list_string (attributes_up_to j f vs))) back
    where
      back : k ≡ suc k - 1
      back = omega arith

  ok_inside : (r : Result (List Attribute) BuildError) →
      IsOk (after 1 (map_ok list_string r)) → IsOk r
  ok_inside (Ok list) h = refl
  ok_inside (Err e) h = absurd cc

  bytes_inside : (r : Result (List Attribute) BuildError) →
      bytes_in (after 1 (map_ok list_string r)) ≡ bytes_in (map_ok list_string r)
  bytes_inside (Ok list) = refl
  bytes_inside (Err e) = refl

  pub inside_ok : (k : ℕ) → 0 < k → IsOk (list_up_to k f vs) → IsOk (attributes_up_to (k - 1) f vs)
  inside_ok k some h =
      ok_inside (attributes_up_to (k - 1) f vs)
      (subst (λ (r : Result (List ℕ) BuildError). IsOk r) (deeper k some) h)

  pub inside_bytes : (k : ℕ) → 0 < k →
      bytes_in (list_up_to k f vs)
      ≡ bytes_in (map_ok list_string (attributes_up_to (k - 1) f vs))
  inside_bytes k some = ap bytes_in (deeper k some) ∙ bytes_inside (attributes_up_to (k - 1) f vs)

pub none_at_zero : (f : Rows) (vs : List BuildValue) (k : ℕ) → k ≡ 0 →
    IsOk (list_up_to k f vs) → ⊥
unfolding list_up_to
none_at_zero f vs zero e h = absurd cc
none_at_zero f vs (suc k) e h = absurd (omega (arith, e))
