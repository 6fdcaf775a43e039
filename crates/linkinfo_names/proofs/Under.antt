-- What is at an offset in a list of attributes, under a state that those before it leave.
use Rattle.std.specs.Prelude.{
  ◌≡◌,
  ◌⊎◌,
  ◌≤◌,
  ◌<◌,
  ℕ,
  ◌+◌,
  ◌-◌,
  ◌==◌,
  nat_le,
  nat_lt,
  Bool,
  true,
  false,
  if◌then◌else◌,
  List,
  [],
  ◌∷◌,
  ◌++◌,
  length,
  map,
  Option,
  Some,
  None,
  Result,
  Ok,
  Err,
  refl,
}
use Rattle.std.proofs.Common.{arith, ap, inl, inr, sym, ◌∙◌}
use Rattle.std.proofs.lemmas.Bool.{
  cond-false,
  cond-true,
  eqb-true,
  le-leb,
  le-ltb,
  leb-false,
  leb-true,
  lt-ltb,
  ltb-true,
}
use Rattle.std.proofs.lemmas.List.{length-drop}
use Rattle.nla_frame.specs.Attribute.{Attribute, aligned}
use Rattle.nla_frame.specs.NlaItems.{Breaks, Ended, GoesOn, nla_items}
use Rattle.nla_frame.specs.declared.error.DecodeError.{DecodeError}
use Rattle.nla_frame.proofs.Stepping.{nla_items_nil}
use Rattle.linkinfo_names.specs.Standing.{HasAmong, size_of, stands_under}

abbrev good : Attribute → Result Attribute ℕ
good a = Ok a

not_zero_is : (n : ℕ) → 0 < n → (n == 0) ≡ false
not_zero_is n some = go (n == 0) refl
  where
    go : (b : Bool) → (n == 0) ≡ b → b ≡ false
    go true e = absurd (omega (arith, some, eqb-true n 0 e))
    go false e = refl

-- ---- at an attribute of the list

module _ {T R : Type 0} (own : T → Attribute → R) (inside : T → Attribute → ℕ → Option R)
    (state_after : T → Attribute → T) (t : T) where
  pub ended : (s : List ℕ) (n old new : ℕ) → Ended s old new →
      stands_under own inside state_after t (nla_items s) n ≡ None
  ended s n old new end =
      ap (λ (ps : List (Result Attribute ℕ)). stands_under own inside state_after t ps n)
      end.nla_items_are

  pub broken : (s : List ℕ) (n old new : ℕ) (e : DecodeError) → Breaks s old new e →
      stands_under own inside state_after t (nla_items s) n ≡ None
  broken s n old new e breaks =
      ap (λ (ps : List (Result Attribute ℕ)). stands_under own inside state_after t ps n)
      breaks.nla_items_are

module _ {T R : Type 0} (own : T → Attribute → R) (inside : T → Attribute → ℕ → Option R)
    (state_after : T → Attribute → T) (t : T) (a : Attribute) (rest after : List ℕ) (old new : ℕ)
    (step : GoesOn rest old new a after) where
  abbrev found : ℕ → Option R
  found n = stands_under own inside state_after t (nla_items rest) n

  abbrev behind : List ℕ → ℕ → Option R
  behind s n = stands_under own inside state_after (state_after t a) (nla_items s) n

  abbrev size : ℕ
  size = 4 + length a.value

  among : (n : ℕ) →
      found n
      ≡ (if n == 0 then Some (own t a)
      else if nat_lt n size then inside t a n
      else if nat_le (aligned size) n
      then behind after (n - aligned size)
      else None)
  among n =
      ap (λ (ps : List (Result Attribute ℕ)). stands_under own inside state_after t ps n)
      step.nla_items_are

  pub at_header : found 0 ≡ Some (own t a)
  at_header = among 0

  pub within : (n : ℕ) → 0 < n → n < size → found n ≡ inside t a n
  within n some small =
      among n
      ∙ cond-false (n == 0) _ _ (not_zero_is n some)
      ∙ cond-true (nat_lt n size) _ _ (lt-ltb n size small)

  beyond : (n : ℕ) → 0 < n → size ≤ n →
      found n
      ≡ (if nat_le (aligned size) n
      then behind after (n - aligned size)
      else None)
  beyond n some large =
      among n
      ∙ cond-false (n == 0) _ _ (not_zero_is n some)
      ∙ cond-false (nat_lt n size) _ _ (le-ltb n size large)

  after_long : length after ≡ length rest - aligned size
  after_long = ap length step.rest_is ∙ length-drop (aligned size) rest

  pub in_padding : (n : ℕ) → 0 < n → size ≤ n → n < length rest - length after → found n ≡ None
  in_padding n some large short =
      beyond n some large
      ∙ cond-false (nat_le (aligned size) n) _ _ (shorter (omega (arith, after_long, short)))
    where
      shorter : n < aligned size → nat_le (aligned size) n ≡ false
      shorter h = go (nat_le (aligned size) n) refl
        where
          go : (b : Bool) → nat_le (aligned size) n ≡ b → b ≡ false
          go true e = absurd (omega (arith, h, leb-true (aligned size) n e))
          go false e = refl

  no_more : (n : ℕ) → length after ≡ 0 → behind after n ≡ None
  no_more n none = go after none
    where
      go : (s : List ℕ) → length s ≡ 0 → behind s n ≡ None
      go [] h =
          ap (λ (ps : List (Result Attribute ℕ)).
          stands_under own inside state_after (state_after t a) ps n) nla_items_nil
      go (b ∷ s) h = absurd (omega (arith, h))

  either : (b : Bool) (n : ℕ) → length after ≡ 0 →
      (if b then behind after (n - aligned size) else None) ≡ None
  either true n none = no_more _ none
  either false n none = refl

  pub next : (n : ℕ) → 0 < n → size ≤ n → length rest - length after ≤ n →
      found n ≡ behind after (n - (length rest - length after))
  next n some large far = beyond n some large ∙ go (nat_le (aligned size) (length rest)) refl
    where
      go : (b : Bool) → nat_le (aligned size) (length rest) ≡ b →
          (if nat_le (aligned size) n
          then behind after (n - aligned size)
          else None)
          ≡ behind after (n - (length rest - length after))
      go true e =
          let whole = leb-true (aligned size) (length rest) e in
          cond-true (nat_le (aligned size) n) _ _
          (le-leb (aligned size) n (omega (arith, after_long, whole, far)))
          ∙ ap (λ (k : ℕ). behind after (n - k))
          (omega (arith, after_long, whole))
      go false e =
          let none : length after ≡ 0 =
          omega (arith, after_long, leb-false (aligned size) (length rest) e) in
          either (nat_le (aligned size) n) n none ∙ sym (no_more _ none)

-- ---- which attributes these are

abbrev result : {R : Type 0} → R → Option R
result found = Some found

some_same : {R : Type 0} (x y : R) → result x ≡ result y → x ≡ y
some_same x y h = cc

pub none_some : {R : Type 0} (x : R) → None ≡ result x → ⊥
none_some x h = absurd cc

-- the state after attributes
abbrev pub state_at : {T : Type 0} → (T → Attribute → T) → T → List Attribute → T
state_at after t [] = t
state_at after t (a ∷ front) = state_at after (after t a) front

module _ {T R : Type 0} (own : T → Attribute → R) (inside : T → Attribute → ℕ → Option R)
    (after : T → Attribute → T) where
  abbrev at : T → List (Result Attribute ℕ) → ℕ → Option R
  at t ps n = stands_under own inside after t ps n

  skip : (t : T) (a : Attribute) (ps : List (Result Attribute ℕ)) (n : ℕ) →
      at t (Ok a ∷ ps) (aligned (4 + length a.value) + n) ≡ at (after t a) ps n
  skip t a ps n =
      let size = 4 + length a.value in
      let k = aligned size + n in
      cond-false (k == 0) _ _ (not_zero_is k (omega arith))
      ∙ cond-false (nat_lt k size) _ _ (le-ltb k size (omega arith))
      ∙ cond-true (nat_le (aligned size) k) _ _ (le-leb (aligned size) k (omega arith))
      ∙ ap (λ (j : ℕ). at (after t a) ps j) (back (aligned size) n)
    where
      back : (x y : ℕ) → (x + y) - x ≡ y
      back x y = omega arith

  after_front : (t : T) (front : List Attribute) (ps : List (Result Attribute ℕ)) (n : ℕ) →
      at t (map (λ b. Ok b) front ++ ps) (size_of front + n) ≡ at (state_at after t front) ps n
  after_front t [] ps n = ap (λ (k : ℕ). at t ps k) (plain n)
    where
      plain : (x : ℕ) → 0 + x ≡ x
      plain x = omega arith
  after_front t (a ∷ front) ps n =
      let rest = map (λ (b : Attribute). good b) front ++ ps in
      ap (λ (k : ℕ). at t (good a ∷ rest) k)
      (apart (aligned (4 + length a.value)) (size_of front) n)
      ∙ skip t a rest (size_of front + n)
      ∙ after_front (after t a) front ps n
    where
      apart : (x y z : ℕ) → (x + y) + z ≡ x + (y + z)
      apart x y z = omega arith

  pub own_at : (t : T) (ps : List (Result Attribute ℕ)) (n : ℕ) (a : Attribute)
      (has : HasAmong ps n a) → at t ps n ≡ Some (own (state_at after t has.front) a)
  own_at t ps n a has =
      ap (λ (k : ℕ). at t ps k) (has.place ∙ plain (size_of has.front))
      ∙ ap (λ (items : List (Result Attribute ℕ)). at t items (size_of has.front + 0)) has.items_are
      ∙ after_front t has.front (good a ∷ has.more) 0
    where
      plain : (x : ℕ) → x ≡ x + 0
      plain x = omega arith

  pub inside_at : (t : T) (ps : List (Result Attribute ℕ)) (n m : ℕ) (a : Attribute)
      (has : HasAmong ps n a) → 0 < m → m < 4 + length a.value →
      at t ps (n + m) ≡ inside (state_at after t has.front) a m
  inside_at t ps n m a has some small =
      ap (λ (k : ℕ). at t ps (k + m)) has.place
      ∙ ap (λ (items : List (Result Attribute ℕ)). at t items (size_of has.front + m)) has.items_are
      ∙ after_front t has.front (good a ∷ has.more) m
      ∙ cond-false (m == 0) _ _ (not_zero_is m some)
      ∙ cond-true (nat_lt m (4 + length a.value)) _ _ (lt-ltb m (4 + length a.value) small)

  -- one of them, ..
  pub record Own (t : T) (ps : List (Result Attribute ℕ)) (n : ℕ) (found : R) : Type 0 where
    pub attribute : Attribute
    pub has : HasAmong ps n attribute
    pub is : own (state_at after t has.front) attribute ≡ found

  -- .. or one of them, and an offset inside it
  pub record Within (t : T) (ps : List (Result Attribute ℕ)) (n : ℕ) (found : R) : Type 0 where
    pub outer : Attribute
    pub start : ℕ
    pub from : ℕ
    pub has : HasAmong ps start outer
    pub offset : n ≡ start + from
    pub small : from < 4 + length outer.value
    pub is : inside (state_at after t has.front) outer from ≡ Some found

  later : (a b : Attribute) (ps : List (Result Attribute ℕ)) (n k : ℕ) → HasAmong ps k b →
      n ≡ aligned (4 + length a.value) + k → HasAmong (Ok a ∷ ps) n b
  later a b ps n k has e = record {
    front = a ∷ has.front;
    more = has.more;
    items_are = ap (λ (qs : List (Result Attribute ℕ)). good a ∷ qs) has.items_are;
    place = e ∙ ap (λ (j : ℕ). aligned (4 + length a.value) + j) has.place;
  }

  pub only_at : (t : T) (ps : List (Result Attribute ℕ)) (n : ℕ) (found : R) →
      at t ps n ≡ Some found → Own t ps n found ⊎ Within t ps n found
  unfolding later
  only_at t [] n found h = absurd (none_some found h)
  only_at t ((Err seen) ∷ more) n found h = absurd (none_some found h)
  only_at t ((Ok a) ∷ more) n found h =
      go (n == 0) (nat_lt n size) (nat_le (aligned size) n) refl refl refl h
      (λ g. only_at (after t a) more (n - aligned size) found g)
    where
      size : ℕ
      size = 4 + length a.value

      Found : T → List (Result Attribute ℕ) → ℕ → Type 0
      Found u ps n = Own u ps n found ⊎ Within u ps n found

      start_of : (x y : ℕ) → x ≡ 0 + x
      start_of x y = omega arith

      moved : nat_le (aligned size) n ≡ true → Found (after t a) more (n - aligned size) →
          Found t (Ok a ∷ more) n
      moved e (inl one) =
          let far = leb-true (aligned size) n e in
          inl (record {
            attribute = one.attribute;
            has =
                later a one.attribute more n (n - aligned size) one.has (omega (arith, far));
            is = one.is;
          })
      moved e (inr w) =
          let far = leb-true (aligned size) n e in
          inr (record {
            outer = w.outer;
            start = aligned size + w.start;
            from = w.from;
            has = later a w.outer more (aligned size + w.start) w.start w.has refl;
            offset = omega (arith, far, w.offset);
            small = w.small;
            is = w.is;
          })

      go : (b c d : Bool) → (n == 0) ≡ b → nat_lt n size ≡ c → nat_le (aligned size) n ≡ d →
          (if b then Some (own t a)
          else if c then inside t a n
          else if d then at (after t a) more (n - aligned size)
          else None)
          ≡ Some found →
          (at (after t a) more (n - aligned size) ≡ Some found →
          Found (after t a) more (n - aligned size)) →
          Found t (Ok a ∷ more) n
      go true c d e f g h deep =
          inl (record {
            attribute = a;
            has = record {
              front = [];
              more = more;
              items_are = refl;
              place = eqb-true n 0 e;
            };
            is = some_same (own t a) found h;
          })
      go false true d e f g h deep =
          inr (record {
            outer = a;
            start = 0;
            from = n;
            has = record { front = []; more = more; items_are = refl; place = refl };
            offset = start_of n n;
            small = ltb-true n size f;
            is = h;
          })
      go false false true e f g h deep = moved g (deep h)
      go false false false e f g h deep = absurd (none_some found h)
