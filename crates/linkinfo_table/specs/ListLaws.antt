-- The laws of lists, from those of one attribute: what is read is well formed, canonical byte
-- strings read back, and equivalent lists have equal meanings.
use Rattle.std.specs.Prelude.{
  ◌≡◌,
  ◌≢◌,
  ◌↔◌,
  ℕ,
  ◌*◌,
  ◌%◌,
  ◌≤◌,
  Bool,
  true,
  List,
  [],
  ◌∷◌,
  ◌++◌,
  length,
  map,
  IsOk,
  IsTrue,
  Result,
  Ok,
  Err,
  refl,
}
use Rattle.std.proofs.Common.{sym, ap, subst, ◌∙◌, arith}
use Rattle.std.specs.List.{AllByRecursion}
use Rattle.std.proofs.lemmas.Bool.{and_parts, and_from}
use Rattle.std.proofs.lemmas.List.{append-nil}
use Rattle.nla_frame.specs.Attribute.{
  Attribute,
  IsAttribute,
  IsBytes,
  Fits,
  canonical_string,
  list_string,
}
use Rattle.nla_frame.specs.Error.{header_error, memory_error}
use Rattle.nla_frame.specs.Framing.{Splits}
use Rattle.nla_frame.specs.NlaItems.{nla_items, nla_items_of, split}
use Rattle.nla_frame.specs.declared.error.DecodeError.{DecodeError}
use Rattle.nla_frame.specs.declared.error.Cause.TheVariants as cause
use Rattle.nla_frame.proofs.Framing.{split_is, splits_attributes, splits_append}
use Rattle.nla_frame.proofs.Stepping.{
  nla_items_split,
  nla_items_only,
  nla_items-list_string,
  nla_items_nil,
  seen_room,
  by_nla_items,
}
use Rattle.linkinfo_table.specs.Lists.{
  values,
  alike_pairs,
  AllWell,
  ◌>>=◌,
  if_read,
  values_under,
  headers_under,
  alike_under,
  well_under,
  first_meaning,
}

abbrev good : {A : Type 0} → A → Result A DecodeError
good x = Ok x

abbrev bad : {A : Type 0} → DecodeError → Result A DecodeError
bad e = Err e

heads : {A : Type 0} (x y : A) (xs ys : List A) → (x ∷ xs) ≡ (y ∷ ys) → (x ≡ y) × (xs ≡ ys)
heads x y xs ys e = (cc, cc)

pub header_is_no_memory : header_error ≢ memory_error
header_is_no_memory e =
    let causes : cause.Header ≡ cause.Memory = ap (λ (d : DecodeError). d.cause) e in absurd cc

module _ {T X : Type 0} (m : T → Attribute → Result X DecodeError) (after : T → Attribute → T) where
  -- the value of an accepted list with an attribute before the rest
  pub record Begins (t : T) (a : Attribute) (more : List (Result Attribute ℕ)) (zs : List X) : Type
      0 where
    pub x : X
    pub xs : List X
    pub first : m t a ≡ Ok x
    pub others : values_under m after (after t a) more ≡ Ok xs
    pub whole : zs ≡ x ∷ xs

  pub reads : (t : T) (a : Attribute) (more : List (Result Attribute ℕ)) (zs : List X) →
      values_under m after t (Ok a ∷ more) ≡ Ok zs → Begins t a more zs
  reads t a more zs e = go (m t a) (values_under m after (after t a) more) refl refl e
    where
      same : (x : X) (xs : List X) → good (x ∷ xs) ≡ good zs → zs ≡ x ∷ xs
      same x xs h = cc

      go : (r : Result X DecodeError) (s : Result (List X) DecodeError) → m t a ≡ r →
          values_under m after (after t a) more ≡ s →
          (r >>= λ x. s >>= λ xs. Ok (x ∷ xs)) ≡ Ok zs → Begins t a more zs
      go (Ok x) (Ok xs) f g h = record {
        x = x;
        xs = xs;
        first = f;
        others = g;
        whole = same x xs h;
      }
      go (Ok x) (Err d) f g h = absurd cc
      go (Err d) s f g h = absurd cc

  pub together : (t : T) (a : Attribute) (more : List (Result Attribute ℕ)) (x : X) (xs : List X) →
      m t a ≡ Ok x →
      values_under m after (after t a) more ≡ Ok xs →
      values_under m after t (Ok a ∷ more) ≡ Ok (x ∷ xs)
  together t a more x xs e h =
      ap (λ (r : Result X DecodeError). r
      >>= λ x. values_under m after (after t a) more >>= λ xs. Ok (x ∷ xs)) e
      ∙ ap (λ (r : Result (List X) DecodeError). r >>= λ xs. Ok (x ∷ xs)) h

  -- an accepted byte string has no rest
  whole_front : (t : T) (front : List Attribute) (left : List ℕ) (zs : List X) →
      values_under m after t (nla_items_of front left) ≡ Ok zs → left ≡ []
  whole_front t [] [] zs e = refl
  whole_front t [] (b ∷ r) zs e = absurd cc
  whole_front t (a ∷ more) left zs e =
      let p = reads t a (nla_items_of more left) zs e in
      whole_front (after t a) more left p.xs p.others

  -- an accepted byte string is the attributes that it frames
  pub record Accepted (t : T) (s : List ℕ) (zs : List X) : Type 0 where
    pub front : List Attribute
    pub attributes : AllByRecursion IsAttribute front
    pub frames : Splits s front []
    pub nla_items_are : nla_items s ≡ nla_items_of front []
    pub values_are : values_under m after t (nla_items_of front []) ≡ Ok zs

  pub accepted : (t : T) (s : List ℕ) (zs : List X) → IsBytes s →
      values_under m after t (nla_items s) ≡ Ok zs → Accepted t s zs
  accepted t s zs fits e =
      let is = split_is s fits in
      let read =
      ap (λ (ps : List (Result Attribute ℕ)). values_under m after t ps) (sym (nla_items_split s))
      ∙ e in
      let none = whole_front t (split s).front (split s).left zs read in
      let frames = subst (λ (r : List ℕ). Splits s (split s).front r) none is in
      record {
        front = (split s).front;
        attributes = splits_attributes s (split s).front (split s).left is;
        frames = frames;
        nla_items_are = nla_items_only s (split s).front [] frames;
        values_are =
            ap (λ (r : List ℕ). values_under m after t (nla_items_of (split s).front r)) (sym none)
            ∙ read;
      }

  -- ---- no list means the memory error

  pub no_memory : ((t : T) (a : Attribute) → m t a ≢ Err memory_error) →
      (t : T) (ps : List (Result Attribute ℕ)) → values_under m after t ps ≢ Err memory_error
  no_memory never t [] e = absurd cc
  no_memory never t ((Err n) ∷ more) e = header_is_no_memory (same header_error memory_error e)
    where
      same : (d f : DecodeError) → bad {A = List X} d ≡ bad f → d ≡ f
      same d f h = cc
  no_memory never t ((Ok a) ∷ more) e =
      go (m t a) (values_under m after (after t a) more) refl (no_memory never (after t a) more) e
    where
      same : (d f : DecodeError) → bad {A = List X} d ≡ bad f → d ≡ f
      same d f h = cc

      go : (r : Result X DecodeError) (s : Result (List X) DecodeError) → m t a ≡ r →
          s ≢ Err memory_error → (r >>= λ x. s >>= λ xs. Ok (x ∷ xs)) ≢ Err memory_error
      go (Ok x) (Ok xs) f n h = absurd cc
      go (Ok x) (Err d) f n h = n (ap (λ (d : DecodeError). bad d) (same d memory_error h))
      go (Err d) s f n h = never t a (f ∙ ap (λ (d : DecodeError). bad d) (same d memory_error h))

  -- ---- at most a quarter of the bytes of a byte string are headers, if that holds inside each
  -- attribute

  pub quarter : (h : T → Attribute → ℕ) → ((t : T) (a : Attribute) → 4 * h t a ≤ length a.value) →
      (s : List ℕ) (t : T) →
      4 * headers_under m h after t (nla_items s) ≤ length s
  quarter h small s =
      by_nla_items (λ z. (t : T) → 4 * headers_under m h after t (nla_items z) ≤ length z)
      (λ t.
      omega (
        arith,
        ap (λ (ps : List (Result Attribute ℕ)). headers_under m h after t ps) nla_items_nil,
      ))
      (λ z some e t.
      omega (
        arith,
        ap (λ (ps : List (Result Attribute ℕ)). headers_under m h after t ps) e,
        seen_room z,
      ))
      (λ z a rest e room more t.
      omega (
        arith,
        ap (λ (ps : List (Result Attribute ℕ)). headers_under m h after t ps) e,
        room,
        small t a,
        one_more t a rest (m t a),
        more (after t a),
      ))
      s
    where
      one_more : (t : T) (a : Attribute) (rest : List ℕ) (r : Result X DecodeError) →
          if_read r (headers_under m h after (after t a) (nla_items rest))
          ≤ headers_under m h after (after t a) (nla_items rest)
      one_more t a rest (Ok x) = omega arith
      one_more t a rest (Err e) = omega arith

  -- ---- equivalent lists have equal meanings

  module _ (f : T → Attribute → Attribute → Bool)
      (alike_is : (t : T) (a b : Attribute) (x y : X) → IsAttribute a → IsAttribute b →
      m t a ≡ Ok x → m t b ≡ Ok y → (f t a b ≡ true) ↔ (x ≡ y))
      (alike_after : (t : T) (a b : Attribute) → f t a b ≡ true → after t a ≡ after t b) where
    fronts_alike : (t : T) (front other : List Attribute) (xs ys : List X) →
        AllByRecursion IsAttribute front → AllByRecursion IsAttribute other →
        values_under m after t (nla_items_of front []) ≡ Ok xs →
        values_under m after t (nla_items_of other []) ≡ Ok ys →
        (alike_under f after t (nla_items_of front []) (nla_items_of other []) ≡ true) ↔ (xs ≡ ys)
    fronts_alike t [] [] [] [] h k e g = (λ _. refl, λ _. refl)
    fronts_alike t [] [] (x ∷ xs) ys h k e g = absurd cc
    fronts_alike t [] [] [] (y ∷ ys) h k e g = absurd cc
    fronts_alike t [] (b ∷ other) xs ys h k e g =
        let q = reads t b (nla_items_of other []) ys g in
        let none : xs ≡ [] = nothing xs e in
        (λ d. absurd cc, λ d. absurd (nil_cons q.x q.xs (sym none ∙ d ∙ q.whole)))
      where
        nothing : (zs : List X) → good {A = List X} [] ≡ good zs → zs ≡ []
        nothing zs d = cc

        nil_cons : (z : X) (zs : List X) → [] ≡ (z ∷ zs) → ⊥
        nil_cons z zs d = cc
    fronts_alike t (a ∷ front) [] xs ys h k e g =
        let p = reads t a (nla_items_of front []) xs e in
        let none : ys ≡ [] = nothing ys g in
        (λ d. absurd cc, λ d. absurd (nil_cons p.x p.xs (sym none ∙ sym d ∙ p.whole)))
      where
        nothing : (zs : List X) → good {A = List X} [] ≡ good zs → zs ≡ []
        nothing zs d = cc

        nil_cons : (z : X) (zs : List X) → [] ≡ (z ∷ zs) → ⊥
        nil_cons z zs d = cc
    fronts_alike t (a ∷ front) (b ∷ other) xs ys h k e g =
        let p = reads t a (nla_items_of front []) xs e in
        let q = reads t b (nla_items_of other []) ys g in
        let law = alike_is t a b p.x q.x h.0 k.0 p.first q.first in
        let under : f t a b ≡ true →
        values_under m after (after t a) (nla_items_of other []) ≡ Ok q.xs =
        λ d. ap (λ (u : T). values_under m after u (nla_items_of other [])) (alike_after t a b d)
        ∙ q.others in
        let tails : f t a b ≡ true →
        (alike_under f after (after t a) (nla_items_of front []) (nla_items_of other []) ≡ true)
        ↔ (p.xs ≡ q.xs) =
        λ d. fronts_alike (after t a) front other p.xs q.xs h.1 k.1 p.others (under d) in (
          λ d.
              let parts =
              and_parts (f t a b)
              (alike_under f after (after t a) (nla_items_of front []) (nla_items_of other [])) d in
              p.whole ∙ (λ i. law.0 parts.0 i ∷ (tails parts.0).0 parts.1 i) ∙ sym q.whole,
          λ d.
              let equal = heads p.x q.x p.xs q.xs (sym p.whole ∙ d ∙ q.whole) in
              let first = law.1 equal.0 in
              and_from (f t a b)
              (alike_under f after (after t a) (nla_items_of front []) (nla_items_of other []))
              first
              ((tails first).1 equal.1),
        )

    pub lists_alike : (t : T) (p q : List ℕ) (xs ys : List X) → IsBytes p → IsBytes q →
        values_under m after t (nla_items p) ≡ Ok xs →
        values_under m after t (nla_items q) ≡ Ok ys →
        (alike_under f after t (nla_items p) (nla_items q) ≡ true) ↔ (xs ≡ ys)
    lists_alike t p q xs ys fp fq e g =
        let u = accepted t p xs fp e in
        let v = accepted t q ys fq g in
        let same : alike_under f after t (nla_items p) (nla_items q)
        ≡ alike_under f after t (nla_items_of u.front []) (nla_items_of v.front []) =
        ap (λ (ps : List (Result Attribute ℕ)). alike_under f after t ps (nla_items q))
        u.nla_items_are
        ∙ ap
        (λ (qs : List (Result Attribute ℕ)). alike_under f after t (nla_items_of u.front []) qs)
        v.nla_items_are in
        let law =
        fronts_alike t u.front v.front xs ys u.attributes v.attributes u.values_are v.values_are in
        (λ d. law.0 (sym same ∙ d), λ d. same ∙ law.1 d)

  -- ---- what is read is well formed, and what is well formed reads back

  module _ (attribute : X → Attribute) (well : T → X → Type 0) (next : T → X → T)
      (read_well : (t : T) (a : Attribute) (x : X) → IsAttribute a → m t a ≡ Ok x → well t x)
      (read_next : (t : T) (a : Attribute) (x : X) → IsAttribute a → m t a ≡ Ok x →
      after t a ≡ next t x)
      (well_reads : (t : T) (x : X) → well t x → Fits (attribute x) → m t (attribute x) ≡ Ok x)
      (well_attribute : (t : T) (x : X) → well t x → Fits (attribute x) →
      IsAttribute (attribute x)) where
    front_well : (t : T) (front : List Attribute) (zs : List X) → AllByRecursion IsAttribute front →
        values_under m after t (nla_items_of front []) ≡ Ok zs → well_under well next t zs
    front_well t [] [] h e = tt
    front_well t [] (z ∷ zs) h e = absurd cc
    front_well t (a ∷ more) zs h e =
        let p = reads t a (nla_items_of more []) zs e in
        let rest = front_well (after t a) more p.xs h.1 p.others in
        subst (λ (ys : List X). well_under well next t ys) (sym p.whole) (
          read_well t a p.x h.0 p.first,
          subst (λ (u : T). well_under well next u p.xs) (read_next t a p.x h.0 p.first) rest,
        )

    pub read_is_well : (t : T) (s : List ℕ) (zs : List X) → IsBytes s →
        values_under m after t (nla_items s) ≡ Ok zs → well_under well next t zs
    read_is_well t s zs fits e =
        let u = accepted t s zs fits e in front_well t u.front zs u.attributes u.values_are

    pub well_attributes : (t : T) (xs : List X) → well_under well next t xs →
        AllByRecursion Fits (map attribute xs) → AllByRecursion IsAttribute (map attribute xs)
    well_attributes t [] h fits = tt
    well_attributes t (x ∷ xs) h fits = (
      well_attribute t x h.0 fits.0,
      well_attributes (next t x) xs h.1 fits.1,
    )

    reads_back : (t : T) (xs : List X) → well_under well next t xs →
        AllByRecursion Fits (map attribute xs) →
        values_under m after t (nla_items_of (map attribute xs) []) ≡ Ok xs
    reads_back t [] h fits = refl
    reads_back t (x ∷ xs) h fits =
        let first = well_reads t x h.0 fits.0 in
        let on = read_next t (attribute x) x (well_attribute t x h.0 fits.0) first in
        together t (attribute x) (nla_items_of (map attribute xs) []) x xs first
        (ap (λ (u : T). values_under m after u (nla_items_of (map attribute xs) [])) on
        ∙ reads_back (next t x) xs h.1 fits.1)

    pub well_is_read : (t : T) (xs : List X) → well_under well next t xs →
        AllByRecursion Fits (map attribute xs) →
        values_under m after t (nla_items (list_string (map attribute xs))) ≡ Ok xs
    well_is_read t xs h fits =
        ap (λ (ps : List (Result Attribute ℕ)). values_under m after t ps)
        (nla_items-list_string (map attribute xs) (well_attributes t xs h fits))
        ∙ reads_back t xs h fits

    -- a canonical byte string reads back if and only if the list is well formed
    pub canonical_law : (t : T) (s : List ℕ) (xs : List X) → IsBytes s →
        AllByRecursion Fits (map attribute xs) → s ≡ list_string (map attribute xs) →
        (values_under m after t (nla_items s) ≡ Ok xs) ↔ well_under well next t xs
    canonical_law t s xs bytes fits e = (
      λ h. read_is_well t s xs bytes h,
      λ h. ap (λ (z : List ℕ). values_under m after t (nla_items z)) e ∙ well_is_read t xs h fits,
    )

  -- ---- one byte string after another, the second read alone under the initial state

  module _ (less : T → T → Type 0)
      (less_reads : (t u : T) (a : Attribute) (x : X) → less t u → m t a ≡ Ok x → m u a ≡ Ok x)
      (less_after : (t u : T) (a : Attribute) → less t u → less (after t a) (after u a)) where
    under_more : (t u : T) (front : List Attribute) (zs : List X) → less t u →
        values_under m after t (nla_items_of front []) ≡ Ok zs →
        values_under m after u (nla_items_of front []) ≡ Ok zs
    under_more t u [] zs h e = e
    under_more t u (a ∷ more) zs h e =
        let p = reads t a (nla_items_of more []) zs e in
        together u a (nla_items_of more []) p.x p.xs (less_reads t u a p.x h p.first)
        (under_more (after t a) (after u a) more p.xs (less_after t u a h) p.others)
        ∙ ap (λ (ys : List X). good ys) (sym p.whole)

    append_front : (t none : T) (front other : List Attribute) (xs ys : List X) →
        ((u : T) → less none u) → values_under m after t (nla_items_of front []) ≡ Ok xs →
        values_under m after none (nla_items_of other []) ≡ Ok ys →
        values_under m after t (nla_items_of (front ++ other) []) ≡ Ok (xs ++ ys)
    append_front t none [] other [] ys least e h = under_more none t other ys (least t) h
    append_front t none [] other (x ∷ xs) ys least e h = absurd cc
    append_front t none (a ∷ more) other xs ys least e h =
        let p = reads t a (nla_items_of more []) xs e in
        together t a (nla_items_of (more ++ other) []) p.x (p.xs ++ ys) p.first
        (append_front (after t a) none more other p.xs ys least p.others h)
        ∙ ap (λ (zs : List X). good (zs ++ ys)) (sym p.whole)

    pub append_law : (none : T) (s a b : List ℕ) (xs ys : List X) → ((u : T) → less none u) →
        IsBytes a → IsBytes b → length a % 4 ≡ 0 → s ≡ a ++ b →
        values_under m after none (nla_items a) ≡ Ok xs →
        values_under m after none (nla_items b) ≡ Ok ys →
        values_under m after none (nla_items s) ≡ Ok (xs ++ ys)
    append_law none s a b xs ys least fa fb four e h k =
        let u = accepted none a xs fa h in
        let v = accepted none b ys fb k in
        ap (λ (z : List ℕ). values_under m after none (nla_items z)) e
        ∙ ap (λ (ps : List (Result Attribute ℕ)). values_under m after none ps)
        (nla_items_only (a ++ b) (u.front ++ v.front) []
        (splits_append a b u.front v.front four u.frames v.frames))
        ∙ append_front none none u.front v.front xs ys least u.values_are v.values_are

-- a comparison that decides whether two accepted lists are equivalent decides whether they have
-- equal meanings
abbrev ok_of : {A : Type 0} → A → Result A DecodeError
ok_of x = Ok x

ok_same : {A : Type 0} (x y : A) → ok_of x ≡ ok_of y → x ≡ y
ok_same x y e = cc

pub lists_same : {X : Type 0} (m : Attribute → Result X DecodeError)
    (f : Attribute → Attribute → Bool)
    (alike_is : (a b : Attribute) (x y : X) → IsAttribute a → IsAttribute b → m a ≡ Ok x →
    m b ≡ Ok y → (f a b ≡ true) ↔ (x ≡ y))
    (p q : List ℕ) → IsBytes p → IsBytes q → IsOk (values m (nla_items p)) →
    IsOk (values m (nla_items q)) →
    (r : Bool) → r ≡ alike_pairs f (nla_items p) (nla_items q) →
    IsTrue r ↔ (values m (nla_items p) ≡ values m (nla_items q))
lists_same {X = X} m f alike_is p q bp bq u v r e =
    go (values m (nla_items p)) (values m (nla_items q)) refl refl u v
  where
    go : (s t : Result (List X) DecodeError) → values m (nla_items p) ≡ s →
        values m (nla_items q) ≡ t →
        IsOk s → IsOk t → IsTrue r ↔ (s ≡ t)
    go (Ok xs) (Ok ys) h k i j =
        let law =
        lists_alike (λ (_ : Unit {0}) a. m a) (λ t _. t) (λ _ a b. f a b)
        (λ _ a b x y. alike_is a b x y) (λ _ a b d. refl) (tt {0}) p q xs ys bp bq h k in
        (λ d. ap (λ (zs : List X). ok_of zs) (law.0 (sym e ∙ d)), λ d. e ∙ law.1 (ok_same xs ys d))
    go (Ok xs) (Err d) h k i j = absurd cc
    go (Err d) t h k i j = absurd cc

-- ---- one family: lists, and first attributes

module _ {X : Type 0} (m : Attribute → Result X DecodeError) (attribute : X → Attribute)
    (well : X → Type 0)
    (read_well : (a : Attribute) (x : X) → IsAttribute a → m a ≡ Ok x → well x)
    (well_reads : (x : X) → well x → Fits (attribute x) → m (attribute x) ≡ Ok x)
    (well_attribute : (x : X) → well x → Fits (attribute x) → IsAttribute (attribute x)) where
  pub family_read_well : (s : List ℕ) (xs : List X) → IsBytes s → values m (nla_items s) ≡ Ok xs →
      AllWell well xs
  family_read_well s xs bytes e =
      read_is_well (λ (_ : Unit {0}) a. m a) (λ t _. t) attribute (λ _ x. well x) (λ t _. t)
      (λ _ a x. read_well a x) (λ _ a x i e. refl) (λ _ x. well_reads x)
      (λ _ x. well_attribute x) (tt {0}) s xs bytes e

  pub family_canonical : (s : List ℕ) (xs : List X) → IsBytes s →
      AllByRecursion Fits (map attribute xs) → s ≡ list_string (map attribute xs) →
      (values m (nla_items s) ≡ Ok xs) ↔ AllWell well xs
  family_canonical s xs bytes fits e =
      canonical_law (λ (_ : Unit {0}) a. m a) (λ t _. t) attribute (λ _ x. well x) (λ t _. t)
      (λ _ a x. read_well a x) (λ _ a x i e. refl) (λ _ x. well_reads x)
      (λ _ x. well_attribute x) (tt {0}) s xs bytes fits e

  front_first_well : (front : List Attribute) (left : List ℕ) (x : X) →
      AllByRecursion IsAttribute front → first_meaning m (nla_items_of front left) ≡ Ok x → well x
  front_first_well [] [] x h e = absurd cc
  front_first_well [] (b ∷ r) x h e = absurd cc
  front_first_well (a ∷ more) left x h e = read_well a x h.0 e

  pub first_read_well : (s : List ℕ) (x : X) → IsBytes s → first_meaning m (nla_items s) ≡ Ok x →
      well x
  first_read_well s x bytes e =
      let is = split_is s bytes in
      front_first_well (split s).front (split s).left x
      (splits_attributes s (split s).front (split s).left is)
      (ap (λ (ps : List (Result Attribute ℕ)). first_meaning m ps) (sym (nla_items_split s)) ∙ e)

  one_string : (a : Attribute) → list_string (a ∷ []) ≡ canonical_string a
  one_string a = append-nil (canonical_string a)

  pub first_well_reads : (s : List ℕ) (x : X) → Fits (attribute x) →
      s ≡ canonical_string (attribute x) → well x → first_meaning m (nla_items s) ≡ Ok x
  first_well_reads s x fits e w =
      ap (λ (z : List ℕ). first_meaning m (nla_items z)) (e ∙ sym (one_string (attribute x)))
      ∙ ap (λ (ps : List (Result Attribute ℕ)). first_meaning m ps)
      (nla_items-list_string (attribute x ∷ []) (well_attribute x w fits, tt))
      ∙ well_reads x w fits
