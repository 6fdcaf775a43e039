-- Lists of addresses: attributes of any types, each with the bytes of one address.
use Rattle.std.specs.Prelude.{
  ◌≡◌,
  ◌↔◌,
  ◌⊎◌,
  ℕ,
  ◌+◌,
  ◌*◌,
  ◌%◌,
  ◌≤◌,
  ◌==◌,
  ◌&&◌,
  Bool,
  true,
  false,
  if◌then◌else◌,
  List,
  [],
  ◌∷◌,
  length,
  Result,
  Ok,
  Err,
  IsOk,
  is_ok,
  refl,
}
use Rattle.std.specs.Str.{bytes_eq}
use Rattle.std.specs.List.{AllByRecursion}
use Rattle.std.proofs.Common.{arith, sym, ap, subst, inl, inr, ◌∙◌}
use Rattle.std.proofs.lemmas.Bool.{cond-true, eq-eqb, eqb-true}
use Rattle.std.proofs.lemmas.List.{length-append}
use Rattle.std.proofs.lemmas.Slice.Eq.{bytes_eq-Decides}
use Rattle.nla_frame.specs.Attribute.{Attribute, IsAttribute, IsBytes, list_string}
use Rattle.nla_frame.specs.Canonical.{bytes_for}
use Rattle.nla_frame.specs.Error.{header_error, memory_error}
use Rattle.nla_frame.specs.Framing.{Begins, Frames}
use Rattle.nla_frame.specs.NlaItems.{nla_items, nla_items_of}
use Rattle.nla_frame.specs.declared.error.Cause.TheVariants as cause
use Rattle.nla_frame.specs.declared.error.DecodeError.{DecodeError}
use Rattle.nla_frame.specs.declared.error.Family.TheVariants as family
use Rattle.nla_frame.proofs.ByteLists.{IsBytes-list_string}
use Rattle.nla_frame.proofs.Emitting.{length-list_string-cons}
use Rattle.nla_frame.proofs.Stepping.{by_nla_items, nla_items-list_string, nla_items_nil, seen_room}
use Rattle.linkinfo_shapes.specs.declared.shape.Shape.{Shape}
use Rattle.linkinfo_shapes.specs.declared.shape.Shape.TheVariants.{V4List, V6List}
use Rattle.linkinfo_table.specs.Codecs.{Codec, Inside, IsCodec, Own, PayloadError}
use Rattle.linkinfo_table.specs.Contents.{counted_in, each_accepted}
use Rattle.linkinfo_table.specs.ListLaws.{
  accepted,
  family_read_well,
  header_is_no_memory,
  lists_alike,
  reads,
}
use Rattle.linkinfo_table.specs.Lists.{◌>>=◌, AllWell, alike_pairs, values}
use Rattle.linkinfo_table.specs.Payloads.{
  IsAddresses,
  IsExact,
  IsPayload,
  IsPayloadShape,
  address_width,
  codec_with,
}
use Rattle.linkinfo_payloads.specs.Fixed.{IsFixed}
use Rattle.linkinfo_payloads.specs.Layouts.{Layout, v4, v6}

abbrev pub with_first : {X : Type 0} → X → Result (List X) PayloadError →
    Result (List X) PayloadError
with_first x (Ok xs) = Ok (x ∷ xs)
with_first x (Err e) = Err e

-- the addresses in order, whatever the types; or why the list is rejected: in byte order, an
-- attribute that has not as many bytes as an address, or a rest without a header
abbrev pub addresses : {X : Type 0} → ℕ → (List ℕ → X) → List (Result Attribute ℕ) →
    Result (List X) PayloadError
addresses width of [] = Ok []
addresses width of ((Err n) ∷ more) = Err (Inside header_error)
addresses width of ((Ok a) ∷ more) =
    if length a.value == width then with_first (of a.value) (addresses width of more)
    else Err (Own cause.Length)

-- the headers examined, up to the one at fault
abbrev pub address_headers : ℕ → List (Result Attribute ℕ) → ℕ
address_headers width [] = 0
address_headers width ((Err n) ∷ more) = n
address_headers width ((Ok a) ∷ more) =
    1 + (if length a.value == width then address_headers width more else 0)

pub address_counts : (width : ℕ) (ps : List (Result Attribute ℕ)) →
    address_headers width ps ≡ counted_in (λ a. length a.value == width) (λ _. 0) ps
address_counts width [] = refl
address_counts width ((Err n) ∷ more) = refl
address_counts width ((Ok a) ∷ more) =
    ap (λ (n : ℕ). 1 + (if length a.value == width then n else 0)) (address_counts width more)
    ∙ ap (λ (n : ℕ). 1 + n) (none_more _)
  where
    none_more : (n : ℕ) → n ≡ 0 + n
    none_more n = omega arith

-- a list that begins with an address needs memory
abbrev pub address_memory : ℕ → List (Result Attribute ℕ) → Bool
address_memory width ((Ok a) ∷ more) = length a.value == width
address_memory width _ = false

-- equal payloads: types, flag bits and padding do not count
abbrev pub same_payload : Attribute → Attribute → Bool
same_payload a b = bytes_eq a.value b.value

-- attributes of the types 0, 1, 2 .. from the number on, with the bytes of the addresses
abbrev pub numbered : {X : Type 0} → (X → List ℕ) → ℕ → List X → List Attribute
numbered bytes k [] = []
numbered bytes k (x ∷ xs) = record { kind = k; value = bytes x } ∷ numbered bytes (k + 1) xs

abbrev pub address_string : {X : Type 0} → (X → List ℕ) → List X → List ℕ
address_string bytes xs = list_string (numbered bytes 0 xs)

abbrev good : {X : Type 0} → X → Result X PayloadError
good x = Ok x

good_same : {X : Type 0} (x y : X) → good x ≡ good y → x ≡ y
good_same x y h = cc

-- a payload that is a list of addresses
abbrev codec_by : {X : Type 0} → ℕ → (List ℕ → X) → (X → List ℕ) → (X → Type 0) → Codec
codec_by width of bytes holds =
    codec_with (λ p. addresses width of (nla_items p)) (λ xs. address_string bytes xs)
    (λ xs. AllWell holds xs) (λ p q. alike_pairs same_payload (nla_items p) (nla_items q))
    (λ p. address_headers width (nla_items p)) (λ p. address_memory width (nla_items p))

abbrev pub address_codec : {X : Type 0} → Layout X → Codec
address_codec layout = codec_by layout.width layout.of layout.bytes layout.Holds

abbrev bad : {X : Type 0} → PayloadError → Result (List X) PayloadError
bad e = Err e

addresses_payload_shape : (shape : Shape) → IsAddresses shape → IsPayloadShape shape
addresses_payload_shape V4List i = tt
addresses_payload_shape V6List i = tt
addresses_payload_shape _ i = absurd i

not_exact : (shape : Shape) → IsAddresses shape → IsExact shape → ⊥
not_exact V4List i j = j
not_exact V6List i j = j
not_exact _ i j = i

begins_long : (s : List ℕ) (a : Attribute) (padding rest : List ℕ) → Begins s a padding rest →
    length s ≡ 4 + (length a.value + (length padding + length rest))
begins_long s a padding rest h = ap length h.string ∙ simp length-append (omega arith)

module _ {X : Type 0} (width : ℕ) (of : List ℕ → X) (bytes : X → List ℕ) (holds : X → Type 0)
    (fixed : IsFixed width of bytes holds) (four : width % 4 ≡ 0) (some : 4 ≤ width)
    (short : width ≤ 65531) where
  -- ---- as a list of attributes whose errors have one name

  abbrev error : DecodeError
  error = record { family = family.Frame; kind = 0; cause = cause.Length }

  abbrev element : Attribute → Result X DecodeError
  element a = if length a.value == width then Ok (of a.value) else Err error

  as_values : (ps : List (Result Attribute ℕ)) (xs : List X) → addresses width of ps ≡ Ok xs →
      values element ps ≡ Ok xs
  as_values [] xs h = let same : [] ≡ xs = good_same [] xs h in ap (λ (z : List X). Ok z) same
  as_values ((Err n) ∷ more) xs h = absurd cc
  as_values ((Ok a) ∷ more) xs h =
      go (λ zs. as_values more zs) (addresses width of more) refl (length a.value == width) h
    where
      go : ((zs : List X) → addresses width of more ≡ Ok zs → values element more ≡ Ok zs) →
          (r : Result (List X) PayloadError) → addresses width of more ≡ r → (b : Bool) →
          (if b then with_first (of a.value) r else Err (Own cause.Length)) ≡ good xs →
          ((if b then Ok (of a.value) else Err error)
          >>= λ x. values element more >>= λ zs. Ok (x ∷ zs)) ≡ Ok xs
      go rest (Ok zs) k true e =
          ap (λ (r : Result (List X) DecodeError). r >>= λ zs. Ok (of a.value ∷ zs)) (rest zs k)
          ∙ ap (λ (z : List X). Ok z) (good_same (of a.value ∷ zs) xs e)
      go rest (Err d) k true e = absurd cc
      go rest r k false e = absurd cc

  -- an element that is an address
  pub record IsElement (a : Attribute) (x : X) : Type 0 where
    pub long : length a.value ≡ width
    pub is : of a.value ≡ x

  abbrev ok : X → Result X DecodeError
  ok x = Ok x

  ok_same : (x y : X) → ok x ≡ ok y → x ≡ y
  ok_same x y h = cc

  is_element : (a : Attribute) (x : X) → element a ≡ Ok x → IsElement a x
  is_element a x h = go (length a.value == width) refl h
    where
      go : (b : Bool) → (length a.value == width) ≡ b →
          (if b then Ok (of a.value) else Err error) ≡ ok x → IsElement a x
      go true e h = record {
        long = eqb-true (length a.value) width e;
        is = ok_same (of a.value) x h;
      }
      go false e h = absurd cc

  element_of : (a : Attribute) (x : X) → length a.value ≡ width → of a.value ≡ x →
      element a ≡ Ok x
  element_of a x long is =
      cond-true (length a.value == width) _ _ (eq-eqb (length a.value) width long)
      ∙ ap ok is

  abbrev plain : X → Attribute
  plain x = record { kind = 0; value = bytes x }

  read_holds : (a : Attribute) (x : X) → IsAttribute a → element a ≡ Ok x → holds x
  read_holds a x i h =
      let e = is_element a x h in subst holds e.is (fixed.held a.value i.bytes e.long)

  -- ---- canonical lists

  numbered_long : (k : ℕ) (xs : List X) → AllWell holds xs →
      length (list_string (numbered bytes k xs)) ≡ length xs * (4 + width)
  numbered_long k [] h = omega arith
  numbered_long k (x ∷ xs) h =
      omega (
        arith,
        length-list_string-cons (record { kind = k; value = bytes x }) (numbered bytes (k + 1) xs),
        fixed.long x h.0,
        four,
        numbered_long (k + 1) xs h.1,
      )

  few : (n : ℕ) → n * (4 + width) ≤ 65531 → n ≤ 8191
  few n h = grind (arith, some)

  numbered_attributes : (k : ℕ) (xs : List X) → AllWell holds xs → k + length xs ≤ 65536 →
      AllByRecursion IsAttribute (numbered bytes k xs)
  numbered_attributes k [] h le = tt
  numbered_attributes k (x ∷ xs) h le = (
    record {
      kind = omega (arith, le);
      short = omega (arith, short, fixed.long x h.0);
      bytes = fixed.byte_list x h.0;
    },
    numbered_attributes (k + 1) xs h.1 (omega (arith, le)),
  )

  all_attributes : (xs : List X) → AllWell holds xs →
      length (address_string bytes xs) ≤ 65531 → AllByRecursion IsAttribute (numbered bytes 0 xs)
  all_attributes xs h fits =
      numbered_attributes 0 xs h
      (omega (arith, few (length xs) (omega (arith, fits, numbered_long 0 xs h))))

  reads_back : (k : ℕ) (xs : List X) → AllWell holds xs →
      addresses width of (nla_items_of (numbered bytes k xs) []) ≡ Ok xs
  reads_back k [] h = refl
  reads_back k (x ∷ xs) h =
      cond-true (length (bytes x) == width) _ _
      (eq-eqb (length (bytes x)) width (fixed.long x h.0))
      ∙ (λ i. with_first (fixed.again x h.0 i) (reads_back (k + 1) xs h.1 i))

  -- ---- a payload that is a list of addresses

  abbrev codec : Codec
  codec = codec_by width of bytes holds

  alike_element : (a b : Attribute) (x y : X) → IsAttribute a → IsAttribute b → element a ≡ Ok x →
      element b ≡ Ok y → (same_payload a b ≡ true) ↔ (x ≡ y)
  alike_element a b x y i j h k =
      let e = is_element a x h in
      let f = is_element b y k in (
        λ t. sym e.is ∙ ap of ((bytes_eq-Decides a.value b.value).0 t) ∙ f.is,
        λ t.
            (bytes_eq-Decides a.value b.value).1
            (sym (fixed.back a.value i.bytes e.long)
            ∙ ap bytes (e.is ∙ t ∙ sym f.is)
            ∙ fixed.back b.value j.bytes f.long),
      )

  at_most : (b : Bool) (n : ℕ) → (if b then n else 0) ≤ n
  at_most true n = omega arith
  at_most false n = omega arith

  quarter : (p : List ℕ) → 4 * address_headers width (nla_items p) ≤ length p
  quarter p =
      by_nla_items (λ z. 4 * address_headers width (nla_items z) ≤ length z)
      (omega (
        arith,
        ap (λ (ps : List (Result Attribute ℕ)). address_headers width ps) nla_items_nil,
      ))
      (λ z nonempty e.
      omega (
        arith,
        ap (λ (ps : List (Result Attribute ℕ)). address_headers width ps) e,
        seen_room z,
      ))
      (λ z a rest e room more.
      omega (
        arith,
        ap (λ (ps : List (Result Attribute ℕ)). address_headers width ps) e,
        room,
        at_most (length a.value == width) (address_headers width (nla_items rest)),
        more,
      ))
      p

  errors : (ps : List (Result Attribute ℕ)) (e : PayloadError) → addresses width of ps ≡ Err e →
      (e ≡ Own cause.Length) ⊎ (e ≡ Inside header_error)
  errors [] e h = absurd cc
  errors ((Err n) ∷ more) e h = inr (bad_same (Inside header_error) e h)
    where
      bad_same : (d e : PayloadError) → bad {X = X} d ≡ bad e → e ≡ d
      bad_same d e h = cc
  errors ((Ok a) ∷ more) e h =
      go (λ d. errors more d) (addresses width of more) refl (length a.value == width) h
    where
      bad_same : (d e : PayloadError) → bad {X = X} d ≡ bad e → e ≡ d
      bad_same d e h = cc

      go : ((d : PayloadError) → addresses width of more ≡ Err d →
          (d ≡ Own cause.Length) ⊎ (d ≡ Inside header_error)) →
          (r : Result (List X) PayloadError) → addresses width of more ≡ r → (b : Bool) →
          (if b then with_first (of a.value) r else Err (Own cause.Length)) ≡ bad {X = X} e →
          (e ≡ Own cause.Length) ⊎ (e ≡ Inside header_error)
      go rest (Ok zs) k true i = absurd cc
      go rest (Err d) k true i = rest e (k ∙ ap bad (sym (bad_same d e i)))
      go rest r k false i = inl (bad_same (Own cause.Length) e i)

  no_own_memory : (e : PayloadError) → e ≡ Own cause.Memory →
      (e ≡ Own cause.Length) ⊎ (e ≡ Inside header_error) → ⊥
  no_own_memory e is (inl k) =
      let both : Own cause.Memory ≡ Own cause.Length = sym is ∙ k in absurd cc
  no_own_memory e is (inr k) =
      let both : Own cause.Memory ≡ Inside header_error = sym is ∙ k in absurd cc

  inner_is_header : (d : DecodeError) → (Inside d ≡ Own cause.Length)
      ⊎ (Inside d ≡ Inside header_error) → d ≡ header_error
  inner_is_header d (inl k) = absurd cc
  inner_is_header d (inr k) = cc

  abbrev under : Unit {0} → Attribute → Result X DecodeError
  under t a = element a

  abbrev after : Unit {0} → Attribute → Unit {0}
  after t a = t

  address_is_codec : IsCodec codec
  address_is_codec = record {
    holds = λ p xs b e.
        family_read_well element plain holds read_holds
        (λ x h _. element_of (plain x) x (fixed.long x h) (fixed.again x h))
        (λ x h fits. record { kind = omega arith; short = fits; bytes = fixed.byte_list x h })
        p xs b (as_values (nla_items p) xs e);
    again = λ xs h fits.
        ap (λ (ps : List (Result Attribute ℕ)). addresses width of ps)
        (nla_items-list_string (numbered bytes 0 xs) (all_attributes xs h fits))
        ∙ reads_back 0 xs h;
    bytes = λ xs h fits. IsBytes-list_string (numbered bytes 0 xs) (all_attributes xs h fits);
    alike_is = λ p q xs ys bp bq e g.
        lists_alike under after (λ _ a b. same_payload a b)
        (λ _ a b x y. alike_element a b x y) (λ _ a b e. refl) (tt {0}) p q xs ys bp bq
        (as_values (nla_items p) xs e) (as_values (nla_items q) ys g);
    quarter = quarter;
    no_own_memory = λ p e.
        no_own_memory (Own cause.Memory) refl (errors (nla_items p) (Own cause.Memory) e);
    no_inner_memory = λ p e.
        header_is_no_memory
        (sym (inner_is_header memory_error (errors (nla_items p) (Inside memory_error) e)));
  }

  addresses_ok : (ps : List (Result Attribute ℕ)) →
      is_ok (addresses width of ps) ≡ each_accepted (λ a. length a.value == width) ps
  addresses_ok [] = refl
  addresses_ok ((Err n) ∷ more) = refl
  addresses_ok ((Ok a) ∷ more) =
      go (length a.value == width) (addresses width of more) (addresses_ok more)
    where
      first_ok : (r : Result (List X) PayloadError) → is_ok (with_first (of a.value) r) ≡ is_ok r
      first_ok (Ok xs) = refl
      first_ok (Err e) = refl

      go : (b : Bool) (r : Result (List X) PayloadError) →
          is_ok r ≡ each_accepted (λ c. length c.value == width) more →
          is_ok (if b then with_first (of a.value) r else bad (Own cause.Length))
          ≡ (b && each_accepted (λ c. length c.value == width) more)
      go true r e = first_ok r ∙ e
      go false r e = refl

  pub address_payload : (shape : Shape) → IsAddresses shape → address_width shape ≡ width →
      IsPayload shape [] codec
  address_payload shape i wide = record {
    shaped = addresses_payload_shape shape i;
    codec = address_is_codec;
    named = λ p e h. inl (inner_is_header e (errors (nla_items p) (Inside e) h));
    nest = λ inner e. absurd (subst IsAddresses e i);
    peer = λ e. absurd (subst IsAddresses e i);
    exact = λ j. absurd (not_exact shape i j);
    exact_accepted = λ j. absurd (not_exact shape i j);
    addresses_accepted = λ _ p.
        addresses_ok (nla_items p)
        ∙ ap (λ (n : ℕ). each_accepted (λ a. length a.value == n) (nla_items p)) (sym wide);
    addresses = λ _ p error h. errors (nla_items p) error h;
  }

  -- ---- an accepted payload is as long as the canonical one

  frames_long : (s : List ℕ) (front : List Attribute) (xs : List X) → Frames s front →
      values element (nla_items_of front []) ≡ Ok xs → length s ≡ length xs * (4 + width)
  frames_long s [] [] frames h = omega (arith, ap length frames)
  frames_long s [] (x ∷ xs) frames h = absurd cc
  frames_long s (a ∷ []) xs frames h =
      let r = reads under after (tt {0}) a [] xs h in
      let long = (is_element a r.x r.first).long in
      omega (
        arith,
        begins_long s a frames.0 [] frames.2,
        frames.1,
        long,
        four,
        ap (λ (zs : List X). length zs * (4 + width))
            (r.whole ∙ ap (λ zs. r.x ∷ zs) (nothing r.xs r.others)),
      )
    where
      nothing : (zs : List X) → values element [] ≡ Ok zs → zs ≡ []
      nothing zs e = cc
  frames_long s (a ∷ b ∷ more) xs frames h =
      let r = reads under after (tt {0}) a (nla_items_of (b ∷ more) []) xs h in
      let long = (is_element a r.x r.first).long in
      omega (
        arith,
        begins_long s a frames.0 frames.1 frames.3,
        frames.2,
        long,
        four,
        ap (λ (zs : List X). length zs * (4 + width)) r.whole,
        frames_long frames.1 (b ∷ more) r.xs frames.4 r.others,
      )

  address_long : (p : List ℕ) (xs : List X) → IsBytes p → addresses width of (nla_items p) ≡ Ok xs →
      length p ≡ length (address_string bytes xs)
  address_long p xs b e =
      let u = accepted under after (tt {0}) p xs b (as_values (nla_items p) xs e) in
      frames_long p u.front xs u.frames u.values_are
      ∙ sym (numbered_long 0 xs (address_is_codec.holds p xs b e))

  pub canonical_long : (p : List ℕ) → IsBytes p → IsOk (addresses width of (nla_items p)) →
      length p
      ≡ length (bytes_for (λ (xs : List X). address_string bytes xs)
      (addresses width of (nla_items p)))
  canonical_long p b h = go (addresses width of (nla_items p)) refl h
    where
      go : (r : Result (List X) PayloadError) → addresses width of (nla_items p) ≡ r → IsOk r →
          length p ≡ length (bytes_for (λ (xs : List X). address_string bytes xs) r)
      go (Ok xs) e i = address_long p xs b e
      go (Err d) e i = absurd cc

-- ---- the two versions

four_some : 4 ≤ 4
four_some = omega arith

sixteen_some : 4 ≤ 16
sixteen_some = omega arith

four_short : 4 ≤ 65531
four_short = omega arith

sixteen_short : 16 ≤ 65531
sixteen_short = omega arith

abbrev pub v4_list_codec : Codec
v4_list_codec = address_codec v4

pub v4_list_payload : IsPayload V4List [] v4_list_codec
v4_list_payload =
    address_payload v4.width v4.of v4.bytes v4.Holds v4.fixed refl four_some four_short V4List tt
    refl

abbrev pub v6_list_codec : Codec
v6_list_codec = address_codec v6

pub v6_list_payload : IsPayload V6List [] v6_list_codec
v6_list_payload =
    address_payload v6.width v6.of v6.bytes v6.Holds v6.fixed refl sixteen_some sixteen_short V6List
    tt refl
