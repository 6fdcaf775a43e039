-- Reading the values of what is built returns the array.
use Rattle.std.proofs.Common.{
  ◌≡◌,
  ◌+◌,
  ◌<◌,
  ◌≤◌,
  ◌^◌,
  ◌++◌,
  ℕ,
  zero,
  suc,
  Bool,
  true,
  false,
  cond,
  nat_eq,
  nat_le,
  List,
  [],
  ◌∷◌,
  length,
  map,
  take,
  drop,
  Option,
  Some,
  None,
  Result,
  Ok,
  Err,
  IsOk,
  is_ok,
  refl,
  sym,
  ap,
  subst,
  ◌∙◌,
  arith,
}
use Rattle.std.proofs.lemmas.List.{
  length-drop,
  length-map,
  length-take-le,
  map-append,
  take-append-drop,
}
use Rattle.std.specs.List.{AllByRecursion, list_any}
use Rattle.nla_frame.specs.Attribute.{
  Attribute,
  IsAttribute,
  IsBytes,
  buffer_len_of,
  list_string,
  masked,
}
use Rattle.nla_frame.specs.NlaItems.{nla_items, nla_items_of}
use Rattle.nla_frame.specs.declared.error.Cause.{Cause}
use Rattle.nla_frame.proofs.ByteLists.{IsBytes-list_string}
use Rattle.nla_frame.proofs.Emitting.{length-list_string-cons}
use Rattle.nla_frame.proofs.Stepping.{nla_items-list_string}
use Rattle.linkinfo_shapes.specs.Data.{
  IsNumberBelow,
  IsPairBelow,
  Suits,
  Value,
  bytes,
  empty,
  mac,
  number,
  number_in,
  pair,
  pair_in,
  reads,
  signed,
  text,
  truth,
  unwrap,
  v4,
  v6,
  value_of,
  wrapped,
  written,
}
use Rattle.linkinfo_shapes.specs.DataLaws.{canonical_is, suits_plain, wrap-unwrap, written_is}
use Rattle.linkinfo_shapes.specs.ShapeLaws.{IsBytes-canon, means-canon}
use Rattle.linkinfo_shapes.specs.Shapes.{Carrier, Holds, IsAccepted, IsPlain, means}
use Rattle.linkinfo_shapes.specs.declared.shape.Shape.{Shape}
use Rattle.linkinfo_shapes.specs.declared.shape.Shape.TheVariants.{
  U8,
  Le16,
  Le32,
  Le64,
  Be16,
  Be32,
  Be64,
  I32,
  Truth,
  TruthOne,
  Mark,
  Name,
  V4,
  V6,
  GeneveV4,
  GeneveV6,
  Ip,
  Mac,
  BePair,
  FlagPair,
  EmptyOrByte,
  Scrub,
  Raw,
  SelfList,
  Peer,
  Nested,
  BridgeId,
  LePair16,
  Le32x8,
  CanBitTimingConst,
  Le16s,
  Le32s,
  V4List,
  V6List,
}
use Rattle.linkinfo_build.specs.Build.{
  after,
  attribute_of,
  attributes_of,
  attributes_with,
  bytes_in,
  datum_payload,
  encoding,
  flagged_rows,
  inside_count,
  kind_written,
  list_payload,
  list_up_to,
  map_ok,
  opened,
  opened_by,
  payload_in,
  payload_with,
  raw_payload,
  refused,
  short,
  with_first,
}
use Rattle.linkinfo_build.specs.Rows.{rows_in, shape_in}
use Rattle.linkinfo_build.specs.declared.rows.Rows.{Rows}
use Rattle.linkinfo_build.specs.declared.value.BuildCause.TheVariants as cause
use Rattle.linkinfo_build.specs.Bytes.{is_canonical_payload}
use Rattle.linkinfo_build.specs.Canonical.{
  IsCanonicalAttribute,
  IsCanonicalList,
  IsCanonicalPayload,
  IsCanonicalUnder,
  IsCanonicalUpTo,
  IsListOf,
}
use Rattle.linkinfo_build.specs.Reading.{
  Entry,
  IsHeld,
  IsHeldDatum,
  IsHeldValue,
  datum,
  datum_or_bytes,
  entries_among,
  entries_in,
  entries_of,
  entry_of,
  list,
  meaning_of,
  raw,
  values_of,
  values_up_to,
}
use Rattle.linkinfo_build.specs.declared.value.BuildDatum.{BuildDatum}
use Rattle.linkinfo_build.specs.declared.value.BuildDatum.TheVariants as given
use Rattle.linkinfo_build.specs.declared.value.BuildError.{BuildError}
use Rattle.linkinfo_build.specs.declared.value.BuildValue.{BuildValue}
use Rattle.linkinfo_build.proofs.Listing.{Goes, goes}
use Rattle.linkinfo_build.proofs.Payloads.{
  as_given,
  datum_written,
  few,
  low as kind_low,
  raw_written,
}

-- ---- types

module _ (f : Rows) (kind : ℕ) (small : kind < 16384) where
  flagged : (b : Bool) → (cond b (kind + 32768) kind < 65536)
  flagged true = omega (arith, small)
  flagged false = omega (arith, small)

  masked_again : (b : Bool) → masked (cond b (kind + 32768) kind) ≡ kind
  masked_again true = omega (arith, small)
  masked_again false = omega (arith, small)

  pub kind_fits : kind_written f kind < 65536
  unfolding kind_written
  kind_fits = flagged (list_any (nat_eq kind) (flagged_rows f.family))

  pub kind_back : masked (kind_written f kind) ≡ kind
  unfolding kind_written
  kind_back = masked_again (list_any (nat_eq kind) (flagged_rows f.family))

-- ---- data

below : (bound : ℕ) (value : Value) → IsNumberBelow bound value → number_in value < bound
below bound (number n) h = h
below bound (signed z) h = absurd h
below bound (truth b) h = absurd h
below bound empty h = absurd h
below bound (text s) h = absurd h
below bound (v4 a) h = absurd h
below bound (v6 a) h = absurd h
below bound (mac s) h = absurd h
below bound (pair a b) h = absurd h
below bound (bytes s) h = absurd h

pair_within : (bound : ℕ) (value : Value) → IsPairBelow bound value →
    ((pair_in value).0 < bound) × ((pair_in value).1 < bound)
pair_within bound (pair a b) h = h
pair_within bound (number n) h = absurd h
pair_within bound (signed z) h = absurd h
pair_within bound (truth b) h = absurd h
pair_within bound empty h = absurd h
pair_within bound (text s) h = absurd h
pair_within bound (v4 a) h = absurd h
pair_within bound (v6 a) h = absurd h
pair_within bound (mac s) h = absurd h
pair_within bound (bytes s) h = absurd h

-- a datum of a shape that a program can hold is one that its type can hold
holds : (shape : Shape) (value : Value) → Suits shape value → IsHeldValue value →
    Holds shape (unwrap shape value)
unfolding Suits
holds U8 value s h = below 256 value s
holds Le16 value s h = below (2 ^ 16) value s
holds Le32 value s h = below (2 ^ 32) value s
holds Le64 value s h = below (2 ^ 64) value s
holds Be16 value s h = below (2 ^ 16) value s
holds Be32 value s h = below (2 ^ 32) value s
holds Be64 value s h = below (2 ^ 64) value s
holds I32 (signed z) s h = h
holds Truth value s h = tt
holds TruthOne value s h = tt
holds Mark value s h = tt
holds Name (text t) s h = h
holds V4 (v4 a) s h = h
holds V6 (v6 a) s h = h
holds GeneveV4 (v4 a) s h = h
holds GeneveV6 (v6 a) s h = h
holds Ip (v4 a) s h = h
holds Ip (v6 a) s h = h
holds Mac (mac o) s h = h
holds BePair value s h = pair_within (2 ^ 16) value s
holds FlagPair value s h = pair_within (2 ^ 32) value s
holds EmptyOrByte empty s h = tt
holds EmptyOrByte (number n) s h = s
holds Scrub value s h = tt
holds Raw (bytes b) s h = h
holds _ _ s h = absurd s

-- what is written for a datum reads back as it
read_again : (shape : Shape) (value : Value) → Suits shape value → IsHeldValue value →
    reads shape (written shape value) ≡ Ok value
unfolding reads
read_again shape value s h =
    ap (λ (p : List ℕ). wrapped shape (means shape p)) (written_is shape value)
    ∙ ap (λ (m : Result (Carrier shape) Cause). wrapped shape m)
    (means-canon shape (unwrap shape value) (holds shape value s h))
    ∙ ap (λ (v : Value). Ok v) (wrap-unwrap shape value s)

bytes_again : (shape : Shape) (value : Value) → Suits shape value → IsHeldValue value →
    IsBytes (written shape value)
bytes_again shape value s h =
    subst IsBytes (sym (written_is shape value))
    (IsBytes-canon shape (unwrap shape value) (holds shape value s h))

-- .. and is canonical
fine_again : (shape : Shape) (value : Value) → Suits shape value → IsHeldValue value →
    IsCanonicalUnder shape (written shape value)
unfolding IsAccepted
fine_again shape value s h =
    let means_it : means shape (written shape value) ≡ Ok (unwrap shape value) =
    ap (λ (p : List ℕ). means shape p) (written_is shape value)
    ∙ means-canon shape (unwrap shape value) (holds shape value s h) in
    record {
      accepted = λ plain. ap is_ok means_it;
      same = λ plain.
          canonical_is shape (written shape value) (unwrap shape value) means_it
          ∙ sym (written_is shape value);
      exact = λ no. absurd (no (suits_plain shape value s));
    }

plain_alone : (f : Rows) (shape : Shape) → IsPlain shape → rows_in f (Some shape) ≡ None
plain_alone f SelfList h = absurd h
plain_alone f (Nested inner) h = absurd h
plain_alone f _ h = refl

-- ---- bytes

raw_alone : (f : Rows) (shape : Shape) (p : List ℕ) → is_canonical_payload shape p ≡ true →
    rows_in f (Some shape) ≡ None
unfolding is_canonical_payload
raw_alone f SelfList p h = absurd cc
raw_alone f (Nested inner) p h = absurd cc
raw_alone f _ p h = refl

raw_not_plain : (shape : Shape) (p : List ℕ) → is_canonical_payload shape p ≡ true →
    IsPlain shape → ⊥
unfolding is_canonical_payload
raw_not_plain Peer p h plain = plain
raw_not_plain BridgeId p h plain = plain
raw_not_plain LePair16 p h plain = plain
raw_not_plain Le32x8 p h plain = plain
raw_not_plain CanBitTimingConst p h plain = plain
raw_not_plain Le16s p h plain = plain
raw_not_plain Le32s p h plain = plain
raw_not_plain V4List p h plain = plain
raw_not_plain V6List p h plain = plain
raw_not_plain _ p h plain = absurd cc

raw_again : (shape : Shape) (p : List ℕ) → is_canonical_payload shape p ≡ true →
    datum_or_bytes p (reads shape p) ≡ raw p
unfolding is_canonical_payload reads
raw_again Peer p h = refl
raw_again BridgeId p h = refl
raw_again LePair16 p h = refl
raw_again Le32x8 p h = refl
raw_again CanBitTimingConst p h = refl
raw_again Le16s p h = refl
raw_again Le32s p h = refl
raw_again V4List p h = refl
raw_again V6List p h = refl
raw_again _ p h = absurd cc

-- ---- one value

good_same : (p q : List ℕ) (r : Result (List ℕ) BuildError) → r ≡ Ok p → r ≡ Ok q → p ≡ q
good_same p q r h k = same (sym h ∙ k)
  where
    good : List ℕ → Result (List ℕ) BuildError
    good x = Ok x

    same : (let x : Result (List ℕ) BuildError = Ok p in x) ≡ Ok q → p ≡ q
    same e = cc

is_fine : {X : Type 0} (r : Result X BuildError) (x : X) → r ≡ Ok x → IsOk r
is_fine r x e = ap is_ok e

pub held_take : (n : ℕ) (vs : List BuildValue) → AllByRecursion IsHeld vs →
    AllByRecursion IsHeld (take n vs)
held_take zero vs h = tt
held_take (suc n) [] h = tt
held_take (suc n) (v ∷ more) h = (h.0, held_take n more h.1)

pub held_drop : (n : ℕ) (vs : List BuildValue) → AllByRecursion IsHeld vs →
    AllByRecursion IsHeld (drop n vs)
held_drop zero vs h = h
held_drop (suc n) [] h = tt
held_drop (suc n) (v ∷ more) h = held_drop n more h.1

-- a payload reads as these entries
record ReadsBack (Fine : Rows → List ℕ → Type 0) (read : Rows → List ℕ → List Entry)
    (f : Rows) (k : ℕ) (shape : Option Shape) (p : List ℕ) (entries : List Entry) : Type 0 where
  pub is_bytes : IsBytes p
  pub fine : IsCanonicalPayload Fine (rows_in f shape) shape p
  pub reads_as : entries_of read k (rows_in f shape) shape p ≡ entries

-- a list reads as the values that it was built from
pub record ListBack (Fine : Rows → List ℕ → Type 0) (read : Rows → List ℕ → List Entry)
    (f : Rows) (used : ℕ) (vs : List BuildValue) (list : List Attribute) : Type 0 where
  pub attributes : AllByRecursion IsAttribute list
  pub fine : AllByRecursion (IsCanonicalAttribute Fine f) list
  pub reads_as : entries_among read f (nla_items_of list []) ≡ map entry_of vs
  pub short : used + length (list_string list) ≤ 65531

module _ (inside : Rows → List BuildValue → Result (List ℕ) BuildError)
    (Fine : Rows → List ℕ → Type 0) (read : Rows → List ℕ → List Entry)
    (back : (f : Rows) (vs : List BuildValue) (p : List ℕ) → AllByRecursion IsHeld vs →
    inside f vs ≡ Ok p → IsBytes p × (read f p ≡ map entry_of vs) × Fine f p)
    (f : Rows) where
  by_datum : (k : ℕ) (shape : Option Shape) (value : Value) (p : List ℕ) → IsHeldValue value →
      datum_payload shape value ≡ Ok p →
      ReadsBack Fine read f k shape p (record { kind = k; meaning = datum value } ∷ [])
  by_datum k None value p held h = absurd cc
  by_datum k (Some shape) value p held h =
      let w = datum_written shape value (is_fine _ p h) in
      let same : written shape value ≡ p = good_same _ _ _ w.payload.is h in
      subst
      (λ (q : List ℕ). ReadsBack Fine read f k (Some shape) q
      (record { kind = k; meaning = datum value } ∷ []))
      same
      (record {
        is_bytes = bytes_again shape value w.suits held;
        fine =
            subst
            (λ (o : Option Rows). IsCanonicalPayload Fine o (Some shape) (written shape value))
            (sym (plain_alone f shape (suits_plain shape value w.suits)))
            (fine_again shape value w.suits held);
        reads_as =
            ap (λ (o : Option Rows). entries_of read k o (Some shape) (written shape value))
            (plain_alone f shape (suits_plain shape value w.suits))
            ∙ ap (λ (m : Result Value Cause).
            record { kind = k; meaning = datum_or_bytes (written shape value) m } ∷ [])
            (read_again shape value w.suits held);
      })

  by_raw : (k : ℕ) (shape : Option Shape) (own p : List ℕ) → IsBytes own →
      raw_payload shape own ≡ Ok p →
      ReadsBack Fine read f k shape p (record { kind = k; meaning = raw own } ∷ [])
  by_raw k shape own p held h =
      let w = raw_written shape own (is_fine _ p h) in
      let same : own ≡ p = good_same _ _ _ w.is h in
      subst
      (λ (q : List ℕ). ReadsBack Fine read f k shape q
      (record { kind = k; meaning = raw own } ∷ []))
      same
      (record { is_bytes = held; fine = fine_raw shape h; reads_as = alone shape h })
    where
      tested : (shape : Shape) (b : Bool) → is_canonical_payload shape own ≡ b →
          cond b (short own) (refused cause.Bytes) ≡ Ok p → is_canonical_payload shape own ≡ true
      tested shape true e h = e
      tested shape false e h = absurd cc

      fine_raw : (shape : Option Shape) → raw_payload shape own ≡ Ok p →
          IsCanonicalPayload Fine (rows_in f shape) shape own
      fine_raw None h = tt
      fine_raw (Some shape) h =
          let t = tested shape (is_canonical_payload shape own) refl h in
          subst (λ (o : Option Rows). IsCanonicalPayload Fine o (Some shape) own)
          (sym (raw_alone f shape own t))
          (record {
            accepted = λ plain. absurd (raw_not_plain shape own t plain);
            same = λ plain. absurd (raw_not_plain shape own t plain);
            exact = λ no. t;
          })

      alone : (shape : Option Shape) → raw_payload shape own ≡ Ok p →
          entries_of read k (rows_in f shape) shape own
          ≡ record { kind = k; meaning = raw own } ∷ []
      alone None h = refl
      alone (Some shape) h =
          let t = tested shape (is_canonical_payload shape own) refl h in
          ap (λ (o : Option Rows). entries_of read k o (Some shape) own)
          (raw_alone f shape own t)
          ∙ ap (λ m. record { kind = k; meaning = m } ∷ []) (raw_again shape own t)

  by_list : (k : ℕ) (shape : Option Shape) (n : ℕ) (more : List BuildValue) (p : List ℕ) →
      AllByRecursion IsHeld more → n ≤ length more →
      list_payload inside (opened f shape n (length more)) n more ≡ Ok p →
      ReadsBack Fine read f k shape p
      (record { kind = k; meaning = list n } ∷ map entry_of (take n more))
  by_list k None n more p held few h = absurd cc
  by_list k (Some shape) n more p held few h = go (rows_in f (Some shape)) refl h
    where
      size : length (map entry_of (take n more)) ≡ n
      size = length-map (take n more) entry_of ∙ length-take-le n more few

      go : (o : Option Rows) → rows_in f (Some shape) ≡ o →
          list_payload inside (opened_by o n (length more)) n more ≡ Ok p →
          ReadsBack Fine read f k (Some shape) p
          (record { kind = k; meaning = list n } ∷ map entry_of (take n more))
      go None is h = absurd cc
      go (Some inner) is h = fitting (nat_le n (length more)) h
        where
          fitting : (b : Bool) →
              list_payload inside (cond b (Ok inner) (refused cause.Count)) n more ≡ Ok p →
              ReadsBack Fine read f k (Some shape) p
              (record { kind = k; meaning = list n } ∷ map entry_of (take n more))
          fitting false h = absurd cc
          fitting true h =
              let both = back inner (take n more) p (held_take n more held) h in
              record {
                is_bytes = both.0;
                fine =
                    subst (λ (o : Option Rows). IsCanonicalPayload Fine o (Some shape) p)
                    (sym is) both.2;
                reads_as =
                    ap (λ (o : Option Rows). entries_of read k o (Some shape) p) is
                    ∙ ap (λ (es : List Entry).
                    record { kind = k; meaning = list (length es) } ∷ es) both.1
                    ∙ ap (λ (j : ℕ).
                    record { kind = k; meaning = list j } ∷ map entry_of (take n more)) size;
              }

  -- what a value and those inside it read as
  abbrev entries_at : BuildValue → List BuildValue → List Entry
  entries_at v more = entry_of v ∷ map entry_of (take (inside_count v.value) more)

  value_back : (v : BuildValue) (more : List BuildValue) (p : List ℕ) → IsHeld v →
      AllByRecursion IsHeld more → payload_with inside f v more ≡ Ok p →
      ReadsBack Fine read f v.kind (shape_in f v.kind) p (entries_at v more)
  value_back v more p held all h = go v.value refl held
    where
      ok : IsOk (payload_with inside f v more)
      ok = is_fine _ p h

      go : (value : BuildDatum) → v.value ≡ value → IsHeldDatum value →
          ReadsBack Fine read f v.kind (shape_in f v.kind) p (entries_at v more)
      go value is held =
          subst
          (λ (x : BuildDatum). ReadsBack Fine read f v.kind (shape_in f v.kind) p
          (record { kind = v.kind; meaning = meaning_of x }
          ∷ map entry_of (take (inside_count x) more))) (sym is)
          (by value held (sym (as_given inside f v more ok value is) ∙ h)
          (subst (λ (x : BuildDatum). inside_count x ≤ length more) is (few inside f v more ok)))
        where
          by : (value : BuildDatum) → IsHeldDatum value →
              payload_in inside f (shape_in f v.kind) value more ≡ Ok p →
              inside_count value ≤ length more →
              ReadsBack Fine read f v.kind (shape_in f v.kind) p
              (record { kind = v.kind; meaning = meaning_of value }
              ∷ map entry_of (take (inside_count value) more))
          by (given.Datum d) held e few =
              by_datum v.kind (shape_in f v.kind) (value_of d) p held e
          by (given.Raw b) held e few =
              by_raw v.kind (shape_in f v.kind) b.now p held e
          by (given.List n) held e few =
              by_list v.kind (shape_in f v.kind) n more p all few e

  -- ---- a list of values

  list_same : (a b : List Attribute) →
      (let r : Result (List Attribute) BuildError = Ok a in r) ≡ Ok b → a ≡ b
  list_same a b e = cc

  ok_bytes : (r : Result (List ℕ) BuildError) → IsOk r → r ≡ Ok (bytes_in r)
  ok_bytes (Ok p) h = refl
  ok_bytes (Err e) h = absurd cc

  pub list_back : (n used : ℕ) (vs : List BuildValue) (attrs : List Attribute) → length vs ≤ n →
      used ≤ 65531 → AllByRecursion IsHeld vs → attributes_with inside f used 0 vs ≡ Ok attrs →
      ListBack Fine read f used vs attrs
  list_back n used [] attrs le low held h =
      subst (λ (l : List Attribute). ListBack Fine read f used [] l) (list_same [] attrs h)
      (record { attributes = tt; fine = tt; reads_as = refl; short = omega (arith, low) })
  list_back zero used (v ∷ more) attrs le low held h = absurd (omega (arith, le))
  list_back (suc n) used (v ∷ more) attrs le low held h =
      go
      (λ rest is.
      list_back n (used + buffer_len_of one) (drop count more) rest
      (omega (arith, le, length-drop count more)) first.fits (held_drop count more held.1) is)
      (attributes_with inside f (used + buffer_len_of one) 0 (drop count more)) refl
      (sym first.list ∙ h)
    where
      first : Goes inside f used v more
      first = goes inside f used v more (is_fine _ attrs h)

      count : ℕ
      count = inside_count v.value

      payload : List ℕ
      payload = bytes_in (payload_with inside f v more)

      one : Attribute
      one = attribute_of f v payload

      reads_back :
          ReadsBack Fine read f v.kind (shape_in f v.kind) payload (entries_at v more)
      reads_back = value_back v more payload held.0 held.1 (ok_bytes _ first.payload)

      small : v.kind < 16384
      small = kind_low inside f v more first.payload

      go : ((rest : List Attribute) →
          attributes_with inside f (used + buffer_len_of one) 0 (drop count more) ≡ Ok rest →
          ListBack Fine read f (used + buffer_len_of one) (drop count more) rest) →
          (r : Result (List Attribute) BuildError) →
          attributes_with inside f (used + buffer_len_of one) 0 (drop count more) ≡ r →
          after (1 + count) (with_first one r) ≡ Ok attrs →
          ListBack Fine read f used (v ∷ more) attrs
      go again (Err e) is k = absurd cc
      go again (Ok rest) is k =
          let later = again rest is in
          subst (λ (l : List Attribute). ListBack Fine read f used (v ∷ more) l)
          (list_same (one ∷ rest) attrs k)
          (record {
            attributes = (
              record {
                kind = kind_fits f v.kind small;
                short = omega (arith, first.fits);
                bytes = reads_back.is_bytes;
              },
              later.attributes,
            );
            fine = (
              record {
                kind = ap (λ (j : ℕ). kind_written f j) (sym (kind_back f v.kind small));
                payload =
                    subst (λ (j : ℕ). IsCanonicalPayload Fine (rows_in f (shape_in f j))
                    (shape_in f j) payload) (sym (kind_back f v.kind small))
                    reads_back.fine;
              },
              later.fine,
            );
            reads_as =
                ap (λ (j : ℕ). entries_in read f j payload
                ++ entries_among read f (nla_items_of rest [])) (kind_back f v.kind small)
                ∙ (λ i. reads_back.reads_as i ++ later.reads_as i)
                ∙ ap (λ (es : List Entry). entry_of v ∷ es)
                (sym (map-append entry_of (take count more) (drop count more))
                ∙ ap (λ (vs : List BuildValue). map entry_of vs) (take-append-drop count more));
            short = omega (arith, later.short, length-list_string-cons one rest);
          })

-- ---- lists in lists

pub items_are : (attrs : List Attribute) → nla_items_of attrs [] ≡ map (λ a. Ok a) attrs
items_are [] = refl
items_are (a ∷ more) = ap (λ (ps : List (Result Attribute ℕ)). Ok a ∷ ps) (items_are more)

listed : (k : ℕ) (f : Rows) (vs : List BuildValue) (attrs : List Attribute) →
    ListBack (IsCanonicalUpTo k) (values_up_to k) f 0 vs attrs →
    IsListOf (IsCanonicalUpTo k) f (list_string attrs)
listed k f vs attrs b = record {
  attributes = attrs;
  framed = nla_items-list_string attrs b.attributes ∙ items_are attrs;
  encoded = refl;
  each = b.fine;
}

pub level : (k : ℕ) (f : Rows) (vs : List BuildValue) (p : List ℕ) → AllByRecursion IsHeld vs →
    list_up_to k f vs ≡ Ok p →
    IsBytes p × (values_up_to k f p ≡ map entry_of vs) × IsCanonicalUpTo k f p
unfolding list_up_to values_up_to IsCanonicalUpTo
level zero f vs p held h = absurd cc
level (suc k) f vs p held h =
    go
    (λ attrs is.
    list_back (list_up_to k) (IsCanonicalUpTo k) (values_up_to k) (level k) f (length vs) 0 vs
    attrs (omega arith) (omega arith) held is)
    (attributes_with (list_up_to k) f 0 0 vs) refl h
  where
    go : ((attrs : List Attribute) → attributes_with (list_up_to k) f 0 0 vs ≡ Ok attrs →
        ListBack (IsCanonicalUpTo k) (values_up_to k) f 0 vs attrs) →
        (r : Result (List Attribute) BuildError) → attributes_with (list_up_to k) f 0 0 vs ≡ r →
        after 1 (map_ok list_string r) ≡ Ok p →
        IsBytes p × (entries_among (values_up_to k) f (nla_items p) ≡ map entry_of vs)
        × IsListOf (IsCanonicalUpTo k) f p
    go back (Err e) is h = absurd cc
    go back (Ok attrs) is h =
        let b = back attrs is in
        subst
        (λ (q : List ℕ). IsBytes q
        × (entries_among (values_up_to k) f (nla_items q) ≡ map entry_of vs)
        × IsListOf (IsCanonicalUpTo k) f q)
        (good_same (list_string attrs) p (Ok (list_string attrs)) refl h) (
          IsBytes-list_string attrs b.attributes,
          ap (λ (ps : List (Result Attribute ℕ)). entries_among (values_up_to k) f ps)
              (nla_items-list_string attrs b.attributes)
              ∙ b.reads_as,
          listed k f vs attrs b,
        )

-- ---- arrays

pub whole : (f : Rows) (vs : List BuildValue) (attrs : List Attribute) →
    AllByRecursion IsHeld vs → attributes_of f vs ≡ Ok attrs →
    ListBack (IsCanonicalUpTo 8) (values_up_to 8) f 0 vs attrs
unfolding attributes_of
whole f vs attrs held h =
    list_back (list_up_to 8) (IsCanonicalUpTo 8) (values_up_to 8) (level 8) f (length vs) 0 vs
    attrs (omega arith) (omega arith) held h

-- the attributes whose encoding it is
pub record Encodes (f : Rows) (vs : List BuildValue) (p : List ℕ) : Type 0 where
  pub attrs : List Attribute
  pub are : attributes_of f vs ≡ Ok attrs
  pub is : list_string attrs ≡ p

pub encodes : (f : Rows) (vs : List BuildValue) (p : List ℕ) → encoding f vs ≡ Ok p →
    Encodes f vs p
unfolding encoding
encodes f vs p h = go (attributes_of f vs) refl h
  where
    go : (r : Result (List Attribute) BuildError) → attributes_of f vs ≡ r →
        map_ok list_string r ≡ Ok p → Encodes f vs p
    go (Err e) is h = absurd cc
    go (Ok attrs) is h = record {
      attrs = attrs;
      are = is;
      is = good_same (list_string attrs) p (Ok (list_string attrs)) refl h;
    }

pub values_are : (f : Rows) (vs : List BuildValue) (p : List ℕ) → AllByRecursion IsHeld vs →
    encoding f vs ≡ Ok p → values_of f p ≡ map entry_of vs
unfolding values_of values_up_to
values_are f vs p held h =
    let e = encodes f vs p h in
    let b = whole f vs e.attrs held e.are in
    ap (λ (q : List ℕ). entries_among (values_up_to 8) f (nla_items q)) (sym e.is)
    ∙ ap (λ (ps : List (Result Attribute ℕ)). entries_among (values_up_to 8) f ps)
    (nla_items-list_string e.attrs b.attributes)
    ∙ b.reads_as

pub canonical_list : (f : Rows) (vs : List BuildValue) (p : List ℕ) →
    AllByRecursion IsHeld vs → encoding f vs ≡ Ok p → IsCanonicalList f p
unfolding IsCanonicalList IsCanonicalUpTo
canonical_list f vs p held h =
    let e = encodes f vs p h in
    subst (λ (q : List ℕ). IsListOf (IsCanonicalUpTo 8) f q) e.is
    (listed 8 f vs e.attrs (whole f vs e.attrs held e.are))
