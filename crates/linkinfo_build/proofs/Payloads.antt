-- The payload of a value that has one.
use Rattle.std.proofs.Common.{
  ◌≡◌,
  ◌<◌,
  ◌≤◌,
  ℕ,
  Bool,
  true,
  false,
  cond,
  nat_le,
  nat_lt,
  List,
  length,
  take,
  Option,
  Some,
  None,
  Result,
  Ok,
  Err,
  IsOk,
  refl,
  sym,
  ap,
  subst,
  ◌∙◌,
  arith,
}
use Rattle.std.proofs.lemmas.Bool.{leb-true, ltb-false}
use denote.Ref.{Bor}
use Rattle.linkinfo_shapes.specs.Data.{Suits, Value, value_of, written}
use Rattle.linkinfo_shapes.specs.declared.datum.Datum.{Datum}
use Rattle.linkinfo_shapes.specs.declared.shape.Shape.{Shape}
use Rattle.linkinfo_build.specs.Build.{
  datum_payload,
  inside_count,
  list_payload,
  opened,
  opened_by,
  payload_in,
  payload_with,
  raw_payload,
  refused,
  short,
}
use Rattle.linkinfo_build.specs.Bytes.{is_canonical_payload}
use Rattle.linkinfo_build.specs.Rows.{rows_in, shape_in}
use Rattle.linkinfo_build.specs.Suits.{is_suited}
use Rattle.linkinfo_build.specs.declared.rows.Rows.{Rows}
use Rattle.linkinfo_build.specs.declared.value.BuildCause.{BuildCause}
use Rattle.linkinfo_build.specs.declared.value.BuildCause.TheVariants as cause
use Rattle.linkinfo_build.specs.declared.value.BuildDatum.{BuildDatum}
use Rattle.linkinfo_build.specs.declared.value.BuildDatum.TheVariants as given
use Rattle.linkinfo_build.specs.declared.value.BuildError.{BuildError}
use Rattle.linkinfo_build.specs.declared.value.BuildValue.{BuildValue}
use Rattle.linkinfo_build.proofs.Suited.{suited}

-- a result that a test lets through
by_test : {X : Type 0} (b : Bool) (r : Result X BuildError) (c : BuildCause) →
    IsOk (cond b r (refused c)) → (b ≡ true) × (cond b r (refused c) ≡ r) × IsOk r
by_test true r c h = (refl, refl, h)
by_test false r c h = absurd cc

-- bytes that are no payload that is too long
pub record IsShort (r : Result (List ℕ) BuildError) (bytes : List ℕ) : Type 0 where
  pub is : r ≡ Ok bytes
  pub short : length bytes ≤ 65531

short_ok : (bytes : List ℕ) → IsOk (short bytes) → IsShort (short bytes) bytes
short_ok bytes h =
    let t = by_test (nat_le (length bytes) 65531) (Ok bytes) cause.TooLong h in
    record { is = t.1; short = leb-true (length bytes) 65531 t.0 }

-- ---- data

-- a datum that is written
pub record IsWritten (shape : Shape) (value : Value) : Type 0 where
  pub suits : Suits shape value
  pub payload : IsShort (datum_payload (Some shape) value) (written shape value)

pub datum_written : (shape : Shape) (value : Value) → IsOk (datum_payload (Some shape) value) →
    IsWritten shape value
datum_written shape value h =
    let t = by_test (is_suited shape value) (short (written shape value)) cause.Datum h in
    let s = short_ok (written shape value) t.2 in
    record {
      suits = suited shape value t.0;
      payload = record { is = t.1 ∙ s.is; short = s.short };
    }

-- ---- bytes

pub raw_written : (shape : Option Shape) (bytes : List ℕ) → IsOk (raw_payload shape bytes) →
    IsShort (raw_payload shape bytes) bytes
raw_written None bytes h = short_ok bytes h
raw_written (Some shape) bytes h =
    let t = by_test (is_canonical_payload shape bytes) (short bytes) cause.Bytes h in
    let s = short_ok bytes t.2 in
    record { is = t.1 ∙ s.is; short = s.short }

-- ---- any value

module _ (inside : Rows → List BuildValue → Result (List ℕ) BuildError) (f : Rows)
    (v : BuildValue) (more : List BuildValue) where
  abbrev payload : Result (List ℕ) BuildError
  payload = payload_with inside f v more

  abbrev within : BuildDatum → Result (List ℕ) BuildError
  within value = payload_in inside f (shape_in f v.kind) value more

  no_flags : IsOk payload → (v.kind < 16384) × (payload ≡ within v.value)
  unfolding payload_with
  no_flags h = go (nat_lt 16383 v.kind) refl h
    where
      go : (b : Bool) → nat_lt 16383 v.kind ≡ b →
          IsOk (cond b (refused cause.Flags) (within v.value)) →
          (v.kind < 16384) × (cond b (refused cause.Flags) (within v.value) ≡ within v.value)
      go true e h = absurd cc
      go false e h = (omega (arith, ltb-false 16383 v.kind e), refl)

  pub low : IsOk payload → v.kind < 16384
  low h = (no_flags h).0

  pub as_given : IsOk payload → (value : BuildDatum) → v.value ≡ value → payload ≡ within value
  as_given h value is = (no_flags h).1 ∙ ap within is

  -- as many values follow as are inside
  follow : (value : BuildDatum) → IsOk (within value) → inside_count value ≤ length more
  follow (given.Datum d) h = omega arith
  follow (given.Raw bytes) h = omega arith
  follow (given.List n) h = counted (shape_in f v.kind) h
    where
      by : (inner : Option Rows) →
          IsOk (list_payload inside (opened_by inner n (length more)) n more) → n ≤ length more
      by None h = absurd cc
      by (Some inner) h = go (nat_le n (length more)) refl h
        where
          go : (b : Bool) → nat_le n (length more) ≡ b →
              IsOk (list_payload inside (cond b (Ok inner) (refused cause.Count)) n more) →
              n ≤ length more
          go true e h = leb-true n (length more) e
          go false e h = absurd cc

      counted : (shape : Option Shape) →
          IsOk (list_payload inside (opened f shape n (length more)) n more) → n ≤ length more
      counted None h = absurd cc
      counted (Some shape) h = by (rows_in f (Some shape)) h

  pub few : IsOk payload → inside_count v.value ≤ length more
  few h = follow v.value (subst (λ (r : Result (List ℕ) BuildError). IsOk r) (no_flags h).1 h)

  pub by_datum : IsOk payload → (shape : Option Shape) → shape ≡ shape_in f v.kind →
      (d : Datum) → v.value ≡ given.Datum d → payload ≡ datum_payload shape (value_of d)
  by_datum h shape same d is =
      as_given h (given.Datum d) is
      ∙ ap (λ (s : Option Shape). datum_payload s (value_of d)) (sym same)

  pub by_raw : IsOk payload → (bytes : Bor (List ℕ)) → v.value ≡ given.Raw bytes →
      payload ≡ Ok bytes.now
  by_raw h bytes is =
      let e = as_given h (given.Raw bytes) is in
      e
      ∙ (raw_written (shape_in f v.kind) bytes.now
      (subst (λ (r : Result (List ℕ) BuildError). IsOk r) e h)).is

  module _ (h : IsOk payload) (shape : Option Shape) (same : shape ≡ shape_in f v.kind)
      (n : ℕ) (is : v.value ≡ given.List n) where
    by_list : payload ≡ list_payload inside (opened f shape n (length more)) n more
    by_list =
        as_given h (given.List n) is
        ∙ ap (λ (s : Option Shape). list_payload inside (opened f s n (length more)) n more)
        (sym same)

    pub into_list : (inner : Rows) → opened f shape n (length more) ≡ Ok inner →
        payload ≡ inside inner (take n more)
    into_list inner e =
        by_list ∙ ap (λ (r : Result Rows BuildError). list_payload inside r n more) e

    pub no_error : (e : BuildError) → opened f shape n (length more) ≡ Err e → ⊥
    no_error e k =
        refuse
        (by_list ∙ ap (λ (r : Result Rows BuildError). list_payload inside r n more) k) h
      where
        refuse : payload ≡ Err e → IsOk payload → ⊥
        refuse x y = absurd cc
