-- One flag after another, in the order of their places.
use Rattle.std.proofs.Common.{
  ◌≡◌,
  ℕ,
  suc,
  ◌+◌,
  ◌-◌,
  ◌<◌,
  ◌≤◌,
  Bool,
  true,
  false,
  cond,
  List,
  [],
  ◌∷◌,
  ◌++◌,
  Option,
  Some,
  None,
  refl,
  ap,
  ◌∙◌,
  arith,
}
use Rattle.serde_json.specs.Data.{Data, Members}
use Rattle.linkinfo_view.specs.Values.{
  Named,
  bits_from,
  names_from,
  options_from,
  over_flags,
  with_bit,
  with_name,
  with_option,
}
use Rattle.linkinfo_view.specs.View.{put_all}
use Rattle.linkinfo_view.specs.Words.{FlagRow, flag_at}
use Rattle.linkinfo_view.specs.declared.format.Flags.{Flags}

-- how many places are left before a place and after it
left_at : (place : ℕ) → place < 16 → 16 - place ≡ suc (16 - (place + 1))
left_at place h = omega arith

next_place : (place : ℕ) → suc place ≡ place + 1
next_place place = omega arith

put_bit_first : (o : Option FlagRow) (n : ℕ) (more : List Named) (ms : Members) →
    put_all (with_bit o n more) ms ≡ put_all more (put_all (with_bit o n []) ms)
put_bit_first None n more ms = refl
put_bit_first (Some flag) n more ms = refl

pub bits_step : (place : ℕ) (flags : Flags) (n : ℕ) (ms : Members) → place < 16 →
    put_all (bits_from (16 - place) place flags n) ms
    ≡ put_all (bits_from (16 - (place + 1)) (place + 1) flags n)
    (put_all (with_bit (flag_at flags place) n []) ms)
unfolding bits_from
bits_step place flags n ms h =
    ap (λ (k : ℕ). put_all (bits_from k place flags n) ms) (left_at place h)
    ∙ put_bit_first (flag_at flags place) n (bits_from (16 - (place + 1)) (suc place) flags n) ms
    ∙ ap (λ (p : ℕ). put_all (bits_from (16 - (place + 1)) p flags n)
    (put_all (with_bit (flag_at flags place) n []) ms)) (next_place place)

put_if_first : (b : Bool) (x : Named) (more : List Named) (ms : Members) →
    put_all (cond b (x ∷ more) more) ms ≡ put_all more (put_all (cond b (x ∷ []) []) ms)
put_if_first true x more ms = refl
put_if_first false x more ms = refl

put_option_first : (o : Option FlagRow) (n mask : ℕ) (more : List Named) (ms : Members) →
    put_all (with_option o n mask more) ms ≡ put_all more (put_all (with_option o n mask []) ms)
put_option_first None n mask more ms = refl
put_option_first (Some flag) n mask more ms = put_if_first _ _ more ms

pub options_step : (place : ℕ) (flags : Flags) (n mask : ℕ) (ms : Members) → place < 16 →
    put_all (options_from (16 - place) place flags n mask) ms
    ≡ put_all (options_from (16 - (place + 1)) (place + 1) flags n mask)
    (put_all (with_option (flag_at flags place) n mask []) ms)
unfolding options_from
options_step place flags n mask ms h =
    ap (λ (k : ℕ). put_all (options_from k place flags n mask) ms) (left_at place h)
    ∙ put_option_first (flag_at flags place) n mask
    (options_from (16 - (place + 1)) (suc place) flags n mask) ms
    ∙ ap (λ (p : ℕ). put_all (options_from (16 - (place + 1)) p flags n mask)
    (put_all (with_option (flag_at flags place) n mask []) ms)) (next_place place)

if_first : (b : Bool) (x : Data) (more : List Data) →
    cond b (x ∷ more) more ≡ cond b (x ∷ []) [] ++ more
if_first true x more = refl
if_first false x more = refl

name_first : (o : Option FlagRow) (n : ℕ) (more : List Data) →
    with_name o n more ≡ with_name o n [] ++ more
name_first None n more = refl
name_first (Some flag) n more = if_first _ _ more

pub names_step : (place : ℕ) (flags : Flags) (n : ℕ) → place < 16 →
    names_from (16 - place) place flags n
    ≡ with_name (flag_at flags place) n [] ++ names_from (16 - (place + 1)) (place + 1) flags n
unfolding names_from
names_step place flags n h =
    ap (λ (k : ℕ). names_from k place flags n) (left_at place h)
    ∙ name_first (flag_at flags place) n (names_from (16 - (place + 1)) (suc place) flags n)
    ∙ ap (λ (p : ℕ). with_name (flag_at flags place) n []
    ++ names_from (16 - (place + 1)) p flags n) (next_place place)

pub flags_step : {A : Type 0} (step : Option FlagRow → ℕ → A → A) (place : ℕ) (flags : Flags)
    (n : ℕ) (x : A) → place < 16 →
    over_flags step (16 - place) place flags n x
    ≡ over_flags step (16 - (place + 1)) (place + 1) flags n (step (flag_at flags place) n x)
unfolding over_flags
flags_step step place flags n x h =
    ap (λ (k : ℕ). over_flags step k place flags n x) (left_at place h)
    ∙ ap (λ (p : ℕ). over_flags step (16 - (place + 1)) p flags n
    (step (flag_at flags place) n x)) (next_place place)

none_left : (place : ℕ) → 16 ≤ place → 16 - place ≡ 0
none_left place h = omega arith

pub bits_end : (place : ℕ) (flags : Flags) (n : ℕ) → 16 ≤ place →
    bits_from (16 - place) place flags n ≡ []
unfolding bits_from
bits_end place flags n h = ap (λ (k : ℕ). bits_from k place flags n) (none_left place h)

pub options_end : (place : ℕ) (flags : Flags) (n mask : ℕ) → 16 ≤ place →
    options_from (16 - place) place flags n mask ≡ []
unfolding options_from
options_end place flags n mask h =
    ap (λ (k : ℕ). options_from k place flags n mask) (none_left place h)

pub names_end : (place : ℕ) (flags : Flags) (n : ℕ) → 16 ≤ place →
    names_from (16 - place) place flags n ≡ []
unfolding names_from
names_end place flags n h = ap (λ (k : ℕ). names_from k place flags n) (none_left place h)

pub flags_end : {A : Type 0} (step : Option FlagRow → ℕ → A → A) (place : ℕ) (flags : Flags)
    (n : ℕ) (x : A) → 16 ≤ place → over_flags step (16 - place) place flags n x ≡ x
unfolding over_flags
flags_end step place flags n x h =
    ap (λ (k : ℕ). over_flags step k place flags n x) (none_left place h)
