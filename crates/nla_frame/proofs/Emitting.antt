-- Attributes written into a buffer.
use Rattle.std.proofs.Common.{
  ◌≡◌,
  ℕ,
  ◌+◌,
  ◌-◌,
  ◌<◌,
  ◌≤◌,
  List,
  [],
  ◌∷◌,
  ◌++◌,
  length,
  take,
  drop,
  map,
  get_or,
  refl,
  sym,
  ap,
  subst,
  ◌∙◌,
  append_assoc,
  arith,
}
use Rattle.std.specs.List.{AllByRecursion}
use Rattle.std.proofs.lemmas.List.{
  take_at,
  drop_at,
  length-append,
  length-take,
  length-drop,
  length-replicate,
  append-nil,
  drop-drop,
  take-append-drop,
  drop_all,
  take_all,
  at_drop_more,
}
use borrow.Rule.Slice.PartMut.{put_mid}
use Rattle.nla_frame.specs.Attribute.{
  Attribute,
  Fits,
  ListFits,
  pad,
  aligned,
  canonical_string,
  list_string,
  buffer_len_of,
}

-- ---- lengths

pub length-canonical_string : (a : Attribute) → length (canonical_string a) ≡ buffer_len_of a
length-canonical_string a = simp (length-append, length-replicate) (omega arith)

length-two : (xs ys : List ℕ) → length (xs ++ ys) ≡ length xs + length ys
length-two xs ys = simp length-append refl

pub length-list_string-cons : (a : Attribute) (more : List Attribute) →
    length (list_string (a ∷ more)) ≡ buffer_len_of a + length (list_string more)
length-list_string-cons a more =
    length-two (canonical_string a) (list_string more)
    ∙ ap (λ (n : ℕ). n + length (list_string more)) (length-canonical_string a)

-- a payload inside a list that fits, fits
pub fits_inside : (attributes : List Attribute) → length (list_string attributes) ≤ 65531 →
    AllByRecursion Fits attributes
fits_inside [] h = tt
fits_inside (a ∷ more) h = (
  omega (arith, h, length-list_string-cons a more),
  fits_inside more (omega (arith, h, length-list_string-cons a more)),
)

pub list_fits : (attributes : List Attribute) → length (list_string attributes) ≤ 65531 →
    ListFits attributes
list_fits attributes h = record { each = fits_inside attributes h; total = omega (arith, h) }

pub one_fits : (a : Attribute) → length (canonical_string a) ≤ 65531 → Fits a
one_fits a h = omega (arith, h, length-canonical_string a)

-- a payload that is as long as the buffer it is written to is the whole buffer
pub whole : (value old : List ℕ) → length old ≡ length value →
    value ++ drop (length value) old ≡ value
whole value old e =
    ap (λ (x : List ℕ). value ++ x) (drop_all (length value) old (omega (arith, e)))
    ∙ append-nil value

-- ---- one attribute: its value at offset 4, then header and zeros around it

framed_at : (a : Attribute) (old value : List ℕ) (len kind : ℕ) → len ≡ length a.value →
    kind ≡ a.kind → buffer_len_of a ≤ length old → value ≡ a.value →
    canonical_string (record { kind = kind; value = take len (drop 4 (put_mid 4 len old value)) })
    ++ drop (4 + aligned len) (put_mid 4 len old value)
    ≡ canonical_string a ++ drop (buffer_len_of a) old
framed_at a old value len kind size same room written =
    let tail : List ℕ = drop len (drop 4 old) in
    let after : drop 4 (put_mid 4 len old value) ≡ value ++ tail =
    drop_at (take 4 old) (value ++ tail) 4 (omega (arith, length-take 4 old, room)) in
    let long : length value ≡ len = ap length written ∙ sym size in
    let inside : take len (drop 4 (put_mid 4 len old value)) ≡ a.value =
    ap (λ (x : List ℕ). take len x) after ∙ take_at value tail len long ∙ written in
    let rest : drop (4 + aligned len) (put_mid 4 len old value) ≡ drop (buffer_len_of a) old =
    sym (drop-drop (aligned len) 4 (put_mid 4 len old value))
    ∙ ap (λ (x : List ℕ). drop (aligned len) x) after
    ∙ sym (drop-drop (pad len) len (value ++ tail))
    ∙ ap (λ (x : List ℕ). drop (pad len) x) (drop_at value tail len long)
    ∙ drop-drop (pad len) len (drop 4 old)
    ∙ drop-drop (aligned len) 4 old
    ∙ ap (λ (n : ℕ). drop (4 + aligned n) old) size in
    (λ i. canonical_string (record { kind = same i; value = inside i }) ++ rest i)

-- ---- a text written at an offset

pub placed : (buffer : List ℕ) (at k n : ℕ) (text new : List ℕ) → k ≡ length buffer - at →
    new ≡ text ++ drop n (take k (drop at buffer)) →
    put_mid at k buffer new ≡ take at buffer ++ (text ++ drop (at + n) buffer)
placed buffer at k n text new size e =
    let none : drop k (drop at buffer) ≡ [] =
    drop_all k (drop at buffer) (omega (arith, length-drop at buffer, size)) in
    let all : take k (drop at buffer) ≡ drop at buffer =
    take_all k (drop at buffer) (omega (arith, length-drop at buffer, size)) in
    ap (λ (x : List ℕ). take at buffer ++ (new ++ x)) none
    ∙ ap (λ (x : List ℕ). take at buffer ++ x)
    (append-nil new
    ∙ e
    ∙ ap (λ (x : List ℕ). text ++ drop n x) all
    ∙ ap (λ (x : List ℕ). text ++ x) (drop-drop n at buffer))

pub take_placed : (buffer : List ℕ) (at n : ℕ) (text : List ℕ) → at ≤ length buffer →
    length text ≡ n →
    take (at + n) (take at buffer ++ (text ++ drop (at + n) buffer)) ≡ take at buffer ++ text
take_placed buffer at n text h e =
    ap (λ (x : List ℕ). take (at + n) x)
    (sym (append_assoc (take at buffer) text (drop (at + n) buffer)))
    ∙ take_at (take at buffer ++ text) (drop (at + n) buffer) (at + n)
    (simp length-append (omega (arith, length-take at buffer, e)))

pub drop_placed : (buffer : List ℕ) (at n : ℕ) (text : List ℕ) → at ≤ length buffer →
    length text ≡ n →
    drop (at + n) (take at buffer ++ (text ++ drop (at + n) buffer)) ≡ drop (at + n) buffer
drop_placed buffer at n text h e =
    ap (λ (x : List ℕ). drop (at + n) x)
    (sym (append_assoc (take at buffer) text (drop (at + n) buffer)))
    ∙ drop_at (take at buffer ++ text) (drop (at + n) buffer) (at + n)
    (simp length-append (omega (arith, length-take at buffer, e)))

-- a payload written after the space for its header, and then header and padding around it; `rest`
-- is what follows the header once the payload is written
pub framed_after : (a : Attribute) (old rest : List ℕ) (len width kind : ℕ) →
    len ≡ length a.value → width ≡ length old - 4 → kind ≡ a.kind → buffer_len_of a ≤ length old →
    rest ≡ a.value ++ drop (length a.value) (take width (drop 4 old)) →
    canonical_string (record { kind = kind; value = take len (drop 4 (put_mid 4 width old rest)) })
    ++ drop (4 + aligned len) (put_mid 4 width old rest)
    ≡ canonical_string a ++ drop (buffer_len_of a) old
framed_after a old rest len width kind size wide same room written =
    let as_value : put_mid 4 width old rest ≡ put_mid 4 len old a.value =
    placed old 4 width (length a.value) a.value rest wide written
    ∙ ap (λ (n : ℕ). take 4 old ++ (a.value ++ drop (4 + n) old)) (sym size)
    ∙ ap (λ (tail : List ℕ). take 4 old ++ (a.value ++ tail)) (sym (drop-drop len 4 old)) in
    ap (λ (b : List ℕ). canonical_string (record { kind = kind; value = take len (drop 4 b) })
    ++ drop (4 + aligned len) b) as_value
    ∙ framed_at a old a.value len kind size same room refl

-- ---- a byte string written step by step: into a buffer up to an offset, with the rest of it still
-- to be written

pub record Written (whole left : List ℕ) (at : ℕ) (old buffer : List ℕ) : Type 0 where
  pub place : at + length left ≡ length whole
  pub kept : drop at buffer ≡ drop at old
  pub written : take at buffer ++ left ≡ whole

pub nothing_written : (whole old : List ℕ) → Written whole whole 0 old old
nothing_written whole old = record { place = omega arith; kept = refl; written = refl }

-- one text more: `chunk` is the buffer from that offset on
pub write_text : (whole left text more : List ℕ) (at : ℕ) (old buffer : List ℕ) →
    Written whole left at old buffer → left ≡ text ++ more →
    length whole ≤ length buffer → (n : ℕ) → n ≡ length text → (k : ℕ) → k ≡ length buffer - at →
    (chunk : List ℕ) →
    chunk ≡ text ++ drop n (take k (drop at buffer)) →
    Written whole more (at + n) old (put_mid at k buffer chunk)
write_text whole left text more at old buffer before one room n size k wide chunk new =
    let long : length text ≡ n = sym size in
    let within : at ≤ length buffer = omega (arith, before.place, room) in
    let now = placed buffer at k n text chunk wide new in
    record {
      place = omega (arith, before.place, ap length one, length-append text more, long);
      kept =
          ap (λ y. drop (at + n) y) now
          ∙ drop_placed buffer at n text within long
          ∙ sym (drop-drop n at buffer)
          ∙ ap (λ y. drop n y) before.kept
          ∙ drop-drop n at old;
      written =
          ap (λ y. take (at + n) y ++ more) now
          ∙ ap (λ y. y ++ more) (take_placed buffer at n text within long)
          ∙ append_assoc (take at buffer) text more
          ∙ ap (λ y. take at buffer ++ y) (sym one)
          ∙ before.written;
    }

-- nothing left
pub all_taken : (whole left : List ℕ) (at : ℕ) (old buffer : List ℕ) →
    Written whole left at old buffer → left ≡ [] → at ≡ length whole
all_taken whole left at old buffer w none = omega (arith, w.place, ap length none)

pub all_written : (whole left : List ℕ) (at : ℕ) (old buffer : List ℕ) →
    Written whole left at old buffer → left ≡ [] → buffer ≡ whole ++ drop (length whole) old
all_written whole left at old buffer w none =
    let front : take at buffer ≡ whole =
    sym (append-nil (take at buffer)) ∙ ap (λ y. take at buffer ++ y) (sym none) ∙ w.written in
    sym (take-append-drop at buffer)
    ∙ (λ i. front i ++ w.kept i)
    ∙ ap (λ (n : ℕ). whole ++ drop n old) (all_taken whole left at old buffer w none)

-- ---- one item more

pub one_more : {X : Type 0} (f : X → Attribute) (xs : List X) (i : ℕ) (x : X) → i < length xs →
    x ≡ get_or xs i x →
    list_string (map f (drop i xs))
    ≡ canonical_string (f x) ++ list_string (map f (drop (i + 1) xs))
one_more f xs i x h e =
    at_drop_more (λ ys. list_string (map f ys)) xs i x h
    ∙ ap (λ y. canonical_string (f y) ++ list_string (map f (drop (i + 1) xs))) (sym e)

pub fits_more : {X : Type 0} (f : X → Attribute) (xs : List X) (i : ℕ) (x : X) → i < length xs →
    x ≡ get_or xs i x →
    AllByRecursion Fits (map f (drop i xs)) →
    Fits (f x) × AllByRecursion Fits (map f (drop (i + 1) xs))
fits_more f xs i x h e all =
    let both : AllByRecursion Fits (map f (get_or xs i x ∷ drop (i + 1) xs)) =
    rw (at_drop_more (λ ys. map f ys) xs i x h) at all in
    (subst (λ y. Fits (f y)) (sym e) both.0, both.1)

-- a list written into a buffer up to an offset, with the items from one on still to be written
pub record WrittenUpTo {X : Type 0} (f : X → Attribute) (xs : List X) (i at : ℕ)
    (old buffer : List ℕ) : Type 0 where
  pub place : at + length (list_string (map f (drop i xs))) ≡ length (list_string (map f xs))
  pub each : AllByRecursion Fits (map f (drop i xs))
  pub kept : drop at buffer ≡ drop at old
  pub written : take at buffer ++ list_string (map f (drop i xs)) ≡ list_string (map f xs)

-- one item more: `chunk` is the buffer from that offset on
pub write_one : {X : Type 0} (f : X → Attribute) (xs : List X) (i at : ℕ) (old buffer : List ℕ) →
    WrittenUpTo f xs i at old buffer →
    length (list_string (map f xs)) ≤ length buffer → (x : X) → i < length xs → x ≡ get_or xs i x →
    (n : ℕ) → n ≡ buffer_len_of (f x) →
    (k : ℕ) → k ≡ length buffer - at → (chunk : List ℕ) →
    chunk ≡ canonical_string (f x) ++ drop n (take k (drop at buffer)) →
    WrittenUpTo f xs (i + 1) (at + n) old (put_mid at k buffer chunk)
write_one f xs i at old buffer before room x more is n size k wide chunk new =
    let so_far : Written (list_string (map f xs)) (list_string (map f (drop i xs))) at old buffer =
    record { place = before.place; kept = before.kept; written = before.written } in
    let now =
    write_text (list_string (map f xs)) (list_string (map f (drop i xs))) (canonical_string (f x))
    (list_string (map f (drop (i + 1) xs))) at old buffer so_far
    (one_more f xs i x more is) room n (size ∙ sym (length-canonical_string (f x))) k wide chunk
    new in
    record {
      place = now.place;
      each = (fits_more f xs i x more is before.each).1;
      kept = now.kept;
      written = now.written;
    }
