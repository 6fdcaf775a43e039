-- Names by the numbers of their bytes.
use Rattle.std.specs.Prelude.{
  ◌≡◌,
  ◌≤◌,
  ◌<◌,
  ◌==◌,
  ℕ,
  Bool,
  true,
  false,
  if◌then◌else◌,
  List,
  [],
  ◌∷◌,
  ◌++◌,
  ◌+◌,
  length,
  replicate,
  filter,
  refl,
}
use Rattle.std.specs.Prelude.{◌&&◌}
use Rattle.std.specs.Cmp.{first_so, second_so}
use Rattle.std.specs.Int.{Width, w32, w64, byte_len, from_le_bytes, to_le_bytes}
use Rattle.std.specs.List.{list_all, slice_index}
use Rattle.std.specs.Str.{bytes_eq}
use Rattle.std.proofs.Common.{arith, sym, ap, ◌∙◌, ltb, zero, suc, lit<}
use Rattle.std.proofs.lemmas.Bool.Decides.{Decides-eqb, Decides-ltb}
use Rattle.std.proofs.lemmas.Nat.{le_bytes_4, le_bytes_8}
use Rattle.std.proofs.lemmas.Slice.Eq.{bytes_eq-Decides}
use Rattle.nla_frame.specs.Attribute.{IsBytes}
use Rattle.linkinfo_numbers.specs.Table.{part_of_first}
use Rattle.linkinfo_numbers.specs.Tags.{is_ascii}

-- n bytes of a name from an offset on, with zeros after its end
abbrev pub bytes_from : ℕ → ℕ → List ℕ → List ℕ
bytes_from at zero name = []
bytes_from at (suc n) name = slice_index name at ∷ bytes_from (suc at) n name

-- the number of a name: its first bytes, as many as the width has, little-endian
abbrev pub number_of_name : Width → List ℕ → ℕ
number_of_name w name = from_le_bytes w (bytes_from 0 (byte_len w) name)

-- different bytes have different numbers of this width
abbrev pub TellsBytes : Width → Type 0
TellsBytes w =
    (bytes : List ℕ) (n : ℕ) → length bytes ≡ byte_len w → IsBytes bytes →
    n ≡ from_le_bytes w bytes → to_le_bytes w n ≡ bytes

pub tells_4 : TellsBytes w32
tells_4 = le_bytes_4

pub tells_8 : TellsBytes w64
tells_8 = le_bytes_8

len_from : (at n : ℕ) (name : List ℕ) → length (bytes_from at n name) ≡ n
len_from at zero name = refl
len_from at (suc n) name = ap suc (len_from (suc at) n name)

of_bytes_from : (at n : ℕ) (name : List ℕ) → IsBytes name → IsBytes (bytes_from at n name)
of_bytes_from at zero name h i = lit< tt
of_bytes_from at (suc n) name h zero = h at
of_bytes_from at (suc n) name h (suc i) = of_bytes_from (suc at) n name h i

bytes_from-cons : (at n b : ℕ) (name : List ℕ) →
    bytes_from (suc at) n (b ∷ name) ≡ bytes_from at n name
bytes_from-cons at zero b name = refl
bytes_from-cons at (suc n) b name =
    ap (λ bytes. slice_index name at ∷ bytes) (bytes_from-cons (suc at) n b name)

beyond : (n : ℕ) (name : List ℕ) → length name ≤ n → slice_index name n ≡ 0
beyond n [] fits = refl
beyond zero (b ∷ name) fits = omega (arith, fits)
beyond (suc n) (b ∷ name) fits = beyond n name (omega (arith, fits))

-- after the end of a name are zeros
bytes_from-zeros : (at n : ℕ) (name : List ℕ) → length name ≤ at →
    replicate n 0 ≡ bytes_from at n name
bytes_from-zeros at zero name fits = refl
bytes_from-zeros at (suc n) name fits =
    rw (beyond at name fits, bytes_from-zeros (suc at) n name (omega (arith, fits))) refl

pub bytes_from-padded : (at n more all : ℕ) (name : List ℕ) → length name ≤ at + n →
    n + more ≡ all →
    bytes_from at n name ++ replicate more 0 ≡ bytes_from at all name
bytes_from-padded at zero more all name fits sum =
    let rest : more ≡ all = omega (arith, sum) in
    rw (← rest) (bytes_from-zeros at more name (omega (arith, fits)))
bytes_from-padded at (suc n) more zero name fits sum =
    let never : ⊥ = omega (arith, sum) in absurd never
bytes_from-padded at (suc n) more (suc all) name fits sum =
    ap (λ bytes. slice_index name at ∷ bytes)
    (bytes_from-padded (suc at) n more all name (omega (arith, fits)) (omega (arith, sum)))

-- names of one length are equal if their first bytes and the next byte are
same_from : (n : ℕ) (a b : List ℕ) → length a ≡ length b → length a ≤ suc n →
    bytes_from 0 n a ≡ bytes_from 0 n b →
    slice_index a n ≡ slice_index b n → a ≡ b
same_from n [] [] same fits front last = refl
same_from n [] (y ∷ b) same fits front last = cc
same_from n (x ∷ a) [] same fits front last = cc
same_from zero (x ∷ []) (y ∷ []) same fits front last = ap (λ z. z ∷ []) last
same_from zero (x ∷ []) (y ∷ z ∷ b) same fits front last = cc
same_from zero (x ∷ w ∷ a) (y ∷ b) same fits front last =
    let never : ⊥ = omega (arith, fits) in absurd never
same_from (suc n) (x ∷ a) (y ∷ b) same fits front last =
    let one : x ≡ y = cc in
    let rest : bytes_from 1 n (x ∷ a) ≡ bytes_from 1 n (y ∷ b) = cc in
    let long : length a ≡ length b = cc in
    let below : length a ≤ suc n = omega (arith, fits) in
    let after : bytes_from 0 n a ≡ bytes_from 0 n b =
    sym (bytes_from-cons 0 n x a) ∙ (rest ∙ bytes_from-cons 0 n y b) in
    rw (one, same_from n a b long below after last) refl

-- names of one length, at most one byte longer than the width, are equal if their numbers and the
-- byte after those are
same_number : (w : Width) → TellsBytes w → (a b : List ℕ) → IsBytes a → IsBytes b →
    length a ≡ length b → length a ≤ suc (byte_len w) →
    number_of_name w a ≡ number_of_name w b →
    slice_index a (byte_len w) ≡ slice_index b (byte_len w) → a ≡ b
same_number w tells a b of_a of_b same fits number last =
    let n : ℕ = byte_len w in
    let left : to_le_bytes w (number_of_name w a) ≡ bytes_from 0 n a =
    tells (bytes_from 0 n a) (number_of_name w a) (len_from 0 n a) (of_bytes_from 0 n a of_a)
    refl in
    let right : to_le_bytes w (number_of_name w b) ≡ bytes_from 0 n b =
    tells (bytes_from 0 n b) (number_of_name w b) (len_from 0 n b) (of_bytes_from 0 n b of_b)
    refl in
    same_from n a b same fits (sym left ∙ (ap (to_le_bytes w) number ∙ right)) last

agree : (p q : Bool) → (p ≡ true → q ≡ true) → (q ≡ true → p ≡ true) → p ≡ q
agree true true f g = refl
agree true false f g = sym (f refl)
agree false true f g = g refl
agree false false f g = refl

-- whether a name is equal to another of its length, by their numbers
abbrev pub is_numbered : Width → ℕ → List ℕ → Bool
is_numbered w number name = number_of_name w name == number

-- whether a name is equal to another of its length, by their numbers and the next byte
abbrev pub is_numbered_then : Width → ℕ → ℕ → List ℕ → Bool
is_numbered_then w number last name =
    (number_of_name w name == number) && (slice_index name (byte_len w) == last)

pub same-is_numbered : (w : Width) → TellsBytes w → (name text : List ℕ) → IsBytes name →
    IsBytes text → length text ≡ length name →
    length text ≤ byte_len w → bytes_eq text name ≡ is_numbered w (number_of_name w name) text
same-is_numbered w tells name text of_name of_text same fits =
    agree (bytes_eq text name) (number_of_name w text == number_of_name w name)
    (λ e.
    (Decides-eqb (number_of_name w text) (number_of_name w name)).1
    (ap (number_of_name w) ((bytes_eq-Decides text name).0 e)))
    (λ e.
    let number : number_of_name w text ≡ number_of_name w name =
    (Decides-eqb (number_of_name w text) (number_of_name w name)).0 e in
    let also : length name ≤ byte_len w = omega (arith, fits, same) in
    let last : slice_index text (byte_len w) ≡ slice_index name (byte_len w) =
    beyond (byte_len w) text fits ∙ sym (beyond (byte_len w) name also) in
    (bytes_eq-Decides text name).1
    (same_number w tells text name of_text of_name same (omega (arith, fits)) number last))

both : (p q : Bool) → p ≡ true → q ≡ true → (p && q) ≡ true
both true q e f = f
both false q e f = e

pub same-is_numbered_then : (w : Width) → TellsBytes w → (name text : List ℕ) → IsBytes name →
    IsBytes text → length text ≡ length name →
    length text ≤ suc (byte_len w) →
    bytes_eq text name
    ≡ is_numbered_then w (number_of_name w name) (slice_index name (byte_len w)) text
same-is_numbered_then w tells name text of_name of_text same fits =
    let n : ℕ = byte_len w in
    let P : Bool = number_of_name w text == number_of_name w name in
    let Q : Bool = slice_index text n == slice_index name n in
    agree (bytes_eq text name) (P && Q)
    (λ e.
    let is : text ≡ name = (bytes_eq-Decides text name).0 e in
    both P Q
    ((Decides-eqb (number_of_name w text) (number_of_name w name)).1 (ap (number_of_name w) is))
    ((Decides-eqb (slice_index text n) (slice_index name n)).1 (ap (λ s. slice_index s n) is)))
    (λ e.
    let number : number_of_name w text ≡ number_of_name w name =
    (Decides-eqb (number_of_name w text) (number_of_name w name)).0 (first_so P Q e) in
    let last : slice_index text n ≡ slice_index name n =
    (Decides-eqb (slice_index text n) (slice_index name n)).0 (second_so P Q e) in
    (bytes_eq-Decides text name).1
    (same_number w tells text name of_text of_name same fits number last))

-- ---- looking up the values of a table by another test of their names

kept_alike : {K A : Type 0} (p q : K → Bool) (part : K → A) (other : A) (k : K) (kept : List K)
    (right : Bool) →
    (right ≡ true → p k ≡ q k) → part_of_first p part other kept ≡ part_of_first q part other kept →
    part_of_first p part other (if right then k ∷ kept else kept)
    ≡ part_of_first q part other (if right then k ∷ kept else kept)
kept_alike p q part other k kept true same rest = rw (same refl, rest) refl
kept_alike p q part other k kept false same rest = rest

-- the first of the kept values that passes one test is the first that passes another, if the tests
-- agree on the kept ones
pub part_of_first-alike : {K A : Type 0} (known keeps p q : K → Bool) (part : K → A) (other : A) →
    ((k : K) → known k ≡ true → keeps k ≡ true → p k ≡ q k) → (ks : List K) →
    list_all known ks ≡ true →
    part_of_first p part other (filter keeps ks) ≡ part_of_first q part other (filter keeps ks)
part_of_first-alike known keeps p q part other same [] h = refl
part_of_first-alike known keeps p q part other same (k ∷ ks) h =
    kept_alike p q part other k (filter keeps ks) (keeps k)
    (same k (first_so (known k) (list_all known ks) h))
    (part_of_first-alike known keeps p q part other same ks
    (second_so (known k) (list_all known ks) h))

-- ASCII is bytes
pub ascii_is_bytes : (name : List ℕ) → is_ascii name ≡ true → IsBytes name
ascii_is_bytes [] h i = lit< tt
ascii_is_bytes (b ∷ name) h zero =
    let small : b < 128 = (Decides-ltb b 128).0 (first_so (ltb b 128) (is_ascii name) h) in
    omega (arith, small)
ascii_is_bytes (b ∷ name) h (suc i) =
    ascii_is_bytes name (second_so (ltb b 128) (is_ascii name) h) i
