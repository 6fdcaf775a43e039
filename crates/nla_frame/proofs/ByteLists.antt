-- Lists of bytes.
use Rattle.std.proofs.Common.{
  ℕ,
  zero,
  suc,
  ◌+◌,
  ◌/◌,
  ◌%◌,
  ◌<◌,
  List,
  [],
  ◌∷◌,
  ◌++◌,
  length,
  take,
  drop,
  replicate,
  arith,
  inl,
  inr,
}
use Rattle.std.proofs.lemmas.Bool.{cases_lt}
use Rattle.std.proofs.lemmas.List.{length-take, get_or-drop, get_or-take, get_or_past}
use Rattle.nla_frame.specs.Attribute.{
  Attribute,
  IsBytes,
  IsAttribute,
  pad,
  header,
  canonical_string,
  list_string,
}
use Rattle.std.specs.List.{AllByRecursion}

pub IsBytes-drop : (n : ℕ) (bytes : List ℕ) → IsBytes bytes → IsBytes (drop n bytes)
IsBytes-drop n bytes h i = rw get_or-drop (h (n + i))

pub IsBytes-take : (n : ℕ) (bytes : List ℕ) → IsBytes bytes → IsBytes (take n bytes)
IsBytes-take n bytes h i =
    elim (cases_lt i n) [
      | inl lt ↦ rw (get_or-take n bytes i 0 lt) (h i)
      | inr le ↦
          rw (get_or_past (take n bytes) i 0 (omega (arith, length-take n bytes))) (omega arith)
    ]

pub IsBytes-nil : IsBytes []
IsBytes-nil zero = omega arith
IsBytes-nil (suc i) = omega arith

pub IsBytes-cons : (b : ℕ) (bytes : List ℕ) → b < 256 → IsBytes bytes → IsBytes (b ∷ bytes)
IsBytes-cons b bytes low h zero = low
IsBytes-cons b bytes low h (suc i) = h i

pub IsBytes-append : (xs ys : List ℕ) → IsBytes xs → IsBytes ys → IsBytes (xs ++ ys)
IsBytes-append [] ys h k = k
IsBytes-append (x ∷ xs) ys h k =
    IsBytes-cons x (xs ++ ys) (h 0) (IsBytes-append xs ys (λ i. h (suc i)) k)

pub IsBytes-zeros : (n : ℕ) → IsBytes (replicate {A = ℕ} n 0)
IsBytes-zeros zero = IsBytes-nil
IsBytes-zeros (suc n) = IsBytes-cons 0 (replicate {A = ℕ} n 0) (omega arith) (IsBytes-zeros n)

four_bytes : (a b c d : ℕ) → a < 256 → b < 256 → c < 256 → d < 256 → IsBytes (a ∷ b ∷ c ∷ d ∷ [])
four_bytes a b c d h i j k =
    IsBytes-cons a (b ∷ c ∷ d ∷ []) h
    (IsBytes-cons b (c ∷ d ∷ []) i (IsBytes-cons c (d ∷ []) j (IsBytes-cons d [] k IsBytes-nil)))

rest_of_256 : (n : ℕ) → n % 256 < 256
rest_of_256 n = omega arith

pub IsBytes-header : (a : Attribute) → IsBytes (header a)
IsBytes-header a =
    four_bytes _ _ _ _ (rest_of_256 (4 + length a.value)) (rest_of_256 ((4 + length a.value) / 256))
    (rest_of_256 a.kind) (rest_of_256 (a.kind / 256))

-- the byte string of an attribute consists of bytes
pub IsBytes-canonical_string : (a : Attribute) → IsBytes a.value → IsBytes (canonical_string a)
IsBytes-canonical_string a h =
    IsBytes-append (header a) _ (IsBytes-header a)
    (IsBytes-append a.value _ h (IsBytes-zeros (pad (length a.value))))

pub IsBytes-list_string : (attributes : List Attribute) → AllByRecursion IsAttribute attributes →
    IsBytes (list_string attributes)
IsBytes-list_string [] h = IsBytes-nil
IsBytes-list_string (a ∷ more) h =
    IsBytes-append (canonical_string a) (list_string more) (IsBytes-canonical_string a h.0.bytes)
    (IsBytes-list_string more h.1)
