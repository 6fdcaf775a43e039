-- What a list of attributes means, over the items of its byte string, given what one attribute
-- means. There may be a state, such as the current kinds at top level. `m t a` is the meaning of an
-- attribute under the state, and `after t a` the state after it.
use Rattle.std.specs.Prelude.{
  if◌then◌else◌,
  ◌≡◌,
  ◌≢◌,
  ℕ,
  ◌+◌,
  ◌<◌,
  ◌^◌,
  Bool,
  true,
  false,
  ◌&&◌,
  ◌||◌,
  is_ok,
  List,
  [],
  ◌∷◌,
  ◌++◌,
  Option,
  None,
  Some,
  SomeIff,
  Result,
  Ok,
  Err,
}
use Rattle.nla_frame.specs.Attribute.{Attribute, aligned, canonical_string, list_string}
use Rattle.nla_frame.specs.Canonical.{attribute_for, attributes_for}
use Rattle.nla_frame.specs.Error.{header_error, memory_error}
use Rattle.nla_frame.specs.declared.error.DecodeError.{DecodeError}

infixl 10 ◌>>=◌
abbrev pub ◌>>=◌ : {A B : Type 0} → Result A DecodeError → (A → Result B DecodeError) →
    Result B DecodeError
(Ok x) >>= f = f x
(Err e) >>= f = Err e

-- what comes only after a decoded item
abbrev pub if_read : {X : Type 0} → Result X DecodeError → ℕ → ℕ
if_read (Ok x) n = n
if_read (Err e) n = 0

-- the values in order, or the first error in byte order; a rest without a header is the header
-- error
abbrev pub values_under : {T X : Type 0} → (T → Attribute → Result X DecodeError) →
    (T → Attribute → T) → T → List (Result Attribute ℕ) → Result (List X) DecodeError
values_under m after t [] = Ok []
values_under m after t ((Err n) ∷ more) = Err header_error
values_under m after t ((Ok a) ∷ more) =
    m t a >>= λ x. values_under m after (after t a) more >>= λ xs. Ok (x ∷ xs)

-- values read before, followed by the others
abbrev pub append_to : {X : Type 0} → List X → Result (List X) DecodeError →
    Result (List X) DecodeError
append_to front r = r >>= λ xs. Ok (front ++ xs)

-- The result of reading one attribute into a slot: on success the slot holds what the attribute
-- means, and on an error that is the attribute's error or the memory error.
abbrev pub StoreGives : {X H : Type 0} → (X → H) → H → Result (Unit {0}) DecodeError →
    Result X DecodeError → Type 0
StoreGives with held (Ok _) meaning = (meaning >>= λ x. Ok (with x)) ≡ Ok held
StoreGives with held (Err e) meaning = e ≢ memory_error → meaning ≡ Err e

-- the result of reading one attribute to the end of a list
abbrev pub Appends : {X : Type 0} → List X → List X → Result (Unit {0}) DecodeError →
    Result X DecodeError → Type 0
Appends old new result meaning = StoreGives (λ x. old ++ x ∷ []) new result meaning

-- storing what an attribute means may need memory: for what the value owns, and for its slot
-- unless that is certain
abbrev pub store_memory : {X : Type 0} → Bool → Bool → Result X DecodeError → Bool
store_memory certain needs meaning = needs || (if certain then false else is_ok meaning)

abbrev pub push_memory : {X : Type 0} → Bool → Result X DecodeError → Bool
push_memory needs meaning = store_memory false needs meaning

-- the number of headers examined, those inside attributes included, up to the first error
abbrev pub headers_under : {T X : Type 0} → (T → Attribute → Result X DecodeError) →
    (T → Attribute → ℕ) → (T → Attribute → T) → T → List (Result Attribute ℕ) → ℕ
headers_under m h after t [] = 0
headers_under m h after t ((Err n) ∷ more) = n
headers_under m h after t ((Ok a) ∷ more) =
    1 + (h t a + if_read (m t a) (headers_under m h after (after t a) more))

-- equal numbers of attributes, equivalent in pairs, each pair under the state of the first list
abbrev pub alike_under : {T : Type 0} → (T → Attribute → Attribute → Bool) → (T → Attribute → T) →
    T → List (Result Attribute ℕ) → List (Result Attribute ℕ) → Bool
alike_under f after t [] [] = true
alike_under f after t [] (y ∷ ys) = false
alike_under f after t (x ∷ xs) [] = false
alike_under f after t ((Ok a) ∷ xs) ((Ok b) ∷ ys) = f t a b && alike_under f after (after t a) xs ys
alike_under f after t ((Ok a) ∷ xs) ((Err n) ∷ ys) = false
alike_under f after t ((Err n) ∷ xs) (y ∷ ys) = false

-- each value is well formed under the state after those before it
abbrev pub well_under : {T X : Type 0} → (T → X → Type 0) → (T → X → T) → T → List X → Type 0
well_under well next t [] = Unit {0}
well_under well next t (x ∷ xs) = well t x × well_under well next (next t x) xs

-- Whether reading a list may need memory: not for the empty list, and not if the first attribute
-- has no header or an error that needs none.
abbrev pub memory_under : {T X : Type 0} → (T → Attribute → Result X DecodeError) →
    (T → Attribute → Bool) → T → List (Result Attribute ℕ) → Bool
memory_under m needs t [] = false
memory_under m needs t ((Err n) ∷ more) = false
memory_under m needs t ((Ok a) ∷ more) = needs t a || is_ok (m t a)

-- lists without a state
abbrev pub values : {X : Type 0} → (Attribute → Result X DecodeError) → List (Result Attribute ℕ) →
    Result (List X) DecodeError
values m ps = values_under (λ _ a. m a) (λ t _. t) (tt {0}) ps

abbrev pub headers_of : {X : Type 0} → (Attribute → Result X DecodeError) → (Attribute → ℕ) →
    List (Result Attribute ℕ) → ℕ
headers_of m h ps = headers_under (λ _ a. m a) (λ _ a. h a) (λ t _. t) (tt {0}) ps

abbrev pub alike_pairs : (Attribute → Attribute → Bool) → List (Result Attribute ℕ) →
    List (Result Attribute ℕ) → Bool
alike_pairs f ps qs = alike_under (λ _ a b. f a b) (λ t _. t) (tt {0}) ps qs

abbrev pub memory_of : {X : Type 0} → (Attribute → Result X DecodeError) → (Attribute → Bool) →
    List (Result Attribute ℕ) → Bool
memory_of m needs ps = memory_under (λ _ a. m a) (λ _ a. needs a) (tt {0}) ps

abbrev pub AllWell : {X : Type 0} → (X → Type 0) → List X → Type 0
AllWell well xs = well_under (λ _ x. well x) (λ t _. t) (tt {0}) xs

-- the canonical byte string of what a list means
abbrev pub canonical_list : {X : Type 0} → (X → Attribute) → (Attribute → Result X DecodeError) →
    List (Result Attribute ℕ) → List ℕ
canonical_list attribute m ps = list_string (attributes_for attribute (values m ps))

-- The first attribute alone: what follows it is not examined.
abbrev pub first_meaning : {X : Type 0} → (Attribute → Result X DecodeError) →
    List (Result Attribute ℕ) → Result X DecodeError
first_meaning m [] = Err header_error
first_meaning m ((Err n) ∷ more) = Err header_error
first_meaning m ((Ok a) ∷ more) = m a

abbrev pub first_headers : (Attribute → ℕ) → List (Result Attribute ℕ) → ℕ
first_headers h [] = 0
first_headers h ((Err n) ∷ more) = n
first_headers h ((Ok a) ∷ more) = 1 + h a

abbrev pub first_alike : (Attribute → Attribute → Bool) → List (Result Attribute ℕ) →
    List (Result Attribute ℕ) → Bool
first_alike f ((Ok a) ∷ ps) ((Ok b) ∷ qs) = f a b
first_alike f ps qs = false

abbrev pub first_memory : (Attribute → Bool) → List (Result Attribute ℕ) → Bool
first_memory needs [] = false
first_memory needs ((Err n) ∷ more) = false
first_memory needs ((Ok a) ∷ more) = needs a

-- the canonical byte string of what the first attribute means
abbrev pub canonical_first : {X : Type 0} → (X → Attribute) → (Attribute → Result X DecodeError) →
    List (Result Attribute ℕ) → List ℕ
canonical_first attribute m ps = canonical_string (attribute_for attribute (first_meaning m ps))

-- ---- validated and measured at once

-- The result is the error of what is rejected. Of what is accepted it is the length of the
-- canonical encoding, or `None` if that does not fit.
abbrev pub Measures : Result (Unit {0}) DecodeError → Type 0 → ℕ → Result (Option ℕ) DecodeError →
    Type 0
Measures verdict fits len (Ok measured) = (verdict ≡ Ok tt) × SomeIff measured fits len
Measures verdict fits len (Err error) = verdict ≡ Err error

-- a total with the encoding of an attribute added, whose payload has so many bytes: `None` if
-- either is, and if a `usize` cannot count the sum
abbrev pub IsTotalWith : Option ℕ → Option ℕ → Option ℕ → Type 0
IsTotalWith None len result = result ≡ None
IsTotalWith (Some total) None result = result ≡ None
IsTotalWith (Some total) (Some len) result =
    let sum = total + (4 + aligned len) in
    SomeIff result (sum < 2 ^ 64) sum
