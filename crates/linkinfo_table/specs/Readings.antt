-- What a byte string is read as, as relations: its attributes mean values, or it has the error of
-- the first that means none. There may be a state, as in `Lists`: `m t a` is the meaning of an
-- attribute under the state, and `after t a` the state after it.
use Rattle.std.specs.Prelude.{◌≡◌, ℕ, ◌⊎◌, List, [], ◌∷◌, ◌++◌, Result, Ok, Err}
use Rattle.nla_frame.specs.Attribute.{Attribute}
use Rattle.nla_frame.specs.Error.{header_error}
use Rattle.nla_frame.specs.Framing.{Begins, Broken, Frames, HasNoHeader, Splits}
use Rattle.nla_frame.specs.declared.error.DecodeError.{DecodeError}

-- each attribute means its value, under the state after those before it
abbrev pub MeanEach : {T X : Type 0} → (T → Attribute → Result X DecodeError) →
    (T → Attribute → T) → T → List Attribute → List X → Type 0
MeanEach m after t [] [] = Unit {0}
MeanEach m after t [] (x ∷ xs) = ⊥
MeanEach m after t (a ∷ more) [] = ⊥
MeanEach m after t (a ∷ more) (x ∷ xs) = (m t a ≡ Ok x) × MeanEach m after (after t a) more xs

-- the state after attributes
abbrev pub state_after : {T : Type 0} → (T → Attribute → T) → T → List Attribute → T
state_after after t [] = t
state_after after t (a ∷ more) = state_after after (after t a) more

-- the byte string frames attributes that mean the values
abbrev pub MeansList : {T X : Type 0} → (T → Attribute → Result X DecodeError) →
    (T → Attribute → T) → T → List ℕ → List X → Type 0
MeansList m after t s xs =
    (attributes : List Attribute) × Frames s attributes × MeanEach m after t attributes xs

-- The byte string has the error of an attribute without a meaning, after attributes that mean
-- values, whatever follows, ..
pub record RejectedItem {T X : Type 0} (m : T → Attribute → Result X DecodeError)
    (after : T → Attribute → T) (t : T) (s : List ℕ) (e : DecodeError) : Type 0 where
  pub front : List Attribute
  pub item : Attribute
  pub more : List Attribute
  pub left : List ℕ
  pub splits : Splits s (front ++ (item ∷ more)) left
  pub values : List X
  pub mean : MeanEach m after t front values
  pub error : m (state_after after t front) item ≡ Err e

-- .. or each of its attributes means a value, and it is broken after them.
pub record RejectedRest {T X : Type 0} (m : T → Attribute → Result X DecodeError)
    (after : T → Attribute → T) (t : T) (s : List ℕ) (e : DecodeError) : Type 0 where
  pub front : List Attribute
  pub rest : List ℕ
  pub broken : Broken s front rest
  pub values : List X
  pub mean : MeanEach m after t front values
  pub error : e ≡ header_error

abbrev pub HasError : {T X : Type 0} → (T → Attribute → Result X DecodeError) →
    (T → Attribute → T) → T → List ℕ → DecodeError → Type 0
HasError m after t s e = RejectedItem m after t s e ⊎ RejectedRest m after t s e

-- lists without a state
abbrev pub ListMeans : {X : Type 0} → (Attribute → Result X DecodeError) → List ℕ → List X → Type 0
ListMeans m s xs = MeansList (λ _ a. m a) (λ t _. t) (tt {0}) s xs

abbrev pub ListHasError : {X : Type 0} → (Attribute → Result X DecodeError) → List ℕ → DecodeError →
    Type 0
ListHasError m s e = HasError (λ _ a. m a) (λ t _. t) (tt {0}) s e

-- The first attribute alone, whatever follows it: the byte string begins with one that means the
-- value, ..
abbrev pub FirstMeans : {X : Type 0} → (Attribute → Result X DecodeError) → List ℕ → X → Type 0
FirstMeans m s x = (a : Attribute) × (rest : List ℕ) × Begins s a [] rest × (m a ≡ Ok x)

-- .. or with one that has the error, or with none.
abbrev pub FirstHasError : {X : Type 0} → (Attribute → Result X DecodeError) → List ℕ →
    DecodeError → Type 0
FirstHasError m s e =
    ((a : Attribute) × (rest : List ℕ) × Begins s a [] rest × (m a ≡ Err e))
    ⊎ (((s ≡ []) ⊎ HasNoHeader s) × (e ≡ header_error))

-- it is accepted as one value, or has one error, and never both
pub record IsDecided {X : Type 0} (Accepted : X → Type 0) (Refused : DecodeError → Type 0) : Type
    0 where
  pub either : ((x : X) × Accepted x) ⊎ ((e : DecodeError) × Refused e)
  pub one_value : (x y : X) → Accepted x → Accepted y → x ≡ y
  pub one_error : (d e : DecodeError) → Refused d → Refused e → d ≡ e
  pub never_both : (x : X) (e : DecodeError) → Accepted x → Refused e → ⊥
