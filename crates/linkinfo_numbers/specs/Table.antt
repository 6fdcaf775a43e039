-- Tables: values looked up by a key, such as a number or a name. Each key without a named value has
-- the value `Other` of it.
use Rattle.std.specs.Prelude.{
  ◌≡◌,
  ◌≢◌,
  ℕ,
  ◌<◌,
  ◌==◌,
  Bool,
  true,
  false,
  if◌then◌else◌,
  not,
  List,
  [],
  ◌∷◌,
  ◌↔◌,
  refl,
}
use Rattle.std.specs.Bool.{Decides}
use Rattle.std.specs.Cmp.{first_so, second_so}
use Rattle.std.specs.List.{AllByRecursion, list_all}
use Rattle.std.specs.Str.{bytes_eq}
use Rattle.std.proofs.Common.{◌⊎◌, inl, inr, sym, ap, subst, ◌∙◌}

-- `part` of the first value that passes, or `other` if none does
abbrev pub part_of_first : {T A : Type 0} → (T → Bool) → (T → A) → A → List T → A
part_of_first passes part other [] = other
part_of_first passes part other (x ∷ xs) = if passes x then part x
    else part_of_first passes part other xs

-- a table: the equality of keys, the key of each value, the value `Other` of a key, and the named
-- values
pub record Table (Key T : Type 0) : Type 0 where
  pub same : Key → Key → Bool
  pub key : T → Key
  pub other : Key → T
  pub named : List T

-- a table by numbers
abbrev pub by_number : {T : Type 0} → (T → ℕ) → (ℕ → T) → List T → Table ℕ T
by_number number other named = record { same = ◌==◌; key = number; other = other; named = named }

-- a table by names
abbrev pub by_name : {T : Type 0} → (T → List ℕ) → (List ℕ → T) → List T → Table (List ℕ) T
by_name name other named = record { same = bytes_eq; key = name; other = other; named = named }

-- the named value of a key, and otherwise `Other` of it
abbrev pub value_of : {Key T : Type 0} → Table Key T → Key → T
value_of N k = part_of_first (λ x. N.same (N.key x) k) (λ x. x) (N.other k) N.named

-- the value is not `Other` of a key that a named value has
abbrev pub IsProper : {Key T : Type 0} → Table Key T → T → Type 0
IsProper N x = AllByRecursion (λ v. x ≢ N.other (N.key v)) N.named

-- a value is the value of its key if and only if it is not `Other` of a key that a named value has
abbrev pub ReadsBackWhereProper : {Key T : Type 0} → Table Key T → Type 0
ReadsBackWhereProper {T = T} N = (x : T) → (value_of N (N.key x) ≡ x) ↔ IsProper N x

-- the value is `Other`, or looking up its key gives it
abbrev pub IsOtherOrFound : {Key T : Type 0} → Table Key T → T → Type 0
IsOtherOrFound N x = (x ≡ N.other (N.key x)) ⊎ (value_of N (N.key x) ≡ x)

-- `Other` keeps its key, looking up the key of any other value gives that value, and no named value
-- is `Other`
pub record IsTable {Key T : Type 0} (N : Table Key T) : Type 0 where
  pub same_decides : (a b : Key) → Decides (N.same a b) (a ≡ b)
  pub other_key : (k : Key) → N.key (N.other k) ≡ k
  pub found : (x : T) → IsOtherOrFound N x
  pub apart : AllByRecursion (λ v. v ≢ N.other (N.key v)) N.named

-- ---- the first value that passes

pub all_along : {T : Type 0} (P Q : T → Type 0) → ((x : T) → P x → Q x) → (xs : List T) →
    AllByRecursion P xs → AllByRecursion Q xs
all_along P Q f [] h = tt
all_along P Q f (x ∷ xs) h = (f x h.0, all_along P Q f xs h.1)

chosen : {A B : Type 0} (f : A → B) (x y : A) (z w : B) (b : Bool) → f x ≡ z → f y ≡ w →
    f (if b then x else y) ≡ (if b then z else w)
chosen f x y z w true p q = p
chosen f x y z w false p q = q

-- applying a function after the lookup is the lookup of the function's values
pub part_of_first-then : {T A B : Type 0} (f : A → B) (passes : T → Bool) (part : T → A)
    (part' : T → B) (other : A) (other' : B)
    (xs : List T) →
    AllByRecursion (λ x. f (part x) ≡ part' x) xs → f other ≡ other' →
    f (part_of_first passes part other xs) ≡ part_of_first passes part' other' xs
part_of_first-then f passes part part' other other' [] h k = k
part_of_first-then f passes part part' other other' (x ∷ xs) h k =
    chosen f (part x) (part_of_first passes part other xs) (part' x)
    (part_of_first passes part' other' xs) (passes x) h.0
    (part_of_first-then f passes part part' other other' xs h.1 k)

missed_choice : {A : Type 0} (x y z : A) (b : Bool) → ¬ (b ≡ true) → y ≡ z →
    (if b then x else y) ≡ z
missed_choice x y z true apart same = absurd (apart refl)
missed_choice x y z false apart same = same

-- if none passes, the result is `other`
pub part_of_first-missed : {T A : Type 0} (passes : T → Bool) (part : T → A) (other : A)
    (xs : List T) →
    AllByRecursion (λ x. ¬ (passes x ≡ true)) xs →
    part_of_first passes part other xs ≡ other
part_of_first-missed passes part other [] h = refl
part_of_first-missed passes part other (x ∷ xs) h =
    missed_choice (part x) (part_of_first passes part other xs) other (passes x) h.0
    (part_of_first-missed passes part other xs h.1)

-- ---- keys and values

key_of_choice : {Key T : Type 0} (N : Table Key T) (x y : T) (k : Key) (b : Bool) →
    (b ≡ true → N.key x ≡ k) → N.key y ≡ k →
    N.key (if b then x else y) ≡ k
key_of_choice N x y k true same h = same refl
key_of_choice N x y k false same h = h

key-among : {Key T : Type 0} (N : Table Key T) → IsTable N → (xs : List T) (k : Key) →
    N.key (part_of_first (λ x. N.same (N.key x) k) (λ x. x) (N.other k) xs) ≡ k
key-among N h [] k = h.other_key k
key-among N h (x ∷ xs) k =
    key_of_choice N x (part_of_first (λ y. N.same (N.key y) k) (λ y. y) (N.other k) xs) k
    (N.same (N.key x) k)
    (h.same_decides (N.key x) k).0
    (key-among N h xs k)

-- the key of the value of a key is that key
pub key-value_of : {Key T : Type 0} {N : Table Key T} → IsTable N → (k : Key) →
    N.key (value_of N k) ≡ k
key-value_of {N = N} h k = key-among N h N.named k

proper_is_found : {Key T : Type 0} (N : Table Key T) → IsTable N → (x : T) → IsOtherOrFound N x →
    IsProper N x →
    value_of N (N.key x) ≡ x
proper_is_found N h x (inl q) proper =
    part_of_first-missed (λ v. N.same (N.key v) (N.key x)) (λ v. v) (N.other (N.key x)) N.named
    (all_along (λ v. x ≢ N.other (N.key v)) (λ v. ¬ (N.same (N.key v) (N.key x) ≡ true))
    (λ v apart e. apart (q ∙ ap N.other (sym ((h.same_decides (N.key v) (N.key x)).0 e)))) N.named
    proper)
    ∙ sym q
proper_is_found N h x (inr p) proper = p

found_apart : {Key T : Type 0} (N : Table Key T) (v : T) → IsOtherOrFound N v →
    v ≢ N.other (N.key v) →
    value_of N (N.key v) ≢ N.other (N.key v)
found_apart N v (inl q) apart e = apart q
found_apart N v (inr p) apart e = apart (sym p ∙ e)

found_is_proper : {Key T : Type 0} (N : Table Key T) → IsTable N → (x : T) →
    value_of N (N.key x) ≡ x → IsProper N x
found_is_proper N h x p =
    all_along (λ v. v ≢ N.other (N.key v)) (λ v. x ≢ N.other (N.key v))
    (λ v apart q.
    let same : N.key x ≡ N.key v = ap N.key q ∙ h.other_key (N.key v) in
    found_apart N v (h.found v) apart (ap (value_of N) (sym same) ∙ (p ∙ q)))
    N.named h.apart

-- a value is the value of its key if and only if it is not `Other` of a named key
pub value_of-key : {Key T : Type 0} {N : Table Key T} → IsTable N → ReadsBackWhereProper N
value_of-key {N = N} h x = (found_is_proper N h x, proper_is_found N h x (h.found x))

-- the value of a key is not `Other` of a named key
pub value_of_is_proper : {Key T : Type 0} {N : Table Key T} → IsTable N → (k : Key) →
    IsProper N (value_of N k)
value_of_is_proper {N = N} h k =
    (value_of-key h (value_of N k)).0 (ap (value_of N) (key-value_of h k))

-- no value of a list is `Other`, shown by a test that `Other` passes and each of them fails
pub apart_by : {Key T : Type 0} (N : Table Key T) (is_other : T → Bool) →
    ((k : Key) → is_other (N.other k) ≡ true) →
    (xs : List T) →
    list_all (λ v. not (is_other v)) xs ≡ true → AllByRecursion (λ v. v ≢ N.other (N.key v)) xs
apart_by N is_other others [] h = tt
apart_by N is_other others (x ∷ xs) h =
    let here : not (is_other x) ≡ true =
    first_so (not (is_other x)) (list_all (λ v. not (is_other v)) xs) h in
    let rest : list_all (λ v. not (is_other v)) xs ≡ true =
    second_so (not (is_other x)) (list_all (λ v. not (is_other v)) xs) h in (
      λ q.
          let other : is_other x ≡ true = ap is_other q ∙ others (N.key x) in
          let never : not true ≡ true = ap not (sym other) ∙ here in cc,
      apart_by N is_other others xs rest,
    )

-- ---- values that an attribute can mean

-- the value is not `Other` of a key that a named value has, and its key is in range
abbrev pub IsRead : {Key T : Type 0} → Table Key T → (Key → Type 0) → T → Type 0
IsRead N Holds x = IsProper N x × Holds (N.key x)

-- the value of a number below the bound of its width
abbrev pub IsNumber : {T : Type 0} → Table ℕ T → ℕ → T → Type 0
IsNumber N bound x = IsRead N (λ n. n < bound) x

-- For a condition on labels that agrees with `IsRead` on values: a label satisfies it if and only
-- if it is the label of the value of some key in range.
pub table_label : {Key T F : Type 0} {N : Table Key T} → IsTable N →
    (Holds : Key → Type 0) (label : T → F) (Condition : F → Type 0) →
    ((y : T) → IsRead N Holds y → Condition (label y)) →
    ((y : T) → Condition (label y) → IsRead N Holds y) → (x : T) →
    ((k : Key) × Holds k × (label (value_of N k) ≡ label x)) ↔ Condition (label x)
table_label {N = N} h Holds label Condition to from x = (
  λ w.
      subst Condition w.2 (to (value_of N w.0)
      (value_of_is_proper h w.0, subst Holds (sym (key-value_of h w.0)) w.1)),
  λ c. let is : IsRead N Holds x = from x c in
      (N.key x, is.1, ap label ((value_of-key h x).1 is.0)),
)

pub number_label : {T F : Type 0} {N : Table ℕ T} → IsTable N →
    (bound : ℕ) (label : T → F) (Condition : F → Type 0) →
    ((y : T) → IsNumber N bound y → Condition (label y)) →
    ((y : T) → Condition (label y) → IsNumber N bound y) → (x : T) →
    ((n : ℕ) × (n < bound) × (label (value_of N n) ≡ label x)) ↔ Condition (label x)
number_label h bound label Condition to from x =
    table_label h (λ n. n < bound) label Condition to from x
