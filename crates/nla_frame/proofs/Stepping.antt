-- One step over a byte string, as `next_attribute` takes it.
use Rattle.std.proofs.Common.{
  ◌≡◌,
  ℕ,
  zero,
  suc,
  ◌+◌,
  ◌-◌,
  ◌*◌,
  ◌<◌,
  ◌≤◌,
  true,
  false,
  ltb,
  List,
  [],
  ◌∷◌,
  length,
  drop,
  refl,
  sym,
  ap,
  subst,
  ◌∙◌,
  arith,
  inl,
  inr,
  Result,
  Ok,
  Err,
}
use Rattle.std.specs.Prelude.{IfOk, slice_range}
use Rattle.std.specs.List.{AllByRecursion}
use Rattle.std.proofs.lemmas.Bool.{ltb-false, le-ltb, cases_Bool, cond-false, cond-true}
use Rattle.std.proofs.lemmas.List.{length-take, length-drop}
use Rattle.nla_frame.specs.Attribute.{Attribute, IsAttribute, IsBytes, aligned, list_string}
use Rattle.nla_frame.specs.Framing.{length_field, Splits}
use Rattle.nla_frame.specs.NlaItems.{
  has_no_header,
  first_attribute,
  after_first,
  attribute_at,
  seen,
  Split,
  with_first,
  split_up_to,
  split,
  nla_items_of,
  nla_items,
  GoesOn,
  Breaks,
  Ended,
}
use Rattle.nla_frame.specs.declared.error.DecodeError.{DecodeError}
use Rattle.nla_frame.proofs.Framing.{Accepts, accepts, begins_first, split_only, list_string_splits}

abbrev read_as : Attribute → Result Attribute DecodeError
read_as a = Ok a

abbrev refused_as : DecodeError → Result Attribute DecodeError
refused_as e = Err e

refused_not_read : (e : DecodeError) (a : Attribute) → refused_as e ≡ read_as a → ⊥
refused_not_read e a h = cc

refused_is : (e f : DecodeError) → refused_as e ≡ refused_as f → e ≡ f
refused_is e f h = cc

read_is : (a b : Attribute) → read_as a ≡ read_as b → a ≡ b
read_is a b h = cc

-- ---- a higher limit on the steps changes nothing

rest_shorter : (s : List ℕ) → Accepts s → length (after_first s) < length s
rest_shorter s h = omega (arith, length-drop (aligned (length_field s)) s, h.whole, h.low)

split_fuel : (m n : ℕ) (s : List ℕ) → length s ≤ m → length s ≤ n →
    split_up_to m s ≡ split_up_to n s
unfolding split_up_to
split_fuel zero zero [] h i = refl
split_fuel zero (suc n) [] h i = refl
split_fuel (suc m) zero [] h i = refl
split_fuel (suc m) (suc n) [] h i = refl
split_fuel zero n (b ∷ bytes) h i = absurd (omega (arith, h))
split_fuel (suc m) zero (b ∷ bytes) h i = absurd (omega (arith, i))
split_fuel (suc m) (suc n) (b ∷ bytes) h i =
    let s : List ℕ = b ∷ bytes in
    elim (cases_Bool (has_no_header s)) [
      | inl refused ↦
          cond-true (has_no_header s) _ _ refused ∙ sym (cond-true (has_no_header s) _ _ refused)
      | inr fine ↦
          let less = rest_shorter s (accepts s fine) in
          cond-false (has_no_header s) _ _ fine
          ∙ ap (λ (x : Split). with_first (first_attribute s) x)
          (split_fuel m n (after_first s) (omega (arith, less, h)) (omega (arith, less, i)))
          ∙ sym (cond-false (has_no_header s) _ _ fine)
    ]

split_accepted : (s : List ℕ) → has_no_header s ≡ false →
    split s ≡ with_first (first_attribute s) (split (after_first s))
unfolding split split_up_to
split_accepted [] fine = absurd cc
split_accepted (b ∷ bytes) fine =
    let s : List ℕ = b ∷ bytes in
    let less = rest_shorter s (accepts s fine) in
    cond-false (has_no_header s) _ _ fine
    ∙ ap (λ (x : Split). with_first (first_attribute s) x)
    (split_fuel (length bytes) (length (after_first s)) (after_first s) (omega (arith, less))
    (omega arith))

split_refused : (s : List ℕ) → has_no_header s ≡ true → split s ≡ record { front = []; left = s }
unfolding split split_up_to
split_refused [] refused = refl
split_refused (b ∷ bytes) refused = cond-true (has_no_header (b ∷ bytes)) _ _ refused

-- ---- the steps

pub nla_items_nil : nla_items [] ≡ []
unfolding nla_items split split_up_to
nla_items_nil = refl

pub ended : (s : List ℕ) (n : ℕ) → s ≡ [] → Ended s n n
ended s n e = record { nla_items_are = ap nla_items e ∙ nla_items_nil; counted = refl; empty = e }

length_field_of : (s : List ℕ) → Accepts s → length_field s ≡ 4 + length (first_attribute s).value
length_field_of s h = omega (
  arith,
  length-take (length_field s - 4) (drop 4 s),
  length-drop 4 s,
  h.low,
  h.high,
)

first_goes_on : (s : List ℕ) (n : ℕ) → has_no_header s ≡ false → IsAttribute (first_attribute s) →
    GoesOn s n (n + seen s) (first_attribute s) (drop (aligned (length_field s)) s)
unfolding nla_items
first_goes_on s n fine is_a =
    let h = accepts s fine in
    let field = length_field_of s h in
    record {
      nla_items_are = ap (λ (x : Split). nla_items_of x.front x.left) (split_accepted s fine);
      counted =
          ap (λ (k : ℕ). n + k) (cond-false {A = ℕ} (ltb (length s) 4) 0 1 (le-ltb _ _ h.whole));
      attribute = is_a;
      value_is = ap (λ (k : ℕ). slice_range s 4 k) field;
      rest_is = ap (λ (k : ℕ). drop (aligned k) s) field;
      shorter = rest_shorter s h;
      room = omega (arith, length-drop (aligned (length_field s)) s, field, h.high);
    }

-- the attribute read at the front, and what follows it
pub goes_on : (s : List ℕ) (old new k : ℕ) (a : Attribute) (rest : List ℕ) → attribute_at s ≡ Ok a →
    IsAttribute a → new ≡ old + seen s →
    k ≡ 4 + length a.value → rest ≡ drop (aligned k) s → GoesOn s old new a rest
unfolding attribute_at
goes_on s old new k a rest e is_a count size after =
    elim (cases_Bool (has_no_header s)) [
      | inl refused ↦
          absurd (refused_not_read _ _ (sym (cond-true (has_no_header s) _ _ refused) ∙ e))
      | inr fine ↦
          let first : first_attribute s ≡ a =
          read_is _ _ (sym (cond-false (has_no_header s) _ _ fine) ∙ e) in
          let step = first_goes_on s old fine (subst IsAttribute (sym first) is_a) in
          let at : GoesOn s old (old + seen s) a (drop (aligned (length_field s)) s) =
          subst
          (λ (x : Attribute). GoesOn s old (old + seen s) x (drop (aligned (length_field s)) s))
          first step in
          let same : drop (aligned (length_field s)) s ≡ rest =
          at.rest_is ∙ ap (λ (n : ℕ). drop (aligned n) s) (sym size) ∙ sym after in
          subst (λ (r : List ℕ). GoesOn s old new a r) same
          (subst (λ (n : ℕ). GoesOn s old n a (drop (aligned (length_field s)) s)) (sym count) at)
    ]

pub seen_room : (s : List ℕ) → 4 * seen s ≤ length s
seen_room s =
    elim (cases_Bool (ltb (length s) 4)) [
      | inl short ↦ omega (arith, cond-true {A = ℕ} (ltb (length s) 4) 0 1 short)
      | inr long ↦ omega (arith, cond-false {A = ℕ} (ltb (length s) 4) 0 1 long, ltb-false _ _ long)
    ]

-- the error of reading at the front
pub breaks : (s : List ℕ) (old new : ℕ) (e : DecodeError) → attribute_at s ≡ Err e → 0 < length s →
    new ≡ old + seen s → Breaks s old new e
unfolding attribute_at nla_items
breaks [] old new e h some count = absurd (omega (arith, some))
breaks (b ∷ bytes) old new e h some count =
    let s : List ℕ = b ∷ bytes in
    elim (cases_Bool (has_no_header s)) [
      | inl refused ↦ record {
        nla_items_are = ap (λ (x : Split). nla_items_of x.front x.left) (split_refused s refused);
        counted = count;
        error = refused_is _ _ (sym h ∙ cond-true (has_no_header s) _ _ refused);
        nonempty = some;
        room = seen_room s;
      }
      | inr fine ↦ absurd (refused_not_read _ _ (sym h ∙ cond-false (has_no_header s) _ _ fine))
    ]

-- ---- induction on a byte string, attribute by attribute

-- a property of byte strings holds if it holds of the empty string, of a rest without a header, and
-- of an attribute before what it holds of
module _ (P : List ℕ → Type 0)
    (at_end : P [])
    (at_rest : (s : List ℕ) → 0 < length s → nla_items s ≡ Err (seen s) ∷ [] → P s)
    (at_attribute : (s : List ℕ) (a : Attribute) (rest : List ℕ) → nla_items s
    ≡ Ok a ∷ nla_items rest →
    length rest + (4 + length a.value) ≤ length s → P rest → P s) where
  by_nla_items_up_to : (n : ℕ) (s : List ℕ) → length s ≤ n → P s
  unfolding nla_items
  by_nla_items_up_to n [] le = at_end
  by_nla_items_up_to zero (b ∷ bytes) le = absurd (omega (arith, le))
  by_nla_items_up_to (suc n) (b ∷ bytes) le =
      let s : List ℕ = b ∷ bytes in
      let some : 0 < length s = omega arith in
      elim (cases_Bool (has_no_header s)) [
        | inl refused ↦
            at_rest s some
            (ap (λ (x : Split). nla_items_of x.front x.left) (split_refused s refused))
        | inr fine ↦
            let h = accepts s fine in
            let less = rest_shorter s h in
            let room : length (after_first s) + (4 + length (first_attribute s).value) ≤ length s =
            omega (arith, length-drop (aligned (length_field s)) s, length_field_of s h, h.high) in
            at_attribute s (first_attribute s) (after_first s)
            (ap (λ (x : Split). nla_items_of x.front x.left) (split_accepted s fine)) room
            (by_nla_items_up_to n (after_first s) (omega (arith, less, le)))
      ]

  pub by_nla_items : (s : List ℕ) → P s
  by_nla_items s = by_nla_items_up_to (length s) s (omega arith)

-- what is read is an attribute
pub is_attribute : (s : List ℕ) (r : Result Attribute DecodeError) → IsBytes s →
    r ≡ attribute_at s → IfOk r IsAttribute
unfolding attribute_at
is_attribute s (Err e) fits h = tt
is_attribute s (Ok a) fits h =
    elim (cases_Bool (has_no_header s)) [
      | inl refused ↦
          absurd (refused_not_read _ _ (sym (h ∙ cond-true (has_no_header s) _ _ refused)))
      | inr fine ↦
          subst IsAttribute (read_is _ _ (sym (h ∙ cond-false (has_no_header s) _ _ fine)))
          (begins_first s fits (accepts s fine)).is_attribute
    ]

-- ---- the items of a byte string

pub nla_items_only : (s : List ℕ) (front : List Attribute) (r : List ℕ) → Splits s front r →
    nla_items s ≡ nla_items_of front r
unfolding nla_items
nla_items_only s front r h =
    ap (λ (x : Split). nla_items_of x.front x.left) (split_only s front r h)

pub nla_items_split : (s : List ℕ) → nla_items s ≡ nla_items_of (split s).front (split s).left
unfolding nla_items
nla_items_split s = refl

-- the items of the byte string of a list are the list
pub nla_items-list_string : (attributes : List Attribute) → AllByRecursion IsAttribute attributes →
    nla_items (list_string attributes) ≡ nla_items_of attributes []
nla_items-list_string attributes h =
    nla_items_only (list_string attributes) attributes [] (list_string_splits attributes h)
