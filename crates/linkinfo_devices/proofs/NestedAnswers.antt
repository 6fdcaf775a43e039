-- An attribute with a list: its results, from those of the list.
use Rattle.std.specs.Prelude.{
  ◌≡◌,
  ℕ,
  ◌+◌,
  ◌==◌,
  ◌&&◌,
  Bool,
  true,
  false,
  List,
  map,
  Result,
  Ok,
  Err,
  IsOk,
  refl,
}
use Rattle.std.specs.Bool.{OnTrue}
use Rattle.std.proofs.Common.{sym, ap, subst, ◌∙◌, arith}
use Rattle.std.proofs.lemmas.Bool.{eq-eqb, ne_eqb}
use Rattle.nla_frame.specs.Attribute.{Attribute, list_string, masked}
use Rattle.nla_frame.specs.Canonical.{attribute_for, attributes_for}
use Rattle.nla_frame.specs.Answers.{Answers, CertainUnless, Gives, OnAnswer, verdict}
use Rattle.nla_frame.specs.declared.error.DecodeError.{DecodeError}
use Rattle.linkinfo_table.specs.FamilyRows.{FamilyRow, IsFlat, row_of}
use Rattle.linkinfo_table.specs.RowLaws.{alike_masked}
use Rattle.linkinfo_table.specs.Rows.{alike_in, headers_inside}
use Rattle.linkinfo_devices.specs.Nested.{flat_headers, in_list}

verdict_in_list : {X Y : Type 0} (label : X → Y) (r : Result X DecodeError) →
    verdict r ≡ verdict (in_list label r)
verdict_in_list label (Ok x) = refl
verdict_in_list label (Err e) = refl

-- checked: `inner` is what a payload means as a list
pub checked_list : {X Y : Type 0} (label : X → Y) (inner : List ℕ → Result X DecodeError)
    (p q : List ℕ) (r : Result (Unit {0}) DecodeError) (m : Result Y DecodeError) →
    r ≡ verdict (inner p) → p ≡ q → m ≡ in_list label (inner q) → r ≡ verdict m
checked_list label inner p q r m answer same means =
    answer
    ∙ ap (λ s. verdict (inner s)) same
    ∙ verdict_in_list label (inner q)
    ∙ ap verdict (sym means)

-- read: `view` is the value of a decoded list
module _ {V X Y : Type 0} (view : V → X) (label : X → Y) (m : Result Y DecodeError)
    (result : Result Y DecodeError) where
  given : (r : Result V DecodeError) (inner : Result X DecodeError) → Gives view r inner →
      result ≡ in_list (λ v. label (view v)) r → m ≡ in_list label inner →
      Gives (λ y. y) result m
  given (Ok v) inner gives made means =
      subst (λ t. Gives (λ y. y) t m) (sym made) (means ∙ ap (in_list label) gives)
  given (Err e) inner gives made means =
      subst (λ t. Gives (λ y. y) t m) (sym made) (λ other. means ∙ ap (in_list label) (gives other))

  pub given_list : (inner : List ℕ → Result X DecodeError) (p q : List ℕ)
      (r : Result V DecodeError) → Gives view r (inner p) → p ≡ q →
      result ≡ in_list (λ v. label (view v)) r → m ≡ in_list label (inner q) →
      Gives (λ y. y) result m
  given_list inner p q r gives same made means =
      given r (inner q) (subst (λ s. Gives view r (inner s)) same gives) made means

  answered : (r : Result V DecodeError) (inner : Result X DecodeError) → Answers view r inner →
      result ≡ in_list (λ v. label (view v)) r → m ≡ in_list label inner →
      Answers (λ y. y) result m
  answered (Ok v) inner answers made means =
      subst (λ t. Answers (λ y. y) t m) (sym made) (means ∙ ap (in_list label) answers)
  answered (Err e) inner answers made means =
      subst (λ t. Answers (λ y. y) t m) (sym made) (means ∙ ap (in_list label) answers)

  pub certain_list : (inner : List ℕ → Result X DecodeError) (needs : List ℕ → Bool) (p q : List ℕ)
      (r : Result V DecodeError) (needed : Bool) →
      CertainUnless (needs p) view r (inner p) → p ≡ q → result ≡ in_list (λ v. label (view v)) r →
      m ≡ in_list label (inner q) → needed ≡ needs q →
      CertainUnless needed (λ y. y) result m
  certain_list inner needs p q r needed certain same made means needing none =
      answered r (inner q)
      (subst (λ s. CertainUnless (needs s) view r (inner s)) same certain (sym needing ∙ none)) made
      means

pub on_list_answer : {V X Y : Type 0} (view : V → X) (label : X → Y) (r : Result V DecodeError)
    (result : Result Y DecodeError) {P Q : Type 0} → OnAnswer r P →
    result ≡ in_list (λ v. label (view v)) r → (P → Q) → OnAnswer result Q
on_list_answer view label (Ok v) result {Q = Q} on made next =
    subst (λ t. OnAnswer t Q) (sym made) (next on)
on_list_answer view label (Err e) result {Q = Q} on made next =
    subst (λ t. OnAnswer t Q) (sym made) (λ other. next (on other))

-- compared
pub accepted_list : {X Y : Type 0} (label : X → Y) (inner : List ℕ → Result X DecodeError)
    (p q : List ℕ) (m : Result Y DecodeError) →
    p ≡ q → m ≡ in_list label (inner q) → IsOk m → IsOk (inner p)
accepted_list {X = X} label inner p q m same means ok =
    subst (λ s. IsOk (inner s)) (sym same) (go (inner q) (subst IsOk means ok))
  where
    go : (r : Result X DecodeError) → IsOk (in_list label r) → IsOk r
    go (Ok x) h = refl
    go (Err e) h = absurd cc

-- a fact for any result
pub on_each : {X : Type 0} (r : Result X DecodeError) {P : Type 0} → P → OnAnswer r P
on_each (Ok x) h = h
on_each (Err e) h = λ _. h

pub compared_list : (inner : List ℕ → List ℕ → Bool) (p q s t : List ℕ) (k l : ℕ)
    (result m : Bool) → result ≡ inner p s → p ≡ q → s ≡ t →
    m ≡ ((l == k) && inner q t) → l ≡ k → result ≡ m
compared_list inner p q s t k l result m answer first second means kinds =
    answer
    ∙ (λ i. inner (first i) (second i))
    ∙ sym (means ∙ ap (λ b. b && inner q t) (eq-eqb l k kinds))

pub other_type : (inner m : Bool) (k l : ℕ) → m ≡ ((l == k) && inner) → (l ≡ k → ⊥) → false ≡ m
other_type inner m k l means other = sym (means ∙ ap (λ b. b && inner) (ne_eqb l k other))

pub on_true : (r : Bool) {P Q : Type 0} → (r ≡ true → P → Q) → OnTrue r P → OnTrue r Q
on_true true next on = next refl on
on_true false next on = tt

pub where_true : (r : Bool) {P : Type 0} → (r ≡ true → P) → OnTrue r P
where_true true next = next refl
where_true false next = tt

-- two equivalent attributes contain no headers if the first one's row has a shape of the table, or
-- none
pub flat_pair : {X : Type 0} (rows : ℕ → FamilyRow X) (a b : Attribute) →
    IsFlat (rows (masked a.kind)) → alike_in (λ n. row_of (rows n)) a b ≡ true →
    headers_inside (λ n. row_of (rows n)) a + headers_inside (λ n. row_of (rows n)) b ≡ 0
unfolding alike_in
flat_pair rows a b flat alike =
    let same = alike_masked (row_of (rows (masked a.kind))) a b alike in
    omega (
      arith,
      flat_headers rows a flat,
      flat_headers rows b (subst (λ n. IsFlat (rows n)) (sym same) flat),
    )

-- written: the attribute with the list that a payload means
pub list_attribute : {X : Type 0} (canonical : X → Attribute) (label : List X → X) →
    ((xs : List X) →
    canonical (label xs) ≡ record { kind = 5; value = list_string (map canonical xs) }) →
    (inner : List ℕ → Result (List X) DecodeError) (p q : List ℕ) (m : Result X DecodeError) →
    p ≡ q → m ≡ in_list label (inner q) → IsOk m →
    attribute_for canonical m
    ≡ record { kind = 5; value = list_string (attributes_for canonical (inner p)) }
list_attribute {X = X} canonical label written inner p q m same means ok =
    ap (λ t. attribute_for canonical t) means
    ∙ go (inner q) (subst IsOk means ok)
    ∙ ap (λ s. record { kind = 5; value = list_string (attributes_for canonical (inner s)) })
    (sym same)
  where
    go : (r : Result (List X) DecodeError) → IsOk (in_list label r) →
        attribute_for canonical (in_list label r)
        ≡ record { kind = 5; value = list_string (attributes_for canonical r) }
    go (Ok xs) h = written xs
    go (Err e) h = absurd cc
