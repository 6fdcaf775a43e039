-- From the results of the calls of a payload to what the payload's row means.
use Rattle.std.specs.Prelude.{
  ◌≡◌,
  ◌==◌,
  ◌&&◌,
  ℕ,
  Bool,
  true,
  false,
  List,
  Result,
  Ok,
  Err,
  IsOk,
  refl,
}
use Rattle.std.specs.Bool.{OnTrue}
use Rattle.std.proofs.Common.{sym, ap, subst, ◌∙◌}
use Rattle.std.proofs.lemmas.Bool.{cond-false, cond-true, eq-eqb, ne_eqb}
use Rattle.nla_frame.specs.Answers.{Answers, CertainUnless, Gives, OnAnswer, verdict}
use Rattle.nla_frame.specs.Attribute.{Attribute, masked}
use Rattle.nla_frame.specs.Canonical.{attribute_for, bytes_for}
use Rattle.nla_frame.specs.declared.error.DecodeError.{DecodeError}
use Rattle.nla_frame.specs.declared.error.Family.{Family}
use Rattle.linkinfo_table.specs.Codecs.{PayloadError}
use Rattle.linkinfo_table.specs.CustomRows.{headers_either}
use Rattle.linkinfo_table.specs.FamilyRows.{FamilyRow, row_of}
use Rattle.linkinfo_table.specs.Payloads.{placed, wrapped}
use Rattle.linkinfo_table.specs.RowLaws.{alike_masked}
use Rattle.linkinfo_table.specs.Rows.{
  alike_in,
  labelled,
}

-- ---- facts of results

pub on_each : {X : Type 0} (r : Result X DecodeError) {P : Type 0} → P → OnAnswer r P
on_each (Ok x) h = h
on_each (Err e) h = λ _. h

pub where_true : (r : Bool) {P : Type 0} → (r ≡ true → P) → OnTrue r P
where_true true next = next refl
where_true false next = tt

-- ---- from a payload to the value with it

module _ {X F : Type 0} (label : X → F) where
  wrapped_is : (f : Family) (n : ℕ) (r : Result X PayloadError) →
      labelled f n label r ≡ wrapped label (placed f n r)
  wrapped_is f n (Ok x) = refl
  wrapped_is f n (Err e) = refl

  -- what the row means, in the words of the call
  pub in_call : (means : List ℕ → Result X PayloadError) (f g : Family) (m n : ℕ) (p q : List ℕ) →
      f ≡ g → m ≡ n → p ≡ q →
      labelled g n label (means q) ≡ wrapped label (placed f m (means p))
  in_call means f g m n p q e h i =
      wrapped_is g n (means q) ∙ sym (λ j. wrapped label (placed (e j) (h j) (means (i j))))

  verdict_wrapped : (r : Result X DecodeError) → verdict r ≡ verdict (wrapped label r)
  verdict_wrapped (Ok x) = refl
  verdict_wrapped (Err e) = refl

  pub checked : (r : Result (Unit {0}) DecodeError) (inner : Result X DecodeError)
      (m : Result F DecodeError) → r ≡ verdict inner → m ≡ wrapped label inner → r ≡ verdict m
  checked r inner m answer means = answer ∙ verdict_wrapped inner ∙ ap verdict (sym means)

  given : (r inner : Result X DecodeError) → Gives (λ x. x) r inner →
      Gives (λ x. x) (wrapped label r) (wrapped label inner)
  given (Ok x) inner gives = ap (wrapped label) gives
  given (Err e) inner gives = λ other. ap (wrapped label) (gives other)

  answered : (r inner : Result X DecodeError) → Answers (λ x. x) r inner →
      Answers (λ x. x) (wrapped label r) (wrapped label inner)
  answered (Ok x) inner answers = ap (wrapped label) answers
  answered (Err e) inner answers = ap (wrapped label) answers

  on_wrapped : (r : Result X DecodeError) {P Q : Type 0} → (P → Q) → OnAnswer r P →
      OnAnswer (wrapped label r) Q
  on_wrapped (Ok x) next on = next on
  on_wrapped (Err e) next on = λ other. next (on other)

  module _ (r inner : Result X DecodeError) (result m : Result F DecodeError)
      (made : result ≡ wrapped label r) (means : m ≡ wrapped label inner) where
    pub gives_value : Gives (λ x. x) r inner → Gives (λ x. x) result m
    gives_value gives =
        subst (λ t. Gives (λ x. x) t m) (sym made)
        (subst (λ t. Gives (λ x. x) (wrapped label r) t) (sym means) (given r inner gives))

    pub certain_value : (needed needs : Bool) → needed ≡ needs →
        CertainUnless needs (λ x. x) r inner → CertainUnless needed (λ x. x) result m
    certain_value needed needs same certain none =
        subst (λ t. Answers (λ x. x) t m) (sym made)
        (subst (λ t. Answers (λ x. x) (wrapped label r) t) (sym means)
        (answered r inner (certain (sym same ∙ none))))

    pub on_value : {P Q : Type 0} → (P → Q) → OnAnswer r P → OnAnswer result Q
    on_value {Q = Q} next on = subst (λ t. OnAnswer t Q) (sym made) (on_wrapped r next on)

  -- an accepted attribute contains an accepted payload
  labelled_ok : (f : Family) (n : ℕ) (r : Result X PayloadError) → IsOk (labelled f n label r) →
      IsOk r
  labelled_ok f n (Ok x) h = refl
  labelled_ok f n (Err e) h = absurd cc

  pub accepted : (means : List ℕ → Result X PayloadError) (f : Family) (n : ℕ) (p q : List ℕ)
      (m : Result F DecodeError) → p ≡ q → m ≡ labelled f n label (means q) → IsOk m →
      IsOk (means p)
  accepted means f n p q m same is ok =
      subst (λ s. IsOk (means s)) (sym same) (labelled_ok f n (means q) (subst IsOk is ok))

  -- it is written as the payload that it contains
  module _ (canonical : F → Attribute) (canon : X → List ℕ) (k : ℕ)
      (written : (x : X) → canonical (label x) ≡ record { kind = k; value = canon x }) where
    labelled_for : (f : Family) (n : ℕ) (r : Result X PayloadError) → IsOk (labelled f n label r) →
        attribute_for canonical (labelled f n label r)
        ≡ record { kind = k; value = bytes_for canon r }
    labelled_for f n (Ok x) h = written x
    labelled_for f n (Err e) h = absurd cc

    pub attribute_is : (means : List ℕ → Result X PayloadError) (f : Family) (n : ℕ) (p q : List ℕ)
        (m : Result F DecodeError) → p ≡ q → m ≡ labelled f n label (means q) → IsOk m →
        attribute_for canonical m ≡ record { kind = k; value = bytes_for canon (means p) }
    attribute_is means f n p q m same is ok =
        ap (λ t. attribute_for canonical t) is
        ∙ labelled_for f n (means q) (subst IsOk is ok)
        ∙ ap (λ s. record { kind = k; value = bytes_for canon (means s) }) (sym same)

pub same_type : (inner m : Bool) (k l : ℕ) → m ≡ ((l == k) && inner) → l ≡ k → inner ≡ m
same_type inner m k l means same = sym (means ∙ ap (λ b. b && inner) (eq-eqb l k same))

pub other_type : (inner m : Bool) (k l : ℕ) → m ≡ ((l == k) && inner) → (l ≡ k → ⊥) → false ≡ m
other_type inner m k l means other = sym (means ∙ ap (λ b. b && inner) (ne_eqb l k other))

pub on_true : (r : Bool) {P Q : Type 0} → (r ≡ true → P → Q) → OnTrue r P → OnTrue r Q
on_true true next on = next refl on
on_true false next on = tt

-- ---- in a list of rows

-- equivalent attributes have equal masked types
pub alike_types : {F : Type 0} (rows : ℕ → FamilyRow F) (a b : Attribute) →
    alike_in (λ n. row_of (rows n)) a b ≡ true → masked b.kind ≡ masked a.kind
unfolding alike_in
alike_types rows a b h = alike_masked (row_of (rows (masked a.kind))) a b h

module _ (number : ℕ) (inside : List ℕ → ℕ) (others : Attribute → ℕ) (a : Attribute) where
  pub either_at : masked a.kind ≡ number → headers_either number inside others a ≡ inside a.value
  either_at at = cond-true (masked a.kind == number) _ _ (eq-eqb (masked a.kind) number at)

  pub either_other : (masked a.kind ≡ number → ⊥) →
      headers_either number inside others a ≡ others a
  either_other other =
      cond-false (masked a.kind == number) _ _ (ne_eqb (masked a.kind) number other)
