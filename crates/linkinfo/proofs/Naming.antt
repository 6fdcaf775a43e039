-- The rows of names, given what the name is.
use Rattle.std.proofs.Common.{
  ◌≡◌,
  ℕ,
  Bool,
  true,
  false,
  List,
  Option,
  Some,
  None,
  refl,
  sym,
  ap,
  subst,
  ◌∙◌,
  Result,
  Ok,
  Err,
  inl,
  inr,
}
use Rattle.std.specs.Prelude.{IsOk, if◌then◌else◌}
use Rattle.std.specs.Str.{is_utf8}
use Rattle.nla_frame.specs.Answers.{verdict}
use Rattle.std.proofs.lemmas.Bool.{cases_Bool, cond-false}
use Rattle.nla_frame.specs.Attribute.{Attribute, masked}
use Rattle.nla_frame.specs.declared.error.Cause.{Cause}
use Rattle.nla_frame.specs.declared.error.Cause.TheVariants as cause
use Rattle.nla_frame.specs.declared.error.Family.TheVariants as family
use Rattle.nla_frame.specs.declared.error.DecodeError.{DecodeError}
use Rattle.nla_frame.specs.Payload.{stripped}
use Rattle.linkinfo_shapes.specs.Shapes.{IsAccepted, means, needs_memory}
use Rattle.linkinfo_shapes.specs.declared.shape.Shape.TheVariants.{Name}
use Rattle.linkinfo_table.specs.FamilyRows.{own}
use Rattle.linkinfo_table.specs.Rows.{labelled}
use Rattle.linkinfo.specs.declared.role.CurrentKinds.{CurrentKinds}
use Rattle.linkinfo.specs.Roles.{name_meaning, name_or_error, with_name}

module _ {X : Type 0} (label : List ℕ → X) where
  abbrev pub named : Attribute → Result X DecodeError
  named a = labelled family.LinkInfo (masked a.kind) label (own (means Name a.value))

  pub named_ok : (a : Attribute) (name : List ℕ) (x : X) → name_meaning a ≡ Ok name →
      label name ≡ x → named a ≡ Ok x
  unfolding name_meaning
  named_ok a name x e is = go (means Name a.value) e
    where
      same : (n : List ℕ) → name_or_error a (Ok n) ≡ Ok name → n ≡ name
      same n h = cc

      go : (r : Result (List ℕ) Cause) → name_or_error a r ≡ Ok name →
          labelled family.LinkInfo (masked a.kind) label (own r) ≡ Ok x
      go (Ok n) h =
          let z : label n ≡ x = ap label (same n h) ∙ is in
          ap (λ (y : X). let s : Result X DecodeError = Ok y in s) z
      go (Err c) h = absurd cc

  pub named_err : (a : Attribute) (d : DecodeError) → name_meaning a ≡ Err d → named a ≡ Err d
  unfolding name_meaning
  named_err a d e = go (means Name a.value) e
    where
      go : (r : Result (List ℕ) Cause) → name_or_error a r ≡ Err d →
          labelled family.LinkInfo (masked a.kind) label (own r) ≡ Err d
      go (Ok n) h = absurd cc
      go (Err c) h = cc

  -- a name that is UTF-8 is accepted
  pub name_checked : (a : Attribute) → IsOk (name_meaning a) → Ok tt ≡ verdict (named a)
  name_checked a ok = go (name_meaning a) refl ok
    where
      go : (r : Result (List ℕ) DecodeError) → name_meaning a ≡ r → IsOk r →
          Ok tt ≡ verdict (named a)
      go (Ok name) e h = sym (ap verdict (named_ok a name (label name) e refl))
      go (Err d) e h = absurd cc

  -- an accepted name is accepted by its shape
  pub accepted_name : (a : Attribute) (p : List ℕ) → p ≡ a.value → IsOk (named a) →
      IsAccepted Name p
  unfolding IsAccepted
  accepted_name a p e ok =
      subst (λ (q : List ℕ). IsOk (means Name q)) (sym e) (go (means Name a.value) ok)
    where
      go : (r : Result (List ℕ) Cause) →
          IsOk (labelled family.LinkInfo (masked a.kind) label (own r)) → IsOk r
      go (Ok n) h = refl
      go (Err c) h = absurd cc

-- a name that is UTF-8 is accepted by its shape
pub entered_name : (a : Attribute) (p : List ℕ) → p ≡ a.value → IsOk (name_meaning a) →
    IsAccepted Name p
unfolding name_meaning
entered_name a p e ok = accepted_name (λ (name : List ℕ). name) a p e (go (means Name a.value) ok)
  where
    go : (r : Result (List ℕ) Cause) → IsOk (name_or_error a r) →
        IsOk (labelled family.LinkInfo (masked a.kind) (λ (name : List ℕ). name) (own r))
    go (Ok n) h = refl
    go (Err c) h = absurd cc

pub with_name_ok : (r : Result (List ℕ) DecodeError) (f : List ℕ → CurrentKinds) →
    IsOk (with_name r f) →
    IsOk r
with_name_ok (Ok n) f h = refl
with_name_ok (Err e) f h = absurd cc

abbrev no_text : Result (List ℕ) Cause
no_text = Err cause.Utf8

-- parsing a name may allocate
pub name_needs : (a : Attribute) (name : List ℕ) → name_meaning a ≡ Ok name →
    needs_memory Name a.value ≡ true
unfolding name_meaning
name_needs a name e =
    elim (cases_Bool (is_utf8 (stripped a.value))) [
      | inl text ↦ text
      | inr other ↦
          absurd (never (means Name a.value) (cond-false (is_utf8 (stripped a.value)) _ _ other) e)
    ]
  where
    never : (r : Result (List ℕ) Cause) → r ≡ no_text → name_or_error a r ≡ Ok name → ⊥
    never (Ok n) h k = absurd cc
    never (Err c) h k = absurd cc

-- ---- what is made of a name

abbrev text_if : Bool → List ℕ → Result (List ℕ) Cause
text_if b bytes = if b then Ok bytes else Err cause.Utf8

-- the value is made of the payload's bytes, if they are UTF-8
pub made_of_bytes : {X : Type 0} (a : Attribute) (f : List ℕ → X) →
    is_utf8 (stripped a.value) ≡ true → with_name (name_meaning a) f ≡ Ok (f (stripped a.value))
unfolding name_meaning
made_of_bytes a f e =
    ap (λ (b : Bool). with_name (name_or_error a (text_if b (stripped a.value))) f) e

pub made_of_name : {X : Type 0} (a : Attribute) (f : List ℕ → X) (name : List ℕ) →
    name_meaning a ≡ Ok name → with_name (name_meaning a) f ≡ Ok (f (stripped a.value))
made_of_name a f name e = made_of_bytes a f (name_needs a name e)

pub made_of_none : {X : Type 0} (a : Attribute) (f : List ℕ → X) (d : DecodeError) →
    name_meaning a ≡ Err d → with_name (name_meaning a) f ≡ Err d
made_of_none a f d e = ap (λ (r : Result (List ℕ) DecodeError). with_name r f) e

module _ {K : Type 0} (f : List ℕ → K) where
  -- the value of a known name, and of any name that is UTF-8
  pub made_known : (a : Attribute) (bytes : List ℕ) (k : K) → bytes ≡ stripped a.value →
      is_utf8 bytes ≡ true → f bytes ≡ k → with_name (name_meaning a) f ≡ Ok k
  made_known a bytes k is text e =
      made_of_bytes a f (ap is_utf8 (sym is) ∙ text)
      ∙ ap (λ (x : K). let r : Result K DecodeError = Ok x in r) (ap f (sym is) ∙ e)

  pub made_named : (a : Attribute) (name : List ℕ) (k : K) → name_meaning a ≡ Ok name → k ≡ f name →
      with_name (name_meaning a) f ≡ Ok k
  made_named a name k e is =
      ap (λ (r : Result (List ℕ) DecodeError). with_name r f) e
      ∙ ap (λ (x : K). let r : Result K DecodeError = Ok x in r) (sym is)

-- ---- names by their tags

abbrev tagged_by : {T : Type 0} → (List ℕ → T) → Result (List ℕ) DecodeError →
    Result (Option T) DecodeError
tagged_by tag_of r = with_name r (λ name. Some (tag_of name))

-- the tag of a name that an attribute holds
tag_at : {T : Type 0} (tag_of : List ℕ → T) (r : Result (List ℕ) DecodeError) (name : List ℕ)
    (t : T) → tagged_by tag_of r ≡ Ok (Some t) → r ≡ Ok name → tag_of name ≡ t
tag_at tag_of (Ok n) name t e is = let same : name ≡ n = cc in ap tag_of same ∙ cc
tag_at tag_of (Err d) name t e is = absurd cc

module _ {T K : Type 0} (tag_of : List ℕ → T) (kind_of : List ℕ → K) (of_tag : T → Option K)
    (a : Attribute) (t : T) (tagged : tagged_by tag_of (name_meaning a) ≡ Ok (Some t)) where
  -- the kind of a name is that of its tag, if the tag has one ..
  pub kind_by_tag : (k : K) → of_tag t ≡ Some k →
      ((name : List ℕ) (x : K) → of_tag (tag_of name) ≡ Some x → kind_of name ≡ x) →
      with_name (name_meaning a) kind_of ≡ Ok k
  kind_by_tag k e by_tag = go (name_meaning a) refl tagged
    where
      go : (r : Result (List ℕ) DecodeError) → name_meaning a ≡ r →
          tagged_by tag_of r ≡ Ok (Some t) → with_name (name_meaning a) kind_of ≡ Ok k
      go (Ok name) is h =
          made_named kind_of a name k is
          (sym (by_tag name k (ap of_tag (tag_at tag_of (Ok name) name t h refl) ∙ e)))
      go (Err d) is h = absurd cc

  -- .. otherwise that of an unknown name
  pub kind_by_name : (other : List ℕ → K) (name text : List ℕ) → of_tag t ≡ None →
      name_meaning a ≡ Ok name → text ≡ name →
      ((n : List ℕ) → of_tag (tag_of n) ≡ None → kind_of n ≡ other n) →
      with_name (name_meaning a) kind_of ≡ Ok (other text)
  kind_by_name other name text e is same by_name =
      made_named kind_of a name (other text) is
      (ap other same
      ∙ sym (by_name name (ap of_tag (tag_at tag_of (name_meaning a) name t tagged is) ∙ e)))

module _ {K X : Type 0} (f : List ℕ → K) (label : K → X) where
  pub made_ok : (a : Attribute) (k : K) → with_name (name_meaning a) f ≡ Ok k →
      named (λ name. label (f name)) a ≡ Ok (label k)
  made_ok a k e = go (name_meaning a) refl e
    where
      go : (r : Result (List ℕ) DecodeError) → name_meaning a ≡ r → with_name r f ≡ Ok k →
          named (λ name. label (f name)) a ≡ Ok (label k)
      go (Ok name) h is =
          let same : f name ≡ k = cc in
          named_ok (λ n. label (f n)) a name (label k) h (ap label same)
      go (Err d) h is = absurd cc

pub not_both : (b : Bool) → b ≡ true → b ≡ false → ⊥
not_both true h k = absurd cc
not_both false h k = absurd cc
