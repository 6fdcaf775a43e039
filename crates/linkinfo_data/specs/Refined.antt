-- A layer and the peer's own: what the families of a layer accept and compare, beside families that
-- keep each attribute verbatim.
use Rattle.std.specs.Prelude.{
  ◌≡◌,
  ◌⊎◌,
  ◌==◌,
  ◌&&◌,
  ℕ,
  Bool,
  true,
  false,
  List,
  Result,
  Ok,
  Err,
  IsOk,
  refl,
}
use Rattle.std.specs.Str.{bytes_eq}
use Rattle.std.proofs.Common.{inl, inr, subst, sym, ◌∙◌}
use Rattle.std.proofs.lemmas.Bool.{and_parts, eqb-true}
use Rattle.std.proofs.lemmas.Slice.Eq.{bytes_eq-Decides}
use Rattle.nla_frame.specs.Answers.{verdict}
use Rattle.nla_frame.specs.Attribute.{Attribute, IsAttribute, IsBytes}
use Rattle.nla_frame.specs.NlaItems.{nla_items}
use Rattle.nla_frame.specs.declared.error.DecodeError.{DecodeError}
use Rattle.nla_frame.specs.declared.error.Family.{Family}
use Rattle.linkinfo_table.specs.Contents.{Contents, ListOf, Listed, NoList, listed, single_value}
use Rattle.linkinfo_table.specs.EachAttribute.{list_accepts, list_alike}
use Rattle.linkinfo_table.specs.Lists.{◌>>=◌, values}
use Rattle.linkinfo_table.specs.Members.{IsFamily, Members}
use Rattle.linkinfo_table.specs.Rows.{alike_in, meaning_in}
use Rattle.linkinfo_data.specs.FamiliesLawful.{opaque_members}
use Rattle.linkinfo_data.specs.Known.{IsKnown}
use Rattle.linkinfo_data.specs.Payloads.{Payload, as_bytes, as_first, as_list}

-- payloads with the same answers, whatever the types of their values
pub record AreEqual {X Y : Type 0} (fine : Payload X) (coarse : Payload Y) : Type 0 where
  pub contents : fine.contents ≡ coarse.contents
  pub verdicts : (p : List ℕ) → fine.verdicts p ≡ coarse.verdicts p
  pub headers : (p : List ℕ) → fine.headers p ≡ coarse.headers p
  pub alike : (p q : List ℕ) → fine.alike p q ≡ coarse.alike p q
  pub needs_memory : (p : List ℕ) → fine.needs_memory p ≡ coarse.needs_memory p
  pub canonical : (p : List ℕ) → fine.canonical p ≡ coarse.canonical p

-- lists of attributes, beside lists of single values, each of which is equivalent to itself alone
pub record AreLists {X Y : Type 0} (fine : Payload X) (coarse : Payload Y) : Type 0 where
  pub here : Listed
  pub inside : ℕ → Contents
  pub is_here : fine.contents ≡ ListOf here inside
  pub there : Listed
  pub within : ℕ → Contents
  pub is_there : coarse.contents ≡ ListOf there within
  pub single : (n : ℕ) → within n ≡ single_value
  pub same : (a b : Attribute) → there.alike a b ≡ true → a ≡ b
  pub in_order : there.is_set ≡ false

-- Each payload that `fine` accepts is accepted by `coarse`. One that `fine` accepts is equivalent
-- to each payload that is equivalent to it in `coarse`.
pub record Refines {X Y : Type 0} (fine : Payload X) (coarse : Payload Y) : Type 0 where
  pub accepts : (p : List ℕ) → IsOk (fine.means p) → IsOk (coarse.means p)
  pub alike : (p q : List ℕ) → IsBytes p → IsOk (fine.means p) → coarse.alike p q ≡ true →
      fine.alike p q ≡ true
  pub contains : AreEqual fine coarse ⊎ AreLists fine coarse

-- whether what payloads contain is a set
abbrev pub is_set_in : Contents → Bool
is_set_in (NoList place count) = false
is_set_in (ListOf l inside) = l.is_set

-- ---- one family under two variants

pub list_equal : {A X Y : Type 0} (f : Members A) (x : List A → X) (y : List A → Y) →
    AreEqual (as_list f x) (as_list f y)
list_equal f x y = record {
  contents = refl;
  verdicts = λ p. refl;
  headers = λ p. refl;
  alike = λ p q. refl;
  needs_memory = λ p. refl;
  canonical = λ p. refl;
}

pub first_equal : {A X Y : Type 0} (f : Members A) (x : A → X) (y : A → Y) →
    AreEqual (as_first f x) (as_first f y)
first_equal f x y = record {
  contents = refl;
  verdicts = λ p. refl;
  headers = λ p. refl;
  alike = λ p q. refl;
  needs_memory = λ p. refl;
  canonical = λ p. refl;
}

pub bytes_equal : {X Y : Type 0} (x : List ℕ → X) (y : List ℕ → Y) →
    AreEqual (as_bytes x) (as_bytes y)
bytes_equal x y = record {
  contents = refl;
  verdicts = λ p. refl;
  headers = λ p. refl;
  alike = λ p q. refl;
  needs_memory = λ p. refl;
  canonical = λ p. refl;
}

-- what one verdict accepts an equal one accepts
ok_verdict : {X : Type 0} (r : Result X DecodeError) → IsOk r → IsOk (verdict r)
ok_verdict (Ok x) h = refl
ok_verdict (Err e) h = absurd cc

verdict_ok : {X : Type 0} (r : Result X DecodeError) → IsOk (verdict r) → IsOk r
verdict_ok (Ok x) h = refl
verdict_ok (Err e) h = absurd cc

pub equal_refines : {X Y : Type 0} (fine : Payload X) (coarse : Payload Y) → IsKnown fine →
    IsKnown coarse → AreEqual fine coarse → Refines fine coarse
equal_refines fine coarse known same equal = record {
  accepts = λ p h.
      verdict_ok (coarse.means p)
      (subst (λ (r : Result (Unit {0}) DecodeError). IsOk r)
      (known p ∙ equal.verdicts p ∙ sym (same p)) (ok_verdict (fine.means p) h));
  alike = λ p q b h e. equal.alike p q ∙ e;
  contains = inl equal;
}

-- ---- a family that a layer supplies, beside one that keeps each attribute

-- a family that keeps each attribute, and compares all of it
pub record IsVerbatim {X : Type 0} (m : Members X) : Type 0 where
  pub keeps : (a : Attribute) → IsOk (m.meaning a)
  pub same : (a b : Attribute) → m.alike a b ≡ true → a ≡ b
  pub single : (n : ℕ) → m.contents n ≡ single_value
  pub in_order : m.is_set ≡ false

same_attribute : (a b : Attribute) → a.kind ≡ b.kind → a.value ≡ b.value → a ≡ b
same_attribute a b kinds values i = record { kind = kinds i; value = values i }

pub opaque_verbatim : (number : ℕ) (f : Family) → IsVerbatim (opaque_members number f)
unfolding meaning_in alike_in
opaque_verbatim number f = record {
  keeps = λ a. refl;
  same = λ a b e.
      let parts = and_parts (b.kind == a.kind) (bytes_eq a.value b.value) e in
      same_attribute a b (sym (eqb-true b.kind a.kind parts.0))
      ((bytes_eq-Decides a.value b.value).0 parts.1);
  single = λ n. refl;
  in_order = refl;
}

ok_under : {A X : Type 0} (r : Result A DecodeError) (label : A → X) →
    IsOk (r >>= λ x. Ok (label x)) → IsOk r
ok_under (Ok x) label h = refl
ok_under (Err e) label h = absurd cc

ok_labelled : {A X : Type 0} (r : Result A DecodeError) (label : A → X) → IsOk r →
    IsOk (r >>= λ x. Ok (label x))
ok_labelled (Ok x) label h = refl
ok_labelled (Err e) label h = absurd cc

module _ {A B : Type 0} (fine : Members A) (coarse : Members B) (verbatim : IsVerbatim coarse) where
  itself : IsFamily fine → (a : Attribute) → IsAttribute a → IsOk (fine.meaning a) →
      fine.alike a a ≡ true
  itself law a i h = go (fine.meaning a) refl h
    where
      go : (r : Result A DecodeError) → fine.meaning a ≡ r → IsOk r → fine.alike a a ≡ true
      go (Ok x) e k = (law.alike_is a a x x i i e e).1 refl
      go (Err d) e k = absurd cc

  each_alike : IsFamily fine → (a b : Attribute) → IsAttribute a → IsOk (fine.meaning a) →
      coarse.alike a b ≡ true → fine.alike a b ≡ true
  each_alike law a b i h e =
      subst (λ (x : Attribute). fine.alike a x ≡ true) (verbatim.same a b e) (itself law a i h)

  pub list_refined : {X Y : Type 0} → IsFamily fine → (x : List A → X) (y : List B → Y) →
      Refines (as_list fine x) (as_list coarse y)
  list_refined law x y = record {
    accepts = λ p h.
        ok_labelled (values coarse.meaning (nla_items p)) y
        (list_accepts (λ _ a. fine.meaning a) (λ t _. t) (λ _ a. coarse.meaning a)
        (λ _ a _. verbatim.keeps a) tt (nla_items p)
        (ok_under (values fine.meaning (nla_items p)) x h));
    alike = λ p q b h e.
        list_alike (λ _ a. fine.meaning a) (λ t _. t) (λ _ a c. fine.alike a c)
        (λ _ a c. coarse.alike a c) (λ _. each_alike law) tt p q b
        (ok_under (values fine.meaning (nla_items p)) x h) e;
    contains = inr (record {
      here = listed fine.family fine.meaning fine.alike fine.is_set;
      inside = fine.contents;
      is_here = refl;
      there = listed coarse.family coarse.meaning coarse.alike coarse.is_set;
      within = coarse.contents;
      is_there = refl;
      single = verbatim.single;
      same = verbatim.same;
      in_order = verbatim.in_order;
    });
  }
