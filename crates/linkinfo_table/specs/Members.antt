-- What a family defines for its attributes under one context, as `LinkFamily` has it. Also what
-- follows for payloads that are a list of its attributes, or begin with one.
use Rattle.std.specs.Prelude.{
  ◌≡◌,
  ◌≢◌,
  ◌↔◌,
  ℕ,
  ◌*◌,
  ◌≤◌,
  Bool,
  true,
  List,
  [],
  ◌∷◌,
  length,
  Result,
  Ok,
  Err,
  is_ok,
  refl,
}
use Rattle.std.specs.List.{AllByRecursion}
use Rattle.std.proofs.Common.{sym, ap, ◌∙◌, arith}
use Rattle.nla_frame.specs.Attribute.{Attribute, IsAttribute, IsBytes, Fits, canonical_string}
use Rattle.nla_frame.specs.Error.{memory_error}
use Rattle.nla_frame.specs.NlaItems.{nla_items, nla_items_of, split}
use Rattle.nla_frame.specs.declared.error.DecodeError.{DecodeError}
use Rattle.nla_frame.specs.declared.error.Family.{Family}
use Rattle.nla_frame.proofs.ByteLists.{IsBytes-canonical_string}
use Rattle.nla_frame.proofs.Emitting.{one_fits}
use Rattle.nla_frame.proofs.Framing.{split_is, splits_attributes}
use Rattle.nla_frame.proofs.Stepping.{nla_items_split, nla_items_nil, seen_room, by_nla_items}
use Rattle.linkinfo_table.specs.Codecs.{Codec, IsCodec}
use Rattle.linkinfo_table.specs.Contents.{Contents, HasOneType, IsContent, ListOf, listed}
use Rattle.linkinfo_table.specs.Lists.{first_meaning, first_headers, first_alike, first_memory}
use Rattle.linkinfo_table.specs.ListLaws.{header_is_no_memory, first_read_well, first_well_reads}
use Rattle.linkinfo_table.specs.SelfList.{
  inside,
  read_inside,
  not_own,
  not_inner,
  list_codec,
  list_is_codec,
}

pub record Members (X : Type 0) : Type 1 where
  pub family : Family
  -- the families of the attributes inside its attributes
  pub inner : List Family
  pub meaning : Attribute → Result X DecodeError
  pub headers : Attribute → ℕ
  pub alike : Attribute → Attribute → Bool
  pub needs_memory : Attribute → Bool
  pub attribute : X → Attribute
  pub well : X → Type 0
  -- what attributes of each type without flag bits contain
  pub contents : ℕ → Contents
  -- whether a list of the attributes is a set
  pub is_set : Bool

-- the members under the context `c`
abbrev pub members_at : {C X : Type 0} → Family → List Family →
    (C → Attribute → Result X DecodeError) → (C → Attribute → ℕ) →
    (C → Attribute → Attribute → Bool) → (C → Attribute → Bool) → (X → Attribute) →
    (C → X → Type 0) → (C → ℕ → Contents) → Bool → C → Members X
members_at family inner meaning headers alike needs_memory attribute well contents is_set c =
    record {
      family = family;
      inner = inner;
      meaning = meaning c;
      headers = headers c;
      alike = alike c;
      needs_memory = needs_memory c;
      attribute = attribute;
      well = well c;
      contents = contents c;
      is_set = is_set;
    }

-- a payload that is a list of attributes of the family
abbrev pub listed_of : {X : Type 0} → Members X → Contents
listed_of f = ListOf (listed f.family f.meaning f.alike f.is_set) f.contents

-- the laws of `LinkFamily`
pub record IsFamily {X : Type 0} (f : Members X) : Type 0 where
  pub alike_is : (a b : Attribute) (x y : X) → IsAttribute a → IsAttribute b → f.meaning a ≡ Ok x →
      f.meaning b ≡ Ok y → (f.alike a b ≡ true) ↔ (x ≡ y)
  pub quarter : (a : Attribute) → 4 * f.headers a ≤ length a.value
  pub no_memory : (a : Attribute) → f.meaning a ≢ Err memory_error
  pub read_well : (a : Attribute) (x : X) → IsAttribute a → f.meaning a ≡ Ok x → f.well x
  pub well_reads : (x : X) → f.well x → Fits (f.attribute x) → f.meaning (f.attribute x) ≡ Ok x
  pub well_attribute : (x : X) → f.well x → Fits (f.attribute x) → IsAttribute (f.attribute x)
  pub one_type : HasOneType f.alike
  pub contained : (n : ℕ) → IsContent (f.contents n) n (λ a. is_ok (f.meaning a)) f.alike

-- ---- a payload that is a list of attributes of the family

abbrev pub list_of : {X : Type 0} → Members X → Codec
list_of f = list_codec f.meaning f.headers f.alike f.needs_memory f.attribute f.well

pub list_of_is_codec : {X : Type 0} (f : Members X) → IsFamily f → IsCodec (list_of f)
list_of_is_codec f lawful =
    list_is_codec f.meaning f.headers f.alike f.needs_memory f.attribute f.well lawful.alike_is
    lawful.quarter lawful.no_memory lawful.read_well lawful.well_reads
    lawful.well_attribute

-- ---- a payload of which only the first attribute is read

abbrev pub first_of : {X : Type 0} → Members X → Codec
first_of {X = X} f = record {
  Carrier = X;
  means = λ p. inside (first_meaning f.meaning (nla_items p));
  canon = λ x. canonical_string (f.attribute x);
  Holds = f.well;
  alike = λ p q. first_alike f.alike (nla_items p) (nla_items q);
  headers = λ p. first_headers f.headers (nla_items p);
  needs_memory = λ p. first_memory f.needs_memory (nla_items p);
}

module _ {X : Type 0} (f : Members X) (lawful : IsFamily f) where
  fronts_alike : (front other : List Attribute) (left rest : List ℕ) (x y : X) →
      AllByRecursion IsAttribute front → AllByRecursion IsAttribute other →
      first_meaning f.meaning (nla_items_of front left) ≡ Ok x →
      first_meaning f.meaning (nla_items_of other rest) ≡ Ok y →
      (first_alike f.alike (nla_items_of front left) (nla_items_of other rest) ≡ true) ↔ (x ≡ y)
  fronts_alike [] other [] rest x y i j h k = absurd cc
  fronts_alike [] other (b ∷ left) rest x y i j h k = absurd cc
  fronts_alike (a ∷ front) [] left [] x y i j h k = absurd cc
  fronts_alike (a ∷ front) [] left (b ∷ rest) x y i j h k = absurd cc
  fronts_alike (a ∷ front) (b ∷ other) left rest x y i j h k = lawful.alike_is a b x y i.0 j.0 h k

  first_alike_is : (p q : List ℕ) (x y : X) → IsBytes p → IsBytes q →
      first_meaning f.meaning (nla_items p) ≡ Ok x → first_meaning f.meaning (nla_items q) ≡ Ok y →
      (first_alike f.alike (nla_items p) (nla_items q) ≡ true) ↔ (x ≡ y)
  first_alike_is p q x y bp bq h k =
      let u = split_is p bp in
      let v = split_is q bq in
      let same : first_alike f.alike (nla_items p) (nla_items q)
      ≡ first_alike f.alike (nla_items_of (split p).front (split p).left)
      (nla_items_of (split q).front (split q).left) =
      ap (λ (ps : List (Result Attribute ℕ)). first_alike f.alike ps (nla_items q))
      (nla_items_split p)
      ∙ ap (λ (qs : List (Result Attribute ℕ)).
      first_alike f.alike (nla_items_of (split p).front (split p).left) qs) (nla_items_split q) in
      let law =
      fronts_alike (split p).front (split q).front (split p).left (split q).left x y
      (splits_attributes p (split p).front (split p).left u)
      (splits_attributes q (split q).front (split q).left v)
      (ap (λ (ps : List (Result Attribute ℕ)). first_meaning f.meaning ps) (sym (nla_items_split p))
      ∙ h)
      (ap (λ (ps : List (Result Attribute ℕ)). first_meaning f.meaning ps) (sym (nla_items_split q))
      ∙ k) in
      (λ e. law.0 (sym same ∙ e), λ e. same ∙ law.1 e)

  first_quarter : (p : List ℕ) → 4 * first_headers f.headers (nla_items p) ≤ length p
  first_quarter p = by_nla_items (λ z. 4 * first_headers f.headers (nla_items z) ≤ length z)
      (omega
      (arith, ap (λ (ps : List (Result Attribute ℕ)). first_headers f.headers ps) nla_items_nil))
      (λ z some e.
      omega (
        arith,
        ap (λ (ps : List (Result Attribute ℕ)). first_headers f.headers ps) e,
        seen_room z,
      ))
      (λ z a rest e room more.
      omega (
        arith,
        ap (λ (ps : List (Result Attribute ℕ)). first_headers f.headers ps) e,
        room,
        lawful.quarter a,
      ))
      p

  abbrev bad : DecodeError → Result X DecodeError
  bad e = Err e

  bad_same : (d e : DecodeError) → bad d ≡ bad e → d ≡ e
  bad_same d e h = cc

  first_no_memory : (ps : List (Result Attribute ℕ)) → first_meaning f.meaning ps ≢ Err memory_error
  first_no_memory [] h = header_is_no_memory (bad_same _ _ h)
  first_no_memory ((Err n) ∷ more) h = header_is_no_memory (bad_same _ _ h)
  first_no_memory ((Ok a) ∷ more) h = lawful.no_memory a h

  pub first_of_is_codec : IsCodec (first_of f)
  first_of_is_codec = record {
    holds = λ p x bytes e.
        first_read_well f.meaning f.attribute f.well lawful.read_well lawful.well_reads
        lawful.well_attribute p x bytes (read_inside (first_meaning f.meaning (nla_items p)) x e);
    again = λ x w small.
        ap (λ (r : Result X DecodeError). inside r)
        (first_well_reads f.meaning f.attribute f.well lawful.read_well lawful.well_reads
        lawful.well_attribute (canonical_string (f.attribute x)) x
        (one_fits (f.attribute x) small) refl w);
    bytes = λ x w small.
        IsBytes-canonical_string (f.attribute x)
        (lawful.well_attribute x w (one_fits (f.attribute x) small)).bytes;
    alike_is = λ p q x y bp bq e g.
        first_alike_is p q x y bp bq (read_inside (first_meaning f.meaning (nla_items p)) x e)
        (read_inside (first_meaning f.meaning (nla_items q)) y g);
    quarter = λ p. first_quarter p;
    no_own_memory = λ p. not_own (first_meaning f.meaning (nla_items p));
    no_inner_memory = λ p.
        not_inner (first_meaning f.meaning (nla_items p)) (first_no_memory (nla_items p));
  }
