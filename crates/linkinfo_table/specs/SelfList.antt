-- A payload that is a list of the same family, read by the family's rows one level deeper: the
-- codec, and that it is lawful if those rows are.
use Rattle.std.specs.Prelude.{
  ◌≡◌,
  ◌≢◌,
  ◌↔◌,
  ℕ,
  ◌*◌,
  ◌≤◌,
  Bool,
  true,
  List,
  length,
  map,
  Result,
  Ok,
  Err,
  refl,
}
use Rattle.std.proofs.Common.{ap}
use Rattle.nla_frame.specs.Attribute.{Attribute, IsAttribute, Fits, list_string}
use Rattle.nla_frame.specs.Error.{memory_error}
use Rattle.nla_frame.specs.NlaItems.{nla_items}
use Rattle.nla_frame.specs.declared.error.Cause.TheVariants as cause
use Rattle.nla_frame.specs.declared.error.DecodeError.{DecodeError}
use Rattle.nla_frame.proofs.ByteLists.{IsBytes-list_string}
use Rattle.nla_frame.proofs.Emitting.{fits_inside}
use Rattle.linkinfo_table.specs.Codecs.{Codec, PayloadError, Own, Inside, IsCodec}
use Rattle.linkinfo_table.specs.Lists.{values, headers_of, alike_pairs, memory_of, AllWell}
use Rattle.linkinfo_table.specs.ListLaws.{
  no_memory,
  quarter,
  lists_alike,
  read_is_well,
  well_attributes,
  well_is_read,
}

abbrev pub inside : {X : Type 0} → Result X DecodeError → Result X PayloadError
inside (Ok x) = Ok x
inside (Err e) = Err (Inside e)

-- Given of an attribute inside: what it means, the headers inside it, and whether it needs memory.
-- Also when two are equivalent, its canonical form, and when a value is well formed.
abbrev pub list_codec : {X : Type 0} → (Attribute → Result X DecodeError) → (Attribute → ℕ) →
    (Attribute → Attribute → Bool) → (Attribute → Bool) →
    (X → Attribute) → (X → Type 0) → Codec
list_codec {X = X} m h f needs attribute well = record {
  Carrier = List X;
  means = λ p. inside (values m (nla_items p));
  canon = λ xs. list_string (map attribute xs);
  Holds = λ xs. AllWell well xs;
  alike = λ p q. alike_pairs f (nla_items p) (nla_items q);
  headers = λ p. headers_of m h (nla_items p);
  needs_memory = λ p. memory_of m needs (nla_items p);
}

pub read_inside : {X : Type 0} (r : Result X DecodeError) (x : X) → inside r ≡ Ok x → r ≡ Ok x
read_inside (Ok y) x h = cc
read_inside (Err e) x h = absurd cc

pub not_own : {X : Type 0} (r : Result X DecodeError) → inside r ≢ Err (Own cause.Memory)
not_own (Ok x) h = absurd cc
not_own (Err e) h = absurd cc

pub not_inner : {X : Type 0} (r : Result X DecodeError) → r ≢ Err memory_error →
    inside r ≢ Err (Inside memory_error)
not_inner (Ok x) never h = absurd cc
not_inner (Err e) never h = never cc

module _ {X : Type 0} (m : Attribute → Result X DecodeError) (h : Attribute → ℕ)
    (f : Attribute → Attribute → Bool) (needs : Attribute → Bool)
    (attribute : X → Attribute) (well : X → Type 0)
    (alike_is : (a b : Attribute) (x y : X) → IsAttribute a → IsAttribute b → m a ≡ Ok x →
    m b ≡ Ok y → (f a b ≡ true) ↔ (x ≡ y))
    (small : (a : Attribute) → 4 * h a ≤ length a.value)
    (never : (a : Attribute) → m a ≢ Err memory_error)
    (read_well : (a : Attribute) (x : X) → IsAttribute a → m a ≡ Ok x → well x)
    (well_reads : (x : X) → well x → Fits (attribute x) → m (attribute x) ≡ Ok x)
    (well_attribute : (x : X) → well x → Fits (attribute x) → IsAttribute (attribute x)) where
  abbrev codec : Codec
  codec = list_codec m h f needs attribute well

  abbrev after : Unit {0} → Attribute → Unit {0}
  after t a = t

  abbrev next : Unit {0} → X → Unit {0}
  next t x = t

  abbrev under : Unit {0} → Attribute → Result X DecodeError
  under t a = m a

  pub list_is_codec : IsCodec codec
  list_is_codec = record {
    holds = λ p xs bytes e.
        read_is_well under after attribute (λ _ x. well x) next (λ _ a x. read_well a x)
        (λ _ a x i e. refl) (λ _ x. well_reads x) (λ _ x. well_attribute x)
        (tt {0}) p xs bytes (read_inside (values m (nla_items p)) xs e);
    again = λ xs w fits.
        ap (λ (r : Result (List X) DecodeError). inside r)
        (well_is_read under after attribute (λ _ x. well x) next (λ _ a x. read_well a x)
        (λ _ a x i e. refl) (λ _ x. well_reads x) (λ _ x. well_attribute x)
        (tt {0}) xs w (fits_inside (map attribute xs) fits));
    bytes = λ xs w fits.
        IsBytes-list_string (map attribute xs)
        (well_attributes under after attribute (λ _ x. well x) next (λ _ a x. read_well a x)
        (λ _ a x i e. refl) (λ _ x. well_reads x) (λ _ x. well_attribute x)
        (tt {0}) xs w (fits_inside (map attribute xs) fits));
    alike_is = λ p q xs ys bp bq e g.
        lists_alike under after (λ _ a b. f a b) (λ _ a b x y. alike_is a b x y) (λ _ a b e. refl)
        (tt {0}) p q xs ys bp bq (read_inside (values m (nla_items p)) xs e)
        (read_inside (values m (nla_items q)) ys g);
    quarter = λ p. quarter under after (λ _ a. h a) (λ _ a. small a) p (tt {0});
    no_own_memory = λ p. not_own (values m (nla_items p));
    no_inner_memory = λ p.
        not_inner (values m (nla_items p))
        (no_memory under after (λ _ a. never a) (tt {0}) (nla_items p));
  }
