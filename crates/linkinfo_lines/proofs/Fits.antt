-- When the canonical encoding of a list is written.
use Rattle.std.proofs.Common.{
  ◌≡◌,
  ◌==◌,
  ℕ,
  ◌^◌,
  ◌≤◌,
  Bool,
  true,
  false,
  nat_le,
  if◌then◌else◌,
  List,
  [],
  ◌∷◌,
  length,
  refl,
  sym,
  ap,
  ◌∙◌,
  arith,
}
use Rattle.std.specs.Prelude.{codes, map, Result, Ok, Err, IfErr}
use Rattle.std.specs.Bool.{Decides}
use Rattle.std.specs.List.{AllByRecursion, list_all}
use Rattle.std.proofs.lemmas.Bool.Decides.{
  Decides-and,
  Decides-eqb,
  Decides-like,
  Decides-ltb,
  nat_tests,
}
use Rattle.hex.specs.Hex.{encode_lower}
use Rattle.nla_frame.specs.Attribute.{Attribute, Fits, ListFits, list_string}
use Rattle.nla_frame.specs.declared.error.DecodeError.{DecodeError}
use Rattle.linkinfo_data.specs.BytesLayer.{bytes_layer}
use Rattle.linkinfo.specs.Canon.{CanonRefuses, IsCanonical, IsUnfit}
use Rattle.linkinfo.specs.declared.canonical.CanonError.{CanonError}
use Rattle.linkinfo.specs.declared.canonical.CanonError.TheVariants as refused
use Rattle.linkinfo.specs.Items.{link_attribute}
use Rattle.linkinfo.specs.Layered.{Links}
use Rattle.linkinfo_lines.specs.Answers.{canon_text, canonical_text, list_fits, word_of}

short_decides : (n : ℕ) → Decides (nat_le n 65531) (n ≤ 65531)
short_decides n = (λ h. grind (arith, nat_tests), λ h. grind (arith, nat_tests))

each_decides : (attributes : List Attribute) →
    Decides (list_all (λ a. nat_le (length a.value) 65531) attributes)
    (AllByRecursion Fits attributes)
each_decides [] = (λ _. tt, λ _. refl)
each_decides (a ∷ attributes) =
    Decides-and _ _ (short_decides (length a.value)) (each_decides attributes)

pub list_fits_decides : (attributes : List Attribute) →
    Decides (list_fits attributes) (ListFits attributes)
list_fits_decides attributes =
    Decides-like _ (λ p. record { each = p.0; total = p.1 }) (λ f. (f.each, f.total))
    (Decides-and _ _ (each_decides attributes)
    (Decides-ltb (length (list_string attributes)) (2 ^ 64)))

canonical_text-fits : (attributes : List Attribute) → ListFits attributes →
    canonical_text attributes ≡ word_of (list_string attributes)
canonical_text-fits attributes h =
    ap (λ (b : Bool). if b then word_of (list_string attributes) else codes "unfit")
    ((list_fits_decides attributes).1 h)

word_of-none : (bytes : List ℕ) → (length bytes == 0) ≡ true → word_of bytes ≡ codes "-"
word_of-none [] h = refl
word_of-none (b ∷ bytes) h = absurd (omega (arith, (Decides-eqb (length (b ∷ bytes)) 0).0 h))

word_of-some : (bytes : List ℕ) → (length bytes == 0) ≡ false → word_of bytes ≡ encode_lower bytes
word_of-some [] h = absurd cc
word_of-some (b ∷ bytes) h = refl

canonical_text-none : (attributes : List Attribute) (bytes : List ℕ) → ListFits attributes →
    bytes ≡ list_string attributes → (length bytes == 0) ≡ true →
    canonical_text attributes ≡ codes "-"
canonical_text-none attributes bytes fits string none =
    canonical_text-fits attributes fits ∙ (ap word_of (sym string) ∙ word_of-none bytes none)

canonical_text-some : (attributes : List Attribute) (bytes : List ℕ) → ListFits attributes →
    bytes ≡ list_string attributes → (length bytes == 0) ≡ false →
    canonical_text attributes ≡ encode_lower bytes
canonical_text-some attributes bytes fits string some =
    canonical_text-fits attributes fits ∙ (ap word_of (sym string) ∙ word_of-some bytes some)

canonical_text-unfit : (attributes : List Attribute) → ¬ ListFits attributes →
    canonical_text attributes ≡ codes "unfit"
canonical_text-unfit attributes h =
    let decides = list_fits_decides attributes in
    let none : list_fits attributes ≡ false =
    no_from_not (list_fits attributes) (λ e. h (decides.0 e)) in
    ap (λ (b : Bool). if b then word_of (list_string attributes) else codes "unfit") none
  where
    no_from_not : (b : Bool) → (b ≡ true → ⊥) → b ≡ false
    no_from_not true h = absurd (h refl)
    no_from_not false h = refl

-- the result of `canon`, given what the byte string means

pub canon_text-none : (meaning : Result (Links bytes_layer) DecodeError) (bytes : List ℕ) →
    IsCanonical (link_attribute bytes_layer) meaning bytes →
    (length bytes == 0) ≡ true → canon_text meaning ≡ codes "-"
canon_text-none (Ok list) bytes h none =
    canonical_text-none (map (link_attribute bytes_layer) list) bytes h.0 h.1 none
canon_text-none (Err error) bytes h none = absurd h

pub canon_text-some : (meaning : Result (Links bytes_layer) DecodeError) (bytes : List ℕ) →
    IsCanonical (link_attribute bytes_layer) meaning bytes →
    (length bytes == 0) ≡ false → canon_text meaning ≡ encode_lower bytes
canon_text-some (Ok list) bytes h some =
    canonical_text-some (map (link_attribute bytes_layer) list) bytes h.0 h.1 some
canon_text-some (Err error) bytes h some = absurd h

canon_text-none_fits : (meaning : Result (Links bytes_layer) DecodeError) →
    IsUnfit (link_attribute bytes_layer) meaning → canon_text meaning ≡ codes "unfit"
canon_text-none_fits (Ok list) h = canonical_text-unfit (map (link_attribute bytes_layer) list) h
canon_text-none_fits (Err error) h = absurd h

pub canon_text-unfit : {X : Type 0} (meaning : Result (Links bytes_layer) DecodeError)
    (result : Result X CanonError) → result ≡ Err refused.Unfit →
    IfErr result (CanonRefuses (link_attribute bytes_layer) meaning) →
    canon_text meaning ≡ codes "unfit"
canon_text-unfit meaning (Ok x) is h = absurd cc
canon_text-unfit meaning (Err (refused.Refused error)) is h = absurd cc
canon_text-unfit meaning (Err refused.Unfit) is h = canon_text-none_fits meaning h
