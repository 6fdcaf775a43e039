-- What the length of a list's canonical encoding is, in the middle of measuring it.
use Rattle.std.proofs.Common.{
  ◌≡◌,
  ℕ,
  ◌+◌,
  ◌<◌,
  ◌≤◌,
  ◌^◌,
  List,
  [],
  ◌∷◌,
  length,
  refl,
  sym,
  subst,
  arith,
  Option,
  Some,
  None,
  Result,
  Ok,
  Err,
}
use Rattle.std.specs.Prelude.{IsOk, SomeIff}
use Rattle.std.specs.List.{AllByRecursion}
use Rattle.nla_frame.specs.Answers.{verdict}
use Rattle.nla_frame.specs.Attribute.{Attribute, Fits, ListFits, list_string}
use Rattle.nla_frame.specs.Canonical.{attribute_for, attributes_for}
use Rattle.nla_frame.proofs.Emitting.{length-list_string-cons, list_fits}
use Rattle.nla_frame.specs.declared.error.DecodeError.{DecodeError}
use Rattle.linkinfo_table.specs.Lists.{IsTotalWith}
use Rattle.linkinfo_table.proofs.Writing.{with_first}

-- the attributes that are left of a list, and the total of those before them, or that the whole
-- list does not fit
abbrev pub Remains : Option ℕ → List Attribute → List Attribute → Type 0
Remains (Some total) left whole =
    (total + length (list_string left) ≡ length (list_string whole))
    × (total < 2 ^ 64)
    × (AllByRecursion Fits left → AllByRecursion Fits whole)
    × (AllByRecursion Fits whole → AllByRecursion Fits left)
Remains None left whole = ¬ ListFits whole

-- after one more attribute
pub remains_after : (total len next : Option ℕ) (a : Attribute) (more whole : List Attribute) →
    Remains total (a ∷ more) whole → SomeIff len (Fits a) (length a.value) →
    IsTotalWith total len next → Remains next more whole
remains_after None len next a more whole h size sum =
    subst (λ (o : Option ℕ). Remains o more whole) (sym sum) h
remains_after (Some total) None next a more whole h size sum =
    subst (λ (o : Option ℕ). Remains o more whole) (sym sum) (λ fits. size (h.3 fits.each).0)
remains_after (Some total) (Some n) (Some k) a more whole h size sum = (
  omega (arith, h.0, length-list_string-cons a more, sum.1, size.1),
  omega (arith, sum.0, sum.1),
  λ others. h.2 (size.0, others),
  λ all. (h.3 all).1,
)
remains_after (Some total) (Some n) None a more whole h size sum = λ fits.
    sum (omega (arith, h.0, length-list_string-cons a more, size.1, fits.total))

-- at the end
pub remains_none : (total : Option ℕ) (whole : List Attribute) → Remains total [] whole →
    SomeIff total (ListFits whole) (length (list_string whole))
remains_none (Some total) whole h = (
  record { each = h.2 tt; total = omega (arith, h.0, h.1) },
  omega (arith, h.0),
)
remains_none None whole h = h

-- a list that does not fit is longer than a payload
pub beyond_payload : (whole : List Attribute) → ¬ ListFits whole →
    ¬ (length (list_string whole) ≤ 65531)
beyond_payload whole h short = h (list_fits whole short)

module _ {X : Type 0} (attribute : X → Attribute) where
  -- one more accepted attribute of a list
  pub measured_after : (list more : Result (List X) DecodeError) (m : Result X DecodeError)
      (total len next : Option ℕ) (whole : List Attribute) →
      (IsOk list → Remains total (attributes_for attribute list) whole) →
      list ≡ with_first attribute m more → Ok tt ≡ verdict m →
      SomeIff len (Fits (attribute_for attribute m)) (length (attribute_for attribute m).value) →
      IsTotalWith total len next →
      IsOk more → Remains next (attributes_for attribute more) whole
  measured_after list more m total len next whole before e accepted size sum ok =
      go m more (subst (λ (r : Result (List X) DecodeError). IsOk r →
      Remains total (attributes_for attribute r) whole) e before) accepted size ok
    where
      go : (m : Result X DecodeError) (more : Result (List X) DecodeError) →
          (IsOk (with_first attribute m more) →
          Remains total (attributes_for attribute (with_first attribute m more)) whole) →
          Ok tt ≡ verdict m →
          SomeIff len (Fits (attribute_for attribute m))
          (length (attribute_for attribute m).value) →
          IsOk more → Remains next (attributes_for attribute more) whole
      go (Ok x) (Ok xs) h accepted size ok =
          remains_after total len next (attribute x)
          (attributes_for {E = DecodeError} attribute (Ok xs)) whole (h refl) size sum
      go (Ok x) (Err d) h accepted size ok = absurd cc
      go (Err d) more h accepted size ok = absurd cc
