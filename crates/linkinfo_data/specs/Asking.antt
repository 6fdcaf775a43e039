-- What calls on payloads that return no parsed value require, and what they return. The result does
-- not depend on the variant that holds the value.
use Rattle.std.specs.Prelude.{
  ℕ,
  ◌≡◌,
  ◌+◌,
  ◌/◌,
  ◌<◌,
  ◌≤◌,
  ◌^◌,
  Bool,
  IfSome,
  IsOk,
  List,
  Ok,
  Option,
  Result,
  length,
}
use Rattle.std.specs.Str.{bytes_eq}
use Rattle.nla_frame.specs.Answers.{verdict}
use Rattle.nla_frame.specs.Attribute.{Attribute}
use Rattle.nla_frame.specs.NlaItems.{nla_items}
use Rattle.nla_frame.specs.declared.error.DecodeError.{DecodeError}
use Rattle.nla_frame.specs.declared.error.Family.{Family}
use Rattle.linkinfo_table.specs.Contents.{Contents, ListOf, listed, single_value}
use Rattle.linkinfo_table.specs.Difference.{IsWithin}
use Rattle.linkinfo_table.specs.Lists.{
  Measures,
  alike_pairs,
  canonical_first,
  canonical_list,
  first_alike,
  first_headers,
  first_meaning,
  headers_of,
  values,
}
use Rattle.linkinfo_table.specs.Unmet.{IsUnmetWithin}
use Rattle.linkinfo_table.specs.Unmets.{first_at}
use Rattle.linkinfo_table.specs.declared.difference.Difference.{Difference}
use Rattle.linkinfo_table.specs.declared.unmet.Unmet.{Unmet}
use Rattle.linkinfo_data.specs.Encoding.{HasRoom}
use Rattle.linkinfo_data.specs.Lists.{difference_in, error_in, unmets_in}
use Rattle.linkinfo_data.specs.Payloads.{Payload}

-- of payloads, what does not depend on the variant: as in `Payload`
pub record Facts : Type 0 where
  pub verdicts : List ℕ → Result (Unit {0}) DecodeError
  pub headers : List ℕ → ℕ
  pub alike : List ℕ → List ℕ → Bool
  pub canonical : List ℕ → List ℕ
  pub contents : Contents

abbrev pub facts_of : {X : Type 0} → Payload X → Facts
facts_of payload = record {
  verdicts = payload.verdicts;
  headers = payload.headers;
  alike = payload.alike;
  canonical = payload.canonical;
  contents = payload.contents;
}

-- payloads that are lists of attributes of a family
abbrev pub list_facts : {A : Type 0} → Family → (A → Attribute) →
    (Attribute → Result A DecodeError) → (Attribute → ℕ) → (Attribute → Attribute → Bool) →
    (ℕ → Contents) → Bool → Facts
list_facts family attribute meaning headers alike contents is_set = record {
  verdicts = λ p. verdict (values meaning (nla_items p));
  headers = λ p. headers_of meaning headers (nla_items p);
  alike = λ p q. alike_pairs alike (nla_items p) (nla_items q);
  canonical = λ p. canonical_list attribute meaning (nla_items p);
  contents = ListOf (listed family meaning alike is_set) contents;
}

-- payloads of which the first attribute, of a family, is parsed
abbrev pub first_facts : {A : Type 0} → (A → Attribute) → (Attribute → Result A DecodeError) →
    (Attribute → ℕ) → (Attribute → Attribute → Bool) → Facts
first_facts attribute meaning headers alike = record {
  verdicts = λ p. verdict (first_meaning meaning (nla_items p));
  headers = λ p. first_headers headers (nla_items p);
  alike = λ p q. first_alike alike (nla_items p) (nla_items q);
  canonical = λ p. canonical_first attribute meaning (nla_items p);
  contents = single_value;
}

-- payloads that are kept as bytes
abbrev pub bytes_facts : Facts
bytes_facts = record {
  verdicts = λ _. Ok tt;
  headers = λ _. 0;
  alike = λ p q. bytes_eq p q;
  canonical = λ p. p;
  contents = single_value;
}

-- whether a payload is accepted: a `usize` can count its headers
abbrev pub CheckReady : Facts → List ℕ → ℕ → Type 0
CheckReady facts p old = old + length p / 4 < 2 ^ 64

-- whether two payloads are equivalent: both are accepted, and a `usize` can count their headers
abbrev pub SameReady : Facts → List ℕ → List ℕ → ℕ → Type 0
SameReady facts p q old =
    IsOk (facts.verdicts p)
    × IsOk (facts.verdicts q)
    × (old + (length p + length q) / 4 < 2 ^ 64)

-- whether a payload is accepted, and the length of the canonical payload, if it is one
abbrev pub Measured : Facts → List ℕ → Result (Option ℕ) DecodeError → Type 0
Measured facts p result =
    let len = length (facts.canonical p) in
    Measures (facts.verdicts p) (len ≤ 65531) len result

-- the canonical payload at the front of a buffer: the payload is accepted, the canonical one fits a
-- payload, and the buffer has room for it
abbrev pub WriteReady : Facts → List ℕ → List ℕ → Type 0
WriteReady facts p buffer = IsOk (facts.verdicts p) × HasRoom (facts.canonical p) buffer

-- the offset of the error of a payload that is a list, if it has one
abbrev pub ErrorFound : Facts → List ℕ → Option ℕ → Type 0
ErrorFound facts p result =
    (result ≡ error_in facts.contents p) × IfSome result (λ n. n ≤ length p)

-- two payloads that are accepted
abbrev pub PairReady : Facts → List ℕ → List ℕ → Type 0
PairReady facts p q = IsOk (facts.verdicts p) × IsOk (facts.verdicts q)

-- their first difference, and the first attribute of one, from an offset on, that the other does
-- not meet
abbrev pub DifferenceFound : Facts → List ℕ → List ℕ → Option Difference → Type 0
DifferenceFound facts p q result =
    (result ≡ difference_in facts.contents p q) × IfSome result (IsWithin (length p) (length q))

abbrev pub UnmetFound : Facts → List ℕ → List ℕ → ℕ → Option Unmet → Type 0
UnmetFound facts have want from result =
    (result ≡ first_at from (unmets_in facts.contents have want))
    × IfSome result (IsUnmetWithin (length want) (length have))
