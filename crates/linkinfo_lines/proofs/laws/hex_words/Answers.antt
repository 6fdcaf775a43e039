use Rattle.std.proofs.Common.{
  ◌≡◌,
  ◌≢◌,
  ℕ,
  ◌<◌,
  ◌≤◌,
  ◌*◌,
  ◌==◌,
  ◌⊎◌,
  inl,
  inr,
  Bool,
  true,
  false,
  if◌then◌else◌,
  List,
  [],
  ◌∷◌,
  length,
  Some,
  None,
  Result,
  Ok,
  Err,
  refl,
  ap,
  ◌∙◌,
  arith,
}
use Rattle.std.specs.Prelude.{codes, bytes_eq}
use Rattle.std.specs.List.{AllPass}
use Rattle.std.specs.Result.{result_ok}
use Rattle.std.proofs.lemmas.Bool.{false_from_ne_true}
use Rattle.std.proofs.lemmas.Bool.Decides.{nat_tests}
use Rattle.std.proofs.lemmas.Slice.Eq.{bytes_eq-Decides}
use Rattle.hex.specs.Hex.{
  decode_of,
  encode_lower,
  encode_upper,
  is_hex_digit,
  lower_digits,
  upper_digits,
}
use Rattle.hex.specs.declared.error.FromHexError.{FromHexError}
use Rattle.hex.proofs.HexLemmas.{
  decode_of-encode_lower,
  decode_of-encode_upper,
  decode_of-ok,
  length-encode_with,
}
use Rattle.linkinfo_lines.specs.Answers.{bytes_of}
use Rattle.linkinfo_lines.proofs.laws.hex_words.Goals as goal

named : (word bytes : List ℕ) (dash empty : Bool) (digits : Result (List ℕ) FromHexError)
    → bytes_eq word (codes "-") ≡ dash → (length word == 0) ≡ empty → decode_of word ≡ digits
    → (if dash then Some [] else if empty then None else result_ok digits) ≡ Some bytes
    →
    ((word ≡ codes "-") × (bytes ≡ []))
    ⊎ (AllPass is_hex_digit word × (0 < length bytes) × (length word ≡ 2 * length bytes))
named word bytes true empty digits d e r h = inl ((bytes_eq-Decides word (codes "-")).0 d, cc h)
named word bytes false true digits d e r h = absurd (cc h)
named word bytes false false (Err error) d e r h = absurd (cc h)
named word bytes false false (Ok found) d e r h =
    let same : found ≡ bytes = cc h in
    let ok = decode_of-ok word bytes (r ∙ ap Ok same) in
    let some : length word ≢ 0 = λ z. grind (arith, nat_tests) in
    inr (ok.1, omega (arith, ok.2, some), ok.2)

-- hex digits of bytes, at least two, are an operand of these bytes
names : (word bytes : List ℕ) → 2 ≤ length word → decode_of word ≡ Ok bytes →
    bytes_of word ≡ Some bytes
names word bytes long h =
    let dash : bytes_eq word (codes "-") ≡ false =
    false_from_ne_true _ (λ e. short word long ((bytes_eq-Decides word (codes "-")).0 e)) in
    let empty : (length word == 0) ≡ false = grind (arith, nat_tests) in
    rw (dash, empty, h) refl
  where
    short : (word : List ℕ) → 2 ≤ length word → word ≡ codes "-" → ⊥
    short word long e = omega (arith, long, ap length e)

pub returns-clause-named : goal.returns-clause-named
returns-clause-named c word bytes h = named word bytes _ _ _ refl refl refl h

pub returns-clause-written : goal.returns-clause-written
returns-clause-written c [] h = refl
returns-clause-written c (b ∷ rest) h =
    names (encode_lower (b ∷ rest)) (b ∷ rest)
    (omega (arith, length-encode_with lower_digits (b ∷ rest)))
    (decode_of-encode_lower (b ∷ rest) h)

pub returns-clause-upper : goal.returns-clause-upper
returns-clause-upper c [] h some = absurd (some refl)
returns-clause-upper c (b ∷ rest) h some =
    names (encode_upper (b ∷ rest)) (b ∷ rest)
    (omega (arith, length-encode_with upper_digits (b ∷ rest)))
    (decode_of-encode_upper (b ∷ rest) h)
