-- Words: the texts that name a value.
use Rattle.std.specs.Prelude.{◌≡◌, ◌≢◌, ℕ, true, List, Result, Ok, Err}
use Rattle.std.specs.List.{AllByRecursion}
use Rattle.std.specs.Str.{bytes_eq}
use Rattle.std.proofs.lemmas.Slice.Eq.{bytes_eq-Decides}
use Rattle.nla_frame.specs.declared.error.Family.{Family}
use Rattle.nla_frame.specs.declared.error.Cause.TheVariants as cause
use Rattle.nla_frame.specs.declared.error.DecodeError.{DecodeError}
use Rattle.linkinfo_numbers.specs.Table.{part_of_first, part_of_first-missed, all_along}

-- the error of a text that names no value
abbrev pub word_error : Family → DecodeError
word_error family = record { family = family; kind = 0; cause = cause.Word }

-- the first of the values with this displayed text
abbrev pub value_of_word : {T : Type 0} → Family → (T → List ℕ) → List T → List ℕ →
    Result T DecodeError
value_of_word family text named word =
    part_of_first (λ x. bytes_eq word (text x)) Ok (Err (word_error family)) named

-- the displayed text of each value reads back as it, and every other text is rejected
pub record ReadsWords {T : Type 0} (family : Family) (text : T → List ℕ) (named : List T) : Type
    0 where
  pub named_read : AllByRecursion (λ x. value_of_word family text named (text x) ≡ Ok x) named
  pub others_refused : (word : List ℕ) → AllByRecursion (λ x. word ≢ text x) named →
      value_of_word family text named word ≡ Err (word_error family)

-- words that are distinct read back
pub reads_words : {T : Type 0} (family : Family) (text : T → List ℕ) (named : List T) →
    AllByRecursion (λ x. value_of_word family text named (text x) ≡ Ok x) named →
    ReadsWords family text named
reads_words family text named h = record {
  named_read = h;
  others_refused = λ word apart.
      part_of_first-missed (λ x. bytes_eq word (text x)) Ok (Err (word_error family)) named
      (all_along (λ x. word ≢ text x) (λ x. ¬ (bytes_eq word (text x) ≡ true))
      (λ x p e. p ((bytes_eq-Decides word (text x)).0 e)) named apart);
}
