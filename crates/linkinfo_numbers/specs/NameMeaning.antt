-- What the name in an attribute means, by a table of names.
use Rattle.std.specs.Prelude.{◌≡◌, ◌<◌, ◌↔◌, ℕ, Bool, true, false, List, Result, Ok, Err, refl}
use Rattle.std.specs.Str.{is_utf8}
use Rattle.std.proofs.Common.{ap, subst, sym, ◌∙◌}
use Rattle.nla_frame.specs.Attribute.{Attribute}
use Rattle.nla_frame.specs.declared.error.DecodeError.{DecodeError}
use Rattle.linkinfo_numbers.specs.Name.{
  name_attribute,
  name_of,
  name_of-name_attribute,
  name_of_is_utf8,
}
use Rattle.linkinfo_numbers.specs.Table.{
  IsProper,
  IsTable,
  Table,
  key-value_of,
  value_of,
  value_of-key,
  value_of_is_proper,
}

-- the value of a name, or the error
abbrev pub meaning_of_name : {T : Type 0} → (List ℕ → T) → Result (List ℕ) DecodeError →
    Result T DecodeError
meaning_of_name value (Ok name) = Ok (value name)
meaning_of_name value (Err error) = Err error

-- whether there is a name, and it passes
abbrev pub is_name_that : (List ℕ → Bool) → Result (List ℕ) DecodeError → Bool
is_name_that passes (Ok name) = passes name
is_name_that passes (Err error) = false

-- the attribute of a value reads back as it if and only if it is not `Other` of a known name
pub name_reads_back : {T : Type 0} {N : Table (List ℕ) T} → IsTable N → (type : ℕ) →
    type < 16384 → (x : T) → is_utf8 (N.key x) ≡ true →
    (meaning_of_name (value_of N) (name_of type (name_attribute type (N.key x))) ≡ Ok x)
    ↔ IsProper N x
name_reads_back {N = N} h type small x utf8 =
    let meaning = meaning_of_name (value_of N) in
    let read = ap meaning (name_of-name_attribute type (N.key x) small utf8) in (
      λ p. let same : value_of N (N.key x) ≡ x = cc in (value_of-key h x).0 same,
      λ proper. read ∙ ap (λ y. Ok y) ((value_of-key h x).1 proper),
    )

proper_choice : {T : Type 0} {N : Table (List ℕ) T} → IsTable N →
    (name : Result (List ℕ) DecodeError) →
    ((got : List ℕ) → name ≡ Ok got → is_utf8 got ≡ true) → (x : T) →
    meaning_of_name (value_of N) name ≡ Ok x →
    IsProper N x × (is_utf8 (N.key x) ≡ true)
proper_choice {N = N} h (Ok name) utf8 x e =
    let same : value_of N name ≡ x = cc in
    let text : N.key x ≡ name = ap N.key (sym same) ∙ key-value_of h name in
    (subst (IsProper N) same (value_of_is_proper h name), ap is_utf8 text ∙ utf8 name refl)
proper_choice h (Err error) utf8 x e = cc

-- a value read from an attribute is not `Other` of a known name, and its text is UTF-8
pub name_meaning_is_proper : {T : Type 0} {N : Table (List ℕ) T} → IsTable N → (type : ℕ) →
    (a : Attribute) (x : T) → meaning_of_name (value_of N) (name_of type a) ≡ Ok x →
    IsProper N x × (is_utf8 (N.key x) ≡ true)
name_meaning_is_proper h type a x e = proper_choice h (name_of type a) (name_of_is_utf8 type a) x e
