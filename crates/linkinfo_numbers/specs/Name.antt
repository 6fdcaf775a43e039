-- Names in attributes: a text with one closing zero byte.
use Rattle.std.specs.Prelude.{
  ◌≡◌,
  ◌<◌,
  ◌==◌,
  ℕ,
  Bool,
  true,
  false,
  if◌then◌else◌,
  List,
  [],
  ◌∷◌,
  ◌++◌,
  Result,
  Ok,
  Err,
  refl,
}
use Rattle.std.specs.Str.{is_utf8}
use Rattle.std.proofs.Common.{arith, sym, ap, ◌∙◌, eq-eqb}
use Rattle.nla_frame.specs.Attribute.{Attribute, masked}
use Rattle.nla_frame.specs.Payload.{stripped, stripped-closed}
use Rattle.nla_frame.specs.declared.error.Family.TheVariants as family
use Rattle.nla_frame.specs.declared.error.Cause.TheVariants as cause
use Rattle.nla_frame.specs.declared.error.DecodeError.{DecodeError}

-- an attribute of another type
abbrev pub wrong_type : ℕ → DecodeError
wrong_type kind = record { family = family.LinkInfo; kind = kind; cause = cause.WrongType }

-- a name that is not UTF-8
abbrev pub bad_name : ℕ → DecodeError
bad_name kind = record { family = family.LinkInfo; kind = kind; cause = cause.Utf8 }

-- the name in an attribute of this type, or the error
abbrev pub name_of : ℕ → Attribute → Result (List ℕ) DecodeError
name_of kind a =
    if masked a.kind == kind
    then (if is_utf8 (stripped a.value) then Ok (stripped a.value) else Err (bad_name kind))
    else Err (wrong_type (masked a.kind))

-- the attribute of this type with a name
abbrev pub name_attribute : ℕ → List ℕ → Attribute
name_attribute kind name = record { kind = kind; value = name ++ 0 ∷ [] }

-- a UTF-8 name reads back from its attribute
pub name_of-name_attribute : (kind : ℕ) (name : List ℕ) → kind < 16384 → is_utf8 name ≡ true →
    name_of kind (name_attribute kind name) ≡ Ok name
name_of-name_attribute kind name small utf8 =
    let same : masked kind ≡ kind = omega arith in
    let here : (masked kind == kind) ≡ true = eq-eqb (masked kind) kind same in
    rw (here, stripped-closed name, utf8) refl

utf8_choice : (name got : List ℕ) (error : DecodeError) (b : Bool) → b ≡ is_utf8 name →
    (if b then Ok name else Err error) ≡ Ok got →
    is_utf8 got ≡ true
utf8_choice name got error true is e = let same : name ≡ got = cc in ap is_utf8 (sym same) ∙ sym is
utf8_choice name got error false is e = cc

type_choice : (name : Result (List ℕ) DecodeError) (got : List ℕ) (error : DecodeError) (b : Bool) →
    (if b then name else Err error) ≡ Ok got →
    name ≡ Ok got
type_choice name got error true e = e
type_choice name got error false e = cc

-- a name read from an attribute is UTF-8
pub name_of_is_utf8 : (kind : ℕ) (a : Attribute) (name : List ℕ) → name_of kind a ≡ Ok name →
    is_utf8 name ≡ true
name_of_is_utf8 kind a name e =
    utf8_choice (stripped a.value) name (bad_name kind) (is_utf8 (stripped a.value)) refl
    (type_choice (if is_utf8 (stripped a.value) then Ok (stripped a.value) else Err (bad_name kind))
    name (wrong_type (masked a.kind)) (masked a.kind == kind) e)
