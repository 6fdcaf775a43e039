-- The role of an attribute of the list, by its masked type and the current kinds before it, and the
-- current kinds after it.
use Rattle.std.specs.Prelude.{ℕ, ◌==◌, if◌then◌else◌, List, Option, Some, None, Result, Ok, Err}
use Rattle.nla_frame.specs.Attribute.{Attribute, masked}
use Rattle.nla_frame.specs.declared.error.Cause.{Cause}
use Rattle.nla_frame.specs.declared.error.Cause.TheVariants as cause
use Rattle.nla_frame.specs.declared.error.Family.TheVariants as family
use Rattle.nla_frame.specs.declared.error.DecodeError.{DecodeError}
use Rattle.linkinfo_numbers.specs.Kind.{tag_of_name}
use Rattle.linkinfo_numbers.specs.PortKind.{port_tag_of_name}
use Rattle.linkinfo_shapes.specs.Shapes.{means}
use Rattle.linkinfo_shapes.specs.declared.shape.Shape.TheVariants.{Name}
use Rattle.linkinfo.specs.declared.role.CurrentKinds.{CurrentKinds}
use Rattle.linkinfo.specs.declared.role.Role.{Role}
use Rattle.linkinfo.specs.declared.role.Role.TheVariants as role

-- before the first attribute there is no current kind
abbrev pub no_kinds : CurrentKinds
no_kinds = record { kind = None; port = None }

-- data and statistics are misplaced if there is no current kind
abbrev pub role_under : {T : Type 0} → Option T → (T → Role) → Role
role_under (Some tag) at = at tag
role_under None at = role.Misplaced

-- kinds, data, statistics, port kinds and port data are named; every other type is unknown
unfoldable pub role_of : CurrentKinds → ℕ → Role
role_of t n =
    if n == 1 then role.Kind
    else if n == 2 then role_under t.kind (λ tag. role.Data tag)
    else if n == 3 then role_under t.kind (λ _. role.Xstats)
    else if n == 4 then role.PortKind
    else if n == 5 then role_under t.port (λ tag. role.PortData tag)
    else role.Unknown

abbrev pub role_at : CurrentKinds → Attribute → Role
role_at t a = role_of t (masked a.kind)

-- the error of an attribute of the list itself
abbrev pub item_own_error : Attribute → Cause → DecodeError
item_own_error a c = record { family = family.LinkInfo; kind = masked a.kind; cause = c }

abbrev pub name_or_error : Attribute → Result (List ℕ) Cause → Result (List ℕ) DecodeError
name_or_error a (Ok name) = Ok name
name_or_error a (Err c) = Err (item_own_error a c)

-- the name that an attribute holds: its payload without one closing NUL, if it is UTF-8
unfoldable pub name_meaning : Attribute → Result (List ℕ) DecodeError
name_meaning a = name_or_error a (means Name a.value)

-- what is made of a name, or the error of the name
abbrev pub with_name : {X : Type 0} → Result (List ℕ) DecodeError → (List ℕ → X) →
    Result X DecodeError
with_name (Ok name) made = Ok (made name)
with_name (Err e) made = Err e

-- A name gives the current kind after it, and port data uses the current port kind up. The error is
-- that of the attribute itself.
abbrev pub kinds_after_role : Role → CurrentKinds → Attribute → Result CurrentKinds DecodeError
kinds_after_role role.Kind t a =
    with_name (name_meaning a) (λ name. record { kind = Some (tag_of_name name); port = t.port })
kinds_after_role role.PortKind t a =
    with_name (name_meaning a)
    (λ name. record { kind = t.kind; port = Some (port_tag_of_name name) })
kinds_after_role (role.PortData tag) t a = Ok (record { kind = t.kind; port = None })
kinds_after_role role.Misplaced t a = Err (item_own_error a cause.Order)
kinds_after_role _ t a = Ok t

abbrev pub kinds_after : CurrentKinds → Attribute → Result CurrentKinds DecodeError
kinds_after t a = kinds_after_role (role_at t a) t a
