-- What a byte string means as a list of link info attributes, and when two byte strings are
-- equivalent.
use Rattle.std.specs.Prelude.{
  ◌==◌,
  ◌||◌,
  ℕ,
  Bool,
  false,
  if◌then◌else◌,
  List,
  [],
  ◌∷◌,
  Option,
  Some,
  None,
  Result,
  Ok,
  Err,
}
use Rattle.nla_frame.specs.Attribute.{Attribute, masked}
use Rattle.nla_frame.specs.NlaItems.{nla_items}
use Rattle.nla_frame.specs.declared.error.DecodeError.{DecodeError}
use Rattle.linkinfo_numbers.specs.declared.tags.KindTag.{KindTag}
use Rattle.linkinfo_numbers.specs.declared.tags.PortTag.{PortTag}
use Rattle.linkinfo_numbers.specs.Kind.{tag_of_kind, tag_of_name}
use Rattle.linkinfo_numbers.specs.PortKind.{port_tag_of_name, tag_of_port_kind}
use Rattle.nla_frame.specs.Payload.{stripped}
use Rattle.linkinfo_table.specs.Difference.{first_or}
use Rattle.linkinfo_data.specs.DataFamilies.{DataFamilies, DataTypes}
use Rattle.linkinfo_table.specs.Readings.{HasError, MeanEach, MeansList, state_after}
use Rattle.linkinfo_table.specs.Lists.{
  values_under,
  headers_under,
  alike_under,
  memory_under,
  well_under,
}
use Rattle.linkinfo.specs.Layered.{LinkOf}
use Rattle.linkinfo.specs.declared.link_info.LinkInfoOf.TheVariants as info
use Rattle.linkinfo.specs.declared.role.CurrentKinds.{CurrentKinds}
use Rattle.linkinfo.specs.Items.{
  link_meaning,
  link_headers,
  link_alike,
  link_needs_memory,
  link_well,
}
use Rattle.linkinfo.specs.Roles.{kinds_after, no_kinds}

abbrev pub or_stay : CurrentKinds → Result CurrentKinds DecodeError → CurrentKinds
or_stay t (Ok u) = u
or_stay t (Err e) = t

-- the current kinds after an attribute
unfoldable pub next_kinds : CurrentKinds → Attribute → CurrentKinds
next_kinds t a = or_stay t (kinds_after t a)

-- the current kinds after a value
abbrev pub kinds_after_value : {L : DataTypes} → CurrentKinds → LinkOf L → CurrentKinds
kinds_after_value t (info.Kind k) = record { kind = Some (tag_of_kind k); port = t.port }
kinds_after_value t (info.PortKind k) = record { kind = t.kind; port = Some (tag_of_port_kind k) }
kinds_after_value t (info.PortData d) = record { kind = t.kind; port = None }
kinds_after_value t _ = t

-- ---- over the attributes of a byte string, under the current kinds before them

abbrev pub values_from : {L : DataTypes} → DataFamilies L → CurrentKinds →
    List (Result Attribute ℕ) → Result (List (LinkOf L)) DecodeError
values_from layer t ps = values_under (link_meaning layer) next_kinds t ps

abbrev pub headers_from : {L : DataTypes} → DataFamilies L → CurrentKinds →
    List (Result Attribute ℕ) → ℕ
headers_from layer t ps = headers_under (link_meaning layer) (link_headers layer) next_kinds t ps

abbrev pub alike_from : {L : DataTypes} → DataFamilies L → CurrentKinds →
    List (Result Attribute ℕ) → List (Result Attribute ℕ) → Bool
alike_from layer t ps qs = alike_under (link_alike layer) next_kinds t ps qs

abbrev pub memory_from : {L : DataTypes} → DataFamilies L → CurrentKinds →
    List (Result Attribute ℕ) → Bool
memory_from layer t ps = memory_under (link_meaning layer) (link_needs_memory layer) t ps

-- ---- of a whole byte string, before which there is no current kind

-- what a byte string means: the values of its attributes, or the first error in byte order
unfoldable pub reading : {L : DataTypes} → DataFamilies L → List ℕ →
    Result (List (LinkOf L)) DecodeError
reading layer s = values_from layer no_kinds (nla_items s)

-- the headers examined, at all levels, up to the error
unfoldable pub headers_of_string : {L : DataTypes} → DataFamilies L → List ℕ → ℕ
headers_of_string layer s = headers_from layer no_kinds (nla_items s)

-- whether two accepted byte strings are equivalent, attribute by attribute, without building values
unfoldable pub alike_strings : {L : DataTypes} → DataFamilies L → List ℕ → List ℕ → Bool
alike_strings layer a b = alike_from layer no_kinds (nla_items a) (nla_items b)

-- whether parsing may allocate: not for the empty string, and not if the first attribute has an
-- error of its own
unfoldable pub reading_needs_memory : {L : DataTypes} → DataFamilies L → List ℕ → Bool
reading_needs_memory layer s = memory_from layer no_kinds (nla_items s)

-- a list is well formed: each value is, under the current kinds that those before it leave
abbrev pub WellFormed : {L : DataTypes} → DataFamilies L → List (LinkOf L) → Type 0
WellFormed layer xs = well_under (link_well layer) kinds_after_value no_kinds xs

-- ---- the meaning of a byte string as relations

-- each attribute means its value, under the current kinds that those before it leave
abbrev pub MeansEach : {L : DataTypes} → DataFamilies L → CurrentKinds → List Attribute →
    List (LinkOf L) →
    Type 0
MeansEach layer t attributes xs = MeanEach (link_meaning layer) next_kinds t attributes xs

-- the byte string is a list of attributes that mean these values
abbrev pub Means : {L : DataTypes} → DataFamilies L → List ℕ → List (LinkOf L) → Type 0
Means layer s xs = MeansList (link_meaning layer) next_kinds no_kinds s xs

-- the byte string has the error of an attribute without a meaning, after attributes that have one,
-- or the error of a rest without a header
abbrev pub IsRejected : {L : DataTypes} → DataFamilies L → List ℕ → DecodeError → Type 0
IsRejected layer s e = HasError (link_meaning layer) next_kinds no_kinds s e

-- the current kinds after attributes
abbrev pub kinds_after_all : CurrentKinds → List Attribute → CurrentKinds
kinds_after_all t front = state_after next_kinds t front

-- ---- the current kinds, by the last names

-- the tag of the name in the last attribute of type 1
abbrev pub last_kind : List Attribute → Option KindTag
last_kind [] = None
last_kind (a ∷ more) =
    first_or (last_kind more)
    (if masked a.kind == 1 then Some (tag_of_name (stripped a.value)) else None)

-- one of these attributes has type 4 or 5
abbrev pub names_or_uses : List Attribute → Bool
names_or_uses [] = false
names_or_uses (a ∷ more) = (masked a.kind == 4 || masked a.kind == 5) || names_or_uses more

-- the tag of the name in the last attribute of type 4, if none of type 5 follows it
abbrev pub last_port : List Attribute → Option PortTag
last_port [] = None
last_port (a ∷ more) =
    if names_or_uses more then last_port more
    else if masked a.kind == 4 then Some (port_tag_of_name (stripped a.value))
    else None
