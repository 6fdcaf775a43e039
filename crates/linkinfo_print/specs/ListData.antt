-- A list of link info as JSON data.
use Rattle.std.specs.Prelude.{
  ◌==◌,
  ◌||◌,
  ℕ,
  Bool,
  false,
  if◌then◌else◌,
  List,
  [],
  ◌∷◌,
  Option,
  Some,
  None,
  Result,
  Ok,
  Err,
  codes,
}
use Rattle.nla_frame.specs.Attribute.{Attribute, masked}
use Rattle.nla_frame.specs.NlaItems.{nla_items}
use Rattle.nla_frame.specs.Payload.{stripped}
use Rattle.nla_frame.specs.declared.error.DecodeError.{DecodeError}
use Rattle.nla_frame.specs.declared.error.Family.{Family}
use Rattle.nla_frame.specs.declared.error.Family.TheVariants as family
use Rattle.linkinfo_numbers.specs.declared.tags.KindTag.{KindTag}
use Rattle.linkinfo_numbers.specs.declared.tags.KindTag.TheVariants as kind
use Rattle.linkinfo_numbers.specs.declared.tags.PortTag.{PortTag}
use Rattle.linkinfo_data.specs.BytesLayer.{bytes_layer}
use Rattle.linkinfo_data.specs.Data.{family_of}
use Rattle.linkinfo_data.specs.Lists.{family_in}
use Rattle.linkinfo_data.specs.PortData.{port_family_of}
use Rattle.linkinfo.specs.Roles.{no_kinds, role_at}
use Rattle.linkinfo.specs.Strings.{next_kinds}
use Rattle.linkinfo.specs.Walks.{walk_items}
use Rattle.linkinfo.specs.declared.role.CurrentKinds.{CurrentKinds}
use Rattle.linkinfo.specs.declared.role.Role.{Role}
use Rattle.linkinfo.specs.declared.role.Role.TheVariants as role
use Rattle.linkinfo_view.specs.Table.{table_of_other}
use Rattle.linkinfo_view.specs.Text.{escaped_text, hex_data}
use Rattle.linkinfo_view.specs.View.{attributes_data}
use Rattle.linkinfo_view.specs.declared.format.Table.{Table}
use Rattle.linkinfo_view.specs.declared.format.Table.TheVariants as table
use Rattle.serde_json.specs.Data.{
  Data,
  array,
  number,
  object,
  string,
  unsigned,
  Members,
  no_members,
  put,
}
use Rattle.serde_json.specs.View.{items_of}
use Rattle.std.specs.Option.{option_map}
use Rattle.linkinfo_print.specs.MembersData.{put_some}

-- ---- the rows that show data

-- the rows of the family of these attributes, if there are any
abbrev pub table_in : Option Family → Option Table
table_in None = None
table_in (Some f) = Some (table.Family f)

-- The rows of the data of a kind: those of its family, where data is a list. Data of veth and vxcan
-- is shown as a list, although only its first attribute counts; `sit` and `ip6tnl` links have rows
-- of their own.
abbrev pub table_of : KindTag → Option Table
table_of kind.Veth = Some (table.Family family.Veth)
table_of kind.Vxcan = Some (table.Family family.Vxcan)
table_of kind.SitTun = Some table.Sit
table_of kind.Ip6Tnl = Some table.Ip6Tunnel
table_of tag = table_in (family_in (bytes_layer.data_of (family_of tag)).contents)

abbrev pub port_table_of : PortTag → Option Table
port_table_of tag = table_in (family_in (bytes_layer.port_data_of (port_family_of tag)).contents)

-- The rows of the data that follows an attribute, by the name of its kind: those of the last name,
-- of a kind that the library keeps as bytes. Where the family of a kind has rows, they are those.
abbrev pub named_after : Option Table → Attribute → Option Table
named_after named a = if masked a.kind == 1 then table_of_other (stripped a.value) else named

abbrev pub named_after_all : Option Table → List Attribute → Option Table
named_after_all named [] = named
named_after_all named (a ∷ more) = named_after_all (named_after named a) more

abbrev pub rows_or : Option Table → Option Table → Option Table
rows_or (Some t) named = Some t
rows_or None named = named

-- ---- the value of an attribute

-- data by its rows; data without rows in hex
abbrev pub rows_data : Option Table → List ℕ → Data
rows_data (Some t) payload = attributes_data t payload
rows_data None payload = hex_data payload

-- a name without its closing NUL, and escaped
abbrev pub name_data : List ℕ → Data
name_data payload = string (escaped_text (stripped payload))

-- names are texts, data is shown by its rows, and all else is hex
abbrev pub role_data : Role → Option Table → List ℕ → Data
role_data role.Kind named payload = name_data payload
role_data (role.Data tag) named payload = rows_data (rows_or (table_of tag) named) payload
role_data role.PortKind named payload = name_data payload
role_data (role.PortData tag) named payload = rows_data (port_table_of tag) payload
role_data _ named payload = hex_data payload

-- ---- the members

-- the member of the attributes of a type, as `ip -j link` names it
abbrev pub member_name : ℕ → Option (List ℕ)
member_name kind =
    if kind == 1 then Some (codes "info_kind")
    else if kind == 2 then Some (codes "info_data")
    else if kind == 3 then Some (codes "info_xstats")
    else if kind == 4 then Some (codes "info_slave_kind")
    else if kind == 5 then Some (codes "info_slave_data")
    else None

-- an attribute of this type is among those to come
abbrev pub comes_again : ℕ → List (Result Attribute DecodeError) → Bool
comes_again kind [] = false
comes_again kind ((Ok a) ∷ more) = masked a.kind == kind || comes_again kind more
comes_again kind ((Err e) ∷ more) = false

-- the name of the member that an attribute is: the last one of its type, where the type has a name
abbrev pub shown_as : Attribute → List (Result Attribute DecodeError) → Option (List ℕ)
shown_as a more = if comes_again (masked a.kind) more then None else member_name (masked a.kind)

abbrev pub put_if : Option (List ℕ) → Data → Members → Members
put_if (Some name) d members = put name d members
put_if None d members = members

-- the members of a list, after these of the attributes before
abbrev pub members_on : Members → CurrentKinds → Option Table →
    List (Result Attribute DecodeError) → Members
members_on members t named [] = members
members_on members t named ((Ok a) ∷ more) =
    members_on (put_if (shown_as a more) (role_data (role_at t a) named a.value) members)
    (next_kinds t a) (named_after named a) more
members_on members t named ((Err e) ∷ more) = members

-- an attribute that is no member: its whole type, its payload in hex, and the name of its type if
-- a later attribute is that member
abbrev pub other_data : Attribute → Data
other_data a =
    object (put_some (codes "name") (option_map string (member_name (masked a.kind)))
    (put (codes "hex") (hex_data a.value)
    (put (codes "type") (number (unsigned a.kind)) no_members)))

abbrev pub if_other : Option (List ℕ) → Data → List Data → List Data
if_other (Some name) d others = others
if_other None d others = d ∷ others

-- the attributes that are no members, in order
abbrev pub others_in : List (Result Attribute DecodeError) → List Data
others_in [] = []
others_in ((Ok a) ∷ more) = if_other (shown_as a more) (other_data a) (others_in more)
others_in ((Err e) ∷ more) = []

abbrev pub with_others : List Data → Members → Members
with_others [] members = members
with_others (d ∷ ds) members = put (codes "others") (array (items_of (d ∷ ds))) members

-- The object of a list of attributes. The last attribute of each known type is a member; all others
-- are in `others`, in order.
abbrev pub items_data : List (Result Attribute DecodeError) → Data
items_data items =
    object (with_others (others_in items) (members_on no_members no_kinds None items))

-- a byte string as JSON data
unfoldable pub list_data : List ℕ → Data
list_data s = items_data (walk_items no_kinds (nla_items s))
