-- A list of attributes as a JSON object, by the rows of a table.
use Rattle.std.specs.Prelude.{
  ℕ,
  ◌/◌,
  ◌%◌,
  ◌==◌,
  suc,
  Bool,
  if◌then◌else◌,
  List,
  [],
  ◌∷◌,
  ◌++◌,
  Option,
  Some,
  None,
  Result,
  Ok,
  Err,
  codes,
}
use Rattle.nla_frame.specs.Attribute.{Attribute, masked}
use Rattle.nla_frame.specs.declared.error.Cause.{Cause}
use Rattle.nla_frame.specs.declared.error.Family.TheVariants as families
use Rattle.linkinfo_shapes.specs.Data as value
use Rattle.linkinfo_shapes.specs.Data.{Value}
use Rattle.linkinfo_shapes.specs.declared.shape.Shape.{Shape}
use Rattle.linkinfo_shapes.specs.declared.shape.Shape.TheVariants as shape
use Rattle.serde_json.specs.Data as json
use Rattle.serde_json.specs.Data.{Data, Members, put}
use Rattle.serde_json.specs.View.{items_of}
use Rattle.linkinfo_view.specs.Attributes.{attributes, has_type, rest_of}
use Rattle.linkinfo_view.specs.Lines.{Line}
use Rattle.linkinfo_view.specs.Table.{row_of}
use Rattle.linkinfo_view.specs.Text.{class_text, hex_data, hex_text, label_text, hex_or_zero}
use Rattle.linkinfo_view.specs.Values.{
  Named,
  bits_from,
  first_of,
  flags_data,
  format_data,
  is_multicast,
  listed_text,
  meant,
  names_data,
  number_data,
  options_from,
  plain_as,
  plain_data,
  second_of,
  two,
}
use Rattle.linkinfo_view.specs.declared.format.Elements.{Elements}
use Rattle.linkinfo_view.specs.declared.format.Elements.TheVariants as elements
use Rattle.linkinfo_view.specs.declared.format.Flags.{Flags}
use Rattle.linkinfo_view.specs.declared.format.Flags.TheVariants as flags
use Rattle.linkinfo_view.specs.declared.format.Format.{Format}
use Rattle.linkinfo_view.specs.declared.format.Format.TheVariants as format
use Rattle.linkinfo_view.specs.declared.format.Table.{Table}
use Rattle.linkinfo_view.specs.declared.format.Table.TheVariants as tables

-- an attribute that is not shown by a row: its whole type, and its payload in hex; under its name,
-- if it has one
abbrev pub with_label : Option (List ℕ) → Members → Members
with_label None ms = ms
with_label (Some name) ms = put (codes "name") (json.string name) ms

abbrev pub other_data : Option (List ℕ) → Attribute → Data
other_data name a = json.object (with_label name (
    put (codes "type") (number_data a.kind) (put (codes "hex") (hex_data a.value) json.no_members)
    ))

-- what follows the last whole attribute, if anything does
abbrev pub rest_member : List ℕ → Members → Members
rest_member [] ms = ms
rest_member (b ∷ bytes) ms = put (codes "rest") (hex_data (b ∷ bytes)) ms

-- the type of an element of a nested list
abbrev pub element_type : Elements → ℕ → ℕ
element_type elements.HardwareAddresses place = 4
element_type elements.Addresses place = place
element_type elements.PriorityPairs place = 1

-- the shape of its payload
abbrev pub element_shape : Elements → Shape
element_shape elements.HardwareAddresses = shape.Mac
element_shape elements.Addresses = shape.Ip
element_shape elements.PriorityPairs = shape.FlagPair

-- two numbers, of which the first is mapped to the second
abbrev pub mapping : Result Value Cause → List ℕ → Data
mapping (Ok (value.pair a b)) payload =
    two (codes "from") (number_data a) (codes "to") (number_data b)
mapping _ payload = hex_data payload

-- the payload of an element, by its shape
abbrev pub element_payload : Elements → List ℕ → Data
element_payload elements.PriorityPairs payload =
    mapping (meant (element_shape elements.PriorityPairs) payload) payload
element_payload el payload = plain_as (element_shape el) payload

-- an element at a place; one of another type is shown as such
abbrev pub element_data : Elements → ℕ → Attribute → Data
element_data el place a = if a.kind == element_type el place then element_payload el a.value
    else other_data None a

abbrev pub elements_from : Elements → ℕ → List Attribute → List Data
elements_from el place [] = []
elements_from el place (a ∷ more) = element_data el place a ∷ elements_from el (suc place) more

-- what follows them, as an object
abbrev pub rest_data : List ℕ → List Data
rest_data [] = []
rest_data (b ∷ bytes) = json.object (rest_member (b ∷ bytes) json.no_members) ∷ []

abbrev pub elements_data : Elements → List ℕ → Data
elements_data el payload =
    json.array (items_of (elements_from el 0 (attributes payload) ++ rest_data (rest_of payload)))

-- a mask in hex, and the names of its flags
abbrev pub mask_members : Flags → List ℕ → ℕ → List Named
mask_members flags name n = (name, json.string (hex_or_zero n))
    ∷ (codes "group_fwd_mask_str", json.string (listed_text flags n))
    ∷ []

-- a number, and the traffic class and the flow label in it
abbrev pub flow_members : List ℕ → ℕ → List Named
flow_members name n = (name, json.string (hex_text n))
    ∷ (codes "tclass", json.string (class_text (n / 0x100000)))
    ∷ (codes "flowlabel", json.string (label_text n))
    ∷ []

-- an address, by one name if it is a multicast address, and by another if not
abbrev pub group_members : List ℕ → List ℕ → Value → List ℕ → List Named
group_members name other value payload =
    (if is_multicast payload then name else other, plain_data value) ∷ []

-- the names of flags, and a mask
abbrev pub names_members : Flags → List ℕ → List ℕ → ℕ → ℕ → List Named
names_members flags name mask_name n mask = (name, names_data flags n)
    ∷ (mask_name, json.string (hex_text mask))
    ∷ []

-- a number, and the names of the flags of its low eight bits
abbrev pub state_members : List ℕ → ℕ → List Named
state_members name n = (name, number_data n)
    ∷ (name ++ codes "_str", names_data flags.LacpState (n % 256))
    ∷ []

-- the modes in an attribute, if it has four bytes
abbrev pub modes_in : Result Value Cause → Option ℕ
modes_in (Ok value) = Some (first_of value)
modes_in (Err e) = None

-- the modes that a device has: those of the last attribute of type 1, or else those of before
abbrev pub modes_after : Option ℕ → Attribute → Option ℕ
modes_after before a =
    if masked a.kind == 1 then modes_in (meant shape.Le32 a.value) else before

abbrev pub supported_modes : Option ℕ → List Attribute → Option ℕ
supported_modes before [] = before
supported_modes before (a ∷ more) = supported_modes (modes_after before a) more

-- their names
abbrev pub supported_members : Option ℕ → List Named
supported_members None = []
supported_members (Some n) = (codes "ctrlmode_supported", names_data flags.Can n) ∷ []

-- the list of the modes that a device has, and their names
abbrev pub modes_members : (Table → List ℕ → Data) → List ℕ → List ℕ → List Named
modes_members nested name payload =
    (name, nested (tables.Family families.CanCtrlModeExt) payload)
    ∷ supported_members (supported_modes None (attributes payload))

-- the members of a value by its format, where `nested` shows a nested list by a table
abbrev pub format_members : (Table → List ℕ → Data) → List ℕ → Format → Value → List ℕ →
    List Named
format_members nested name (format.Mask flags) value payload =
    mask_members flags name (first_of value)
format_members nested name format.FlowInfo value payload = flow_members name (first_of value)
format_members nested name format.Group value payload =
    group_members name (codes "remote") value payload
format_members nested name format.Group6 value payload =
    group_members name (codes "remote6") value payload
format_members nested name (format.Bits flags) value payload =
    (name, flags_data value) ∷ bits_from 16 0 flags (first_of value)
format_members nested name (format.Options flags) value payload =
    (name, flags_data value) ∷ options_from 16 0 flags (first_of value) (second_of value)
format_members nested name (format.Names flags) value payload =
    names_members flags name (codes "flags_mask") (first_of value) (second_of value)
format_members nested name (format.SecondNames flags) value payload =
    names_members flags name (codes "ctrlmode_mask") (second_of value) (first_of value)
format_members nested name (format.FlagNames flags) value payload =
    (name, names_data flags (first_of value)) ∷ []
format_members nested name format.LacpState value payload = state_members name (first_of value)
format_members nested name (format.List el) value payload = (name, elements_data el payload) ∷ []
format_members nested name (format.Nested family) value payload =
    (name, nested (tables.Family family) payload) ∷ []
format_members nested name format.Supported value payload = modes_members nested name payload
format_members nested name format value payload = (name, format_data format value payload) ∷ []

-- the members of a payload by a row; a payload that the row's shape rejects is hex
abbrev pub members_meant : (Table → List ℕ → Data) → Line → List ℕ → Result Value Cause →
    List Named
members_meant nested row payload (Ok value) =
    format_members nested row.name row.format value payload
members_meant nested row payload (Err e) = (row.name, hex_data payload) ∷ []

abbrev pub members_of : (Table → List ℕ → Data) → Line → List ℕ → List Named
members_of nested row payload = members_meant nested row payload (meant row.shape payload)

-- members put into an object, in order
abbrev pub put_all : List Named → Members → Members
put_all [] ms = ms
put_all (x ∷ more) ms = put_all more (put x.0 x.1 ms)

-- the row that shows an attribute before others: that of its type, unless one of those has its type
abbrev pub row_unless : Bool → Table → ℕ → Option Line
row_unless later table kind = if later then None else row_of table kind

abbrev pub row_before : Table → Attribute → List Attribute → Option Line
row_before table a more = row_unless (has_type (masked a.kind) more) table (masked a.kind)

-- the members of an attribute, if a row shows it
abbrev pub put_shown : (Table → List ℕ → Data) → Option Line → List ℕ → Members → Members
put_shown nested None payload ms = ms
put_shown nested (Some row) payload ms = put_all (members_of nested row payload) ms

-- the members of all attributes that a row shows
abbrev pub shown_in : (Table → List ℕ → Data) → Table → List Attribute → Members → Members
shown_in nested table [] ms = ms
shown_in nested table (a ∷ more) ms =
    shown_in nested table more (put_shown nested (row_before table a more) a.value ms)

-- the name of a row
abbrev pub label_of : Option Line → Option (List ℕ)
label_of None = None
label_of (Some row) = Some row.name

-- the others, in order
abbrev pub others_with : Option Line → Table → Attribute → List Data → List Data
others_with None table a more = other_data (label_of (row_of table (masked a.kind))) a ∷ more
others_with (Some row) table a more = more

abbrev pub others_in : Table → List Attribute → List Data
others_in table [] = []
others_in table (a ∷ more) = others_with (row_before table a more) table a (others_in table more)

abbrev pub others_member : List Data → Members → Members
others_member [] ms = ms
others_member (d ∷ ds) ms = put (codes "others") (json.array (items_of (d ∷ ds))) ms

-- a list of attributes: what rows show, the others, and what follows the last whole attribute
unfoldable pub list_data : (Table → List ℕ → Data) → Table → List ℕ → Data
list_data nested table s = json.object (
    rest_member (rest_of s) (
    others_member (others_in table (attributes s)) (
    shown_in nested table (attributes s) json.no_members
    )
    )
    )

-- a nested list, in which further ones are hex
abbrev pub hex_nested : Table → List ℕ → Data
hex_nested table s = hex_data s

unfoldable pub nested_data : Table → List ℕ → Data
nested_data table s = list_data hex_nested table s

unfoldable pub attributes_data : Table → List ℕ → Data
attributes_data table s = list_data nested_data table s
