-- What holds of the rows: they have the layouts of the library, and names are distinct.
use Rattle.std.specs.Prelude.{
  ◌≡◌,
  ℕ,
  ◌==◌,
  ◌&&◌,
  ◌||◌,
  Bool,
  true,
  false,
  if◌then◌else◌,
  not,
  IsTrue,
  List,
  [],
  ◌∷◌,
  ◌++◌,
  map,
  Option,
  Some,
  None,
  option_map,
  codes,
}
use Rattle.std.specs.List.{AllByRecursion, flat_map, list_any}
use Rattle.std.specs.Str.{bytes_eq}
use Rattle.nla_frame.specs.Attribute.{Attribute, masked}
use Rattle.nla_frame.specs.declared.error.Family.{Family}
use Rattle.nla_frame.specs.declared.error.Family.TheVariants as family
use Rattle.linkinfo_shapes.specs.Typed.{typed_rows_of, typed_shape_of}
use Rattle.linkinfo_shapes.specs.declared.shape.Shape.{Shape}
use Rattle.linkinfo_shapes.specs.declared.shape.Shape.TheVariants as shape
use Rattle.serde_json.specs.Data.{Data, array}
use Rattle.serde_json.specs.Find.{get}
use Rattle.serde_json.specs.View.{items_of}
use Rattle.linkinfo_view.specs.Attributes.{attributes, rest_of}
use Rattle.linkinfo_view.specs.Lines.{Line}
use Rattle.linkinfo_view.specs.Table.{row_of, rows_of}
use Rattle.linkinfo_view.specs.Text.{hex_data}
use Rattle.linkinfo_view.specs.Values.{Named}
use Rattle.linkinfo_view.specs.View.{
  attributes_data,
  element_shape,
  element_type,
  label_of,
  members_of,
  nested_data,
  other_data,
  others_in,
  row_before,
}
use Rattle.linkinfo_view.specs.Words.{FlagRow, flag_of}
use Rattle.linkinfo_view.specs.declared.format.Elements.{Elements}
use Rattle.linkinfo_view.specs.declared.format.Elements.TheVariants as elements
use Rattle.linkinfo_view.specs.declared.format.Flags.{Flags}
use Rattle.linkinfo_view.specs.declared.format.Format.{Format}
use Rattle.linkinfo_view.specs.declared.format.Format.TheVariants as format
use Rattle.linkinfo_view.specs.declared.format.Table.{Table}

-- the shape and the format of a type by the rows of a table
abbrev pub shown_shape : Table → ℕ → Option Shape
shown_shape t number = option_map (λ (row : Line). row.shape) (row_of t number)

abbrev pub shown_format : Table → ℕ → Option Format
shown_format t number = option_map (λ (row : Line). row.format) (row_of t number)

-- The booleans whose byte is shown as a number, by type: those of bridges, and of their ports
-- `IFLA_BRPORT_TOPOLOGY_CHANGE_ACK` and `IFLA_BRPORT_CONFIG_PENDING`.
abbrev pub is_shown_as_number : Family → ℕ → Bool
is_shown_as_number family.Bridge number = true
is_shown_as_number family.BridgePort number = number == 19 || number == 20
is_shown_as_number _ number = false

-- The shape of a row of the view, by that of the library's row: the same, but `U8` for such a
-- boolean, and `Raw` for a record, an array or a list, whose bytes the format reads.
abbrev pub view_shape : Family → ℕ → Shape → Shape
view_shape f number shape.Truth =
    if is_shown_as_number f number then shape.U8 else shape.Truth
view_shape f number (shape.Nested inner) = shape.Raw
view_shape f number shape.BridgeId = shape.Raw
view_shape f number shape.LePair16 = shape.Raw
view_shape f number shape.Le32x8 = shape.Raw
view_shape f number shape.CanBitTimingConst = shape.Raw
view_shape f number shape.Le16s = shape.Raw
view_shape f number shape.Le32s = shape.Raw
view_shape f number shape.V4List = shape.Raw
view_shape f number shape.V6List = shape.Raw
view_shape f number sh = sh

-- The format of a row of the view, where the library's shape is such a boolean, a record, an array
-- or a list. A list of another family is shown by the table of that family, but for maps of
-- priorities, and for the modes of CAN devices, whose names are also in the list around it.
abbrev pub view_format : Family → ℕ → Shape → Option Format
view_format f number shape.Truth =
    if is_shown_as_number f number then Some format.Plain else None
view_format f number (shape.Nested family.VlanQosMapping) =
    Some (format.List elements.PriorityPairs)
view_format f number (shape.Nested family.CanCtrlModeExt) = Some format.Supported
view_format f number (shape.Nested inner) = Some (format.Nested inner)
view_format f number shape.BridgeId = Some format.BridgeId
view_format f number shape.LePair16 = Some format.ErrorCounters
view_format f number shape.Le32x8 = Some format.BitTiming
view_format f number shape.CanBitTimingConst = Some format.BitTimingConst
view_format f number shape.Le16s = Some format.Le16s
view_format f number shape.Le32s = Some format.Le32s
view_format f number shape.V4List = Some (format.List elements.Addresses)
view_format f number shape.V6List = Some (format.List elements.Addresses)
view_format f number shape.SelfList = Some (format.List elements.HardwareAddresses)
view_format f number sh = None

-- the shapes of one number, of one number of two bytes, and of one number or boolean
abbrev pub is_of_number : Shape → Bool
is_of_number shape.U8 = true
is_of_number shape.Le16 = true
is_of_number shape.Le32 = true
is_of_number shape.Le64 = true
is_of_number shape.Be16 = true
is_of_number shape.Be32 = true
is_of_number shape.Be64 = true
is_of_number _ = false

abbrev pub is_of_two_bytes : Shape → Bool
is_of_two_bytes shape.Le16 = true
is_of_two_bytes shape.Be16 = true
is_of_two_bytes _ = false

abbrev pub is_of_switch : Shape → Bool
is_of_switch shape.Truth = true
is_of_switch shape.TruthOne = true
is_of_switch sh = is_of_number sh

-- The shapes that a format shows, where the shape does not have a format of its own: those whose
-- value or whose bytes it reads. `Plain` shows a value by its kind. The formats of records, arrays
-- and lists show none of these shapes.
abbrev pub shows : Format → Shape → Bool
shows format.Plain sh = true
shows format.Present shape.Mark = true
shows format.Switch sh = is_of_switch sh
shows format.Hex sh = is_of_number sh
shows format.HexOrZero sh = is_of_number sh
shows (format.Mask flags) sh = is_of_number sh
shows format.KeyHex sh = is_of_two_bytes sh
shows format.FourDigits sh = is_of_two_bytes sh
shows format.Octets shape.Le64 = true
shows format.HardwareAddress shape.Raw = true
shows format.Quad shape.Be32 = true
shows (format.Word words) shape.Scrub = true
shows (format.Word words) sh = is_of_number sh
shows format.Address shape.V4 = true
shows format.Address shape.V6 = true
shows format.Address shape.Ip = true
shows format.Group shape.V4 = true
shows format.Group6 shape.V6 = true
shows format.FlowInfo shape.Be32 = true
shows (format.Bits flags) sh = is_of_number sh
shows (format.Options flags) shape.FlagPair = true
shows (format.Names flags) shape.FlagPair = true
shows (format.SecondNames flags) shape.FlagPair = true
shows (format.FlagNames flags) sh = is_of_number sh
shows format.LacpState shape.U8 = true
shows format.LacpState shape.Le16 = true
shows _ _ = false

-- Each row of the family in the typed layer has a row in the table: with its shape as the view has
-- it, and with the format that the view has for it, if it has one, and else with a format that
-- shows the shape.
pub record Agrees (t : Table) (f : Family) : Type 0 where
  pub shapes : (number : ℕ) (sh : Shape) → typed_shape_of f number ≡ Some sh →
      shown_shape t number ≡ Some (view_shape f number sh)
  pub formats : (number : ℕ) (sh : Shape) (form : Format) → typed_shape_of f number ≡ Some sh →
      view_format f number sh ≡ Some form → shown_format t number ≡ Some form
  pub others : (number : ℕ) (sh : Shape) (form : Format) → typed_shape_of f number ≡ Some sh →
      view_format f number sh ≡ None → shown_format t number ≡ Some form → IsTrue (shows form sh)

-- The one row of the family has the type and the shape of the elements of a list.
abbrev pub IsRowOfElements : Family → Elements → Type 0
IsRowOfElements f el =
    (place : ℕ) → typed_rows_of f ≡ (element_type el place, element_shape el) ∷ []

-- A row of the family has the type and the shape of the elements of a list.
abbrev pub HasRowOfElements : Family → Elements → Type 0
HasRowOfElements f el =
    (place : ℕ) → typed_shape_of f (element_type el place) ≡ Some (element_shape el)

-- the names of flags
abbrev pub flag_names : Flags → List (List ℕ)
flag_names flags = map (λ (row : ℕ × FlagRow). (row.1).name) (flag_of flags)

-- the names of the members that a row may have
abbrev pub names_of : List ℕ → Format → List (List ℕ)
names_of name (format.Mask flags) = name ∷ codes "group_fwd_mask_str" ∷ []
names_of name format.FlowInfo = name ∷ codes "tclass" ∷ codes "flowlabel" ∷ []
names_of name format.Group = name ∷ codes "remote" ∷ []
names_of name format.Group6 = name ∷ codes "remote6" ∷ []
names_of name (format.Bits flags) = name ∷ flag_names flags
names_of name (format.Options flags) = name ∷ flag_names flags
names_of name (format.Names flags) = name ∷ codes "flags_mask" ∷ []
names_of name (format.SecondNames flags) = name ∷ codes "ctrlmode_mask" ∷ []
names_of name format.LacpState = name ∷ (name ++ codes "_str") ∷ []
names_of name format.Supported = name ∷ codes "ctrlmode_supported" ∷ []
names_of name format = name ∷ []

-- the names of all members of an object
abbrev pub member_names : Table → List (List ℕ)
member_names t = codes "others" ∷ codes "rest"
    ∷ flat_map (λ (row : ℕ × Line). names_of (row.1).name (row.1).format) (rows_of t)

-- no text is in a list twice
abbrev pub are_distinct : List (List ℕ) → Bool
are_distinct [] = true
are_distinct (x ∷ xs) = not (list_any (λ y. bytes_eq x y) xs) && are_distinct xs

-- an object has these members
abbrev pub HasMembers : List Named → Data → Type 0
HasMembers xs d = AllByRecursion (λ (x : Named). get x.0 d ≡ Some x.1) xs

-- An attribute of a list is shown if its type has a row and no later attribute has the type. Then
-- the object has all members that the row gives it.
abbrev pub KeepsShown : Table → List ℕ → Type 0
KeepsShown t s =
    (front : List Attribute) (a : Attribute) (later : List Attribute) (row : Line) →
    attributes s ≡ front ++ a ∷ later → row_before t a later ≡ Some row →
    HasMembers (members_of nested_data row a.value) (attributes_data t s)

-- Every other attribute is in the array `others`, before those that follow it in the list.
abbrev pub KeepsOthers : Table → List ℕ → Type 0
KeepsOthers t s =
    (front : List Attribute) (a : Attribute) (later : List Attribute) →
    attributes s ≡ front ++ a ∷ later → row_before t a later ≡ None →
    ((before : List Data) × (others_in t (attributes s)
    ≡ before ++ other_data (label_of (row_of t (masked a.kind))) a ∷ others_in t later))
    × (get (codes "others") (attributes_data t s)
    ≡ Some (array (items_of (others_in t (attributes s)))))

-- And what follows the last whole attribute is there.
abbrev pub KeepsRest : Table → List ℕ → Type 0
KeepsRest t s = (b : ℕ) (r : List ℕ) → rest_of s ≡ b ∷ r →
    get (codes "rest") (attributes_data t s) ≡ Some (hex_data (b ∷ r))
