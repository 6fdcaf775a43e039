-- What holds of what is printed of every list: no attribute is hidden, and it is plain.
use Rattle.std.specs.Prelude.{
  ◌≡◌,
  ℕ,
  Bool,
  List,
  [],
  ◌∷◌,
  ◌++◌,
  Some,
  None,
  Result,
  Ok,
  IsOk,
  codes,
}
use Rattle.nla_frame.specs.Attribute.{Attribute}
use Rattle.nla_frame.specs.NlaItems.{nla_items}
use Rattle.nla_frame.specs.declared.error.DecodeError.{DecodeError}
use Rattle.linkinfo_data.specs.BytesLayer.{bytes_layer}
use Rattle.linkinfo.specs.Roles.{no_kinds, role_at}
use Rattle.linkinfo.specs.Strings.{kinds_after_all, reading}
use Rattle.linkinfo.specs.Walks.{walk_items}
use Rattle.linkinfo_view.specs.Attributes.{attributes}
use Rattle.linkinfo_print.specs.Answers.{answer_text}
use Rattle.linkinfo_print.specs.ListData.{
  list_data,
  named_after_all,
  other_data,
  others_in,
  role_data,
  shown_as,
}
use Rattle.linkinfo_print.specs.Plain.{plain}
use Rattle.linkinfo_print.specs.declared.report.Printed.{Printed}
use Rattle.serde_json.specs.Data.{Data, array}
use Rattle.serde_json.specs.Find.{get}
use Rattle.serde_json.specs.View.{items_of}

-- the attributes of a list, up to the first error
abbrev pub items_in : List ℕ → List (Result Attribute DecodeError)
items_in s = walk_items no_kinds (nla_items s)

-- attributes without an error
abbrev pub accepted : List Attribute → List (Result Attribute DecodeError)
accepted [] = []
accepted (a ∷ more) = Ok a ∷ accepted more

-- Of an accepted list these are all its attributes.
abbrev pub HasEach : List ℕ → Type 0
HasEach s = IsOk (reading bytes_layer s) → items_in s ≡ accepted (attributes s)

-- An attribute of a list is shown if its type has a name and no later attribute has the type. Then
-- the object has a member of that name: its value, by its role under the kinds before it, and by
-- their names.
abbrev pub KeepsShown : List ℕ → Type 0
KeepsShown s =
    (front : List Attribute) (a : Attribute) (later : List (Result Attribute DecodeError))
    (name : List ℕ) →
    items_in s ≡ accepted front ++ Ok a ∷ later → shown_as a later ≡ Some name →
    get name (list_data s)
    ≡ Some (role_data (role_at (kinds_after_all no_kinds front) a) (named_after_all None front)
    a.value)

-- Every other attribute is in the array `others`, before those that follow it in the list.
abbrev pub KeepsOthers : List ℕ → Type 0
KeepsOthers s =
    (front : List Attribute) (a : Attribute) (later : List (Result Attribute DecodeError)) →
    items_in s ≡ accepted front ++ Ok a ∷ later → shown_as a later ≡ None →
    ((before : List Data) × (others_in (items_in s)
    ≡ before ++ other_data a ∷ others_in later))
    × (get (codes "others") (list_data s) ≡ Some (array (items_of (others_in (items_in s)))))

-- What is printed of a value is plain, as JSON and as text: `plain` changes nothing in it.
abbrev pub PrintsUnchanged : Printed → Data → Type 0
PrintsUnchanged what d = (json : Bool) → plain (answer_text json what d) ≡ answer_text json what d
