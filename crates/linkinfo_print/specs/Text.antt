-- JSON data as text for people.
use Rattle.std.specs.Prelude.{
  ℕ,
  Bool,
  true,
  false,
  if◌then◌else◌,
  bytes_eq,
  List,
  [],
  ◌∷◌,
  ◌++◌,
  Option,
  Some,
  None,
  codes,
}
use Rattle.serde_json.specs.Data.{
  Data,
  null,
  boolean,
  number,
  string,
  array,
  object,
  Items,
  no_items,
  item,
  Members,
  no_members,
  member,
}
use Rattle.serde_json.specs.Find.{get}
use Rattle.serde_json.specs.Written.{number_text}

-- a string, and a pair of quotes for the empty one
abbrev pub string_text : List ℕ → List ℕ
string_text [] = codes "\"\""
string_text (b ∷ bs) = b ∷ bs

abbrev pub boolean_text : Bool → List ℕ
boolean_text true = codes "true"
boolean_text false = codes "false"

-- A value within a line. Items have a space before each, members one before key and value each.
abbrev mutual
  pub inline_text : Data → List ℕ
  inline_text null = codes "null"
  inline_text (boolean b) = boolean_text b
  inline_text (number n) = number_text n
  inline_text (string s) = string_text s
  inline_text (array ds) = codes "[" ++ (items_text ds ++ codes " ]")
  inline_text (object ms) = codes "{" ++ (members_text ms ++ codes " }")

  pub items_text : Items → List ℕ
  items_text no_items = []
  items_text (item d ds) = codes " " ++ (inline_text d ++ items_text ds)

  pub members_text : Members → List ℕ
  members_text no_members = []
  members_text (member k d ms) =
      codes " " ++ (k ++ (codes " " ++ (inline_text d ++ members_text ms)))

-- ---- lines

-- what follows the key on a line: nothing for `null`
abbrev pub after_key : Data → List ℕ
after_key null = []
after_key (array ds) = items_text ds
after_key (object ms) = members_text ms
after_key d = codes " " ++ inline_text d

abbrev pub line_text : List ℕ → List ℕ → Data → List ℕ
line_text indent key d = indent ++ (key ++ (after_key d ++ codes "\n"))

-- the line of a member that may be absent
abbrev pub line_if : List ℕ → List ℕ → Option Data → List ℕ
line_if indent key None = []
line_if indent key (Some d) = line_text indent key d

-- a key and its value within a line, of a member that may be absent
abbrev pub field_text : List ℕ → Option Data → List ℕ
field_text key None = []
field_text key (Some d) = key ++ (codes " " ++ inline_text d)

-- an attribute that is no member: its type, its name if it has one, and its payload in hex
abbrev pub other_line : List ℕ → Data → List ℕ
other_line indent d =
    indent
    ++ (field_text (codes "type") (get (codes "type") d)
    ++ (field_text (codes " name") (get (codes "name") d)
    ++ (field_text (codes " hex") (get (codes "hex") d) ++ codes "\n")))

abbrev pub other_lines : List ℕ → Items → List ℕ
other_lines indent no_items = []
other_lines indent (item d ds) = other_line indent d ++ other_lines indent ds

-- the lines of a member: one, or one for each attribute that is no member
abbrev pub others_or_line : List ℕ → List ℕ → Data → List ℕ
others_or_line indent key (array ds) =
    if bytes_eq key (codes "others") then other_lines indent ds
    else line_text indent key (array ds)
others_or_line indent key d = line_text indent key d

abbrev pub member_lines : List ℕ → Members → List ℕ
member_lines indent no_members = []
member_lines indent (member k d ms) = others_or_line indent k d ++ member_lines indent ms

-- the lines of data: one for each member, or its bytes
abbrev pub data_lines : List ℕ → Data → List ℕ
data_lines indent (object ms) = member_lines indent ms
data_lines indent d = line_text indent (codes "data") d

abbrev pub data_lines_if : List ℕ → Option Data → List ℕ
data_lines_if indent None = []
data_lines_if indent (Some d) = data_lines indent d

-- ---- a list

-- a value, or what is written where there is none
abbrev pub text_or : List ℕ → Option Data → List ℕ
text_or absent None = absent
text_or absent (Some d) = inline_text d

abbrev pub others_if : List ℕ → Option Data → List ℕ
others_if indent None = []
others_if indent (Some d) = others_or_line indent (codes "others") d

-- A list: the kind, then a line for each attribute: those of data, of port data after the port
-- kind, statistics, and the others.
abbrev pub list_text : Data → List ℕ
list_text d =
    text_or (codes "-") (get (codes "info_kind") d)
    ++ (codes "\n"
    ++ (data_lines_if (codes "    ") (get (codes "info_data") d)
    ++ (line_if (codes "    ") (codes "port of") (get (codes "info_slave_kind") d)
    ++ (data_lines_if (codes "        ") (get (codes "info_slave_data") d)
    ++ (line_if (codes "    ") (codes "statistics") (get (codes "info_xstats") d)
    ++ others_if (codes "    ") (get (codes "others") d))))))

-- ---- a message

abbrev pub joined : Bool → Items → List ℕ
joined later no_items = []
joined later (item d ds) =
    (if later then codes "," else []) ++ (inline_text d ++ joined true ds)

abbrev pub flags_text : Option Data → List ℕ
flags_text (Some (array ds)) = joined false ds
flags_text o = []

abbrev pub deleted_text : Option Data → List ℕ
deleted_text (Some (boolean true)) = codes "Deleted "
deleted_text o = []

abbrev pub time_text : Option Data → List ℕ
time_text None = []
time_text (Some d) = inline_text d ++ codes " "

abbrev pub info_text : Option Data → List ℕ
info_text None = codes "\n"
info_text (Some d) = codes ": " ++ list_text d

-- a message's time in a capture, whether the link was deleted, and its index and name
abbrev pub heading_text : Data → List ℕ
heading_text d =
    time_text (get (codes "time") d)
    ++ (deleted_text (get (codes "deleted") d)
    ++ (text_or (codes "?") (get (codes "ifindex") d)
    ++ (codes ": " ++ text_or (codes "?") (get (codes "ifname") d))))

-- a message: its heading, the link's flags, and its list
abbrev pub message_text : Data → List ℕ
message_text d =
    heading_text d
    ++ (codes " <"
    ++ (flags_text (get (codes "flags") d)
    ++ (codes ">" ++ info_text (get (codes "linkinfo") d))))

-- ---- two lists

-- the answer to a question about two lists: a line for each member
abbrev pub pair_text : Data → List ℕ
pair_text (object ms) = member_lines [] ms
pair_text d = inline_text d
