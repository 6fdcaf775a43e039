-- Where two lists differ, and what of one list another does not meet, as JSON data.
use Rattle.std.specs.Prelude.{
  ℕ,
  ◌+◌,
  true,
  false,
  List,
  ◌++◌,
  length,
  drop,
  take,
  Option,
  Some,
  None,
  Result,
  Ok,
  Err,
  codes,
}
use Rattle.std.specs.Option.{option_map}
use Rattle.nla_frame.specs.Attribute.{Attribute, masked}
use Rattle.nla_frame.specs.Error.{family_name}
use Rattle.nla_frame.specs.NlaItems.{attribute_at}
use Rattle.nla_frame.specs.declared.error.DecodeError.{DecodeError}
use Rattle.nla_frame.specs.declared.error.Family.{Family}
use Rattle.nla_frame.specs.declared.error.Family.TheVariants as family
use Rattle.linkinfo_table.specs.declared.difference.Difference.{Difference}
use Rattle.linkinfo_table.specs.declared.unmet.Unmet.{Unmet}
use Rattle.linkinfo_numbers.specs.declared.tags.KindTag.{KindTag}
use Rattle.linkinfo_numbers.specs.declared.tags.KindTag.TheVariants as kind
use Rattle.linkinfo.specs.Roles.{no_kinds, role_at}
use Rattle.linkinfo.specs.Strings.{last_kind}
use Rattle.linkinfo_print.specs.ListData.{member_name, other_data, role_data}
use Rattle.linkinfo_print.specs.MembersData.{put_some}
use Rattle.linkinfo_print.specs.declared.compare.Pair.{Pair}
use Rattle.linkinfo_print.specs.declared.compare.Question.{Question}
use Rattle.linkinfo_print.specs.declared.compare.Question.TheVariants as question
use Rattle.linkinfo_view.specs.Attributes.{attributes}
use Rattle.linkinfo_view.specs.View.{attributes_data}
use Rattle.linkinfo_view.specs.declared.format.Table.{Table}
use Rattle.linkinfo_view.specs.declared.format.Table.TheVariants as table
use Rattle.serde_json.specs.Data.{
  Data,
  boolean,
  no_members,
  null,
  number,
  object,
  put,
  string,
  unsigned,
}

-- ---- the attribute at an offset

abbrev pub member_or_other : Option (List ℕ) → Attribute → Data
member_or_other (Some name) a =
    object (put name (role_data (role_at no_kinds a) None a.value) no_members)
member_or_other None a = other_data a

-- an attribute of a list as the object of its member: names are texts, all else is hex
abbrev pub whole_data : Attribute → Data
whole_data a = member_or_other (member_name (masked a.kind)) a

-- the rows of a family under a kind: `sit` and `ip6tnl` links have rows of their own
abbrev pub table_under : Family → Option KindTag → Table
table_under family.IpTunnel (Some kind.SitTun) = table.Sit
table_under family.IpTunnel (Some kind.Ip6Tnl) = table.Ip6Tunnel
table_under f tag = table.Family f

-- the kind before an offset: that of the last name in the attributes there
abbrev pub kind_before : List ℕ → ℕ → Option KindTag
kind_before s n = last_kind (attributes (take n s))

-- an attribute at the front of these bytes, as an object: of the list itself, or by rows
abbrev pub front_data : Family → Table → List ℕ → Attribute → Data
front_data family.LinkInfo t rest a = whole_data a
front_data f t rest a = attributes_data t (take (4 + length a.value) rest)

abbrev pub if_attribute : Result Attribute DecodeError → (Attribute → Data) → Data
if_attribute (Ok a) data_of = data_of a
if_attribute (Err e) data_of = null

-- the attribute at an offset of a list, or `null`
abbrev pub side_data : Family → List ℕ → Option ℕ → Data
side_data f s None = null
side_data f s (Some n) =
    if_attribute (attribute_at (drop n s))
    (front_data f (table_under f (kind_before s n)) (drop n s))

-- ---- the answer

abbrev pub pair_of_difference : Difference → Pair
pair_of_difference d = record { family = d.family; first = d.first; second = d.second }

abbrev pub pair_of_unmet : Unmet → Pair
pair_of_unmet u = record { family = u.family; first = u.have; second = Some u.want }

-- the keys of the answer, of both attributes, and of their offsets
abbrev pub answer_key : Question → List ℕ
answer_key question.Equal = codes "equal"
answer_key question.Met = codes "met"

abbrev pub first_key : Question → List ℕ
first_key question.Equal = codes "first"
first_key question.Met = codes "have"

abbrev pub second_key : Question → List ℕ
second_key question.Equal = codes "second"
second_key question.Met = codes "want"

abbrev pub offset_data : Option ℕ → Option Data
offset_data offset = option_map (λ n. number (unsigned n)) offset

-- No pair of attributes, and the answer is yes; or their family, both with their values, and their
-- offsets.
abbrev pub pair_data : Question → List ℕ → List ℕ → Option Pair → Data
pair_data q a b None = object (put (answer_key q) (boolean true) no_members)
pair_data q a b (Some pair) =
    object (put_some (second_key q ++ codes "_offset") (offset_data pair.second)
    (put_some (first_key q ++ codes "_offset") (offset_data pair.first)
    (put (second_key q) (side_data pair.family b pair.second)
    (put (first_key q) (side_data pair.family a pair.first)
    (put (codes "family") (string (family_name pair.family))
    (put (answer_key q) (boolean false) no_members))))))
