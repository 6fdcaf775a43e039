-- Which lists are well formed, stated of the values themselves: of each value by its variant, under
-- the current kinds before it.
use Rattle.std.specs.Prelude.{◌≡◌, ◌≢◌, ℕ, ◌<◌, true, List, Option, Some, None}
use Rattle.std.specs.Str.{is_utf8}
use Rattle.nla_frame.specs.Attribute.{IsBytes, masked}
use Rattle.linkinfo_numbers.specs.Kind.{kind_table}
use Rattle.linkinfo_numbers.specs.PortKind.{port_kind_table}
use Rattle.linkinfo_numbers.specs.Table.{IsRead}
use Rattle.linkinfo_numbers.specs.declared.tags.KindTag.{KindTag}
use Rattle.linkinfo_numbers.specs.declared.tags.PortTag.{PortTag}
use Rattle.linkinfo_table.specs.Lists.{well_under}
use Rattle.linkinfo_data.specs.Conditions.{DataConditions}
use Rattle.linkinfo_data.specs.Data.{family_of}
use Rattle.linkinfo_data.specs.DataFamilies.{DataTypes}
use Rattle.linkinfo_data.specs.PortData.{port_family_of}
use Rattle.linkinfo.specs.Roles.{no_kinds}
use Rattle.linkinfo.specs.Strings.{kinds_after_value}
use Rattle.linkinfo.specs.Xstats.{xstats_bytes}
use Rattle.linkinfo.specs.Layered.{LinkOf}
use Rattle.linkinfo.specs.declared.link_info.LinkInfoOf.TheVariants as info
use Rattle.linkinfo.specs.declared.role.CurrentKinds.{CurrentKinds}

-- UTF-8, as each text is
abbrev pub IsText : List ℕ → Type 0
IsText text = (is_utf8 text ≡ true) × IsBytes text

-- there is a current kind, and the data meets the condition under its family
abbrev pub IsDataUnder : {L : DataTypes} → DataConditions L → Option KindTag → L.Data → Type 0
IsDataUnder well kind d = (tag : KindTag) × (kind ≡ Some tag) × well.link (family_of tag) d

-- there is a current port kind, and the port data meets the condition under its family
abbrev pub IsPortDataUnder : {L : DataTypes} → DataConditions L → Option PortTag → L.PortData →
    Type 0
IsPortDataUnder well port d =
    (tag : PortTag) × (port ≡ Some tag) × well.port (port_family_of tag) d

-- a masked type that is none of the five types of the list
abbrev pub IsUnnamed : ℕ → Type 0
IsUnnamed n = (n ≢ 1) × (n ≢ 2) × (n ≢ 3) × (n ≢ 4) × (n ≢ 5)

-- A kind, or a port kind, is not `Other` of a known name. Data belongs to the current kind, port
-- data to the current port kind, and statistics follow a kind. An opaque attribute has none of the
-- five types, 16 bits of type, and bytes for a payload.
abbrev pub item_conditions : {L : DataTypes} → DataConditions L → CurrentKinds → LinkOf L → Type 0
item_conditions well t (info.Kind k) = IsRead kind_table IsText k
item_conditions well t (info.Data d) = IsDataUnder well t.kind d
item_conditions well t (info.Xstats x) = (t.kind ≢ None) × IsBytes (xstats_bytes x)
item_conditions well t (info.PortKind k) = IsRead port_kind_table IsText k
item_conditions well t (info.PortData d) = IsPortDataUnder well t.port d
item_conditions well t (info.Other d) =
    (d.kind < 65536) × IsBytes d.value × IsUnnamed (masked d.kind)

-- each value of the list, under the current kinds that those before it leave
abbrev pub Conditions : {L : DataTypes} → DataConditions L → List (LinkOf L) → Type 0
Conditions well xs = well_under (item_conditions well) kinds_after_value no_kinds xs
