-- Attributes of the list: what each means by its role, as a row of a table that the current kinds
-- choose.
use Rattle.std.specs.Prelude.{ℕ, Bool, false, [], Result}
use Rattle.nla_frame.specs.Attribute.{Attribute}
use Rattle.nla_frame.specs.Kept.{attribute_of}
use Rattle.nla_frame.specs.declared.default_nla.DefaultNla.{DefaultNla}
use Rattle.nla_frame.specs.declared.error.Cause.TheVariants as cause
use Rattle.nla_frame.specs.declared.error.Family.TheVariants as family
use Rattle.nla_frame.specs.declared.error.DecodeError.{DecodeError}
use Rattle.linkinfo_numbers.specs.Kind.{kind_attribute, kind_of_name}
use Rattle.linkinfo_numbers.specs.PortKind.{port_kind_attribute, port_kind_of_name}
use Rattle.linkinfo_shapes.specs.declared.shape.Shape.TheVariants.{Name, Raw}
use Rattle.linkinfo_data.specs.DataFamilies.{DataFamilies, DataTypes}
use Rattle.linkinfo_shapes.specs.Shapes.{canonical}
use Rattle.linkinfo_table.specs.FamilyRows.{shape_codec}
use Rattle.linkinfo_table.specs.Rows.{
  Row,
  Is,
  Refused,
  Unknown,
  meaning_in,
  alike_in,
  headers_inside,
  memory_in,
  row_alike,
  row_headers,
  row_meaning,
  row_needs_memory,
  WellFormed,
}
use Rattle.linkinfo.specs.Layered.{LinkOf}
use Rattle.linkinfo.specs.declared.link_info.LinkInfoOf.TheVariants as info
use Rattle.linkinfo.specs.declared.role.CurrentKinds.{CurrentKinds}
use Rattle.linkinfo.specs.declared.role.Role.{Role}
use Rattle.linkinfo.specs.declared.role.Role.TheVariants as role
use Rattle.linkinfo.specs.declared.xstats.LinkXstats.TheVariants as xstats
use Rattle.linkinfo_data.specs.Data.{family_of}
use Rattle.linkinfo_data.specs.declared.data.DataFamily.{DataFamily}
use Rattle.linkinfo_data.specs.Payloads.{payload_codec}
use Rattle.linkinfo_data.specs.PortData.{port_family_of}
use Rattle.linkinfo.specs.Roles.{role_of}
use Rattle.linkinfo.specs.Xstats.{xstats_bytes}

-- the canonical attribute of a value
abbrev pub link_attribute : {L : DataTypes} → DataFamilies L → LinkOf L → Attribute
link_attribute layer (info.Xstats x) = record { kind = 3; value = xstats_bytes x }
link_attribute layer (info.Kind k) = kind_attribute k
link_attribute layer (info.Data d) = record { kind = 2; value = layer.data_payload d }
link_attribute layer (info.PortKind k) = port_kind_attribute k
link_attribute layer (info.PortData d) = record { kind = 5; value = layer.port_data_payload d }
link_attribute layer (info.Other nla) = attribute_of nla

-- an attribute of an unknown type, kept verbatim
abbrev pub link_other : {L : DataTypes} → DefaultNla → LinkOf L
link_other nla = info.Other nla

-- data as the row of its family
abbrev pub data_row : {L : DataTypes} → DataFamilies L → DataFamily → Row (LinkOf L)
data_row layer f =
    Is (record {
      nested = false;
      codec = payload_codec (layer.data_of f) layer.data_payload;
      label = λ d. info.Data d;
    })

-- Names are those of kinds, statistics are bytes, and data is that of the current kind. A misplaced
-- attribute is rejected, and one of an unknown type is kept.
abbrev pub link_row : {L : DataTypes} → DataFamilies L → Role → Row (LinkOf L)
link_row layer role.Kind =
    Is (record {
      nested = false;
      codec = shape_codec Name;
      label = λ name. info.Kind (kind_of_name name);
    })
link_row layer (role.Data tag) = data_row layer (family_of tag)
link_row layer role.Xstats =
    Is (record {
      nested = false;
      codec = shape_codec Raw;
      label = λ bytes. info.Xstats (xstats.Other bytes);
    })
link_row layer role.PortKind =
    Is (record {
      nested = false;
      codec = shape_codec Name;
      label = λ name. info.PortKind (port_kind_of_name name);
    })
link_row layer (role.PortData tag) =
    Is (record {
      nested = false;
      codec =
          payload_codec (layer.port_data_of (port_family_of tag)) layer.port_data_payload;
      label = λ d. info.PortData d;
    })
link_row layer role.Misplaced = Refused cause.Order
link_row layer role.Unknown = Unknown

abbrev pub link_rows : {L : DataTypes} → DataFamilies L → CurrentKinds → ℕ → Row (LinkOf L)
link_rows layer t n = link_row layer (role_of t n)

-- what an attribute means by its role, or its error
abbrev pub item_meaning : {L : DataTypes} → DataFamilies L → Role → Attribute →
    Result (LinkOf L) DecodeError
item_meaning layer role a = row_meaning family.LinkInfo link_other (link_row layer role) a

-- whether parsing an attribute may allocate, by its role
abbrev pub item_memory : {L : DataTypes} → DataFamilies L → Role → Attribute → Bool
item_memory layer role a = row_needs_memory (link_row layer role) a

-- the headers inside an attribute, by its role
abbrev pub item_headers : {L : DataTypes} → DataFamilies L → Role → Attribute → ℕ
item_headers layer role a = row_headers (link_row layer role) a

-- whether two accepted attributes are equivalent, by the role of the first
abbrev pub item_alike : {L : DataTypes} → DataFamilies L → Role → Attribute → Attribute → Bool
item_alike layer role a b = row_alike (link_row layer role) a b

-- what an attribute of the list means under the current kinds, or its error
abbrev pub link_meaning : {L : DataTypes} → DataFamilies L → CurrentKinds → Attribute →
    Result (LinkOf L) DecodeError
link_meaning layer t a = meaning_in family.LinkInfo link_other (link_rows layer t) a

-- what is written for an accepted attribute, by its role: names and data in their canonical
-- payloads, with their types; statistics and attributes of an unknown type verbatim
abbrev pub written_attribute : {L : DataTypes} → DataFamilies L → Role → Attribute → Attribute
written_attribute layer role.Kind a = record { kind = 1; value = canonical Name a.value }
written_attribute layer (role.Data tag) a = record {
  kind = 2;
  value = (layer.data_of (family_of tag)).canonical a.value;
}
written_attribute layer role.Xstats a = record { kind = 3; value = a.value }
written_attribute layer role.PortKind a = record { kind = 4; value = canonical Name a.value }
written_attribute layer (role.PortData tag) a = record {
  kind = 5;
  value = (layer.port_data_of (port_family_of tag)).canonical a.value;
}
written_attribute layer role.Misplaced a = record { kind = 0; value = [] }
written_attribute layer role.Unknown a = record { kind = a.kind; value = a.value }

-- the headers inside an attribute
abbrev pub link_headers : {L : DataTypes} → DataFamilies L → CurrentKinds → Attribute → ℕ
link_headers layer t a = headers_inside (link_rows layer t) a

-- whether two accepted attributes are equivalent
abbrev pub link_alike : {L : DataTypes} → DataFamilies L → CurrentKinds → Attribute → Attribute →
    Bool
link_alike layer t a b = alike_in (link_rows layer t) a b

-- whether parsing an attribute may allocate
abbrev pub link_needs_memory : {L : DataTypes} → DataFamilies L → CurrentKinds → Attribute → Bool
link_needs_memory layer t a = memory_in (link_rows layer t) a

-- Whether an attribute can mean a value under the current kinds. No kind is `Other` of a known
-- name, data belongs to the current kind, no attribute is `Other` of a known type, and each number,
-- text and list is one that its type can hold.
abbrev pub link_well : {L : DataTypes} → DataFamilies L → CurrentKinds → LinkOf L → Type 0
link_well layer t x = WellFormed link_other (link_attribute layer) (link_rows layer t) x
