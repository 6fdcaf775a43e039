-- The attribute at an offset in a list of link info, at any depth, over the typed layer.
use Rattle.std.specs.Prelude.{ℕ, ◌==◌, ◌||◌, if◌then◌else◌, List, Option, Some, None}
use Rattle.std.specs.Option.{option_map}
use Rattle.nla_frame.specs.Attribute.{Attribute, masked}
use Rattle.nla_frame.specs.NlaItems.{nla_items}
use Rattle.nla_frame.specs.declared.error.Family.{Family}
use Rattle.nla_frame.specs.declared.error.Family.TheVariants as family
use Rattle.linkinfo_numbers.specs.declared.tags.KindTag.{KindTag}
use Rattle.linkinfo_shapes.specs.declared.shape.Shape.{Shape}
use Rattle.linkinfo_shapes.specs.declared.shape.Shape.TheVariants.{Name, Raw}
use Rattle.linkinfo_names.specs.Standing.{stands_after, stands_at, stands_under}
use Rattle.linkinfo_names.specs.declared.standing.FamilyNla.{FamilyNla}
use Rattle.linkinfo_data.specs.Data.{family_of}
use Rattle.linkinfo_data.specs.Names.{data_name, port_data_name}
use Rattle.linkinfo_data.specs.PortData.{port_family_of}
use Rattle.linkinfo.specs.Named.{shape_under, typed_data}
use Rattle.linkinfo.specs.Roles.{no_kinds, role_at}
use Rattle.linkinfo.specs.Strings.{next_kinds}
use Rattle.linkinfo.specs.declared.role.CurrentKinds.{CurrentKinds}
use Rattle.linkinfo.specs.declared.role.Role.{Role}
use Rattle.linkinfo.specs.declared.role.Role.TheVariants as role
use Rattle.linkinfo.specs.declared.standing.AttributeAt.{AttributeAt}

-- ---- attributes of the list

-- the shape of a masked type: of the names text, of data and statistics bytes
abbrev pub link_shape : ℕ → Option Shape
link_shape n =
    if n == 1 || n == 4 then Some Name
    else if n == 2 || (n == 3 || n == 5) then Some Raw
    else None

abbrev pub own_at : CurrentKinds → Attribute → AttributeAt
own_at t a = record { family = family.LinkInfo; shape = link_shape (masked a.kind); nla = a }

-- ---- attributes of data and of port data

-- the family of the attributes in data, or port data, if its kind has one
abbrev pub family_in_role : Role → Option Family
family_in_role (role.Data tag) = data_name typed_data (family_of tag)
family_in_role (role.PortData tag) = port_data_name typed_data (port_family_of tag)
family_in_role _ = None

-- the kind of the link that data belongs to
abbrev pub kind_in_role : Role → Option KindTag
kind_in_role (role.Data tag) = Some tag
kind_in_role _ = None

-- an attribute of a family in data of a kind, with the shape of its type
abbrev pub shaped : Option KindTag → FamilyNla → AttributeAt
shaped kind found = record {
  family = found.family;
  shape = shape_under kind found.family (masked found.nla.kind);
  nla = found.nla;
}

-- at an offset from the header of an attribute of this role
abbrev pub stands_in_role : Role → List ℕ → ℕ → Option AttributeAt
stands_in_role r p n =
    option_map (shaped (kind_in_role r)) (stands_after stands_at (family_in_role r) p n)

abbrev pub inside_at : CurrentKinds → Attribute → ℕ → Option AttributeAt
inside_at t a n = stands_in_role (role_at t a) a.value n

-- ---- in a list

-- after attributes that leave these current kinds
abbrev pub stands_from : CurrentKinds → List ℕ → ℕ → Option AttributeAt
stands_from t s n = stands_under own_at inside_at next_kinds t (nla_items s) n

-- the attribute whose header is at an offset: one of the list, of data, or of a list in data
unfoldable pub link_stands_at : List ℕ → ℕ → Option AttributeAt
link_stands_at s n = stands_from no_kinds s n
