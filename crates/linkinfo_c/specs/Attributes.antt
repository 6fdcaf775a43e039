-- The attributes in data, as C has them.
use Rattle.std.specs.Prelude.{
  ℕ,
  ◌==◌,
  if◌then◌else◌,
  List,
  [],
  length,
  is_some,
  unwrap_or,
  Option,
  Some,
  None,
  Result,
  Ok,
  Err,
}
use Rattle.nla_frame.specs.Attribute.{Attribute, masked}
use Rattle.nla_frame.specs.NlaItems.{items_of, nla_items}
use Rattle.nla_frame.specs.declared.error.Cause.{Cause}
use Rattle.nla_frame.specs.declared.error.DecodeError.{DecodeError}
use Rattle.nla_frame.specs.declared.error.Family.{Family}
use Rattle.linkinfo_shapes.specs.Data.{Value, number, reads}
use Rattle.linkinfo_shapes.specs.declared.shape.Shape.{Shape}
use Rattle.linkinfo_shapes.specs.declared.shape.Shape.TheVariants.{V4, V6}
use Rattle.linkinfo_numbers.specs.declared.tags.KindTag.{KindTag}
use Rattle.linkinfo_numbers.specs.declared.tags.PortTag.{PortTag}
use Rattle.linkinfo_data.specs.Data.{family_of}
use Rattle.linkinfo_data.specs.Names.{data_name, port_data_name}
use Rattle.linkinfo_data.specs.PortData.{port_family_of}
use Rattle.linkinfo.specs.Named.{shape_under, typed_data}
use Rattle.linkinfo.specs.Placed.{place_after}
use Rattle.linkinfo_c.specs.declared.attributes.Contents.{Contents}
use Rattle.linkinfo_c.specs.declared.attributes.Contents.TheVariants.{Addresses, Attributes}
use Rattle.linkinfo_c.specs.declared.attributes.LinkinfoAttribute.{LinkinfoAttribute}
use Rattle.linkinfo_c.specs.Codes.{
  family_of_list,
  kind_of_code,
  list_v4,
  list_v6,
  port_kind_of_code,
  shape_code,
}
use Rattle.linkinfo_c.specs.Items.{attributes_in, code_in, each_after}

-- ---- what the attributes in a payload are; none if data is opaque bytes

-- attributes of a family, in data of a kind of links if that is known
abbrev pub of_family : Option Family → Option KindTag → Option Contents
of_family (Some f) tag = Some (Attributes f tag)
of_family None tag = None

-- those in a list in data, by its code
abbrev pub contents_of_list : ℕ → Option Contents
contents_of_list code =
    if code == list_v4 then Some (Addresses V4)
    else if code == list_v6 then Some (Addresses V6)
    else of_family (family_of_list code) None

-- those in data of a kind, or in port data of a port kind
abbrev pub contents_among : Option KindTag → Option PortTag → ℕ → Option Contents
contents_among (Some tag) port code =
    of_family (data_name typed_data (family_of tag)) (Some tag)
contents_among None (Some tag) code =
    of_family (port_data_name typed_data (port_family_of tag)) None
contents_among None None code = contents_of_list code

abbrev pub contents_inside : ℕ → Option Contents
contents_inside code = contents_among (kind_of_code code) (port_kind_of_code code) code

-- ---- shapes and numbers

-- each address of a list has the same shape
abbrev pub shape_in : Contents → ℕ → Option Shape
shape_in (Attributes f tag) n = shape_under tag f n
shape_in (Addresses shape) n = Some shape

-- what a payload means under a shape that accepts it; a list and a peer mean no value
abbrev pub value_read : Result Value Cause → Option Value
value_read (Ok value) = Some value
value_read (Err c) = None

abbrev pub datum_in : Option Shape → List ℕ → Option Value
datum_in (Some shape) payload = value_read (reads shape payload)
datum_in None payload = None

-- the number that a payload means, if it is an unsigned number
abbrev pub number_of : Option Value → Option ℕ
number_of (Some (number n)) = Some n
number_of _ = None

abbrev pub number_in : Option Shape → List ℕ → Option ℕ
number_in shape payload = number_of (datum_in shape payload)

-- ---- the attributes

-- the record of an attribute at an offset, with a shape
abbrev pub attribute_at : ℕ → Option Shape → Attribute → LinkinfoAttribute
attribute_at place shape a = record {
  place = place;
  len = length a.value;
  number = unwrap_or (number_in shape a.value) 0;
  raw_kind = a.kind;
  shape = code_in shape_code shape;
  is_number = is_some (number_in shape a.value);
}

-- the record of an attribute of a payload, after others
abbrev pub record_after : {R : Type 0} → (ℕ → Option Shape → Attribute → R) → List ℕ → Contents →
    List Attribute → Attribute → R
record_after record_at s contents front a =
    record_at (place_after s front) (shape_in contents (masked a.kind)) a

-- what iterating over a payload yields: no attributes if the data is opaque bytes
abbrev pub given_inside : Option Contents → List ℕ → List (Result Attribute DecodeError)
given_inside (Some contents) s = items_of (nla_items s)
given_inside None s = []

abbrev pub records_inside : {R : Type 0} → (ℕ → Option Shape → Attribute → R) → Option Contents →
    List ℕ → List R
records_inside record_at (Some contents) s =
    each_after (record_after record_at s contents) [] (attributes_in (items_of (nla_items s)))
records_inside record_at None s = []

abbrev pub attributes_inside : Option Contents → List ℕ → List LinkinfoAttribute
attributes_inside contents s = records_inside attribute_at contents s
