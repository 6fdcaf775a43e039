-- What payloads in data mean, as C has it.
use Rattle.std.specs.Prelude.{
  ℕ,
  ◌==◌,
  ◌%◌,
  pos,
  Bool,
  true,
  false,
  List,
  [],
  length,
  replicate,
  Option,
  Some,
  None,
}
use Rattle.std.specs.Net.Addr.{octets_of}
use Rattle.nla_frame.specs.Attribute.{Attribute}
use Rattle.linkinfo_shapes.specs.Data.{Value, truth, empty, text, v4, v6, mac, bytes}
use Rattle.linkinfo_shapes.specs.Data.{number_in, pair_in, signed_in}
use Rattle.linkinfo_shapes.specs.declared.shape.Shape.{Shape}
use Rattle.linkinfo_shapes.specs.declared.shape.Shape.TheVariants.{
  BridgeId,
  CanBitTimingConst,
  Le16s,
  Le32s,
  Le32x8,
  LePair16,
  Nested,
  Peer,
  SelfList,
  V4List,
  V6List,
}
use Rattle.linkinfo.specs.declared.standing.AttributeAt.{AttributeAt}
use Rattle.linkinfo_c.specs.declared.attributes.Contents.{Contents}
use Rattle.linkinfo_c.specs.declared.values.LinkinfoPlacedValue.{LinkinfoPlacedValue}
use Rattle.linkinfo_c.specs.declared.values.LinkinfoValue.{LinkinfoValue}
use Rattle.linkinfo_c.specs.declared.values.LinkinfoValuedAttribute.{LinkinfoValuedAttribute}
use Rattle.linkinfo_c.specs.Attributes.{datum_in, records_inside}
use Rattle.linkinfo_c.specs.Buffers.{with_front}
use Rattle.linkinfo_c.specs.Codes.{
  family_code,
  list_code,
  list_v4,
  list_v6,
  shape_code,
  value_code,
  value_list,
  value_none,
}
use Rattle.linkinfo_c.specs.Items.{code_in}

-- ---- values

-- the octets of an address, followed by zeros
abbrev pub address_octets : List ℕ → List ℕ
address_octets octets = with_front octets (replicate 16 0)

abbrev pub octets_in : Value → List ℕ
octets_in (v4 a) = a.octets
octets_in (v6 a) = octets_of a.segments
octets_in (mac s) = s
octets_in _ = []

-- the number of bytes of a text, of bytes, or of an address
abbrev pub length_in : Value → ℕ
length_in (text s) = length s
length_in (bytes s) = length s
length_in value = length (octets_in value)

-- the truth of a truth value; an attribute without a payload is true by being present
abbrev pub says_true : Value → Bool
says_true (truth b) = b
says_true empty = true
says_true _ = false

abbrev pub value_record : Value → LinkinfoValue
value_record value = record {
  number = number_in value;
  signed_number = signed_in value;
  len = length_in value;
  octets = address_octets (octets_in value);
  first = (pair_in value).0;
  second = (pair_in value).1;
  value_type = value_code value;
  list_kind = 0;
  truth = says_true value;
}

-- a value of this type that is neither a number nor a truth value: its length, and the octets of an
-- address
abbrev pub plain_record : ℕ → ℕ → List ℕ → LinkinfoValue
plain_record code n s = record {
  number = 0;
  signed_number = pos 0;
  len = n;
  octets = address_octets s;
  first = 0;
  second = 0;
  value_type = code;
  list_kind = 0;
  truth = false;
}

abbrev pub no_value : LinkinfoValue
no_value = plain_record value_none 0 []

-- a list, with the code of such lists; 0 of a list of attributes of the same family
abbrev pub list_record : ℕ → List ℕ → LinkinfoValue
list_record code payload = record {
  number = 0;
  signed_number = pos 0;
  len = length payload;
  octets = address_octets [];
  first = 0;
  second = 0;
  value_type = value_list;
  list_kind = code;
  truth = false;
}

abbrev pub address_record : ℕ → List ℕ → LinkinfoValue
address_record code s = plain_record code (length s) s

-- ---- payloads

-- the record of a value, or of none if the type has no shape, or its shape rejects the payload
abbrev pub value_or_none : Option Value → LinkinfoValue
value_or_none (Some value) = value_record value
value_or_none None = no_value

-- a payload that is bytes, if its shape accepts so many
abbrev pub bytes_if : Bool → List ℕ → LinkinfoValue
bytes_if true payload = value_record (bytes payload)
bytes_if false payload = no_value

-- the value of a payload: a peer, a record and an array are their bytes, and a list is a list
-- whatever its attributes are
abbrev pub value_in : Option Shape → List ℕ → LinkinfoValue
value_in (Some SelfList) payload = list_record 0 payload
value_in (Some (Nested family)) payload = list_record (list_code family) payload
value_in (Some V4List) payload = list_record list_v4 payload
value_in (Some V6List) payload = list_record list_v6 payload
value_in (Some Peer) payload = bytes_if true payload
value_in (Some BridgeId) payload = bytes_if (length payload == 8) payload
value_in (Some LePair16) payload = bytes_if (length payload == 4) payload
value_in (Some Le32x8) payload = bytes_if (length payload == 32) payload
value_in (Some CanBitTimingConst) payload = bytes_if (length payload == 48) payload
value_in (Some Le16s) payload = bytes_if ((length payload % 2) == 0) payload
value_in (Some Le32s) payload = bytes_if ((length payload % 4) == 0) payload
value_in shape payload = value_or_none (datum_in shape payload)

-- ---- attributes

abbrev pub value_at : ℕ → Option Shape → Attribute → LinkinfoValuedAttribute
value_at place shape a = record {
  place = place;
  len = length a.value;
  value = value_in shape a.value;
  raw_kind = a.kind;
  shape = code_in shape_code shape;
}

abbrev pub values_inside : Option Contents → List ℕ → List LinkinfoValuedAttribute
values_inside contents s = records_inside value_at contents s

-- ---- at an offset

-- the record of the attribute at an offset in a list, if there is one
abbrev pub placed_value : ℕ → Option AttributeAt → LinkinfoPlacedValue
placed_value n (Some found) = record {
  attribute = value_at n found.shape found.nla;
  family = family_code found.family;
  is_found = true;
}
placed_value n None = record {
  attribute = record { place = 0; len = 0; value = no_value; raw_kind = 0; shape = 0 };
  family = 0;
  is_found = false;
}
