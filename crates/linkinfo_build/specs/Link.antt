-- The contents of `IFLA_LINKINFO` that are built: which attributes, or the part that is refused.
use Rattle.std.specs.Prelude.{
  ℕ,
  ◌+◌,
  ◌++◌,
  nat_eq,
  nat_le,
  if◌then◌else◌,
  List,
  [],
  ◌∷◌,
  length,
  Option,
  Some,
  None,
  Result,
  Ok,
  Err,
}
use Rattle.std.specs.List.{list_any}
use Rattle.std.specs.Option.{option_copied}
use Rattle.nla_frame.specs.Attribute.{Attribute, aligned, buffer_len_of, list_string}
use Rattle.nla_frame.specs.Canonical.{bytes_for}
use Rattle.linkinfo_build.specs.Build.{encoding}
use Rattle.linkinfo_build.specs.Forms.{data_form, port_data_form}
use Rattle.linkinfo_build.specs.declared.forms.DataForm.{DataForm}
use Rattle.linkinfo_build.specs.declared.forms.DataForm.TheVariants as form
use Rattle.linkinfo_build.specs.declared.link.BuildData.{BuildData}
use Rattle.linkinfo_build.specs.declared.link.BuildData.TheVariants as given
use Rattle.linkinfo_build.specs.declared.link.BuildLink.{BuildLink}
use Rattle.linkinfo_build.specs.declared.link.LinkBuildError.{LinkBuildError}
use Rattle.linkinfo_build.specs.declared.link.LinkBuildError.TheVariants as refused
use Rattle.linkinfo_build.specs.declared.link.LinkPart.{LinkPart}
use Rattle.linkinfo_build.specs.declared.link.LinkPart.TheVariants as part
use Rattle.linkinfo_build.specs.declared.link.PartCause.{PartCause}
use Rattle.linkinfo_build.specs.declared.link.PartCause.TheVariants as cause
use Rattle.linkinfo_build.specs.declared.rows.Rows.{Rows}
use Rattle.linkinfo_build.specs.declared.value.BuildError.{BuildError}
use Rattle.linkinfo_build.specs.declared.value.BuildValue.{BuildValue}

-- ---- payloads

-- bytes that are not too long for a payload
abbrev pub short : List ℕ → Result (List ℕ) PartCause
short bytes = if nat_le (length bytes) 65531 then Ok bytes else Err cause.TooLong

abbrev pub short_len : ℕ → Result ℕ PartCause
short_len len = if nat_le len 65531 then Ok len else Err cause.TooLong

-- a name is written with one NUL after it
unfoldable pub name_payload : List ℕ → Result (List ℕ) PartCause
name_payload name =
    if list_any (λ b. nat_eq b 0) name then Err cause.Nul else short (name ++ 0 ∷ [])

abbrev pub of_values : Result (List ℕ) BuildError → Result (List ℕ) PartCause
of_values (Ok string) = Ok string
of_values (Err e) = Err (cause.Value e)

-- a list of attributes with these values
abbrev pub values_payload : Rows → List BuildValue → Result (List ℕ) PartCause
values_payload rows values = of_values (encoding rows values)

-- data of this form: bytes, or the encoding of values
unfoldable pub data_payload : DataForm → BuildData → Result (List ℕ) PartCause
data_payload form.NoKind _ = Err cause.NoKind
data_payload (form.Attributes rows) (given.Values values) = values_payload rows values.now
data_payload (form.Attributes rows) (given.Bytes bytes) = Err cause.HasFamily
data_payload (form.OneAttribute rows) (given.Values values) =
    if nat_eq (length values.now) 1 then values_payload rows values.now
    else Err cause.NotOne
data_payload (form.OneAttribute rows) (given.Bytes bytes) = Err cause.HasFamily
data_payload form.Bytes (given.Values values) = Err cause.NoFamily
data_payload form.Bytes (given.Bytes bytes) = short bytes.now

-- ---- parts

-- the payload of a part that is there
abbrev pub there : Result (List ℕ) PartCause → Result (Option (List ℕ)) PartCause
there (Ok payload) = Ok (Some payload)
there (Err c) = Err c

-- the payload of a name, if there is one
abbrev pub name_part : Option (List ℕ) → Result (Option (List ℕ)) PartCause
name_part None = Ok None
name_part (Some name) = there (name_payload name)

-- the payload of data, if there is some
abbrev pub data_part : DataForm → Option BuildData → Result (Option (List ℕ)) PartCause
data_part f None = Ok None
data_part f (Some d) = there (data_payload f d)

-- the parts of link information, with their types
abbrev pub kind_part : BuildLink → Result (Option (List ℕ)) PartCause
kind_part link = name_part (option_copied link.kind)

abbrev pub link_data_part : BuildLink → Result (Option (List ℕ)) PartCause
link_data_part link = data_part (data_form (option_copied link.kind)) link.«data»

abbrev pub port_kind_part : BuildLink → Result (Option (List ℕ)) PartCause
port_kind_part link = name_part (option_copied link.port_kind)

abbrev pub port_data_part : BuildLink → Result (Option (List ℕ)) PartCause
port_data_part link = data_part (port_data_form (option_copied link.port_kind)) link.port_data

-- ---- attributes

-- the attribute of a part that is there
abbrev pub attributes_in : ℕ → Result (Option (List ℕ)) PartCause → List Attribute
attributes_in kind (Ok None) = []
attributes_in kind (Ok (Some payload)) = record { kind = kind; value = payload } ∷ []
attributes_in kind (Err c) = []

-- those of a name and of data
abbrev pub pair_attributes : ℕ → ℕ → Result (Option (List ℕ)) PartCause →
    Result (Option (List ℕ)) PartCause → List Attribute
pair_attributes name_kind data_kind name content =
    attributes_in name_kind name ++ attributes_in data_kind content

-- those of the parts that are there, in order
abbrev pub attributes_there : BuildLink → List Attribute
attributes_there link =
    pair_attributes 1 2 (kind_part link) (link_data_part link)
    ++ pair_attributes 4 5 (port_kind_part link) (port_data_part link)

-- the attributes with one more, unless they are then too long
abbrev pub with_attribute : List Attribute → LinkPart → Attribute →
    Result (List Attribute) LinkBuildError
with_attribute before part a =
    if nat_le (length (list_string before) + buffer_len_of a) 65531 then Ok (before ++ a ∷ [])
    else Err (refused.Part part cause.TooLong)

abbrev pub with_payload : List Attribute → LinkPart → ℕ → Result (Option (List ℕ)) PartCause →
    Result (List Attribute) LinkBuildError
with_payload before part kind (Ok None) = Ok before
with_payload before part kind (Ok (Some payload)) =
    with_attribute before part (record { kind = kind; value = payload })
with_payload before part kind (Err c) = Err (refused.Part part c)

abbrev pub with_part : Result (List Attribute) LinkBuildError → LinkPart → ℕ →
    Result (Option (List ℕ)) PartCause → Result (List Attribute) LinkBuildError
with_part (Ok before) part kind payload = with_payload before part kind payload
with_part (Err e) part kind payload = Err e

abbrev pub no_attributes : Result (List Attribute) LinkBuildError
no_attributes = Ok []

-- The attributes of the contents of `IFLA_LINKINFO`: kind, data, port kind and port data, those
-- that are there; or the first part that is refused, or that makes the whole longer than 65531
-- bytes.
unfoldable pub link_attributes : BuildLink → Result (List Attribute) LinkBuildError
link_attributes link =
    with_part
    (with_part
    (with_part (with_part no_attributes part.Kind 1 (kind_part link))
    part.Data 2 (link_data_part link))
    part.PortKind 4 (port_kind_part link))
    part.PortData 5 (port_data_part link)

abbrev pub map_link : {X Y : Type 0} → (X → Y) → Result X LinkBuildError →
    Result Y LinkBuildError
map_link f (Ok x) = Ok (f x)
map_link f (Err e) = Err e

-- their encoding
unfoldable pub link_encoding : BuildLink → Result (List ℕ) LinkBuildError
link_encoding link = map_link list_string (link_attributes link)

-- the bytes, or none for an error
abbrev pub link_bytes : Result (List ℕ) LinkBuildError → List ℕ
link_bytes string = bytes_for (λ bytes. bytes) string

-- the length of the encoding, or the error
abbrev pub link_len : Result (List ℕ) LinkBuildError → Result ℕ LinkBuildError
link_len string = map_link length string

-- ---- lengths

abbrev pub payload_len : Result (List ℕ) PartCause → Result ℕ PartCause
payload_len (Ok payload) = Ok (length payload)
payload_len (Err c) = Err c

-- the bytes of a payload, or none for an error
abbrev pub payload_bytes : Result (List ℕ) PartCause → List ℕ
payload_bytes payload = bytes_for (λ bytes. bytes) payload

abbrev pub part_len : Result (Option (List ℕ)) PartCause → Result (Option ℕ) PartCause
part_len (Ok None) = Ok None
part_len (Ok (Some payload)) = Ok (Some (length payload))
part_len (Err c) = Err c

abbrev pub with_len : ℕ → LinkPart → Option ℕ → Result ℕ LinkBuildError
with_len used part None = Ok used
with_len used part (Some len) =
    if nat_le (used + (4 + aligned len)) 65531 then Ok (used + (4 + aligned len))
    else Err (refused.Part part cause.TooLong)

abbrev pub with_payload_len : ℕ → LinkPart → Result (Option ℕ) PartCause → Result ℕ LinkBuildError
with_payload_len used part (Ok payload) = with_len used part payload
with_payload_len used part (Err c) = Err (refused.Part part c)

-- a length with that of a part after it
abbrev pub with_part_len : Result ℕ LinkBuildError → LinkPart → Result (Option ℕ) PartCause →
    Result ℕ LinkBuildError
with_part_len (Ok used) part payload = with_payload_len used part payload
with_part_len (Err e) part payload = Err e

-- ---- calls

-- the answer of a call that writes an encoding into so much room
abbrev pub link_answer : Result (List ℕ) LinkBuildError → ℕ → Result ℕ LinkBuildError
link_answer (Err e) room = Err e
link_answer (Ok string) room =
    if nat_le (length string) room then Ok (length string) else Err (refused.Room (length string))
