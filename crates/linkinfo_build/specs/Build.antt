-- The canonical encoding of an array of values, or the value that is refused.
--
-- The array is a tree in preorder: after a list come the values inside it, as many as it says.
use Rattle.std.specs.Prelude.{
  ℕ,
  zero,
  suc,
  ◌+◌,
  nat_eq,
  nat_le,
  nat_lt,
  if◌then◌else◌,
  List,
  [],
  ◌∷◌,
  length,
  take,
  Option,
  Some,
  None,
  Result,
  Ok,
  Err,
}
use Rattle.std.specs.List.{list_any}
use Rattle.nla_frame.specs.Attribute.{Attribute, buffer_len_of, list_string}
use Rattle.nla_frame.specs.Canonical.{bytes_for}
use Rattle.nla_frame.specs.declared.error.Family.{Family}
use Rattle.nla_frame.specs.declared.error.Family.TheVariants as family
use Rattle.linkinfo_shapes.specs.Data.{Value, value_of, written}
use Rattle.linkinfo_shapes.specs.declared.shape.Shape.{Shape}
use Rattle.linkinfo_build.specs.Bytes.{is_canonical_payload}
use Rattle.linkinfo_build.specs.Rows.{rows_in, shape_in}
use Rattle.linkinfo_build.specs.Suits.{is_suited}
use Rattle.linkinfo_build.specs.declared.rows.Rows.{Rows}
use Rattle.linkinfo_build.specs.declared.value.BuildCause.{BuildCause}
use Rattle.linkinfo_build.specs.declared.value.BuildCause.TheVariants as cause
use Rattle.linkinfo_build.specs.declared.value.BuildDatum.{BuildDatum}
use Rattle.linkinfo_build.specs.declared.value.BuildDatum.TheVariants as given
use Rattle.linkinfo_build.specs.declared.value.BuildError.{BuildError}
use Rattle.linkinfo_build.specs.declared.value.BuildValue.{BuildValue}

-- ---- results

-- the first value is refused
abbrev pub refused : {X : Type 0} → BuildCause → Result X BuildError
refused c = Err (record { index = 0; cause = c })

-- the result for values that come after n others
abbrev pub after : {X : Type 0} → ℕ → Result X BuildError → Result X BuildError
after n (Ok x) = Ok x
after n (Err e) = Err (record { index = n + e.index; cause = e.cause })

abbrev pub map_ok : {X Y : Type 0} → (X → Y) → Result X BuildError → Result Y BuildError
map_ok f (Ok x) = Ok (f x)
map_ok f (Err e) = Err e

-- the length of bytes, or the error
abbrev pub measured : Result (List ℕ) BuildError → Result ℕ BuildError
measured string = map_ok length string

-- the bytes, or none for an error
abbrev pub bytes_in : Result (List ℕ) BuildError → List ℕ
bytes_in string = bytes_for (λ bytes. bytes) string

-- ---- rows

-- the types whose attributes are written with the flag `NLA_F_NESTED` (0x8000)
abbrev pub flagged_rows : Family → List ℕ
-- Begin: written by tables/generate from tables/families (flagged).
flagged_rows family.Bond = 31 ∷ []
flagged_rows family.Bridge = 47 ∷ []
flagged_rows family.Can = 16 ∷ 17 ∷ 21 ∷ 22 ∷ []
-- End: written by tables/generate.
flagged_rows _ = []

-- the 16 bits of the type of an attribute as it is written
unfoldable pub kind_written : Rows → ℕ → ℕ
kind_written f kind = if list_any (nat_eq kind) (flagged_rows f.family) then kind + 32768 else kind

-- ---- payloads

-- bytes that are not too long for a payload
abbrev pub short : List ℕ → Result (List ℕ) BuildError
short bytes = if nat_le (length bytes) 65531 then Ok bytes else refused cause.TooLong

abbrev pub datum_payload : Option Shape → Value → Result (List ℕ) BuildError
datum_payload None value = refused cause.NoRow
datum_payload (Some shape) value =
    if is_suited shape value then short (written shape value) else refused cause.Datum

abbrev pub raw_payload : Option Shape → List ℕ → Result (List ℕ) BuildError
raw_payload None bytes = short bytes
raw_payload (Some shape) bytes =
    if is_canonical_payload shape bytes then short bytes else refused cause.Bytes

-- the rows of the values in a list of n values, of so many that follow
abbrev pub opened_by : Option Rows → ℕ → ℕ → Result Rows BuildError
opened_by None n following = refused cause.NoList
opened_by (Some inner) n following =
    if nat_le n following then Ok inner else refused cause.Count

abbrev pub opened : Rows → Option Shape → ℕ → ℕ → Result Rows BuildError
opened f None n following = refused cause.NoRow
opened f (Some shape) n following = opened_by (rows_in f (Some shape)) n following

-- the payload of a list of the first n of the values that follow; `inside` is that of a list of
-- values with rows
abbrev pub list_payload : (Rows → List BuildValue → Result (List ℕ) BuildError) →
    Result Rows BuildError → ℕ → List BuildValue → Result (List ℕ) BuildError
list_payload inside (Ok inner) n more = inside inner (take n more)
list_payload inside (Err e) n more = Err e

abbrev pub payload_in : (Rows → List BuildValue → Result (List ℕ) BuildError) → Rows →
    Option Shape → BuildDatum → List BuildValue → Result (List ℕ) BuildError
payload_in inside f shape (given.Datum d) more = datum_payload shape (value_of d)
payload_in inside f shape (given.Raw bytes) more = raw_payload shape bytes.now
payload_in inside f shape (given.List n) more =
    list_payload inside (opened f shape n (length more)) n more

-- the payload of a value, with the values that follow it
unfoldable pub payload_with : (Rows → List BuildValue → Result (List ℕ) BuildError) → Rows →
    BuildValue → List BuildValue → Result (List ℕ) BuildError
payload_with inside f value more =
    if nat_lt 16383 value.kind then refused cause.Flags
    else payload_in inside f (shape_in f value.kind) value.value more

-- ---- attributes

-- the attribute of a value
abbrev pub attribute_of : Rows → BuildValue → List ℕ → Attribute
attribute_of f value payload = record { kind = kind_written f value.kind; value = payload }

abbrev pub attribute_with : (Rows → List BuildValue → Result (List ℕ) BuildError) → Rows →
    BuildValue → List BuildValue → Result Attribute BuildError
attribute_with inside f value more =
    map_ok (attribute_of f value) (payload_with inside f value more)

-- how many of the values that follow are inside it
abbrev pub inside_count : BuildDatum → ℕ
inside_count (given.List n) = n
inside_count _ = 0

abbrev pub with_first : Attribute → Result (List Attribute) BuildError →
    Result (List Attribute) BuildError
with_first a more = map_ok (λ list. a ∷ list) more

-- an attribute in a list that has so many bytes before it, and what comes after it
abbrev pub fitted : ℕ → Result Attribute BuildError →
    (ℕ → Result (List Attribute) BuildError) → Result (List Attribute) BuildError
fitted used (Err e) more = Err e
fitted used (Ok a) more =
    if nat_le (used + buffer_len_of a) 65531
    then with_first a (after 1 (more (used + buffer_len_of a)))
    else refused cause.TooLong

-- The attributes of a list of values, after so many bytes, in order. The first `skipped` values are
-- inside a list before them.
abbrev pub attributes_with : (Rows → List BuildValue → Result (List ℕ) BuildError) → Rows →
    ℕ → ℕ → List BuildValue → Result (List Attribute) BuildError
attributes_with inside f used skipped [] = Ok []
attributes_with inside f used (suc skipped) (value ∷ more) =
    after 1 (attributes_with inside f used skipped more)
attributes_with inside f used zero (value ∷ more) =
    fitted used (attribute_with inside f value more)
    (λ size. attributes_with inside f size (inside_count value.value) more)

-- the length of the encoding of attributes, or the error
abbrev pub measured_list : Result (List Attribute) BuildError → Result ℕ BuildError
measured_list attributes = measured (map_ok list_string attributes)

-- ---- lists in lists

-- the payload of a list with these values, in which lists may be so many deep, itself included
unfoldable pub list_up_to : ℕ → Rows → List BuildValue → Result (List ℕ) BuildError
list_up_to zero f values = refused cause.Depth
list_up_to (suc k) f values =
    after 1 (map_ok list_string (attributes_with (list_up_to k) f 0 0 values))

abbrev pub attributes_up_to : ℕ → Rows → List BuildValue → Result (List Attribute) BuildError
attributes_up_to k f values = attributes_with (list_up_to k) f 0 0 values

-- the attributes of an array, where lists are at most eight deep
unfoldable pub attributes_of : Rows → List BuildValue → Result (List Attribute) BuildError
attributes_of f values = attributes_up_to 8 f values

-- their encoding
unfoldable pub encoding : Rows → List BuildValue → Result (List ℕ) BuildError
encoding f values = map_ok list_string (attributes_of f values)

-- ---- calls

-- the answer of a call that writes an encoding of so many values into so much room
abbrev pub build_answer : Result (List ℕ) BuildError → ℕ → ℕ → Result ℕ BuildError
build_answer (Err e) count room = Err e
build_answer (Ok string) count room =
    if nat_le (length string) room then Ok (length string)
    else Err (record { index = count; cause = cause.Room (length string) })
