-- Link messages: RTM_NEWLINK and RTM_DELLINK (include/uapi/linux/rtnetlink.h).
use Rattle.std.specs.Prelude.{
  ℕ,
  ℤ,
  ◌+◌,
  ◌==◌,
  ◌||◌,
  if◌then◌else◌,
  nat_lt,
  List,
  [],
  ◌∷◌,
  length,
  drop,
  Option,
  Some,
  None,
  option_map,
  Result,
  Ok,
  Err,
}
use Rattle.std.specs.Option.{option_or}
use Rattle.std.specs.Int.{w32, cast_signed}
use Rattle.nla_frame.specs.Attribute.{Attribute, aligned, masked}
use Rattle.nla_frame.specs.NlaItems.{nla_items, headers_in}
use Rattle.nla_frame.specs.Payload.{stripped}
use Rattle.linkinfo_messages.specs.declared.error.MessageCause.TheVariants.{
  LinkHeader,
  Attribute as BadAttribute,
}
use Rattle.linkinfo_messages.specs.declared.error.MessageError.{MessageError}
use Rattle.linkinfo_messages.specs.declared.link.LinkEvent.{LinkEvent}
use Rattle.linkinfo_messages.specs.declared.link.LinkEvent.TheVariants.{New, Deleted}
use Rattle.linkinfo_messages.specs.Integers.{le32}
use Rattle.linkinfo_messages.specs.Messages.{Message, message_error, rejected_headers}

-- ---- the attributes of a link

-- the attributes in order, each with the offset of its header, where the first is at `place`
abbrev pub located : ℕ → List (Result Attribute ℕ) → List (ℕ × Attribute)
located place [] = []
located place ((Err n) ∷ more) = []
located place ((Ok a) ∷ more) =
    (place, a) ∷ located (place + aligned (4 + length a.value)) more

-- the offset of the header that is not accepted, if there is one
abbrev pub damaged_at : ℕ → List (Result Attribute ℕ) → Option ℕ
damaged_at place [] = None
damaged_at place ((Err n) ∷ more) = Some place
damaged_at place ((Ok a) ∷ more) = damaged_at (place + aligned (4 + length a.value)) more

-- the last attribute of a type, which is compared without its flag bits
abbrev pub last_of : ℕ → List (ℕ × Attribute) → Option (ℕ × Attribute)
last_of kind [] = None
last_of kind (x ∷ more) =
    option_or (last_of kind more) (if masked x.1.kind == kind then Some x else None)

-- the name of the link (`IFLA_IFNAME`, 3): the payload without a closing NUL
abbrev pub name_in : List (ℕ × Attribute) → Option (List ℕ)
name_in attributes = option_map (λ x. stripped x.1.value) (last_of 3 attributes)

-- its offset
abbrev pub name_place_in : List (ℕ × Attribute) → Option ℕ
name_place_in attributes = option_map (λ x. x.0 + 4) (last_of 3 attributes)

-- the contents of `IFLA_LINKINFO` (18), with their offset
abbrev pub info_in : List (ℕ × Attribute) → Option (ℕ × List ℕ)
info_in attributes = option_map (λ x. (x.0 + 4, x.1.value)) (last_of 18 attributes)

-- ---- link messages

pub record Link : Type 0 where
  pub place : ℕ
  pub event : LinkEvent
  pub index : ℤ
  pub flags : ℕ
  pub name : Option (List ℕ)
  pub name_place : Option ℕ
  pub info : Option (ℕ × List ℕ)

-- the interface index and flags of `struct ifinfomsg` at the front of the payload, and the
-- attributes after its 16 bytes
abbrev pub link_with : LinkEvent → Message → List (ℕ × Attribute) → Link
link_with event m attributes = record {
  place = m.place;
  event = event;
  index = cast_signed w32 (le32 m.payload 4);
  flags = le32 m.payload 8;
  name = name_in attributes;
  name_place = name_place_in attributes;
  info = info_in attributes;
}

abbrev pub unless_damaged : Option ℕ → ℕ → Link → Result (Option Link) MessageError
unless_damaged None place link = Ok (Some link)
unless_damaged (Some at) place link = Err (message_error place (BadAttribute at))

-- what a message says of a link, if its attributes are these
abbrev pub link_of_items : LinkEvent → Message → List (Result Attribute ℕ) →
    Result (Option Link) MessageError
link_of_items event m attributes =
    unless_damaged (damaged_at (m.place + 32) attributes) m.place
    (link_with event m (located (m.place + 32) attributes))

-- what a message of this event says of a link
unfoldable pub link_as : LinkEvent → Message → Result (Option Link) MessageError
link_as event m =
    if nat_lt (length m.payload) 16
    then Err (message_error m.place (LinkHeader (16 + length m.payload)))
    else link_of_items event m (nla_items (drop 16 m.payload))

-- what a message says of a link: RTM_NEWLINK is type 16, RTM_DELLINK type 17
unfoldable pub link_of : Message → Result (Option Link) MessageError
link_of m =
    if m.kind == 16 then link_as New m
    else if m.kind == 17 then link_as Deleted m
    else Ok None

-- a link, if a message says one, and then those of the messages after it; an error is the last
abbrev pub links_before : Result (Option Link) MessageError → List (Result Link MessageError) →
    List (Result Link MessageError)
links_before (Ok (Some link)) more = Ok link ∷ more
links_before (Ok None) more = more
links_before (Err e) more = Err e ∷ []

-- the links of messages, up to the first error
abbrev pub links_of : List (Result Message MessageError) → List (Result Link MessageError)
links_of [] = []
links_of ((Ok m) ∷ more) = links_before (link_of m) (links_of more)
links_of ((Err e) ∷ more) = Err e ∷ []

-- ---- the headers examined

-- those of the attributes after `struct ifinfomsg`
abbrev pub link_headers : Message → ℕ
link_headers m = headers_in (nla_items (drop 16 m.payload))

-- those of the attributes of a message, which are examined if it is a link message
unfoldable pub attribute_headers : Message → ℕ
attribute_headers m = if m.kind == 16 || m.kind == 17 then link_headers m else 0

-- those of the messages after a message, unless it is rejected
abbrev pub headers_after : Result (Option Link) MessageError → ℕ → ℕ
headers_after (Ok link) n = n
headers_after (Err e) n = 0

-- those of messages and of the attributes of link messages, up to the first error
abbrev pub headers_of : List (Result Message MessageError) → ℕ
headers_of [] = 0
headers_of ((Ok m) ∷ more) =
    1 + (attribute_headers m + headers_after (link_of m) (headers_of more))
headers_of ((Err e) ∷ more) = rejected_headers e.cause
