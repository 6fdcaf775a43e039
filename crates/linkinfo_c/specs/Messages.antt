-- Link messages, as C has them.
use Rattle.std.specs.Prelude.{
  ◌≡◌,
  ◌≤◌,
  ◌==◌,
  if◌then◌else◌,
  ℕ,
  zero,
  suc,
  ◌+◌,
  pos,
  false,
  List,
  [],
  ◌∷◌,
  length,
  is_some,
  option_map,
  slice_range,
  unwrap_or,
  Option,
  Some,
  None,
  Result,
  Ok,
  Err,
}
use Rattle.linkinfo_messages.specs.declared.error.MessageCause.{MessageCause}
use Rattle.linkinfo_messages.specs.declared.error.MessageCause.TheVariants as cause
use Rattle.linkinfo_messages.specs.declared.error.MessageError.{MessageError}
use Rattle.linkinfo_messages.specs.declared.link.LinkEvent.{LinkEvent}
use Rattle.linkinfo_messages.specs.declared.link.LinkEvent.TheVariants as event
use Rattle.linkinfo_messages.specs.ErrorTexts.{message_error_text}
use Rattle.linkinfo_messages.specs.Links.{Link}
use Rattle.linkinfo_messages.specs.Resuming.{step_at}
use Rattle.linkinfo_c.specs.declared.messages.LinkinfoLink.{LinkinfoLink}
use Rattle.linkinfo_c.specs.declared.messages.LinkinfoMessageError.{LinkinfoMessageError}

-- ---- codes

-- the outcomes of a call, `enum linkinfo_link_status`

abbrev pub link_end : ℕ
link_end = 0

abbrev pub link_found : ℕ
link_found = 1

abbrev pub link_rejected : ℕ
link_rejected = 2

-- what has happened to a link, `enum linkinfo_link_event`; 0 is nothing
abbrev pub event_code : LinkEvent → ℕ
event_code event.New = 1
event_code event.Deleted = 2

-- ---- errors

abbrev pub message_failure : ℕ → ℕ → ℕ → LinkinfoMessageError
message_failure code length place = record { place = place; length = length; cause = code }

-- the record of no error
abbrev pub no_message_error : LinkinfoMessageError
no_message_error = message_failure 0 0 0

-- The code of a cause, `enum linkinfo_message_cause`, with the length that it has. The offset is
-- that of the message, or of the attribute whose header is not accepted.
abbrev pub cause_record : ℕ → MessageCause → LinkinfoMessageError
cause_record place cause.Header = message_failure 1 0 place
cause_record place (cause.Short n) = message_failure 2 n place
cause_record place (cause.Long n) = message_failure 3 n place
cause_record place (cause.LinkHeader n) = message_failure 4 n place
cause_record place (cause.Attribute at) = message_failure 5 0 at

abbrev pub message_record : MessageError → LinkinfoMessageError
message_record e = cause_record e.place e.cause

-- the cause of a record, if its code is one
abbrev pub cause_of_record : LinkinfoMessageError → Option MessageCause
cause_of_record r =
    if r.cause == 1 then Some cause.Header
    else if r.cause == 2 then Some (cause.Short r.length)
    else if r.cause == 3 then Some (cause.Long r.length)
    else if r.cause == 4 then Some (cause.LinkHeader r.length)
    else if r.cause == 5 then Some (cause.Attribute r.place)
    else None

abbrev pub text_of_cause : ℕ → Option MessageCause → List ℕ
text_of_cause place (Some cause) = message_error_text (record { place = place; cause = cause })
text_of_cause place None = []

-- the sentence of an error of the message at an offset; it is empty for no error, and if a number
-- is no code
abbrev pub message_text_of : LinkinfoMessageError → ℕ → List ℕ
message_text_of error place = text_of_cause place (cause_of_record error)

-- ---- link messages

-- the offset of a name; 0 without one
abbrev pub name_place_of : Option (List ℕ) → Option ℕ → ℕ
name_place_of None place = 0
name_place_of (Some name) place = unwrap_or place 0

abbrev pub contents_place : Option (ℕ × List ℕ) → ℕ
contents_place None = 0
contents_place (Some contents) = contents.0

abbrev pub part_length : Option (List ℕ) → ℕ
part_length None = 0
part_length (Some part) = length part

abbrev pub contents_of : Option (ℕ × List ℕ) → Option (List ℕ)
contents_of info = option_map (λ c. c.1) info

-- the record of a link message, and the offset after it
abbrev pub found : Link → ℕ → LinkinfoLink
found link next = record {
  error = no_message_error;
  place = link.place;
  next = next;
  name_place = name_place_of link.name link.name_place;
  name_length = part_length link.name;
  list_place = contents_place link.info;
  list_length = part_length (contents_of link.info);
  index = link.index;
  flags = link.flags;
  status = link_found;
  event = event_code link.event;
  has_name = is_some link.name;
  has_list = is_some link.info;
}

-- the record without a link message
abbrev pub without_link : ℕ → LinkinfoMessageError → ℕ → ℕ → LinkinfoLink
without_link status error place next = record {
  error = error;
  place = place;
  next = next;
  name_place = 0;
  name_length = 0;
  list_place = 0;
  list_length = 0;
  index = pos 0;
  flags = 0;
  status = status;
  event = 0;
  has_name = false;
  has_list = false;
}

-- the record of what an iterator over a byte string of this length yields first, if it does
abbrev pub link_record : ℕ → Option (Result Link MessageError × ℕ) → LinkinfoLink
link_record len None = without_link link_end no_message_error 0 len
link_record len (Some (Ok link, next)) = found link next
link_record len (Some (Err e, next)) = without_link link_rejected (message_record e) e.place next

-- that of an iterator which starts at an offset
abbrev pub link_at : List ℕ → ℕ → LinkinfoLink
link_at s cursor = link_record (length s) (step_at s cursor)

-- ---- what the offsets are

-- a part of a byte string, which is there or not, is what an offset and a length say
abbrev pub IsPart : Option (List ℕ) → ℕ → ℕ → List ℕ → Type 0
IsPart None place len s = (place ≡ 0) × (len ≡ 0)
IsPart (Some part) place len s =
    (part ≡ slice_range s place (place + len)) × (place + len ≤ length s)

-- name and list are parts of the byte string
abbrev pub HasParts : Option (Result Link MessageError × ℕ) → LinkinfoLink → List ℕ → Type 0
HasParts None r s = Unit {0}
HasParts (Some (Err e, next)) r s = Unit {0}
HasParts (Some (Ok link, next)) r s =
    IsPart link.name r.name_place r.name_length s
    × IsPart (contents_of link.info) r.list_place r.list_length s

-- ---- several calls

-- the results of calls, the first from a cursor on and each other from the `next` of the one before
abbrev pub calls_from : ℕ → List ℕ → ℕ → List LinkinfoLink
calls_from zero s cursor = []
calls_from (suc n) s cursor = link_at s cursor ∷ calls_from n s (link_at s cursor).next
