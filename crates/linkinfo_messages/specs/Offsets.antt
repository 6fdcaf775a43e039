-- Offsets in bytes that begin later: each is greater by the same number.
use Rattle.std.specs.Prelude.{
  ℕ,
  ◌+◌,
  List,
  Option,
  option_map,
  Result,
  Ok,
  Err,
}
use Rattle.linkinfo_messages.specs.declared.error.MessageCause.{MessageCause}
use Rattle.linkinfo_messages.specs.declared.error.MessageCause.TheVariants.{Attribute}
use Rattle.linkinfo_messages.specs.declared.error.MessageError.{MessageError}
use Rattle.linkinfo_messages.specs.declared.capture_error.CaptureError.{CaptureError}
use Rattle.linkinfo_messages.specs.Captures.{RecordParts}
use Rattle.linkinfo_messages.specs.Links.{Link}
use Rattle.linkinfo_messages.specs.Messages.{Message}

-- an item, or an error, with its offsets changed
abbrev pub moved : {X E : Type 0} → (X → X) → (E → E) → Result X E → Result X E
moved item error (Ok x) = Ok (item x)
moved item error (Err e) = Err (error e)

abbrev pub message_moved : ℕ → Message → Message
message_moved by m = record { place = by + m.place; kind = m.kind; payload = m.payload }

abbrev pub cause_moved : ℕ → MessageCause → MessageCause
cause_moved by (Attribute at) = Attribute (by + at)
cause_moved by cause = cause

abbrev pub error_moved : ℕ → MessageError → MessageError
error_moved by e = record { place = by + e.place; cause = cause_moved by e.cause }

abbrev pub name_place_moved : ℕ → Option ℕ → Option ℕ
name_place_moved by place = option_map (λ at. by + at) place

abbrev pub info_moved : ℕ → Option (ℕ × List ℕ) → Option (ℕ × List ℕ)
info_moved by info = option_map (λ c. (by + c.0, c.1)) info

abbrev pub link_moved : ℕ → Link → Link
link_moved by l = record {
  place = by + l.place;
  event = l.event;
  index = l.index;
  flags = l.flags;
  name = l.name;
  name_place = name_place_moved by l.name_place;
  info = info_moved by l.info;
}

abbrev pub record_moved : ℕ → RecordParts → RecordParts
record_moved by r = record {
  place = by + r.place;
  seconds = r.seconds;
  nanoseconds = r.nanoseconds;
  original = r.original;
  packet = r.packet;
}

abbrev pub capture_error_moved : ℕ → CaptureError → CaptureError
capture_error_moved by e = record { place = by + e.place; cause = e.cause }
