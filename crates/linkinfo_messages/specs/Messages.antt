-- Netlink messages: how a byte string frames them (include/uapi/linux/netlink.h).
use Rattle.std.specs.Prelude.{
  ℕ,
  ◌+◌,
  ◌++◌,
  if◌then◌else◌,
  nat_lt,
  min,
  List,
  length,
  slice_range,
  Option,
  Some,
  None,
  Result,
  Ok,
  Err,
}
use Rattle.std.specs.Int.{w16, w32, to_le_bytes}
use Rattle.nla_frame.specs.Attribute.{aligned}
use Rattle.linkinfo_messages.specs.declared.error.MessageCause.{MessageCause}
use Rattle.linkinfo_messages.specs.declared.error.MessageCause.TheVariants.{Header, Short, Long}
use Rattle.linkinfo_messages.specs.declared.error.MessageError.{MessageError}
use Rattle.linkinfo_messages.specs.Integers.{le16, le32}
use Rattle.linkinfo_messages.specs.Reading.{Reader, items}

-- the offset of a message's header, its type (`nlmsg_type`), and its payload
pub record Message : Type 0 where
  pub place : ℕ
  pub kind : ℕ
  pub payload : List ℕ

abbrev pub message_error : ℕ → MessageCause → MessageError
message_error place cause = record { place = place; cause = cause }

-- the length field of the header at the front (`nlmsg_len`)
abbrev pub length_of : List ℕ → ℕ
length_of s = le32 s 0

-- The message at the front: a header of 16 bytes, then a payload up to the length of the header.
-- It takes its length, rounded up to a multiple of four; the padding of the last may be absent or
-- cut short.
unfoldable pub message_at : Reader Message MessageError
message_at place s =
    if nat_lt (length s) 16 then Err (message_error place Header)
    else if nat_lt (length_of s) 16 then Err (message_error place (Short (length_of s)))
    else if nat_lt (length s) (length_of s) then Err (message_error place (Long (length_of s)))
    else Ok (
      record { place = place; kind = le16 s 4; payload = slice_range s 16 (length_of s) },
      min (length s) (aligned (length_of s)),
    )

-- a message as the kernel writes it: length and type, little-endian, then ten bytes of flags,
-- sequence number and port, the payload, and the padding
abbrev pub message_string : ℕ → List ℕ → List ℕ → List ℕ → List ℕ
message_string kind middle payload padding =
    to_le_bytes w32 (16 + length payload)
    ++ (to_le_bytes w16 kind ++ (middle ++ (payload ++ padding)))

abbrev pub message_in : ℕ → ℕ → List ℕ → Message
message_in place kind payload = record { place = place; kind = kind; payload = payload }

-- the messages of the bytes that begin at an offset
abbrev pub messages : ℕ → List ℕ → List (Result Message MessageError)
messages place s = items message_at place s

-- the headers examined of a message that is rejected: one, unless it is cut short
abbrev pub rejected_headers : MessageCause → ℕ
rejected_headers Header = 0
rejected_headers _ = 1

-- the headers examined to read a message
abbrev pub message_headers : {X : Type 0} → Result X MessageError → ℕ
message_headers (Ok x) = 1
message_headers (Err e) = rejected_headers e.cause

-- the length of the message at the front with its padding, if its header is there
abbrev pub message_len : List ℕ → Result (Option ℕ) MessageError
message_len s =
    if nat_lt (length s) 16 then Ok None
    else if nat_lt (length_of s) 16 then Err (message_error 0 (Short (length_of s)))
    else Ok (Some (aligned (length_of s)))
