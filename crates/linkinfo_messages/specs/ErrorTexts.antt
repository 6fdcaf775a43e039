-- What errors say, as sentences for people.
use Rattle.std.specs.Prelude.{ℕ, ◌++◌, false, List, codes}
use Rattle.std.specs.Fmt.{decimal, radix_digits}
use Rattle.linkinfo_messages.specs.declared.error.MessageCause.{MessageCause}
use Rattle.linkinfo_messages.specs.declared.error.MessageCause.TheVariants as message
use Rattle.linkinfo_messages.specs.declared.error.MessageError.{MessageError}
use Rattle.linkinfo_messages.specs.declared.capture_error.CaptureCause.{CaptureCause}
use Rattle.linkinfo_messages.specs.declared.capture_error.CaptureCause.TheVariants as capture
use Rattle.linkinfo_messages.specs.declared.capture_error.CaptureError.{CaptureError}

-- what is wrong with a message
abbrev pub message_cause_text : MessageCause → List ℕ
message_cause_text message.Header = codes "its header is cut short"
message_cause_text (message.Short n) =
    codes "its length " ++ decimal n ++ codes " is less than that of its header"
message_cause_text (message.Long n) =
    codes "its length " ++ decimal n ++ codes " exceeds the bytes that are left"
message_cause_text (message.LinkHeader n) =
    codes "its length " ++ decimal n ++ codes " has no room for ifinfomsg"
message_cause_text (message.Attribute place) =
    codes "invalid attribute header, at offset " ++ decimal place

abbrev pub message_error_text : MessageError → List ℕ
message_error_text e =
    codes "message at offset " ++ decimal e.place ++ codes ": " ++ message_cause_text e.cause

-- what is wrong with a capture file or a record
abbrev pub capture_cause_text : CaptureCause → List ℕ
capture_cause_text capture.FileHeader = codes "its header is cut short"
capture_cause_text capture.RecordHeader = codes "its header is cut short"
capture_cause_text (capture.Magic n) =
    codes "0x" ++ radix_digits 16 false n ++ codes " is not the magic number of a pcap file"
capture_cause_text (capture.LinkType n) =
    codes "its link type " ++ decimal n ++ codes " is not LINKTYPE_NETLINK"
capture_cause_text (capture.Cut n) =
    codes "its captured length " ++ decimal n ++ codes " exceeds the bytes that are left"
capture_cause_text (capture.Truncated captured original) =
    decimal captured ++ (codes " of " ++ (decimal original ++ codes " bytes were captured"))
capture_cause_text (capture.PacketHeader n) =
    codes "its " ++ decimal n ++ codes " bytes are less than the header of a packet"
capture_cause_text (capture.Device n) =
    codes "its device type " ++ decimal n ++ codes " is not ARPHRD_NETLINK"

-- whose error it is
abbrev pub capture_subject : CaptureCause → ℕ → List ℕ
capture_subject capture.FileHeader place = codes "capture file"
capture_subject (capture.Magic n) place = codes "capture file"
capture_subject (capture.LinkType n) place = codes "capture file"
capture_subject _ place = codes "record at offset " ++ decimal place

abbrev pub capture_error_text : CaptureError → List ℕ
capture_error_text e = capture_subject e.cause e.place ++ codes ": " ++ capture_cause_text e.cause
