-- Capture files of nlmon devices, in the format of pcap.
use Rattle.std.specs.Prelude.{
  ◌≡◌,
  ℕ,
  ◌+◌,
  ◌*◌,
  ◌%◌,
  ◌==◌,
  Bool,
  true,
  false,
  if◌then◌else◌,
  nat_lt,
  List,
  [],
  ◌∷◌,
  length,
  drop,
  slice_range,
  Option,
  Some,
  None,
  option_copied,
  Result,
  Ok,
  Err,
}
use Rattle.std.specs.Iterator.{YieldsFirstBy}
use Rattle.linkinfo_messages.specs.declared.capture.CaptureFormat.{CaptureFormat}
use Rattle.linkinfo_messages.specs.declared.capture.Record.{Record}
use Rattle.linkinfo_messages.specs.declared.capture_error.CaptureCause.{CaptureCause}
use Rattle.linkinfo_messages.specs.declared.capture_error.CaptureCause.TheVariants as cause
use Rattle.linkinfo_messages.specs.declared.capture_error.CaptureError.{CaptureError}
use Rattle.linkinfo_messages.specs.Integers.{le32, be16, be32}
use Rattle.linkinfo_messages.specs.Reading.{Reader, items}
use denote.Ref.{Bor}

abbrev pub capture_error : ℕ → CaptureCause → CaptureError
capture_error place cause = record { place = place; cause = cause }

-- ---- the header of the file

-- a 32-bit number of the file
abbrev pub number : CaptureFormat → List ℕ → ℕ → ℕ
number format s at = if format.big_endian then be32 s at else le32 s at

-- the format that a magic number stands for, which is read as little-endian
abbrev pub format_with : Bool → Bool → CaptureFormat
format_with big_endian nanoseconds = record { big_endian = big_endian; nanoseconds = nanoseconds }

abbrev pub format_by : ℕ → Option CaptureFormat
format_by magic =
    if magic == 0xa1b2c3d4 then Some (format_with false false)
    else if magic == 0xa1b23c4d then Some (format_with false true)
    else if magic == 0xd4c3b2a1 then Some (format_with true false)
    else if magic == 0x4d3cb2a1 then Some (format_with true true)
    else None

-- the link type, the low 16 bits of its field
abbrev pub link_type : CaptureFormat → List ℕ → ℕ
link_type format s = number format s 20 % 65536

-- a format, if its link type is LINKTYPE_NETLINK
abbrev pub of_netlink : Option CaptureFormat → List ℕ → Result CaptureFormat CaptureError
of_netlink None s = Err (capture_error 0 (cause.Magic (le32 s 0)))
of_netlink (Some format) s =
    if link_type format s == 253 then Ok format
    else Err (capture_error 0 (cause.LinkType (link_type format s)))

unfoldable pub format_of : List ℕ → Result CaptureFormat CaptureError
format_of s =
    if nat_lt (length s) 24 then Err (capture_error 0 cause.FileHeader)
    else of_netlink (format_by (le32 s 0)) s

-- ---- records

-- the offset of a record's header, its time, the length of its packet before it was captured, and
-- the captured bytes
pub record RecordParts : Type 0 where
  pub place : ℕ
  pub seconds : ℕ
  pub nanoseconds : ℕ
  pub original : ℕ
  pub packet : List ℕ

-- the captured length in the header at the front
abbrev pub captured_len : CaptureFormat → List ℕ → ℕ
captured_len format s = number format s 8

-- the nanoseconds of a fraction of a second
abbrev pub nanoseconds_of : CaptureFormat → ℕ → ℕ
nanoseconds_of format fraction = if format.nanoseconds then fraction else 1000 * fraction

-- the record at the front: a header of 16 bytes, then as many as were captured
unfoldable pub record_at : CaptureFormat → Reader RecordParts CaptureError
record_at format place s =
    if nat_lt (length s) 16 then Err (capture_error place cause.RecordHeader)
    else if nat_lt (length s) (16 + captured_len format s)
    then Err (capture_error place (cause.Cut (captured_len format s)))
    else Ok (
      record {
        place = place;
        seconds = number format s 0;
        nanoseconds = nanoseconds_of format (number format s 4);
        original = number format s 12;
        packet = slice_range s 16 (16 + captured_len format s);
      },
      16 + captured_len format s,
    )

-- the records of the bytes that begin at an offset
abbrev pub records : CaptureFormat → ℕ → List ℕ → List (Result RecordParts CaptureError)
records format place s = items (record_at format) place s

-- the headers examined of a record that is rejected: one, unless it is cut short
abbrev pub rejected_headers : CaptureCause → ℕ
rejected_headers cause.RecordHeader = 0
rejected_headers _ = 1

-- the headers examined to read a record
abbrev pub record_headers : {X : Type 0} → Result X CaptureError → ℕ
record_headers (Ok x) = 1
record_headers (Err e) = rejected_headers e.cause

-- .. and to read records
abbrev pub headers_of : List (Result RecordParts CaptureError) → ℕ
headers_of [] = 0
headers_of (r ∷ more) = record_headers r + headers_of more

-- the length of the record at the front, if its header is there
abbrev pub record_len : CaptureFormat → List ℕ → Option ℕ
record_len format s =
    if nat_lt (length s) 16 then None else Some (16 + captured_len format s)

-- the netlink messages of a packet: those of NETLINK_ROUTE (family 0), or none
unfoldable pub netlink_of : RecordParts → Result (Option (List ℕ)) CaptureError
netlink_of r =
    if nat_lt (length r.packet) r.original
    then Err (capture_error r.place (cause.Truncated (length r.packet) r.original))
    else if nat_lt (length r.packet) 16
    then Err (capture_error r.place (cause.PacketHeader (length r.packet)))
    else if be16 r.packet 2 == 824
    then (if be16 r.packet 14 == 0 then Ok (Some (drop 16 r.packet)) else Ok None)
    else Err (capture_error r.place (cause.Device (be16 r.packet 2)))

-- ---- values in memory

abbrev pub record_in : Record → RecordParts
record_in r = record {
  place = r.place;
  seconds = r.seconds;
  nanoseconds = r.nanoseconds;
  original = r.original;
  packet = r.packet.now;
}

abbrev pub record_result : Result (Record × ℕ) CaptureError → Result (RecordParts × ℕ) CaptureError
record_result (Ok x) = Ok (record_in x.0, x.1)
record_result (Err e) = Err e

abbrev pub record_seen : Result Record CaptureError → Result RecordParts CaptureError
record_seen (Ok r) = Ok (record_in r)
record_seen (Err e) = Err e

abbrev pub netlink_seen : Result (Option (Bor (List ℕ))) CaptureError →
    Result (Option (List ℕ)) CaptureError
netlink_seen (Ok bytes) = Ok (option_copied bytes)
netlink_seen (Err e) = Err e

-- ---- the iterator

-- its byte string, how numbers are written, the offset of the next header, the headers examined so
-- far, and whether there was an error
pub record Walk : Type 0 where
  pub source : List ℕ
  pub format : CaptureFormat
  pub place : ℕ
  pub examined : ℕ
  pub failed : Bool

-- a capture before its first record
abbrev pub capture_seen : List ℕ → Result CaptureFormat CaptureError → Result Walk CaptureError
capture_seen s (Ok format) =
    Ok (record { source = s; format = format; place = 24; examined = 0; failed = false })
capture_seen s (Err e) = Err e

-- the items to come, and the headers to be examined for them
abbrev pub records_left : Walk → List (Result RecordParts CaptureError)
records_left w =
    if w.failed then [] else records w.format w.place (drop w.place w.source)

abbrev pub headers_left : Walk → ℕ
headers_left w = headers_of (records_left w)

-- A record is at the offset, and its packet a slice of the source; the next one is after it. After
-- an error the offset is that of the rejected record.
pub record IsNext (s : Walk) (r : Record) (t : Walk) : Type 0 where
  pub place : r.place ≡ s.place
  pub packet : r.packet.now ≡ slice_range s.source (s.place + 16) t.place
  pub after : t.place ≡ s.place + (16 + length r.packet.now)
  pub failed : t.failed ≡ s.failed

abbrev pub StepsBy : Walk → Option (Result Record CaptureError) → Walk → Type 0
StepsBy s None t = t ≡ s
StepsBy s (Some (Ok r)) t = IsNext s r t
StepsBy s (Some (Err e)) t = (e.place ≡ s.place) × (t.place ≡ s.place) × (t.failed ≡ true)

-- one call yields the first of the items left, keeps its byte string and its format, and counts
-- each header that it examines
pub record Moves (s : Walk) (r : Option (Result Record CaptureError)) (t : Walk) : Type 0 where
  pub gives : YieldsFirstBy record_seen records_left s r t
  pub source : t.source ≡ s.source
  pub format : t.format ≡ s.format
  pub counted : t.examined + headers_left t ≡ s.examined + headers_left s
  pub steps : StepsBy s r t
