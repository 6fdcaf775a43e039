-- An input, cut into lines, messages or packets.
use Rattle.std.specs.Prelude.{
  ◌≡◌,
  ℕ,
  zero,
  suc,
  ◌+◌,
  ◌-◌,
  ◌^◌,
  ◌<◌,
  ◌≤◌,
  ◌==◌,
  ◌⊎◌,
  ⊤,
  min,
  nat_lt,
  Bool,
  true,
  false,
  if◌then◌else◌,
  List,
  [],
  ◌∷◌,
  ◌++◌,
  length,
  take,
  drop,
  Option,
  Some,
  None,
  Result,
  Ok,
  Err,
}
use Rattle.std.specs.List.{All}
use Rattle.linkinfo_lines.specs.Lines.{lines_of}
use Rattle.linkinfo_messages.specs.Captures.{format_of, record_len}
use Rattle.linkinfo_messages.specs.Messages.{message_len}
use Rattle.linkinfo_messages.specs.declared.capture.CaptureFormat.{CaptureFormat}
use Rattle.linkinfo_messages.specs.declared.capture_error.CaptureError.{CaptureError}
use Rattle.linkinfo_messages.specs.declared.error.MessageError.{MessageError}
use Rattle.linkinfo_print.specs.declared.options.Input.{Input}
use Rattle.linkinfo_print.specs.declared.options.Input.TheVariants as input
use Rattle.linkinfo_print.specs.declared.units.Cut.{Cut}
use Rattle.linkinfo_print.specs.declared.units.Cutter.{Cutter}
use Rattle.linkinfo_print.specs.declared.units.Framing.{Framing}
use Rattle.linkinfo_print.specs.declared.units.Framing.TheVariants as framing
use Rattle.linkinfo_print.specs.declared.units.Part.{Part}
use Rattle.linkinfo_print.specs.declared.units.Part.TheVariants as part
use Rattle.linkinfo_print.specs.declared.units.Unit.{Unit as BorrowedUnit}

-- what a line, message or packet holds
pub data Piece : Type 0 where
  Line : (bytes : List ℕ) → Piece
  Message : (bytes : List ℕ) → Piece
  BadMessage : (error : MessageError) → Piece
  Record : (format : CaptureFormat) → (bytes : List ℕ) → Piece
  BadFile : (error : CaptureError) → Piece
  TooLong : Piece

-- a line, message or packet with its number and its offset in the input
pub record Portion : Type 0 where
  pub number : ℕ
  pub place : ℕ
  pub piece : Piece

abbrev pub piece_of : Part → Piece
piece_of (part.Line bytes) = Line bytes.now
piece_of (part.Message bytes) = Message bytes.now
piece_of (part.BadMessage error) = BadMessage error
piece_of (part.Record format bytes) = Record format bytes.now
piece_of (part.BadFile error) = BadFile error
piece_of part.TooLong = TooLong

abbrev pub portion : ℕ → ℕ → Piece → Portion
portion number place piece = record { number = number; place = place; piece = piece }

abbrev pub portion_of : BorrowedUnit → Portion
portion_of unit = portion unit.number unit.place (piece_of unit.part)

abbrev pub portions_of : Option BorrowedUnit → List Portion
portions_of None = []
portions_of (Some unit) = portion_of unit ∷ []

-- the maximum length of a line, a message or a record, in bytes
abbrev pub most_bytes : ℕ
most_bytes = 1048576

-- numbers and offsets stop at the maximum of 64 bits
abbrev pub saturated : ℕ → ℕ
saturated n = min n (2 ^ 64 - 1)

-- ---- lines

abbrev pub line_piece : List ℕ → Piece
line_piece line = if nat_lt most_bytes (length line) then TooLong else Line line

-- the lines, of which the first has this number and this offset
abbrev pub lines_from : ℕ → ℕ → List (List ℕ) → List Portion
lines_from number place [] = []
lines_from number place (line ∷ lines) =
    portion number place (line_piece line)
    ∷ lines_from (saturated (number + 1)) (saturated (place + (length line + 1))) lines

-- the lines that bytes have; if the rest of one is skipped, this is the first of them
abbrev pub line_units : Bool → ℕ → ℕ → List ℕ → List Portion
line_units skips number place s =
    if skips then drop 1 (lines_from number place (lines_of s))
    else lines_from number place (lines_of s)

-- ---- messages, and the records of a capture

-- the length of the message or record at the front, if its header is there, or what is wrong with
-- the header of a message
abbrev pub frame_len : Framing → List ℕ → Result (Option ℕ) MessageError
frame_len framing.Messages s = message_len s
frame_len (framing.Records format) s = Ok (record_len format s)

abbrev pub frame_piece : Framing → List ℕ → Piece
frame_piece framing.Messages bytes = Message bytes
frame_piece (framing.Records format) bytes = Record format bytes

-- what is at the front of some bytes: a piece that ends the input, or a whole one and its length
pub data Front : Type 0 where
  Last : (piece : Piece) → Front
  Whole : (piece : Piece) → (len : ℕ) → Front

abbrev pub front_by_len : Framing → Result (Option ℕ) MessageError → List ℕ → Front
front_by_len framing (Err error) s = Last (BadMessage error)
front_by_len framing (Ok None) s = Last (frame_piece framing s)
front_by_len framing (Ok (Some len)) s =
    if nat_lt most_bytes len then Last TooLong
    else if nat_lt (length s) len then Last (frame_piece framing s)
    else Whole (frame_piece framing (take len s)) len

unfoldable pub front_of : Framing → List ℕ → Front
front_of framing s = front_by_len framing (frame_len framing s) s

-- what is at the front, and then what follows a whole one
abbrev pub followed : Front → ℕ → ℕ → (ℕ → List Portion) → List Portion
followed (Last piece) number place more = portion number place piece ∷ []
followed (Whole piece len) number place more = portion number place piece ∷ more len

-- at most as many messages or records as the first number
unfoldable pub frames_up_to : Framing → ℕ → ℕ → ℕ → List ℕ → List Portion
frames_up_to framing zero number place s = []
frames_up_to framing (suc n) number place [] = []
frames_up_to framing (suc n) number place (b ∷ s) =
    followed (front_of framing (b ∷ s)) number place
    (λ len. frames_up_to framing n (saturated (number + 1)) (saturated (place + len))
    (drop len (b ∷ s)))

-- the messages or records of the bytes, of which the first has this number and this offset; none is
-- empty, so they are no more than the bytes
unfoldable pub frames : Framing → ℕ → ℕ → List ℕ → List Portion
frames framing number place s = frames_up_to framing (length s) number place s

-- the records that follow the file header of 24 bytes, or what is wrong with it
abbrev pub records_after : Result CaptureFormat CaptureError → ℕ → ℕ → List ℕ → List Portion
records_after (Ok format) number place s = frames (framing.Records format) number 24 (drop 24 s)
records_after (Err error) number place s = portion number place (BadFile error) ∷ []

-- the rest of a capture, whose file header has been read if there is a format
abbrev pub capture_units : Option CaptureFormat → ℕ → ℕ → List ℕ → List Portion
capture_units None number place s = records_after (format_of s) number place s
capture_units (Some format) number place s = frames (framing.Records format) number place s

-- ---- inputs

abbrev pub units_left : Input → Cutter → List ℕ → List Portion
units_left input.Lists c s = line_units c.skips c.number c.place s
units_left input.Differences c s = line_units c.skips c.number c.place s
units_left input.Unmet c s = line_units c.skips c.number c.place s
units_left input.Messages c s = frames framing.Messages c.number c.place s
units_left input.Capture c s = capture_units c.format c.number c.place s

-- the lines, messages or packets of the bytes that an input has left
unfoldable pub units_on : Cutter → List ℕ → List Portion
units_on c s = if c.ended then [] else units_left c.input c s

-- before the first byte
abbrev pub start : Input → Cutter
start kind = record {
  input = kind;
  number = 1;
  place = 0;
  skips = false;
  format = None;
  ended = false;
}

-- the lines, messages or packets of an input, which are numbered from 1 on
abbrev pub units_of : Input → List ℕ → List Portion
units_of kind s = units_on (start kind) s

-- whether the input has lines
abbrev pub IsOfLines : Input → Type 0
IsOfLines input.Messages = ⊥
IsOfLines input.Capture = ⊥
IsOfLines kind = ⊤

-- whether the input goes on with messages, or with the records of a capture
abbrev pub HasFrames : Cutter → Framing → Type 0
HasFrames c framing.Messages = (c.ended ≡ false) × (c.input ≡ input.Messages)
HasFrames c (framing.Records format) =
    (c.ended ≡ false) × (c.input ≡ input.Capture) × (c.format ≡ Some format)

-- What may follow bytes of an input: nothing, at its end.
abbrev pub MayFollow : Bool → List ℕ → Type 0
MayFollow is_end more = is_end ≡ true → more ≡ []

-- no byte is a line feed
abbrev pub HasNoFeed : List ℕ → Type 0
HasNoFeed s = All (λ b. (b == 10) ≡ false) s

-- a message or a record at the front lacks bytes: of its header, or up to its length
abbrev pub IsIncomplete : Result (Option ℕ) MessageError → List ℕ → Type 0
IsIncomplete (Err error) s = ⊥
IsIncomplete (Ok None) s = ⊤
IsIncomplete (Ok (Some len)) s = (len ≤ most_bytes) × (length s < len)

-- The bytes have no whole line, message, record or file header, and nothing that is too long.
abbrev pub LacksBytes : Input → Option CaptureFormat → List ℕ → Type 0
LacksBytes input.Messages format s = IsIncomplete (frame_len framing.Messages s) s
LacksBytes input.Capture None s = length s < 24
LacksBytes input.Capture (Some format) s = IsIncomplete (frame_len (framing.Records format) s) s
LacksBytes kind format s = HasNoFeed s × (length s ≤ most_bytes)

-- nothing is cut off until more bytes come, or ever
abbrev pub Waits : Cutter → List ℕ → Type 0
Waits c s = (c.ended ≡ true) ⊎ LacksBytes c.input c.format s

-- What is cut off is first among what the input has left, whatever follows the bytes. Nothing is
-- taken only where nothing is whole, and at the end of the input only where nothing is left.
pub record CutsOff (old : Cutter) (bytes : List ℕ) (is_end : Bool) (cut : Cut) (new : Cutter) :
    Type 0 where
  pub within : cut.taken ≤ length bytes
  pub first : (more : List ℕ) → MayFollow is_end more →
      units_on old (bytes ++ more)
      ≡ portions_of cut.unit ++ units_on new (drop cut.taken bytes ++ more)
  pub waits : cut.taken ≡ 0 → Waits new bytes
  pub all : is_end ≡ true → cut.taken ≡ 0 → units_on new bytes ≡ []
