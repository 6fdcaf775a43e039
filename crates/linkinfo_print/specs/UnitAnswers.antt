-- What the answers are for a line, a message or a packet.
use Rattle.std.specs.Prelude.{
  ◌≡◌,
  ◌⊎◌,
  ℕ,
  ◌-◌,
  ◌&&◌,
  Bool,
  false,
  not,
  true,
  if◌then◌else◌,
  List,
  [],
  ◌∷◌,
  ◌++◌,
  length,
  take,
  drop,
  map,
  Option,
  Some,
  None,
  option_map,
  Result,
  Ok,
  Err,
  IsOk,
  codes,
}
use Rattle.std.specs.Char.{is_ascii_whitespace}
use Rattle.std.specs.List.{prefix_len, suffix_len}
use Rattle.nla_frame.specs.declared.error.DecodeError.{DecodeError}
use Rattle.linkinfo_data.specs.BytesLayer.{bytes_layer}
use Rattle.linkinfo.specs.Difference.{strings_difference}
use Rattle.linkinfo.specs.Placed.{IsErrorAt}
use Rattle.linkinfo.specs.Strings.{reading}
use Rattle.linkinfo.specs.Unmet.{strings_unmet}
use Rattle.linkinfo_lines.specs.Answers.{bytes_of}
use Rattle.linkinfo_messages.specs.Captures.{RecordParts, netlink_of, records}
use Rattle.linkinfo_messages.specs.ErrorTexts.{capture_error_text, message_error_text}
use Rattle.linkinfo_messages.specs.Links.{Link, links_of}
use Rattle.linkinfo_messages.specs.Messages.{messages}
use Rattle.linkinfo_messages.specs.declared.capture_error.CaptureError.{CaptureError}
use Rattle.linkinfo_messages.specs.declared.error.MessageError.{MessageError}
use Rattle.serde_json.specs.Data.{Data}
use Rattle.memchr.specs.Find.{IsFirstByte, is_byte}
use Rattle.linkinfo_print.specs.ListData.{list_data}
use Rattle.linkinfo_print.specs.MessageData.{message_data, time_text}
use Rattle.linkinfo_print.specs.PairData.{pair_data, pair_of_difference, pair_of_unmet}
use Rattle.linkinfo_print.specs.Printing.{Adds, Answer, Refusal, all_go_on, breaking, refusal}
use Rattle.linkinfo_print.specs.Sentences.{
  capture_error_from,
  list_error_text,
  list_of_link,
  long_text,
  message_error_from,
  not_hex,
  numbered,
  offset_after,
  one_word,
}
use Rattle.linkinfo_print.specs.Units.{
  BadFile,
  BadMessage,
  Line,
  Message,
  Piece,
  Portion,
  Record,
  TooLong,
}
use Rattle.linkinfo_print.specs.declared.compare.Question.{Question}
use Rattle.linkinfo_print.specs.declared.compare.Question.TheVariants as question
use Rattle.linkinfo_print.specs.declared.options.Input.{Input}
use Rattle.linkinfo_print.specs.declared.options.Input.TheVariants as input
use Rattle.linkinfo_print.specs.declared.print.Printer.{Printer}
use Rattle.linkinfo_print.specs.declared.report.Printed.TheVariants as printed
use Rattle.linkinfo_print.specs.declared.units.Cutter.{Cutter}

-- ---- one list, and two

-- the sentence of a rejected list, after some words about which list it is
pub record IsListSentence (s before : List ℕ) (refused : Refusal) : Type 0 where
  pub error : DecodeError
  pub place : ℕ
  pub inner : ℕ
  pub is_error : IsErrorAt bytes_layer s error place inner
  pub is : refused ≡ refusal (before ++ list_error_text error inner)

-- an accepted list is its JSON data, and any other the sentence of its error
abbrev pub IsListAnswer : List ℕ → Answer → Type 0
IsListAnswer s (Ok value) = IsOk (reading bytes_layer s) × (value ≡ (printed.List, list_data s))
IsListAnswer s (Err refused) = IsListSentence s [] refused

-- the answer to a question about two accepted lists
abbrev pub answer_data : Question → List ℕ → List ℕ → Data
answer_data question.Equal a b = pair_data question.Equal a b
    (option_map pair_of_difference (strings_difference bytes_layer a b))
answer_data question.Met a b = pair_data question.Met a b
    (option_map pair_of_unmet (strings_unmet bytes_layer a b))

abbrev pub IsPairAnswer : Question → List ℕ → List ℕ → Answer → Type 0
IsPairAnswer q a b (Ok value) =
    IsOk (reading bytes_layer a)
    × IsOk (reading bytes_layer b)
    × (value ≡ (printed.Pair, answer_data q a b))
IsPairAnswer q a b (Err refused) =
    IsListSentence a (codes "first list: ") refused
    ⊎ (IsOk (reading bytes_layer a) × IsListSentence b (codes "second list: ") refused)

-- ---- lines

-- a line without the white space at its ends
abbrev pub without_front : List ℕ → List ℕ
without_front s = drop (prefix_len is_ascii_whitespace s) s

abbrev pub without_back : List ℕ → List ℕ
without_back s = take (length s - suffix_len is_ascii_whitespace s) s

abbrev pub trimmed : List ℕ → List ℕ
trimmed s = without_back (without_front s)

-- the answer for a word, if it is the hex of a list
abbrev pub IsWordAnswer : Option (List ℕ) → Answer → Type 0
IsWordAnswer (Some s) answer = IsListAnswer s answer
IsWordAnswer None answer = answer ≡ Err (refusal not_hex)

-- the answer for two words
abbrev pub IsWordsAnswer : Question → Option (List ℕ) → Option (List ℕ) → Answer → Type 0
IsWordsAnswer q (Some a) (Some b) answer = IsPairAnswer q a b answer
IsWordsAnswer q (Some a) None answer = answer ≡ Err (refusal (codes "second list: " ++ not_hex))
IsWordsAnswer q None second answer = answer ≡ Err (refusal (codes "first list: " ++ not_hex))

-- the answer for a line whose first space is at an index: the words are before and after it
abbrev pub IsPairLine : Question → List ℕ → Option ℕ → Answer → Type 0
IsPairLine q line (Some at) answer =
    IsWordsAnswer q (bytes_of (take at line)) (bytes_of (without_front (drop at line))) answer
IsPairLine q line None answer = answer ≡ Err (refusal one_word)

-- what an input asks of two lists
abbrev pub question_of : Input → Question
question_of input.Unmet = question.Met
question_of _ = question.Equal

-- whether each line is one list
abbrev pub has_single_lists : Input → Bool
has_single_lists input.Lists = true
has_single_lists _ = false

-- the answer for a line that is not empty: that of one list, or that of two
abbrev pub IsListOrPair : Bool → Input → List ℕ → Answer → Type 0
IsListOrPair true what line answer = IsWordAnswer (bytes_of line) answer
IsListOrPair false what line answer =
    (space : Option ℕ)
    × IsFirstByte (is_byte 32) line space
    × IsPairLine (question_of what) line space answer

abbrev pub IsLineAnswer : Input → List ℕ → Answer → Type 0
IsLineAnswer what line answer = IsListOrPair (has_single_lists what) what line answer

-- a line of white space alone has no answer
abbrev pub AreLineAnswers : Input → List ℕ → List Answer → Type 0
AreLineAnswers what [] answers = answers ≡ []
AreLineAnswers what (b ∷ line) answers =
    (answer : Answer) × IsLineAnswer what (b ∷ line) answer × (answers ≡ answer ∷ [])

-- ---- messages

-- the time of a packet: seconds and nanoseconds
abbrev pub Time : Type 0
Time = Option (ℕ × ℕ)

-- the value that is printed for a link
abbrev pub link_data : Time → Link → Option Data → Data
link_data time link list =
    message_data link.event link.flags link.index link.name list (option_map time_text time)

-- the answer for a link, whose contents of IFLA_LINKINFO are at an offset from `place`
abbrev pub IsContentsAnswer : ℕ → Time → Link → Option (ℕ × List ℕ) → Answer → Type 0
IsContentsAnswer place time link None answer =
    answer ≡ Ok (printed.Message, link_data time link None)
IsContentsAnswer place time link (Some info) (Ok value) =
    IsOk (reading bytes_layer info.1)
    × (value ≡ (printed.Message, link_data time link (Some (list_data info.1))))
IsContentsAnswer place time link (Some info) (Err refused) =
    IsListSentence info.1 (list_of_link link.index (offset_after place info.0)) refused

abbrev pub IsLinkAnswer : ℕ → Time → Result Link MessageError → Answer → Type 0
IsLinkAnswer place time (Ok link) answer = IsContentsAnswer place time link link.info answer
IsLinkAnswer place time (Err error) answer =
    answer ≡ Err (breaking (message_error_text (message_error_from place error)))

-- an answer for each link
abbrev pub AreLinkAnswers : ℕ → Time → List (Result Link MessageError) → List Answer → Type 0
AreLinkAnswers place time [] answers = answers ≡ []
AreLinkAnswers place time (link ∷ links) answers =
    (first : Answer)
    × (others : List Answer)
    × IsLinkAnswer place time link first
    × AreLinkAnswers place time links others
    × (answers ≡ first ∷ others)

-- the answers for netlink messages that begin at an offset of the input
abbrev pub AreMessageAnswers : ℕ → Time → List ℕ → List Answer → Type 0
AreMessageAnswers place time s answers =
    AreLinkAnswers place time (links_of (messages 0 s)) answers

-- ---- packets

-- the answers for the messages of a packet, if it has some; they follow its header after 32 bytes
abbrev pub ArePacketAnswers : ℕ → RecordParts → Result (Option (List ℕ)) CaptureError →
    List Answer → Type 0
ArePacketAnswers place r (Ok (Some s)) answers =
    AreMessageAnswers (offset_after (offset_after place r.place) 32)
    (Some (r.seconds, r.nanoseconds)) s answers
ArePacketAnswers place r (Ok None) answers = answers ≡ []
ArePacketAnswers place r (Err error) answers =
    answers ≡ Err (refusal (capture_error_text (capture_error_from place error))) ∷ []

abbrev pub AreRecordAnswers : ℕ → Result RecordParts CaptureError → List Answer → Type 0
AreRecordAnswers place (Ok r) answers = ArePacketAnswers place r (netlink_of r) answers
AreRecordAnswers place (Err error) answers =
    answers ≡ Err (refusal (capture_error_text (capture_error_from place error))) ∷ []

-- the answers for records that begin at an offset of the input
abbrev pub AreRecordsAnswers : ℕ → List (Result RecordParts CaptureError) → List Answer → Type 0
AreRecordsAnswers place [] answers = answers ≡ []
AreRecordsAnswers place (r ∷ records) answers =
    (front back : List Answer)
    × AreRecordAnswers place r front
    × AreRecordsAnswers place records back
    × (answers ≡ front ++ back)

-- ---- any of them

-- the answers before they are numbered
abbrev pub AreAnswersOf : Input → ℕ → Piece → List Answer → Type 0
AreAnswersOf what place (Line s) answers = AreLineAnswers what (trimmed s) answers
AreAnswersOf what place (Message s) answers = AreMessageAnswers place None s answers
AreAnswersOf what place (BadMessage error) answers =
    answers ≡ Err (breaking (message_error_text (message_error_from place error))) ∷ []
AreAnswersOf what place (Record format s) answers =
    AreRecordsAnswers place (records format 0 s) answers
AreAnswersOf what place (BadFile error) answers =
    answers ≡ Err (refusal (capture_error_text error)) ∷ []
AreAnswersOf what place TooLong answers = answers ≡ Err (refusal (long_text what place)) ∷ []

-- an answer about the line, message or packet with a number: errors have the number
abbrev pub with_number : Input → ℕ → Answer → Answer
with_number what number (Ok value) = Ok value
with_number what number (Err refused) =
    Err (record refused { sentence = numbered what number refused.sentence })

-- these are such answers, with a number
abbrev pub AreNumbered : Input → ℕ → (List Answer → Type 0) → List Answer → Type 0
AreNumbered what number Are answers =
    (plain_answers : List Answer)
    × Are plain_answers
    × (answers ≡ map (with_number what number) plain_answers)

-- the answers for a line, message or packet of an input; the header of a file has no number
abbrev pub AreAnswersIn : Input → ℕ → ℕ → Piece → List Answer → Type 0
AreAnswersIn what number place (BadFile error) answers =
    AreAnswersOf what place (BadFile error) answers
AreAnswersIn what number place piece answers =
    AreNumbered what number (AreAnswersOf what place piece) answers

abbrev pub AreAnswers : Input → Portion → List Answer → Type 0
AreAnswers what portion answers =
    AreAnswersIn what portion.number portion.place portion.piece answers

-- a stream of messages ends at an error of a message
abbrev pub ends_at_error : Input → Bool
ends_at_error input.Messages = true
ends_at_error _ = false

abbrev pub ends_input : Input → List Answer → Bool
ends_input what answers = ends_at_error what && not (all_go_on answers)

-- ---- the printer

-- nothing more is cut off after answers that end the input
abbrev pub cutter_after : Input → List Answer → Cutter → Cutter
cutter_after what answers cutter =
    if ends_input what answers then record cutter { ended = true } else cutter

-- one call prints answers
pub record Prints (p : Printer) (answers : List Answer) (q : Printer) : Type 0 where
  pub report : Adds p.report answers q.report
  pub cutter : q.cutter ≡ cutter_after p.options.input answers p.cutter
  pub options : q.options ≡ p.options

-- one call prints answers of which something holds
abbrev pub PrintsSuch : Printer → (List Answer → Type 0) → Printer → Type 0
PrintsSuch p Are q = (answers : List Answer) × Are answers × Prints p answers q
