-- The sentences of errors.
use Rattle.std.specs.Prelude.{ℕ, ◌+◌, ◌-◌, ◌^◌, min, ℤ, List, ◌++◌, codes}
use Rattle.std.specs.Fmt.{decimal, signed_decimal}
use Rattle.nla_frame.specs.Error.{error_text}
use Rattle.nla_frame.specs.declared.error.DecodeError.{DecodeError}
use Rattle.linkinfo_messages.specs.declared.capture_error.CaptureError.{CaptureError}
use Rattle.linkinfo_messages.specs.declared.error.MessageCause.{MessageCause}
use Rattle.linkinfo_messages.specs.declared.error.MessageCause.TheVariants as cause
use Rattle.linkinfo_messages.specs.declared.error.MessageError.{MessageError}
use Rattle.linkinfo_names.specs.Explanation.{explanation}
use Rattle.linkinfo_print.specs.declared.options.Input.{Input}
use Rattle.linkinfo_print.specs.declared.options.Input.TheVariants as input

-- what has a number in an input
abbrev pub unit_word : Input → List ℕ
unit_word input.Lists = codes "line"
unit_word input.Differences = codes "line"
unit_word input.Unmet = codes "line"
unit_word input.Messages = codes "message"
unit_word input.Capture = codes "packet"

-- a sentence about the line, message or packet with this number
abbrev pub numbered : Input → ℕ → List ℕ → List ℕ
numbered what number sentence =
    unit_word what ++ codes " " ++ decimal number ++ codes ": " ++ sentence

-- the sum of offsets, which are below 2 ^ 64
abbrev pub offset_after : ℕ → ℕ → ℕ
offset_after place at = min (place + at) (2 ^ 64 - 1)

-- the error of a list: in the kernel's names with its offset, then family, type and cause
abbrev pub list_error_text : DecodeError → ℕ → List ℕ
list_error_text error at =
    explanation error at ++ codes " (" ++ error_text error ++ codes ")"

-- a word that is no list
abbrev pub not_hex : List ℕ
not_hex = codes "a list is an even number of hex digits, or '-' for no attributes"

abbrev pub one_word : List ℕ
one_word = codes "two lists are needed, with a space between them"

-- what has too many bytes, which begins at an offset
abbrev pub long_text : Input → ℕ → List ℕ
long_text input.Lists place = codes "it is longer than 1048576 bytes"
long_text input.Differences place = codes "it is longer than 1048576 bytes"
long_text input.Unmet place = codes "it is longer than 1048576 bytes"
long_text input.Messages place =
    codes "message at offset " ++ decimal place ++ codes ": it is longer than 1048576 bytes"
long_text input.Capture place =
    codes "record at offset " ++ decimal place ++ codes ": it is longer than 1048576 bytes"

-- which list it is that has an error: that of a link, in a message
abbrev pub list_of_link : ℤ → ℕ → List ℕ
list_of_link index place =
    codes "interface "
    ++ (signed_decimal index
    ++ (codes ": IFLA_LINKINFO at offset " ++ (decimal place ++ codes ": ")))

-- an error of bytes that begin at an offset of the input
abbrev pub cause_from : ℕ → MessageCause → MessageCause
cause_from place (cause.Attribute at) = cause.Attribute (offset_after place at)
cause_from place other = other

abbrev pub message_error_from : ℕ → MessageError → MessageError
message_error_from place error =
    record { place = offset_after place error.place; cause = cause_from place error.cause }

abbrev pub capture_error_from : ℕ → CaptureError → CaptureError
capture_error_from place error =
    record { place = offset_after place error.place; cause = error.cause }
