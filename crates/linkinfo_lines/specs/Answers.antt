-- The output of the program.
use Rattle.std.specs.Prelude.{
  ◌≡◌,
  ℕ,
  ◌==◌,
  ◌^◌,
  ◌&&◌,
  nat_le,
  nat_lt,
  Bool,
  true,
  false,
  if◌then◌else◌,
  List,
  [],
  ◌∷◌,
  ◌++◌,
  length,
  map,
  flat_map,
  codes,
  bytes_eq,
  Option,
  Some,
  None,
  Result,
  Ok,
  Err,
}
use Rattle.std.specs.List.{list_all}
use Rattle.std.specs.Result.{result_ok}
use Rattle.hex.specs.Hex.{decode_of, encode_lower}
use Rattle.nla_frame.specs.Answers.{verdict}
use Rattle.nla_frame.specs.Attribute.{Attribute, list_string}
use Rattle.nla_frame.specs.Error.{error_text}
use Rattle.nla_frame.specs.declared.error.DecodeError.{DecodeError}
use Rattle.linkinfo_data.specs.BytesLayer.{bytes_layer}
use Rattle.linkinfo.specs.Comparing.{same_answer}
use Rattle.linkinfo.specs.Items.{link_attribute}
use Rattle.linkinfo.specs.Strings.{reading, alike_strings}
use Rattle.linkinfo.specs.Layered.{Links}
use Rattle.linkinfo_lines.specs.Lines.{lines_of, words_of}

-- ---- bytes as hex

-- the bytes of an operand: none for `-`, otherwise those of an even number of hex digits, at least
-- two, of either case
abbrev pub bytes_of : List ℕ → Option (List ℕ)
bytes_of word =
    if bytes_eq word (codes "-") then Some []
    else if length word == 0 then None
    else result_ok (decode_of word)

-- the operand of these bytes, with lower case digits
abbrev pub word_of : List ℕ → List ℕ
word_of [] = codes "-"
word_of (byte ∷ bytes) = encode_lower (byte ∷ bytes)

-- ---- results, without their line feed

abbrev pub bad_line : List ℕ
bad_line = codes "bad line"

abbrev pub error_answer : DecodeError → List ℕ
error_answer error = codes "err " ++ error_text error

-- whether the list is accepted
abbrev pub check_text : Result (Unit {0}) DecodeError → List ℕ
check_text (Ok accepted) = codes "ok"
check_text (Err error) = error_answer error

-- each payload has at most 65531 bytes, and the length of the list's encoding is a usize
abbrev pub list_fits : List Attribute → Bool
list_fits attributes =
    list_all (λ a. nat_le (length a.value) 65531) attributes
    && nat_lt (length (list_string attributes)) (2 ^ 64)

-- the canonical encoding of the attributes, if they fit
abbrev pub canonical_text : List Attribute → List ℕ
canonical_text attributes = if list_fits attributes then word_of (list_string attributes)
    else codes "unfit"

abbrev pub canon_text : Result (Links bytes_layer) DecodeError → List ℕ
canon_text (Ok items) = canonical_text (map (link_attribute bytes_layer) items)
canon_text (Err error) = error_answer error

abbrev pub same_text : Result Bool DecodeError → List ℕ
same_text (Ok true) = codes "true"
same_text (Ok false) = codes "false"
same_text (Err error) = error_answer error

-- the result for the bytes of an operand, if it is valid
abbrev pub about : Option (List ℕ) → (List ℕ → List ℕ) → List ℕ
about (Some bytes) text = text bytes
about None text = bad_line

abbrev pub check_answer : List ℕ → List ℕ
check_answer word = about (bytes_of word) (λ s. check_text (verdict (reading bytes_layer s)))

abbrev pub canon_answer : List ℕ → List ℕ
canon_answer word = about (bytes_of word) (λ s. canon_text (reading bytes_layer s))

abbrev pub comparison_answer : List ℕ → List ℕ → List ℕ
comparison_answer first second =
    about (bytes_of first) (λ a.
    about (bytes_of second) (λ b.
    same_text
    (same_answer (reading bytes_layer a) (reading bytes_layer b) (alike_strings bytes_layer a b))))

-- ---- lines

-- the result of a command of one operand, or of two
abbrev pub on_one : (List ℕ → List ℕ) → List (List ℕ) → List ℕ
on_one answer (word ∷ []) = answer word
on_one answer words = bad_line

abbrev pub on_two : (List ℕ → List ℕ → List ℕ) → List (List ℕ) → List ℕ
on_two answer (first ∷ second ∷ []) = answer first second
on_two answer words = bad_line

-- the result line for these words
abbrev pub words_answer : List (List ℕ) → List ℕ
words_answer [] = bad_line
words_answer (verb ∷ operands) =
    if bytes_eq verb (codes "check") then on_one check_answer operands
    else if bytes_eq verb (codes "canon") then on_one canon_answer operands
    else if bytes_eq verb (codes "same") then on_two comparison_answer operands
    else bad_line

-- the result line for a line, with its line feed
abbrev pub line_answer : List ℕ → List ℕ
line_answer line = words_answer (words_of line) ++ 10 ∷ []

-- the output for an input: the result lines for its lines, one after another
abbrev pub answer_of : List ℕ → List ℕ
answer_of input = flat_map line_answer (lines_of input)

-- The text is the output for the input but for its last line, which has not ended. Whatever follows
-- the input, the output is the text, and then the output for that line with what follows.
abbrev pub Answered : List ℕ → List ℕ → List ℕ → Type 0
Answered input text line =
    (more : List ℕ) → answer_of (input ++ more) ≡ text ++ answer_of (line ++ more)
