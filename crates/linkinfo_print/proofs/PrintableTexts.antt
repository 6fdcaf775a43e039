-- What is printed of data whose texts are printable is plain.
use Rattle.std.proofs.Common.{
  ◌≡◌,
  ℕ,
  ◌/◌,
  ◌%◌,
  ◌<◌,
  ◌&&◌,
  ◌||◌,
  Bool,
  true,
  false,
  bytes_eq,
  cond,
  eqb,
  leb,
  ltb,
  List,
  [],
  ◌∷◌,
  ◌++◌,
  Option,
  Some,
  None,
  Ordering,
  Less,
  Equal,
  Greater,
  codes,
  map,
  nat_cmp,
  refl,
  ap,
  ◌∙◌,
  arith,
}
use Rattle.std.proofs.lemmas.Bool.{and_parts, ltb-true}
use Rattle.std.proofs.lemmas.List.Elements.{recursion_from_All}
use Rattle.std.specs.Char.{digit_char}
use Rattle.std.specs.Cmp.Lexicographic.{slice_cmp}
use Rattle.std.specs.List.{AllByRecursion, AllPass, flat_map, list_all}
use Rattle.std.specs.Option.{IfSome}
use Rattle.std.specs.Ordering.{match_ordering}
use Rattle.json.specs.Print.{escape_byte, escape_letter, quoted}
use Rattle.serde_json.specs.Data.{
  Data,
  Items,
  Members,
  Num,
  array,
  boolean,
  float,
  item,
  member,
  negative,
  no_items,
  no_members,
  null,
  number,
  object,
  string,
  unsigned,
}
use Rattle.serde_json.specs.Find.{get, get_member}
use Rattle.serde_json.specs.Written.{
  comma_if,
  compact_text,
  items_text as compact_items,
  members_text as compact_members,
  number_text,
}
use Rattle.linkinfo_view.specs.Printable.{IsPrintable, ItemsArePrintable, MembersArePrintable}
use Rattle.linkinfo_view.specs.Text.{digit, is_printable}
use Rattle.linkinfo_view.proofs.Printable.{
  Printable,
  decimal_printable,
  digit_printable,
  signed_printable,
}
use Rattle.linkinfo_print.specs.Answers.{answer_text, text_of}
use Rattle.linkinfo_print.specs.Laws.{PrintsUnchanged}
use Rattle.linkinfo_print.specs.Plain.{is_plain, plain, plain_byte}
use Rattle.linkinfo_print.specs.Text.{
  after_key,
  boolean_text,
  data_lines,
  data_lines_if,
  deleted_text,
  field_text,
  flags_text,
  heading_text,
  info_text,
  inline_text,
  items_text,
  joined,
  line_if,
  line_text,
  list_text,
  member_lines,
  members_text,
  message_text,
  other_line,
  other_lines,
  others_if,
  others_or_line,
  pair_text,
  string_text,
  text_or,
  time_text,
}
use Rattle.linkinfo_print.specs.declared.report.Printed.{Printed}
use Rattle.linkinfo_print.specs.declared.report.Printed.TheVariants as printed

-- ---- plain texts

abbrev Plain : List ℕ → Type 0
Plain s = AllByRecursion (λ (b : ℕ). is_plain b ≡ true) s

or_first : (a b : Bool) → a ≡ true → (a || b) ≡ true
or_first true b h = refl
or_first false b h = absurd (cc)

plain_if_printable : (c : ℕ) → is_printable c ≡ true → is_plain c ≡ true
plain_if_printable c h = or_first (leb 32 c && leb c 126) (eqb c 10) h

all_plain : (s : List ℕ) → Printable s → Plain s
all_plain [] h = tt
all_plain (c ∷ s) h = (plain_if_printable c h.0, all_plain s h.1)

from_passes : (s : List ℕ) → AllPass is_printable s → Plain s
from_passes s h = all_plain s (recursion_from_All _ s h)

-- a text that is known, by computing
known : (s : List ℕ) → list_all is_plain s ≡ true → Plain s
known [] h = tt
known (c ∷ s) h =
    let parts = and_parts (is_plain c) (list_all is_plain s) h in (parts.0, known s parts.1)

both : (xs ys : List ℕ) → Plain xs → Plain ys → Plain (xs ++ ys)
both [] ys h g = g
both (x ∷ xs) ys h g = (h.0, both xs ys h.1 g)

either : (b : Bool) (xs ys : List ℕ) → Plain xs → Plain ys → Plain (cond b xs ys)
either true xs ys h g = h
either false xs ys h g = g

-- ---- JSON

-- the letter of an escape, if there is one
abbrev Letter : ℕ → Type 0
Letter n = ltb 0 n ≡ true → is_plain n ≡ true

either_letter : (b : Bool) (n m : ℕ) → Letter n → Letter m → Letter (cond b n m)
either_letter true n m h g = h
either_letter false n m h g = g

letter_plain : (x : ℕ) → is_plain x ≡ true → Letter (escape_letter x)
letter_plain x h =
    either_letter (eqb x 34 || eqb x 92) x _ (λ e. h)
    (either_letter (eqb x 8) 98 _ (λ e. refl)
    (either_letter (eqb x 12) 102 _ (λ e. refl)
    (either_letter (eqb x 10) 110 _ (λ e. refl)
    (either_letter (eqb x 13) 114 _ (λ e. refl)
    (either_letter (eqb x 9) 116 0 (λ e. refl) (λ e. absurd (cc)))))))

digit_plain : (n : ℕ) → n < 16 → is_plain (digit n) ≡ true
digit_plain n small = plain_if_printable (digit n) (digit_printable n small)

byte_plain : (x : ℕ) → is_plain x ≡ true → Plain (escape_byte x)
unfolding escape_byte
byte_plain x h = escaped (ltb 0 (escape_letter x)) refl
  where
    control : (t : Bool) → ltb x 32 ≡ t →
        Plain (cond t (92 ∷ 117 ∷ 48 ∷ 48 ∷ digit_char (x / 16) ∷ digit_char (x % 16) ∷ [])
        (x ∷ []))
    control true e =
        let below = ltb-true x 32 e in (
          refl,
          (
            refl,
            (
              refl,
              (
                refl,
                (
                  digit_plain (x / 16) (omega arith),
                  (digit_plain (x % 16) (omega arith), tt),
                ),
              ),
            ),
          ),
        )
    control false e = (h, tt)

    escaped : (t : Bool) → ltb 0 (escape_letter x) ≡ t →
        Plain (cond t (92 ∷ escape_letter x ∷ [])
        (cond (ltb x 32) (92 ∷ 117 ∷ 48 ∷ 48 ∷ digit_char (x / 16) ∷ digit_char (x % 16) ∷ [])
        (x ∷ [])))
    escaped true e = (refl, (letter_plain x h e, tt))
    escaped false e = control (ltb x 32) refl

escape_plain : (s : List ℕ) → Plain s → Plain (flat_map escape_byte s)
escape_plain [] h = tt
escape_plain (x ∷ s) h = both (escape_byte x) _ (byte_plain x h.0) (escape_plain s h.1)

quoted_plain : (s : List ℕ) → AllPass is_printable s → Plain (quoted s)
quoted_plain s h =
    (refl, both (flat_map escape_byte s) (34 ∷ []) (escape_plain s (from_passes s h)) (refl, tt))

number_plain : (n : Num) → Plain (number_text n)
number_plain (unsigned n) = all_plain _ (decimal_printable n)
number_plain (negative z) = all_plain _ (signed_printable z)
number_plain (float x) = tt

comma_plain : (later : Bool) → Plain (comma_if later)
comma_plain true = (refl, tt)
comma_plain false = tt

mutual
  compact_plain : (d : Data) → IsPrintable d → Plain (compact_text d)
  compact_plain null h = known (compact_text null) refl
  compact_plain (boolean true) h = known (compact_text (boolean true)) refl
  compact_plain (boolean false) h = known (compact_text (boolean false)) refl
  compact_plain (number n) h = number_plain n
  compact_plain (string s) h = quoted_plain s h
  compact_plain (array ds) h = (refl, compact_items_plain false ds h)
  compact_plain (object ms) h = (refl, compact_members_plain false ms h)

  compact_items_plain : (later : Bool) (ds : Items) → ItemsArePrintable ds →
      Plain (compact_items later ds)
  compact_items_plain later no_items h = (refl, tt)
  compact_items_plain later (item d ds) h =
      both (comma_if later) _ (comma_plain later)
      (both (compact_text d) _ (compact_plain d h.0) (compact_items_plain true ds h.1))

  compact_members_plain : (later : Bool) (ms : Members) → MembersArePrintable ms →
      Plain (compact_members later ms)
  compact_members_plain later no_members h = (refl, tt)
  compact_members_plain later (member k d ms) h =
      both (comma_if later) _ (comma_plain later)
      (both (quoted k) _ (quoted_plain k h.0)
      (refl, both (compact_text d) _ (compact_plain d h.1) (compact_members_plain true ms h.2)))

-- ---- text within a line

string_plain : (s : List ℕ) → AllPass is_printable s → Plain (string_text s)
string_plain [] h = known (codes "\"\"") refl
string_plain (b ∷ s) h = from_passes (b ∷ s) h

boolean_plain : (b : Bool) → Plain (boolean_text b)
boolean_plain true = known (codes "true") refl
boolean_plain false = known (codes "false") refl

mutual
  inline_plain : (d : Data) → IsPrintable d → Plain (inline_text d)
  inline_plain null h = known (codes "null") refl
  inline_plain (boolean b) h = boolean_plain b
  inline_plain (number n) h = number_plain n
  inline_plain (string s) h = string_plain s h
  inline_plain (array ds) h =
      (refl, both (items_text ds) (codes " ]") (items_plain ds h) (known (codes " ]") refl))
  inline_plain (object ms) h =
      (refl, both (members_text ms) (codes " }") (members_plain ms h) (known (codes " }") refl))

  items_plain : (ds : Items) → ItemsArePrintable ds → Plain (items_text ds)
  items_plain no_items h = tt
  items_plain (item d ds) h =
      (refl, both (inline_text d) (items_text ds) (inline_plain d h.0) (items_plain ds h.1))

  members_plain : (ms : Members) → MembersArePrintable ms → Plain (members_text ms)
  members_plain no_members h = tt
  members_plain (member k d ms) h = (
    refl,
    both k _ (from_passes k h.0)
        (refl, both (inline_text d) (members_text ms) (inline_plain d h.1) (members_plain ms h.2)),
  )

-- ---- lines

abbrev Maybe : Option Data → Type 0
Maybe o = IfSome o IsPrintable

found_or : (o : Ordering) (d : Data) (r : Option Data) → IsPrintable d → Maybe r →
    Maybe (match_ordering o r (Some d) r)
found_or Less d r h g = g
found_or Equal d r h g = h
found_or Greater d r h g = g

member_found : (k : List ℕ) (ms : Members) → MembersArePrintable ms → Maybe (get_member k ms)
member_found k no_members h = tt
member_found k (member l d ms) h =
    found_or (slice_cmp nat_cmp k l) d (get_member k ms) h.1 (member_found k ms h.2)

found : (k : List ℕ) (d : Data) → IsPrintable d → Maybe (get k d)
found k (object ms) h = member_found k ms h
found k _ h = tt

after_key_plain : (d : Data) → IsPrintable d → Plain (after_key d)
after_key_plain null h = tt
after_key_plain (array ds) h = items_plain ds h
after_key_plain (object ms) h = members_plain ms h
after_key_plain d h = (refl, inline_plain d h)

line_plain : (indent key : List ℕ) (d : Data) → Plain indent → Plain key → IsPrintable d →
    Plain (line_text indent key d)
line_plain indent key d i k h =
    both indent _ i (both key _ k
    (both (after_key d) (codes "\n") (after_key_plain d h) (known (codes "\n") refl)))

line_if_plain : (indent key : List ℕ) (o : Option Data) → Plain indent → Plain key → Maybe o →
    Plain (line_if indent key o)
line_if_plain indent key None i k h = tt
line_if_plain indent key (Some d) i k h = line_plain indent key d i k h

field_plain : (key : List ℕ) (o : Option Data) → Plain key → Maybe o → Plain (field_text key o)
field_plain key None k h = tt
field_plain key (Some d) k h = both key _ k (refl, inline_plain d h)

other_plain : (indent : List ℕ) (d : Data) → Plain indent → IsPrintable d →
    Plain (other_line indent d)
other_plain indent d i h =
    both indent _ i
    (both (field_text (codes "type") (get (codes "type") d)) _
    (field_plain (codes "type") (get (codes "type") d) (known (codes "type") refl)
    (found (codes "type") d h))
    (both (field_text (codes " name") (get (codes "name") d)) _
    (field_plain (codes " name") (get (codes "name") d) (known (codes " name") refl)
    (found (codes "name") d h))
    (both (field_text (codes " hex") (get (codes "hex") d)) (codes "\n")
    (field_plain (codes " hex") (get (codes "hex") d) (known (codes " hex") refl)
    (found (codes "hex") d h)) (known (codes "\n") refl))))

others_plain : (indent : List ℕ) (ds : Items) → Plain indent → ItemsArePrintable ds →
    Plain (other_lines indent ds)
others_plain indent no_items i h = tt
others_plain indent (item d ds) i h =
    both (other_line indent d) _ (other_plain indent d i h.0) (others_plain indent ds i h.1)

others_or_line_plain : (indent key : List ℕ) (d : Data) → Plain indent → Plain key →
    IsPrintable d → Plain (others_or_line indent key d)
others_or_line_plain indent key (array ds) i k h =
    either (bytes_eq key (codes "others")) (other_lines indent ds)
    (line_text indent key (array ds)) (others_plain indent ds i h)
    (line_plain indent key (array ds) i k h)
others_or_line_plain indent key d i k h = line_plain indent key d i k h

member_lines_plain : (indent : List ℕ) (ms : Members) → Plain indent → MembersArePrintable ms →
    Plain (member_lines indent ms)
member_lines_plain indent no_members i h = tt
member_lines_plain indent (member k d ms) i h =
    both (others_or_line indent k d) _
    (others_or_line_plain indent k d i (from_passes k h.0) h.1)
    (member_lines_plain indent ms i h.2)

data_plain : (indent : List ℕ) (d : Data) → Plain indent → IsPrintable d →
    Plain (data_lines indent d)
data_plain indent (object ms) i h = member_lines_plain indent ms i h
data_plain indent d i h = line_plain indent (codes "data") d i (known (codes "data") refl) h

data_if_plain : (indent : List ℕ) (o : Option Data) → Plain indent → Maybe o →
    Plain (data_lines_if indent o)
data_if_plain indent None i h = tt
data_if_plain indent (Some d) i h = data_plain indent d i h

-- ---- lists, messages and pairs

text_or_plain : (absent : List ℕ) (o : Option Data) → Plain absent → Maybe o →
    Plain (text_or absent o)
text_or_plain absent None a h = a
text_or_plain absent (Some d) a h = inline_plain d h

others_if_plain : (indent : List ℕ) (o : Option Data) → Plain indent → Maybe o →
    Plain (others_if indent o)
others_if_plain indent None i h = tt
others_if_plain indent (Some d) i h =
    others_or_line_plain indent (codes "others") d i (known (codes "others") refl) h

list_plain : (d : Data) → IsPrintable d → Plain (list_text d)
list_plain d h =
    let indent = known (codes "    ") refl in
    both (text_or (codes "-") (get (codes "info_kind") d)) _
    (text_or_plain (codes "-") (get (codes "info_kind") d) (known (codes "-") refl)
    (found (codes "info_kind") d h)) (
      refl,
      both (data_lines_if (codes "    ") (get (codes "info_data") d)) _
          (data_if_plain (codes "    ") (get (codes "info_data") d) indent
          (found (codes "info_data") d h))
          (both (line_if (codes "    ") (codes "port of") (get (codes "info_slave_kind") d)) _
          (line_if_plain (codes "    ") (codes "port of") (get (codes "info_slave_kind") d) indent
          (known (codes "port of") refl) (found (codes "info_slave_kind") d h))
          (both (data_lines_if (codes "        ") (get (codes "info_slave_data") d)) _
          (data_if_plain (codes "        ") (get (codes "info_slave_data") d)
          (known (codes "        ") refl) (found (codes "info_slave_data") d h))
          (both (line_if (codes "    ") (codes "statistics") (get (codes "info_xstats") d)) _
          (line_if_plain (codes "    ") (codes "statistics") (get (codes "info_xstats") d) indent
          (known (codes "statistics") refl) (found (codes "info_xstats") d h))
          (others_if_plain (codes "    ") (get (codes "others") d) indent
          (found (codes "others") d h))))),
    )

joined_plain : (later : Bool) (ds : Items) → ItemsArePrintable ds → Plain (joined later ds)
joined_plain later no_items h = tt
joined_plain later (item d ds) h =
    both (cond later (codes ",") []) _ (either later (codes ",") [] (known (codes ",") refl) tt)
    (both (inline_text d) _ (inline_plain d h.0) (joined_plain true ds h.1))

flags_plain : (o : Option Data) → Maybe o → Plain (flags_text o)
flags_plain (Some (array ds)) h = joined_plain false ds h
flags_plain _ h = tt

deleted_plain : (o : Option Data) → Plain (deleted_text o)
deleted_plain (Some (boolean true)) = known (codes "Deleted ") refl
deleted_plain _ = tt

time_plain : (o : Option Data) → Maybe o → Plain (time_text o)
time_plain None h = tt
time_plain (Some d) h = both (inline_text d) (codes " ") (inline_plain d h) (known (codes " ") refl)

info_plain : (o : Option Data) → Maybe o → Plain (info_text o)
info_plain None h = known (codes "\n") refl
info_plain (Some d) h = both (codes ": ") (list_text d) (known (codes ": ") refl) (list_plain d h)

heading_plain : (d : Data) → IsPrintable d → Plain (heading_text d)
heading_plain d h =
    both (time_text (get (codes "time") d)) _
    (time_plain (get (codes "time") d) (found (codes "time") d h))
    (both (deleted_text (get (codes "deleted") d)) _ (deleted_plain (get (codes "deleted") d))
    (both (text_or (codes "?") (get (codes "ifindex") d)) _
    (text_or_plain (codes "?") (get (codes "ifindex") d) (known (codes "?") refl)
    (found (codes "ifindex") d h))
    (both (codes ": ") (text_or (codes "?") (get (codes "ifname") d)) (known (codes ": ") refl)
    (text_or_plain (codes "?") (get (codes "ifname") d) (known (codes "?") refl)
    (found (codes "ifname") d h)))))

message_plain : (d : Data) → IsPrintable d → Plain (message_text d)
message_plain d h =
    both (heading_text d) _ (heading_plain d h) (
      refl,
      (
        refl,
        both (flags_text (get (codes "flags") d)) _
            (flags_plain (get (codes "flags") d) (found (codes "flags") d h))
            (refl, info_plain (get (codes "linkinfo") d) (found (codes "linkinfo") d h)),
      ),
    )

pair_plain : (d : Data) → IsPrintable d → Plain (pair_text d)
pair_plain (object ms) h = member_lines_plain [] ms tt h
pair_plain d h = inline_plain d h

-- ---- what is printed

text_plain : (what : Printed) (d : Data) → IsPrintable d → Plain (text_of what d)
text_plain printed.List d h = list_plain d h
text_plain printed.Pair d h = pair_plain d h
text_plain printed.Message d h = message_plain d h

answer_plain : (json : Bool) (what : Printed) (d : Data) → IsPrintable d →
    Plain (answer_text json what d)
answer_plain true what d h = both (compact_text d) (10 ∷ []) (compact_plain d h) (refl, tt)
answer_plain false what d h = text_plain what d h

plain_same : (s : List ℕ) → Plain s → plain s ≡ s
plain_same [] h = refl
plain_same (b ∷ s) h =
    ap (λ (t : Bool). cond t b 63 ∷ map plain_byte s) h.0
    ∙ ap (λ (xs : List ℕ). b ∷ xs) (plain_same s h.1)

pub prints_unchanged : (what : Printed) (d : Data) → IsPrintable d → PrintsUnchanged what d
prints_unchanged what d h = λ json.
    plain_same (answer_text json what d) (answer_plain json what d h)
