-- A stream is cut after an item: the parts have the items of the whole.
use Rattle.std.proofs.Common.{
  ◌≡◌,
  ℕ,
  ◌+◌,
  ◌-◌,
  ◌≤◌,
  ◌<◌,
  cond,
  ltb,
  List,
  [],
  ◌∷◌,
  ◌++◌,
  length,
  take,
  drop,
  refl,
  sym,
  ap,
  ◌∙◌,
  arith,
  Option,
  Some,
  None,
  Result,
  Ok,
  Err,
}
use Rattle.std.specs.Prelude.{slice_index, slice_range}
use Rattle.std.proofs.lemmas.Bool.{ltb-false, le-ltb}
use Rattle.std.proofs.lemmas.List.{
  get_or-take,
  take-take,
  take-append-le,
  drop-append-le,
  drop-take,
  drop_all,
  length-take,
  length-append,
}
use Rattle.nla_frame.specs.Attribute.{aligned}
use Rattle.linkinfo_messages.specs.declared.capture.CaptureFormat.{CaptureFormat}
use Rattle.linkinfo_messages.specs.declared.error.MessageError.{MessageError}
use Rattle.linkinfo_messages.specs.declared.error.MessageCause.TheVariants.{Short}
use Rattle.linkinfo_messages.specs.Integers.{le16, le32, be16, be32}
use Rattle.linkinfo_messages.specs.Reading.{Reader, items, followed, joined}
use Rattle.linkinfo_messages.specs.Messages.{
  Message,
  message_error,
  length_of,
  message_at,
  message_in,
  message_len,
  messages,
}
use Rattle.linkinfo_messages.specs.Links.{Link, link_of, links_before, links_of}
use Rattle.linkinfo_messages.specs.Captures.{
  RecordParts,
  captured_len,
  nanoseconds_of,
  number,
  record_at,
  record_len,
  records,
}
use Rattle.linkinfo_messages.proofs.Items.{TakesSome, items_first, items_nil, of_choice}
use Rattle.linkinfo_messages.proofs.Linking.{takes_some}
use Rattle.linkinfo_messages.proofs.Capturing.{record_takes_some}
use Rattle.linkinfo_messages.proofs.Writing.{reads}

-- ---- byte strings with the same first bytes

same_byte : (n : ℕ) (u s : List ℕ) (at : ℕ) → take n u ≡ take n s → at < n →
    slice_index u at ≡ slice_index s at
same_byte n u s at same below =
    sym (get_or-take n u at 0 below)
    ∙ ap (λ l. slice_index l at) same
    ∙ get_or-take n s at 0 below

same_le16 : (n : ℕ) (u s : List ℕ) (at : ℕ) → take n u ≡ take n s → at + 2 ≤ n →
    le16 u at ≡ le16 s at
same_le16 n u s at same room = omega (
  arith,
  same_byte n u s at same (omega (arith, room)),
  same_byte n u s (at + 1) same (omega (arith, room)),
)

same_be16 : (n : ℕ) (u s : List ℕ) (at : ℕ) → take n u ≡ take n s → at + 2 ≤ n →
    be16 u at ≡ be16 s at
same_be16 n u s at same room = omega (
  arith,
  same_byte n u s at same (omega (arith, room)),
  same_byte n u s (at + 1) same (omega (arith, room)),
)

same_le32 : (n : ℕ) (u s : List ℕ) (at : ℕ) → take n u ≡ take n s → at + 4 ≤ n →
    le32 u at ≡ le32 s at
same_le32 n u s at same room = omega (
  arith,
  same_le16 n u s at same (omega (arith, room)),
  same_le16 n u s (at + 2) same (omega (arith, room)),
)

same_number : (format : CaptureFormat) (n : ℕ) (u s : List ℕ) (at : ℕ) → take n u ≡ take n s →
    at + 4 ≤ n → number format u at ≡ number format s at
same_number format n u s at same room =
    let big : be32 u at ≡ be32 s at = omega (
      arith,
      same_be16 n u s at same (omega (arith, room)),
      same_be16 n u s (at + 2) same (omega (arith, room)),
    ) in
    ap (λ k. cond format.big_endian k (le32 u at)) big
    ∙ ap (λ k. cond format.big_endian (be32 s at) k) (same_le32 n u s at same room)

same_range : (n : ℕ) (u s : List ℕ) (k : ℕ) → take n u ≡ take n s → 16 ≤ k → k ≤ n →
    slice_range u 16 k ≡ slice_range s 16 k
same_range n u s k same least room =
    let within : 16 + (k - 16) ≤ n = omega (arith, least, room) in
    sym (drop-take 16 (k - 16) u)
    ∙ ap (λ l. drop 16 l) (sym (take-take (16 + (k - 16)) n u within))
    ∙ ap (λ l. drop 16 (take (16 + (k - 16)) l)) same
    ∙ ap (λ l. drop 16 l) (take-take (16 + (k - 16)) n s within)
    ∙ drop-take 16 (k - 16) s

-- ---- any items

-- the item at the front takes n bytes, and it is that of each byte string that begins with them
pub record Leads {X E : Type 0} (read : Reader X E) (place n : ℕ) (s : List ℕ)
    (x : X) : Type 0 where
  pub some : 0 < n
  pub within : n ≤ length s
  pub reads : (u : List ℕ) → take n u ≡ take n s → n ≤ length u → read place u ≡ Ok (x, n)

-- alone, ..
pub alone : {X E : Type 0} (read : Reader X E) (place n : ℕ) (s : List ℕ) (x : X) →
    Leads read place n s x → read place (take n s) ≡ Ok (x, n)
alone read place n s x h =
    h.reads (take n s) (take-take n n s (omega arith))
    (omega (arith, length-take n s, h.within))

-- .. and with whatever follows
pub with_more : {X E : Type 0} (read : Reader X E) (place n : ℕ) (s more : List ℕ) (x : X) →
    Leads read place n s x → read place (s ++ more) ≡ Ok (x, n)
with_more read place n s more x h =
    h.reads (s ++ more) (take-append-le n s more h.within)
    (omega (arith, length-append s more, h.within))

pub items_cut : {X E : Type 0} (read : Reader X E) → TakesSome read →
    (place n : ℕ) (s more : List ℕ) (x : X) → Leads read place n s x →
    items read place (s ++ more)
    ≡ items read place (take n s) ++ items read (place + n) (drop n s ++ more)
items_cut read takes place n s more x h =
    let size : length (take n s) ≡ n = omega (arith, length-take n s, h.within) in
    let front : items read place (take n s) ≡ Ok x ∷ [] =
    items_first read takes place (take n s) (omega (arith, size, h.some))
    ∙ ap (λ r. followed r (λ k. items read (place + k) (drop k (take n s))))
    (alone read place n s x h)
    ∙ ap (λ l. Ok x ∷ items read (place + n) l) (drop_all n (take n s) (omega (arith, size)))
    ∙ ap (λ l. Ok x ∷ l) (items_nil read (place + n)) in
    items_first read takes place (s ++ more) (omega (arith, length-append s more, h.some, h.within))
    ∙ ap (λ r. followed r (λ k. items read (place + k) (drop k (s ++ more))))
    (with_more read place n s more x h)
    ∙ ap (λ l. Ok x ∷ items read (place + n) l) (drop-append-le n s more h.within)
    ∙ ap (λ l. l ++ items read (place + n) (drop n s ++ more)) (sym front)

-- ---- messages

record Whole (s : List ℕ) (n : ℕ) : Type 0 where
  least : 16 ≤ length_of s
  len : n ≡ aligned (length_of s)

whole : (s : List ℕ) (n : ℕ) → message_len s ≡ Ok (Some n) → Whole s n
whole s n =
    let P : Result (Option ℕ) MessageError → Type 0 = λ r. r ≡ Ok (Some n) → Whole s n in
    let short : Result (Option ℕ) MessageError = Err (message_error 0 (Short (length_of s))) in
    let padded : Result (Option ℕ) MessageError = Ok (Some (aligned (length_of s))) in
    of_choice P (ltb (length s) 16) (Ok None) (cond (ltb (length_of s) 16) short padded)
    (λ _ e. absurd cc)
    (λ _. of_choice P (ltb (length_of s) 16) short padded (λ _ e. absurd cc)
    (λ low e. record { least = ltb-false (length_of s) 16 low; len = cc }))

pub message_leads : (place n : ℕ) (s : List ℕ) → message_len s ≡ Ok (Some n) → n ≤ length s →
    Leads message_at place n s (message_in place (le16 s 4) (slice_range s 16 (length_of s)))
message_leads place n s len room =
    let w : Whole s n = whole s n len in
    let k : ℕ = length_of s in
    let payload : List ℕ = slice_range s 16 k in
    record {
      some = omega (arith, w.len, w.least);
      within = room;
      reads =
          λ u same enough.
          reads place (le16 s 4) u payload k
          (same_le32 n u s 0 same (omega (arith, w.len, w.least)))
          (same_le16 n u s 4 same (omega (arith, w.len, w.least)))
          (same_range n u s k same w.least (omega (arith, w.len)))
          (omega (arith, w.len, w.least, enough)) w.least (omega (arith, w.len, enough))
          (omega (arith, w.len, enough))
          ∙ ap (λ j. Ok (message_in place (le16 s 4) payload, j)) (sym w.len);
    }

pub messages_cut : (place n : ℕ) (s more : List ℕ) → message_len s ≡ Ok (Some n) → n ≤ length s →
    messages place (s ++ more)
    ≡ messages place (take n s) ++ messages (place + n) (drop n s ++ more)
messages_cut place n s more len room =
    items_cut message_at takes_some place n s more
    (message_in place (le16 s 4) (slice_range s 16 (length_of s)))
    (message_leads place n s len room)

links_before-joined : (r : Result (Option Link) MessageError)
    (l next : List (Result Link MessageError)) →
    links_before r (joined l next) ≡ joined (links_before r l) next
links_before-joined (Ok None) l next = refl
links_before-joined (Ok (Some link)) l next = refl
links_before-joined (Err e) l next = refl

-- the links of messages and of those after them
pub links_of-append : (l next : List (Result Message MessageError)) →
    links_of (l ++ next) ≡ joined (links_of l) (links_of next)
links_of-append [] next = refl
links_of-append ((Ok m) ∷ more) next =
    ap (λ x. links_before (link_of m) x) (links_of-append more next)
    ∙ links_before-joined (link_of m) (links_of more) (links_of next)
links_of-append ((Err e) ∷ more) next = refl

pub links_cut : (place n : ℕ) (s more : List ℕ) → message_len s ≡ Ok (Some n) → n ≤ length s →
    links_of (messages place (s ++ more))
    ≡ joined (links_of (messages place (take n s)))
    (links_of (messages (place + n) (drop n s ++ more)))
links_cut place n s more len room =
    ap links_of (messages_cut place n s more len room)
    ∙ links_of-append (messages place (take n s)) (messages (place + n) (drop n s ++ more))

-- ---- records

record_len_is : (format : CaptureFormat) (s : List ℕ) (n : ℕ) → record_len format s ≡ Some n →
    n ≡ 16 + captured_len format s
record_len_is format s n =
    let P : Option ℕ → Type 0 = λ r. r ≡ Some n → n ≡ 16 + captured_len format s in
    of_choice P (ltb (length s) 16) None (Some (16 + captured_len format s)) (λ _ e. absurd cc)
    (λ _ e. cc)

abbrev parts : CaptureFormat → ℕ → ℕ → ℕ → ℕ → List ℕ → RecordParts
parts format place seconds fraction original packet = record {
  place = place;
  seconds = seconds;
  nanoseconds = nanoseconds_of format fraction;
  original = original;
  packet = packet;
}

abbrev record_of : CaptureFormat → ℕ → List ℕ → ℕ → RecordParts
record_of format place s n =
    parts format place (number format s 0) (number format s 4) (number format s 12)
    (slice_range s 16 n)

record_reads : (format : CaptureFormat) (place : ℕ) (u : List ℕ) (k : ℕ) →
    captured_len format u ≡ k → 16 + k ≤ length u →
    record_at format place u ≡ Ok (record_of format place u (16 + k), 16 + k)
unfolding record_at
record_reads format place u k len room =
    let header : 16 ≤ length u = omega (arith, room) in
    let packet : 16 + captured_len format u ≤ length u = omega (arith, len, room) in
    rw (le-ltb (length u) 16 header, le-ltb (length u) (16 + captured_len format u) packet)
    (ap (λ j. Ok (record_of format place u (16 + j), 16 + j)) len)

same_record : (format : CaptureFormat) (place n : ℕ) (u s : List ℕ) → take n u ≡ take n s →
    16 ≤ n → record_of format place u n ≡ record_of format place s n
same_record format place n u s same room =
    ap (λ x. parts format place x (number format u 4) (number format u 12) (slice_range u 16 n))
    (same_number format n u s 0 same (omega (arith, room)))
    ∙ ap (λ x. parts format place (number format s 0) x (number format u 12) (slice_range u 16 n))
    (same_number format n u s 4 same (omega (arith, room)))
    ∙ ap (λ x. parts format place (number format s 0) (number format s 4) x (slice_range u 16 n))
    (same_number format n u s 12 same (omega (arith, room)))
    ∙ ap (parts format place (number format s 0) (number format s 4) (number format s 12))
    (same_range n u s n same room (omega arith))

pub record_leads : (format : CaptureFormat) (place n : ℕ) (s : List ℕ) →
    record_len format s ≡ Some n → n ≤ length s →
    Leads (record_at format) place n s (record_of format place s n)
record_leads format place n s len room =
    let k : ℕ = captured_len format s in
    let size : n ≡ 16 + k = record_len_is format s n len in
    record {
      some = omega (arith, size);
      within = room;
      reads =
          λ u same enough.
          record_reads format place u k (same_number format n u s 8 same (omega (arith, size)))
          (omega (arith, size, enough))
          ∙ ap (λ j. Ok (record_of format place u j, j)) (sym size)
          ∙ ap (λ r. Ok (r, n)) (same_record format place n u s same (omega (arith, size)));
    }

pub records_cut : (format : CaptureFormat) (place n : ℕ) (s more : List ℕ) →
    record_len format s ≡ Some n → n ≤ length s →
    records format place (s ++ more)
    ≡ records format place (take n s) ++ records format (place + n) (drop n s ++ more)
records_cut format place n s more len room =
    items_cut (record_at format) (record_takes_some format) place n s more
    (record_of format place s n) (record_leads format place n s len room)
