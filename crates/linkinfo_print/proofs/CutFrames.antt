-- Messages and records that are cut off at the front of an input.
use Rattle.std.proofs.Common.{
  ◌≡◌,
  ◌⊎◌,
  inl,
  inr,
  ℕ,
  zero,
  suc,
  ◌+◌,
  ◌*◌,
  ◌%◌,
  ◌<◌,
  ◌≤◌,
  Bool,
  true,
  false,
  cond,
  eqb,
  ltb,
  List,
  [],
  ◌∷◌,
  ◌++◌,
  length,
  take,
  drop,
  Option,
  Some,
  None,
  Result,
  Ok,
  Err,
  refl,
  sym,
  ap,
  ap₂,
  ◌∙◌,
  arith,
  length-append,
}
use Rattle.std.specs.Prelude.{slice_index}
use Rattle.std.proofs.lemmas.Bool.{cases_lt, le-ltb, lt-ltb}
use Rattle.std.proofs.lemmas.Bool.Decides.{nat_tests}
use Rattle.std.proofs.lemmas.List.{get_or_append_left, length-drop, take-append-le}
use Rattle.nla_frame.specs.Attribute.{aligned}
use Rattle.linkinfo_messages.specs.Captures.{
  capture_error,
  captured_len,
  format_by,
  format_of,
  number,
  of_netlink,
}
use Rattle.linkinfo_messages.specs.Integers.{be32, le32}
use Rattle.linkinfo_messages.specs.Messages.{length_of, message_error}
use Rattle.linkinfo_messages.specs.declared.capture.CaptureFormat.{CaptureFormat}
use Rattle.linkinfo_messages.specs.declared.capture_error.CaptureCause.TheVariants as cause
use Rattle.linkinfo_messages.specs.declared.error.MessageCause.TheVariants.{Short}
use Rattle.linkinfo_messages.specs.declared.error.MessageError.{MessageError}
use Rattle.linkinfo_print.specs.declared.options.Input.TheVariants as input
use Rattle.linkinfo_print.specs.declared.units.Cutter.{Cutter}
use Rattle.linkinfo_print.specs.declared.units.Framing.{Framing}
use Rattle.linkinfo_print.specs.declared.units.Framing.TheVariants as framing
use Rattle.linkinfo_print.specs.Units.{
  BadMessage,
  Front,
  HasFrames,
  IsIncomplete,
  Last,
  Piece,
  Portion,
  TooLong,
  Whole,
  capture_units,
  followed,
  frame_len,
  frame_piece,
  frames,
  frames_up_to,
  front_by_len,
  front_of,
  most_bytes,
  portion,
  records_after,
  saturated,
  units_left,
  units_on,
}

-- ---- what is read at the front stays there whatever follows

index_grows : (s more : List ℕ) (k : ℕ) → k < length s →
    slice_index (s ++ more) k ≡ slice_index s k
index_grows s more k h = get_or_append_left s more 0 k h

le32_grows : (s more : List ℕ) (at : ℕ) → at + 4 ≤ length s → le32 (s ++ more) at ≡ le32 s at
le32_grows s more at h =
    let byte = index_grows s more in
    λ i. (byte at (omega (arith, h)) i + byte (at + 1) (omega (arith, h)) i * 256)
    + (byte (at + 2) (omega (arith, h)) i + byte (at + 2 + 1) (omega (arith, h)) i * 256) * 65536

be32_grows : (s more : List ℕ) (at : ℕ) → at + 4 ≤ length s → be32 (s ++ more) at ≡ be32 s at
be32_grows s more at h =
    let byte = index_grows s more in
    λ i. (byte at (omega (arith, h)) i * 256 + byte (at + 1) (omega (arith, h)) i) * 65536
    + (byte (at + 2) (omega (arith, h)) i * 256 + byte (at + 2 + 1) (omega (arith, h)) i)

number_grows : (format : CaptureFormat) (s more : List ℕ) (at : ℕ) → at + 4 ≤ length s →
    number format (s ++ more) at ≡ number format s at
number_grows format s more at h =
    ap₂ (λ b l. cond format.big_endian b l) (be32_grows s more at h) (le32_grows s more at h)

-- no shorter than before
not_short : (s more : List ℕ) (n : ℕ) → n ≤ length s →
    ltb (length (s ++ more)) n ≡ ltb (length s) n
not_short s more n h =
    le-ltb _ _ (omega (arith, h, length-append s more)) ∙ sym (le-ltb _ _ h)

abbrev message_len_by : Bool → ℕ → Result (Option ℕ) MessageError
message_len_by short len =
    cond short (Ok None)
    (cond (ltb len 16) (Err (message_error 0 (Short len))) (Ok (Some (aligned len))))

abbrev record_len_by : Bool → ℕ → Result (Option ℕ) MessageError
record_len_by short len = Ok (cond short None (Some (16 + len)))

-- a length or an error that is there stays
frame_len_grows : (f : Framing) (s more : List ℕ) →
    (frame_len f s ≡ Ok None) ⊎ (frame_len f (s ++ more) ≡ frame_len f s)
frame_len_grows framing.Messages s more =
    elim (cases_lt (length s) 16) [
      | inl short ↦ inl (ap (λ b. message_len_by b (length_of s)) (lt-ltb _ _ short))
      | inr long ↦
          inr (ap₂ message_len_by (not_short s more 16 long)
          (le32_grows s more 0 (omega (arith, long))))
    ]
frame_len_grows (framing.Records format) s more =
    elim (cases_lt (length s) 16) [
      | inl short ↦ inl (ap (λ b. record_len_by b (captured_len format s)) (lt-ltb _ _ short))
      | inr long ↦
          inr (ap₂ record_len_by (not_short s more 16 long)
          (number_grows format s more 8 (omega (arith, long))))
    ]

some_grows : (f : Framing) (s more : List ℕ) (len : ℕ) → frame_len f s ≡ Ok (Some len) →
    frame_len f (s ++ more) ≡ Ok (Some len)
some_grows f s more len h =
    elim (frame_len_grows f s more) [ inl none ↦ cc (none, h) | inr same ↦ same ∙ h ]

error_grows : (f : Framing) (s more : List ℕ) (e : MessageError) → frame_len f s ≡ Err e →
    frame_len f (s ++ more) ≡ Err e
error_grows f s more e h =
    elim (frame_len_grows f s more) [ inl none ↦ cc (none, h) | inr same ↦ same ∙ h ]

-- ---- what is at the front

pub front_whole : (f : Framing) (s more : List ℕ) (len : ℕ) → frame_len f s ≡ Ok (Some len) →
    len ≤ most_bytes → len ≤ length s →
    front_of f (s ++ more) ≡ Whole (frame_piece f (take len s)) len
unfolding front_of
front_whole f s more len h small inside =
    ap (λ r. front_by_len f r (s ++ more)) (some_grows f s more len h)
    ∙ ap₂ (λ a b. cond a (Last TooLong)
    (cond b (Last (frame_piece f (s ++ more))) (Whole (frame_piece f (take len (s ++ more))) len)))
    (le-ltb _ _ small)
    (le-ltb _ _ (omega (arith, inside, length-append s more)))
    ∙ ap (λ bytes. Whole (frame_piece f bytes) len) (take-append-le len s more inside)

pub front_long : (f : Framing) (s more : List ℕ) (len : ℕ) → frame_len f s ≡ Ok (Some len) →
    most_bytes < len → front_of f (s ++ more) ≡ Last TooLong
unfolding front_of
front_long f s more len h long =
    ap (λ r. front_by_len f r (s ++ more)) (some_grows f s more len h)
    ∙ ap (λ a. cond a (Last TooLong)
    (cond (ltb (length (s ++ more)) len) (Last (frame_piece f (s ++ more)))
    (Whole (frame_piece f (take len (s ++ more))) len)))
    (lt-ltb _ _ long)

pub front_bad : (f : Framing) (s more : List ℕ) (e : MessageError) → frame_len f s ≡ Err e →
    front_of f (s ++ more) ≡ Last (BadMessage e)
unfolding front_of
front_bad f s more e h = ap (λ r. front_by_len f r (s ++ more)) (error_grows f s more e h)

-- what is incomplete
pub front_part : (f : Framing) (s : List ℕ) → IsIncomplete (frame_len f s) s →
    front_of f s ≡ Last (frame_piece f s)
unfolding front_of
front_part f s part = by_len (frame_len f s) part
  where
    by_len : (r : Result (Option ℕ) MessageError) → IsIncomplete r s →
        front_by_len f r s ≡ Last (frame_piece f s)
    by_len (Err e) part = absurd part
    by_len (Ok None) part = refl
    by_len (Ok (Some n)) part =
        ap₂ (λ a b. cond a (Last TooLong)
        (cond b (Last (frame_piece f s)) (Whole (frame_piece f (take n s)) n)))
        (le-ltb _ _ part.0) (lt-ltb _ _ part.1)

-- ---- one after another

pub some_len : (f : Framing) (s : List ℕ) (len : ℕ) → frame_len f s ≡ Ok (Some len) → 0 < len
some_len framing.Messages s len h = grind (arith, nat_tests)
some_len (framing.Records format) s len h = grind (arith, nat_tests)

-- a whole message or record takes some of the bytes
front_takes : (f : Framing) (s : List ℕ) (piece : Piece) (len : ℕ) →
    front_of f s ≡ Whole piece len → (0 < len) × (len ≤ length s)
unfolding front_of
front_takes f s piece len h = by_len (frame_len f s) refl h
  where
    by_size : (n : ℕ) → frame_len f s ≡ Ok (Some n) → (long short : Bool) →
        ltb (length s) n ≡ short →
        cond long (Last TooLong)
        (cond short (Last (frame_piece f s)) (Whole (frame_piece f (take n s)) n))
        ≡ Whole piece len →
        (0 < len) × (len ≤ length s)
    by_size n e true short t h = absurd (cc h)
    by_size n e false true t h = absurd (cc h)
    by_size n e false false t h =
        let same : n ≡ len = cc h in
        let positive = some_len f s n e in
        (omega (arith, positive, same), grind (arith, nat_tests))

    by_len : (r : Result (Option ℕ) MessageError) → frame_len f s ≡ r →
        front_by_len f r s ≡ Whole piece len → (0 < len) × (len ≤ length s)
    by_len (Err e) same h = absurd (cc h)
    by_len (Ok None) same h = absurd (cc h)
    by_len (Ok (Some n)) same h = by_size n same (ltb most_bytes n) (ltb (length s) n) refl h

followed_same : (r : Front) (number place : ℕ) (f g : ℕ → List Portion) →
    ((piece : Piece) (len : ℕ) → r ≡ Whole piece len → f len ≡ g len) →
    followed r number place f ≡ followed r number place g
followed_same (Last piece) number place f g h = refl
followed_same (Whole piece len) number place f g h =
    ap (λ l. portion number place piece ∷ l) (h piece len refl)

-- a higher limit on their number changes nothing
frames_enough : (f : Framing) (m n number place : ℕ) (s : List ℕ) → length s ≤ m → length s ≤ n →
    frames_up_to f m number place s ≡ frames_up_to f n number place s
unfolding frames_up_to
frames_enough f zero zero number place [] h i = refl
frames_enough f zero (suc n) number place [] h i = refl
frames_enough f (suc m) zero number place [] h i = refl
frames_enough f (suc m) (suc n) number place [] h i = refl
frames_enough f zero n number place (b ∷ s) h i = absurd (omega (arith, h))
frames_enough f (suc m) zero number place (b ∷ s) h i = absurd (omega (arith, i))
frames_enough f (suc m) (suc n) number place (b ∷ s) h i =
    followed_same (front_of f (b ∷ s)) number place _ _ (λ piece len e.
    let size = front_takes f (b ∷ s) piece len e in
    frames_enough f m n (saturated (number + 1)) (saturated (place + len)) (drop len (b ∷ s))
    (omega (arith, length-drop len (b ∷ s), size.0, h))
    (omega (arith, length-drop len (b ∷ s), size.0, i)))

pub frames_nil : (f : Framing) (number place : ℕ) → frames f number place [] ≡ []
unfolding frames frames_up_to
frames_nil f number place = refl

-- the first, and then those after it
frames_first : (f : Framing) (number place : ℕ) (s : List ℕ) → 0 < length s →
    frames f number place s
    ≡ followed (front_of f s) number place
    (λ len. frames f (saturated (number + 1)) (saturated (place + len)) (drop len s))
unfolding frames frames_up_to
frames_first f number place [] some = absurd (omega (arith, some))
frames_first f number place (b ∷ s) some =
    followed_same (front_of f (b ∷ s)) number place _ _ (λ piece len e.
    let size = front_takes f (b ∷ s) piece len e in
    frames_enough f (length s) (length (drop len (b ∷ s))) (saturated (number + 1))
    (saturated (place + len)) (drop len (b ∷ s))
    (omega (arith, length-drop len (b ∷ s), size.0)) (omega arith))

pub frames_last : (f : Framing) (number place : ℕ) (s : List ℕ) (piece : Piece) →
    0 < length s → front_of f s ≡ Last piece →
    frames f number place s ≡ portion number place piece ∷ []
frames_last f number place s piece some h =
    frames_first f number place s some
    ∙ ap (λ r. followed r number place
    (λ n. frames f (saturated (number + 1)) (saturated (place + n)) (drop n s))) h

pub frames_whole : (f : Framing) (number place : ℕ) (s : List ℕ) (piece : Piece) (len : ℕ) →
    front_of f s ≡ Whole piece len →
    frames f number place s
    ≡ portion number place piece
    ∷ frames f (saturated (number + 1)) (saturated (place + len)) (drop len s)
frames_whole f number place s piece len h =
    let size = front_takes f s piece len h in
    frames_first f number place s (omega (arith, size.0, size.1))
    ∙ ap (λ r. followed r number place
    (λ n. frames f (saturated (number + 1)) (saturated (place + n)) (drop n s))) h

-- ---- the header of a capture file

of_netlink_grows : (o : Option CaptureFormat) (s more : List ℕ) → 24 ≤ length s →
    of_netlink o (s ++ more) ≡ of_netlink o s
of_netlink_grows None s more h =
    ap (λ n. Err (capture_error 0 (cause.Magic n))) (le32_grows s more 0 (omega (arith, h)))
of_netlink_grows (Some format) s more h =
    ap (λ n. cond (eqb (n % 65536) 253) (Ok format)
    (Err (capture_error 0 (cause.LinkType (n % 65536)))))
    (number_grows format s more 20 (omega (arith, h)))

pub format_grows : (s more : List ℕ) → 24 ≤ length s → format_of (s ++ more) ≡ format_of s
unfolding format_of
format_grows s more h =
    ap (λ b. cond b (Err (capture_error 0 cause.FileHeader))
    (of_netlink (format_by (le32 (s ++ more) 0)) (s ++ more))) (not_short s more 24 h)
    ∙ ap (λ r. cond (ltb (length s) 24) (Err (capture_error 0 cause.FileHeader)) r)
    (of_netlink_grows (format_by (le32 (s ++ more) 0)) s more h
    ∙ ap (λ n. of_netlink (format_by n) s) (le32_grows s more 0 (omega (arith, h))))

pub format_len : (s : List ℕ) (format : CaptureFormat) → format_of s ≡ Ok format → 24 ≤ length s
unfolding format_of
format_len s format h = grind (arith, nat_tests)

-- ---- an input of messages or records

pub units_on_frames : (c : Cutter) (f : Framing) → HasFrames c f → (s : List ℕ) →
    units_on c s ≡ frames f c.number c.place s
unfolding units_on
units_on_frames c framing.Messages h s =
    ap (λ b. cond b [] (units_left c.input c s)) h.0 ∙ ap (λ k. units_left k c s) h.1
units_on_frames c (framing.Records format) h s =
    ap (λ b. cond b [] (units_left c.input c s)) h.0
    ∙ ap (λ k. units_left k c s) h.1
    ∙ ap (λ o. capture_units o c.number c.place s) h.2

pub units_on_header : (c : Cutter) → c.ended ≡ false → c.input ≡ input.Capture →
    c.format ≡ None → (s : List ℕ) →
    units_on c s ≡ records_after (format_of s) c.number c.place s
unfolding units_on
units_on_header c e k n s =
    ap (λ b. cond b [] (units_left c.input c s)) e
    ∙ ap (λ k. units_left k c s) k
    ∙ ap (λ o. capture_units o c.number c.place s) n

-- without a header nothing is wrong and nothing has a length
pub has_bytes : (f : Framing) (s more : List ℕ) → (frame_len f s ≡ Ok None → ⊥) →
    0 < length (s ++ more)
has_bytes f (b ∷ s) more h = omega arith
has_bytes framing.Messages [] more h = absurd (h refl)
has_bytes (framing.Records format) [] more h = absurd (h refl)
