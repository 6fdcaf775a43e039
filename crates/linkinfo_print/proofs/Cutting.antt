-- What is cut off at the front of an input.
use Rattle.std.proofs.Common.{
  ◌≡◌,
  ◌⊎◌,
  inl,
  inr,
  ℕ,
  ◌+◌,
  ◌<◌,
  ◌≤◌,
  Bool,
  true,
  false,
  cond,
  List,
  [],
  ◌∷◌,
  ◌++◌,
  length,
  take,
  drop,
  Some,
  None,
  Ok,
  Err,
  refl,
  sym,
  ap,
  ◌∙◌,
  subst,
  arith,
  append-nil,
}
use Rattle.std.proofs.lemmas.List.{drop-append-le, drop_all}
use Rattle.memchr.specs.Find.{IsFirstByte, is_byte}
use Rattle.linkinfo_messages.specs.Captures.{format_of}
use Rattle.linkinfo_messages.specs.declared.capture.CaptureFormat.{CaptureFormat}
use Rattle.linkinfo_messages.specs.declared.capture_error.CaptureError.{CaptureError}
use Rattle.linkinfo_messages.specs.declared.error.MessageError.{MessageError}
use Rattle.linkinfo_print.specs.declared.options.Input.{Input}
use Rattle.linkinfo_print.specs.declared.options.Input.TheVariants as input
use Rattle.linkinfo_print.specs.declared.units.Cut.{Cut}
use Rattle.linkinfo_print.specs.declared.units.Cutter.{Cutter}
use Rattle.linkinfo_print.specs.declared.units.Framing.{Framing}
use Rattle.linkinfo_print.specs.declared.units.Framing.TheVariants as framing
use Rattle.linkinfo_print.specs.Units.{
  BadFile,
  BadMessage,
  CutsOff,
  HasFrames,
  HasNoFeed,
  IsIncomplete,
  IsOfLines,
  LacksBytes,
  Last,
  MayFollow,
  Piece,
  Portion,
  TooLong,
  Waits,
  frame_len,
  frame_piece,
  frames,
  front_of,
  line_piece,
  line_units,
  most_bytes,
  portion,
  portions_of,
  records_after,
  saturated,
  units_on,
}
use Rattle.linkinfo_print.proofs.CutFrames.{
  format_grows,
  format_len,
  frames_last,
  frames_nil,
  frames_whole,
  front_bad,
  front_long,
  front_part,
  front_whole,
  has_bytes,
  some_len,
  units_on_frames,
  units_on_header,
}
use Rattle.linkinfo_print.proofs.CutLines.{
  last_line_unit,
  line_unit,
  long_line_unit,
  units_on_ended,
  units_on_lines,
}

-- nothing is cut off
pub cuts_nothing : (c : Cutter) (s : List ℕ) (is_end : Bool) (cut : Cut) →
    portions_of cut.unit ≡ [] → cut.taken ≡ 0 → Waits c s →
    (is_end ≡ true → units_on c s ≡ []) → CutsOff c s is_end cut c
cuts_nothing c s is_end cut u t waits all =
    record {
      within = omega (arith, t);
      first = λ more may i. sym u i ++ units_on c (drop (sym t i) s ++ more);
      waits = λ z. waits;
      all = λ e z. all e;
    }

-- the last line, message or packet takes all of the bytes
pub cuts_last : (old : Cutter) (s : List ℕ) (is_end : Bool) (cut : Cut) (new : Cutter)
    (piece : Piece) → new.ended ≡ true →
    portions_of cut.unit ≡ portion old.number old.place piece ∷ [] →
    cut.taken ≡ length s →
    ((more : List ℕ) → MayFollow is_end more →
    units_on old (s ++ more) ≡ portion old.number old.place piece ∷ []) →
    CutsOff old s is_end cut new
cuts_last old s is_end cut new piece e u t h =
    record {
      within = omega (arith, t);
      first = λ more may.
          h more may
          ∙ (λ i. sym u i ++ sym (units_on_ended new (drop cut.taken s ++ more) e) i);
      waits = λ _. inl e;
      all = λ _ _. units_on_ended new s e;
    }

-- ---- more bytes are needed

-- where there are messages or records, one that is incomplete lacks bytes
pub frame_waits : (c : Cutter) (s : List ℕ) (f : Framing) → HasFrames c f →
    IsIncomplete (frame_len f s) s → Waits c s
frame_waits c s framing.Messages has part =
    inr (subst (λ k. LacksBytes k c.format s) (sym has.1) part)
frame_waits c s (framing.Records format) has part =
    inr (subst (λ k. LacksBytes k c.format s) (sym has.1)
    (subst (λ o. LacksBytes input.Capture o s) (sym has.2) part))

pub line_waits : (c : Cutter) (s : List ℕ) → IsOfLines c.input → HasNoFeed s →
    length s ≤ most_bytes → Waits c s
line_waits c s lines none short = inr (by_input c.input lines)
  where
    by_input : (kind : Input) → IsOfLines kind → LacksBytes kind c.format s
    by_input input.Lists h = (none, short)
    by_input input.Differences h = (none, short)
    by_input input.Unmet h = (none, short)
    by_input input.Messages h = absurd h
    by_input input.Capture h = absurd h

pub header_waits : (c : Cutter) (s : List ℕ) → c.input ≡ input.Capture → c.format ≡ None →
    length s < 24 → Waits c s
header_waits c s kind none short =
    inr (subst (λ k. LacksBytes k c.format s) (sym kind)
    (subst (λ o. LacksBytes input.Capture o s) (sym none) short))

-- ---- lines

pub cuts_line : (old : Cutter) (s : List ℕ) (is_end : Bool) (cut : Cut) (new : Cutter) →
    old.ended ≡ false → IsOfLines old.input → new.ended ≡ old.ended → new.input ≡ old.input →
    cut.taken ≤ length s → 0 < cut.taken →
    ((more : List ℕ) → MayFollow is_end more →
    line_units old.skips old.number old.place (s ++ more)
    ≡ portions_of cut.unit
    ++ line_units new.skips new.number new.place (drop cut.taken s ++ more)) →
    CutsOff old s is_end cut new
cuts_line old s is_end cut new goes lines e k within some h =
    record {
      within = within;
      first = λ more may.
          units_on_lines old (s ++ more) goes lines
          ∙ h more may
          ∙ ap (λ units. portions_of cut.unit ++ units)
          (sym (units_on_lines new (drop cut.taken s ++ more) (e ∙ goes)
          (subst IsOfLines (sym k) lines)));
      waits = λ z. absurd (omega (arith, z, some));
      all = λ _ z. absurd (omega (arith, z, some));
    }

-- the cutter after a line with this length
abbrev line_cutter : Cutter → ℕ → Cutter
line_cutter c len =
    record c {
      number = saturated (c.number + 1);
      place = saturated (c.place + len);
      skips = false;
    }

-- a line, unless it is the rest of one that is too long
abbrev line_portions : Cutter → Piece → List Portion
line_portions c piece = cond c.skips [] (portion c.number c.place piece ∷ [])

pub cuts_ended_line : (old : Cutter) (s : List ℕ) (is_end : Bool) (cut : Cut) (new : Cutter)
    (end : ℕ) → old.ended ≡ false → IsOfLines old.input →
    IsFirstByte (is_byte 10) s (Some end) →
    portions_of cut.unit ≡ line_portions old (line_piece (take end s)) →
    cut.taken ≡ end + 1 → new ≡ line_cutter old (end + 1) →
    CutsOff old s is_end cut new
cuts_ended_line old s is_end cut new end goes lines at u t next =
    let inside : end < length s = at.0.high in
    subst (λ c. CutsOff old s is_end cut c) (sym next)
    (cuts_line old s is_end cut (line_cutter old (end + 1)) goes lines refl refl
    (omega (arith, t, inside)) (omega (arith, t)) (λ more may.
    line_unit old.skips old.number old.place s more end at
    ∙ (λ i. sym u i ++ line_units false (saturated (old.number + 1))
    (saturated (old.place + (end + 1))) (drop (sym t i) s ++ more))))

pub cuts_last_line : (old : Cutter) (s : List ℕ) (is_end : Bool) (cut : Cut) (new : Cutter) →
    old.ended ≡ false → IsOfLines old.input → HasNoFeed s → is_end ≡ true → 0 < length s →
    portions_of cut.unit ≡ line_portions old (line_piece s) →
    cut.taken ≡ length s → new ≡ line_cutter old (length s) →
    CutsOff old s is_end cut new
cuts_last_line old s is_end cut new goes lines no_feed end some u t next =
    let after = line_cutter old (length s) in
    let none : (more : List ℕ) → more ≡ [] → drop cut.taken s ++ more ≡ [] =
    λ more e. (λ i. drop (t i) s ++ e i) ∙ append-nil (drop (length s) s) ∙ drop_all (length s) s
    (omega arith) in
    subst (λ c. CutsOff old s is_end cut c) (sym next)
    (cuts_line old s is_end cut after goes lines refl refl
    (omega (arith, t)) (omega (arith, t, some)) (λ more may.
    ap (λ l. line_units old.skips old.number old.place l)
    (ap (λ l. s ++ l) (may end) ∙ append-nil s)
    ∙ last_line_unit old.skips old.number old.place after.place s no_feed some
    ∙ (λ i. sym u i ++ line_units false after.number after.place (sym (none more (may end)) i))))

pub cuts_long_line : (old : Cutter) (s : List ℕ) (is_end : Bool) (cut : Cut) (new : Cutter) →
    old.ended ≡ false → IsOfLines old.input → HasNoFeed s → most_bytes < length s →
    portions_of cut.unit ≡ line_portions old TooLong →
    cut.taken ≡ length s →
    new ≡ record old { place = saturated (old.place + length s); skips = true } →
    CutsOff old s is_end cut new
cuts_long_line old s is_end cut new goes lines no_feed long u t next =
    let after : Cutter = record old { place = saturated (old.place + length s); skips = true } in
    let rest : (more : List ℕ) → more ≡ drop cut.taken s ++ more =
    λ more. ap (λ l. l ++ more) (sym (ap (λ n. drop n s) t ∙ drop_all (length s) s (omega arith)))
    in
    subst (λ c. CutsOff old s is_end cut c) (sym next)
    (cuts_line old s is_end cut after goes lines refl refl
    (omega (arith, t)) (omega (arith, t, long)) (λ more may.
    long_line_unit old.skips old.number old.place s more no_feed long
    ∙ (λ i. sym u i ++ line_units true old.number after.place (rest more i))))

-- without bytes there is no line
pub cuts_no_line : (c : Cutter) (s : List ℕ) (is_end : Bool) (cut : Cut) → c.ended ≡ false →
    IsOfLines c.input → HasNoFeed s → length s ≤ most_bytes → (is_end ≡ true → s ≡ []) →
    portions_of cut.unit ≡ [] → cut.taken ≡ 0 → CutsOff c s is_end cut c
cuts_no_line c s is_end cut goes lines no_feed short none u t =
    cuts_nothing c s is_end cut u t (line_waits c s lines no_feed short) (λ e.
    units_on_lines c s goes lines
    ∙ ap (λ l. line_units c.skips c.number c.place l) (none e)
    ∙ no_lines c.skips)
  where
    no_lines : (skips : Bool) → line_units skips c.number c.place [] ≡ []
    no_lines true = refl
    no_lines false = refl

-- ---- messages and records

pub cuts_last_frame : (old : Cutter) (s : List ℕ) (is_end : Bool) (cut : Cut) (new : Cutter)
    (f : Framing) (piece : Piece) → HasFrames old f → new.ended ≡ true →
    portions_of cut.unit ≡ portion old.number old.place piece ∷ [] →
    cut.taken ≡ length s →
    ((more : List ℕ) → MayFollow is_end more →
    (0 < length (s ++ more)) × (front_of f (s ++ more) ≡ Last piece)) →
    CutsOff old s is_end cut new
cuts_last_frame old s is_end cut new f piece has e u t h =
    cuts_last old s is_end cut new piece e u t (λ more may.
    let front = h more may in
    units_on_frames old f has (s ++ more)
    ∙ frames_last f old.number old.place (s ++ more) piece front.0 front.1)

pub cuts_bad_message : (old : Cutter) (s : List ℕ) (is_end : Bool) (cut : Cut) (new : Cutter)
    (f : Framing) (error : MessageError) → HasFrames old f → frame_len f s ≡ Err error →
    new.ended ≡ true →
    portions_of cut.unit ≡ portion old.number old.place (BadMessage error) ∷ [] →
    cut.taken ≡ length s →
    CutsOff old s is_end cut new
cuts_bad_message old s is_end cut new f error has h e u t =
    cuts_last_frame old s is_end cut new f (BadMessage error) has e u t (λ more may.
    (has_bytes f s more (λ none. cc (none, h)), front_bad f s more error h))

pub cuts_long_frame : (old : Cutter) (s : List ℕ) (is_end : Bool) (cut : Cut) (new : Cutter)
    (f : Framing) (len : ℕ) → HasFrames old f → frame_len f s ≡ Ok (Some len) →
    most_bytes < len → new.ended ≡ true →
    portions_of cut.unit ≡ portion old.number old.place TooLong ∷ [] →
    cut.taken ≡ length s →
    CutsOff old s is_end cut new
cuts_long_frame old s is_end cut new f len has h long e u t =
    cuts_last_frame old s is_end cut new f TooLong has e u t (λ more may.
    (has_bytes f s more (λ none. cc (none, h)), front_long f s more len h long))

-- what is left at the end of the input
pub cuts_part : (old : Cutter) (s : List ℕ) (is_end : Bool) (cut : Cut) (new : Cutter)
    (f : Framing) → HasFrames old f → IsIncomplete (frame_len f s) s → is_end ≡ true →
    0 < length s → new.ended ≡ true →
    portions_of cut.unit ≡ portion old.number old.place (frame_piece f s) ∷ [] →
    cut.taken ≡ length s →
    CutsOff old s is_end cut new
cuts_part old s is_end cut new f has part end some e u t =
    cuts_last_frame old s is_end cut new f (frame_piece f s) has e u t (λ more may.
    subst (λ l. (0 < length l) × (front_of f l ≡ Last (frame_piece f s)))
    (sym (ap (λ l. s ++ l) (may end) ∙ append-nil s))
    (some, front_part f s part))

pub cuts_no_frame : (c : Cutter) (s : List ℕ) (is_end : Bool) (cut : Cut) (f : Framing) →
    HasFrames c f → IsIncomplete (frame_len f s) s → (is_end ≡ true → s ≡ []) →
    portions_of cut.unit ≡ [] → cut.taken ≡ 0 → CutsOff c s is_end cut c
cuts_no_frame c s is_end cut f has part none u t =
    cuts_nothing c s is_end cut u t (frame_waits c s f has part) (λ e.
    units_on_frames c f has s
    ∙ ap (frames f c.number c.place) (none e)
    ∙ frames_nil f c.number c.place)

-- the cutter after a unit of this length
abbrev pub next_cutter : Cutter → ℕ → Cutter
next_cutter c len =
    record c { number = saturated (c.number + 1); place = saturated (c.place + len) }

still_frames : (c : Cutter) (f : Framing) (len : ℕ) → HasFrames c f →
    HasFrames (next_cutter c len) f
still_frames c framing.Messages len h = h
still_frames c (framing.Records format) len h = h

pub cuts_whole_frame : (old : Cutter) (s : List ℕ) (is_end : Bool) (cut : Cut) (new : Cutter)
    (f : Framing) (len : ℕ) → HasFrames old f → frame_len f s ≡ Ok (Some len) →
    len ≤ most_bytes → len ≤ length s →
    portions_of cut.unit ≡ portion old.number old.place (frame_piece f (take len s)) ∷ [] →
    cut.taken ≡ len → new ≡ next_cutter old len →
    CutsOff old s is_end cut new
cuts_whole_frame old s is_end cut new f len has h small inside u t next =
    let some = some_len f s len h in
    subst (λ c. CutsOff old s is_end cut c) (sym next)
    (record {
      within = omega (arith, t, inside);
      first = λ more may.
          let left = drop-append-le len s more inside in
          let rest : frames f (saturated (old.number + 1)) (saturated (old.place + len))
          (drop len (s ++ more)) ≡ units_on (next_cutter old len) (drop cut.taken s ++ more) =
          ap (frames f (saturated (old.number + 1)) (saturated (old.place + len))) left
          ∙ sym (units_on_frames (next_cutter old len) f (still_frames old f len has)
          (drop len s ++ more))
          ∙ ap (λ k. units_on (next_cutter old len) (drop k s ++ more)) (sym t) in
          units_on_frames old f has (s ++ more)
          ∙ frames_whole f old.number old.place (s ++ more) (frame_piece f (take len s)) len
          (front_whole f s more len h small inside)
          ∙ (λ i. sym u i ++ rest i);
      waits = λ z. absurd (omega (arith, z, t, some));
      all = λ _ z. absurd (omega (arith, z, t, some));
    })

-- ---- the header of a capture file

pub cuts_header : (old : Cutter) (s : List ℕ) (is_end : Bool) (cut : Cut) (new : Cutter)
    (format : CaptureFormat) → old.ended ≡ false → old.input ≡ input.Capture →
    old.format ≡ None → format_of s ≡ Ok format →
    portions_of cut.unit ≡ [] → cut.taken ≡ 24 →
    new ≡ record old { format = Some format; place = 24 } →
    CutsOff old s is_end cut new
cuts_header old s is_end cut new format goes kind none h u t next =
    let size = format_len s format h in
    let after : Cutter = record old { format = Some format; place = 24 } in
    subst (λ c. CutsOff old s is_end cut c) (sym next)
    (record {
      within = omega (arith, t, size);
      first = λ more may.
          let rest : frames (framing.Records format) old.number 24 (drop 24 (s ++ more))
          ≡ units_on after (drop cut.taken s ++ more) =
          ap (frames (framing.Records format) old.number 24) (drop-append-le 24 s more size)
          ∙ sym (units_on_frames after (framing.Records format) (goes, kind, refl)
          (drop 24 s ++ more))
          ∙ ap (λ k. units_on after (drop k s ++ more)) (sym t) in
          units_on_header old goes kind none (s ++ more)
          ∙ ap (λ r. records_after r old.number old.place (s ++ more))
          (format_grows s more size ∙ h)
          ∙ (λ i. sym u i ++ rest i);
      waits = λ z. absurd (omega (arith, z, t));
      all = λ _ z. absurd (omega (arith, z, t));
    })

pub cuts_bad_file : (old : Cutter) (s : List ℕ) (is_end : Bool) (cut : Cut) (new : Cutter)
    (error : CaptureError) → old.ended ≡ false → old.input ≡ input.Capture →
    old.format ≡ None → format_of s ≡ Err error → (24 ≤ length s) ⊎ (is_end ≡ true) →
    new.ended ≡ true →
    portions_of cut.unit ≡ portion old.number old.place (BadFile error) ∷ [] →
    cut.taken ≡ length s →
    CutsOff old s is_end cut new
cuts_bad_file old s is_end cut new error goes kind none h certain e u t =
    cuts_last old s is_end cut new (BadFile error) e u t (λ more may.
    units_on_header old goes kind none (s ++ more)
    ∙ ap (λ r. records_after r old.number old.place (s ++ more)) (same more may certain ∙ h))
  where
    same : (more : List ℕ) → MayFollow is_end more → (24 ≤ length s) ⊎ (is_end ≡ true) →
        format_of (s ++ more) ≡ format_of s
    same more may (inl size) = format_grows s more size
    same more may (inr end) = ap format_of (ap (λ l. s ++ l) (may end) ∙ append-nil s)
