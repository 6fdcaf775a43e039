-- The records of a capture file, one after another.
use Rattle.std.proofs.Common.{
  ◌≡◌,
  ◌≢◌,
  ℕ,
  ◌+◌,
  ◌-◌,
  ◌*◌,
  ◌≤◌,
  ◌<◌,
  Bool,
  true,
  false,
  cond,
  ltb,
  List,
  [],
  ◌∷◌,
  length,
  take,
  drop,
  refl,
  sym,
  ap,
  subst,
  ◌∙◌,
  arith,
  Some,
  None,
  Result,
  Ok,
  Err,
}
use Rattle.std.specs.Prelude.{slice_range, IfOk}
use Rattle.std.specs.Iterator.{MakesProgress, item_count}
use Rattle.std.proofs.lemmas.Bool.{ltb-false}
use Rattle.std.proofs.lemmas.List.{length-take, length-drop, drop-drop, drop_all}
use Rattle.linkinfo_messages.specs.declared.capture.CaptureFormat.{CaptureFormat}
use Rattle.linkinfo_messages.specs.declared.capture.Record.{Record}
use Rattle.linkinfo_messages.specs.declared.capture_error.CaptureCause.TheVariants as cause
use Rattle.linkinfo_messages.specs.declared.capture_error.CaptureError.{CaptureError}
use Rattle.linkinfo_messages.specs.Integers.{le32}
use Rattle.linkinfo_messages.specs.Captures.{
  capture_error,
  number,
  captured_len,
  nanoseconds_of,
  format_by,
  of_netlink,
  format_of,
  RecordParts,
  record_at,
  record_in,
  record_seen,
  rejected_headers,
  record_headers,
  headers_of,
  Walk,
  records_left,
  headers_left,
  Moves,
}
use Rattle.linkinfo_messages.specs.Reading.{items, followed}
use Rattle.linkinfo_messages.proofs.Items.{
  TakesSome,
  items_nil,
  items_at,
  items-bound,
  of_choice,
}

-- ---- the header of the file

always : {T E P : Type 0} (r : Result T E) → P → IfOk r (λ _. P)
always (Ok x) h = h
always (Err e) h = tt

-- it is there
pub format_room : (s : List ℕ) → IfOk (format_of s) (λ _. 24 ≤ length s)
unfolding format_of
format_room s =
    let P : Result CaptureFormat CaptureError → Type 0 = λ r. IfOk r (λ _. 24 ≤ length s) in
    of_choice P (ltb (length s) 24) (Err (capture_error 0 cause.FileHeader))
    (of_netlink (format_by (le32 s 0)) s) (λ _. tt) (λ long.
    let enough : 24 ≤ length s = ltb-false (length s) 24 long in
    always (of_netlink (format_by (le32 s 0)) s) enough)

-- ---- one record

-- a record has the offset of its header, and takes the header's 16 bytes and its packet
abbrev pub ReadsAt : ℕ → List ℕ → Result (RecordParts × ℕ) CaptureError → Type 0
ReadsAt place s (Ok x) =
    (x.0.place ≡ place)
    × (x.0.packet ≡ slice_range s 16 x.1)
    × (x.1 ≡ 16 + length x.0.packet)
    × (x.1 ≤ length s)
ReadsAt place s (Err e) = (e.place ≡ place) × (16 * rejected_headers e.cause ≤ length s)

reads_at : (format : CaptureFormat) (place : ℕ) (s : List ℕ) →
    ReadsAt place s (record_at format place s)
unfolding record_at
reads_at format place s =
    let P : Result (RecordParts × ℕ) CaptureError → Type 0 = ReadsAt place s in
    let n : ℕ = captured_len format s in
    let all : Result (RecordParts × ℕ) CaptureError = Ok (
      record {
        place = place;
        seconds = number format s 0;
        nanoseconds = nanoseconds_of format (number format s 4);
        original = number format s 12;
        packet = slice_range s 16 (16 + n);
      },
      16 + n,
    ) in
    let cut : Result (RecordParts × ℕ) CaptureError =
    cond (ltb (length s) (16 + n)) (Err (capture_error place (cause.Cut n))) all in
    of_choice P (ltb (length s) 16) (Err (capture_error place cause.RecordHeader)) cut
    (λ _. (refl, omega arith)) (λ whole.
    let header : 16 ≤ length s = ltb-false (length s) 16 whole in
    of_choice P (ltb (length s) (16 + n)) (Err (capture_error place (cause.Cut n))) all
    (λ _. (refl, header)) (λ long.
    let enough : 16 + n ≤ length s = ltb-false (length s) (16 + n) long in
    let size : length (take (16 + n - 16) (drop 16 s)) ≡ n =
    omega (arith, length-take (16 + n - 16) (drop 16 s), length-drop 16 s, enough) in
    (refl, refl, ap (λ k. 16 + k) (sym size), enough)))

pub record_takes_some : (format : CaptureFormat) → TakesSome (record_at format)
record_takes_some format place s x e =
    let at : ReadsAt place s (Ok x) = subst (ReadsAt place s) e (reads_at format place s) in
    (omega (arith, at.2), at.3)

-- ---- one call

abbrev walk : List ℕ → CaptureFormat → ℕ → ℕ → Bool → Walk
walk s format place n failed =
    record { source = s; format = format; place = place; examined = n; failed = failed }

left_in : (s : List ℕ) (format : CaptureFormat) (place n : ℕ) (failed : Bool) →
    failed ≡ false →
    records_left (walk s format place n failed) ≡ items (record_at format) place (drop place s)
left_in s format place n failed going =
    ap (λ b. records_left (walk s format place n b)) going

first_left : (s u : List ℕ) (format : CaptureFormat) (place n : ℕ) (failed : Bool)
    (r : Result (RecordParts × ℕ) CaptureError) → failed ≡ false → place < length s →
    u ≡ drop place s → r ≡ record_at format place u →
    records_left (walk s format place n failed)
    ≡ followed r (λ k. items (record_at format) (place + k) (drop (place + k) s))
first_left s u format place n failed r going h unread e =
    left_in s format place n failed going
    ∙ items_at (record_at format) (record_takes_some format) place s h
    ∙ ap (λ v. followed (record_at format place v)
    (λ k. items (record_at format) (place + k) (drop (place + k) s))) (sym unread)
    ∙ ap (λ v. followed v (λ k. items (record_at format) (place + k) (drop (place + k) s))) (sym e)

-- What is read at an offset has its header, and ends within the bytes. So no more headers are
-- counted than there is room for.
pub record_room : (s u : List ℕ) (format : CaptureFormat) (place : ℕ) (r : RecordParts) (k : ℕ) →
    place ≤ length s → u ≡ drop place s → Ok (r, k) ≡ record_at format place u →
    (16 ≤ k) × (place + k ≤ length s)
record_room s u format place r k h unread e =
    let at : ReadsAt place u (Ok (r, k)) =
    subst (ReadsAt place u) (sym e) (reads_at format place u) in
    (omega (arith, at.2), omega (arith, at.3, ap length unread, length-drop place s, h))

pub error_room : (s u : List ℕ) (format : CaptureFormat) (place : ℕ) (e : CaptureError) →
    place ≤ length s → u ≡ drop place s → Err e ≡ record_at format place u →
    place + 16 * rejected_headers e.cause ≤ length s
error_room s u format place e h unread bad =
    let at : ReadsAt place u (Err e) =
    subst (ReadsAt place u) (sym bad) (reads_at format place u) in
    omega (arith, at.1, ap length unread, length-drop place s, h)

-- the header of what is read is counted
counts : (s t : Walk) (x : Result Record CaptureError) →
    records_left s ≡ record_seen x ∷ records_left t →
    t.examined ≡ s.examined + record_headers x →
    t.examined + headers_left t ≡ s.examined + headers_left s
counts s t (Ok r) gives h = omega (arith, ap headers_of gives, h)
counts s t (Err e) gives h = omega (arith, ap headers_of gives, h)

-- a packet in the source
there : (s u : List ℕ) (place k : ℕ) → u ≡ drop place s →
    slice_range u 16 k ≡ slice_range s (place + 16) (place + k)
there s u place k unread =
    ap (λ v. take (k - 16) (drop 16 v)) unread
    ∙ ap (λ v. take (k - 16) v) (drop-drop 16 place s)
    ∙ ap (λ n. take n (drop (place + 16) s)) (omega arith)

pub on_record : (s u : List ℕ) (format : CaptureFormat) (place n m : ℕ) (failed : Bool)
    (r : Record) (k : ℕ) → failed ≡ false → place ≤ length s → place ≢ length s →
    u ≡ drop place s → Ok (record_in r, k) ≡ record_at format place u → m ≡ n + 1 →
    Moves (walk s format place n failed) (Some (Ok r)) (walk s format (place + k) m failed)
on_record s u format place n m failed r k going within more unread e counted =
    let at : ReadsAt place u (Ok (record_in r, k)) =
    subst (ReadsAt place u) (sym e) (reads_at format place u) in
    let before : Walk = walk s format place n failed in
    let after : Walk = walk s format (place + k) m failed in
    let gives : records_left before ≡ Ok (record_in r) ∷ records_left after =
    first_left s u format place n failed _ going (omega arith) unread e
    ∙ ap (λ l. Ok (record_in r) ∷ l) (sym (left_in s format (place + k) m failed going)) in
    record {
      gives = gives;
      source = refl;
      format = refl;
      counted = counts before after (Ok r) gives counted;
      steps = record {
        place = at.0;
        packet = at.1 ∙ there s u place k unread;
        after = ap (λ n. place + n) at.2;
        failed = refl;
      };
    }

pub on_error : (s u : List ℕ) (format : CaptureFormat) (place n m : ℕ) (failed : Bool)
    (e : CaptureError) → failed ≡ false → place ≤ length s → place ≢ length s → u ≡ drop place s →
    Err e ≡ record_at format place u → m ≡ n + rejected_headers e.cause →
    Moves (walk s format place n failed) (Some (Err e)) (walk s format place m true)
on_error s u format place n m failed e going within more unread bad counted =
    let at : ReadsAt place u (Err e) =
    subst (ReadsAt place u) (sym bad) (reads_at format place u) in
    let before : Walk = walk s format place n failed in
    let after : Walk = walk s format place m true in
    let gives : records_left before ≡ Err e ∷ records_left after =
    first_left s u format place n failed _ going (omega arith) unread bad in
    record {
      gives = gives;
      source = refl;
      format = refl;
      counted = counts before after (Err e) gives counted;
      steps = (at.0, refl, refl);
    }

-- no record is left
on_none : (w : Walk) → records_left w ≡ [] → Moves w None w
on_none w none =
    record { gives = (none, none); source = refl; format = refl; counted = refl; steps = refl }

pub on_failed : (s : List ℕ) (format : CaptureFormat) (place n : ℕ) (failed : Bool) →
    failed ≡ true →
    Moves (walk s format place n failed) None (walk s format place n failed)
on_failed s format place n failed stopped =
    on_none (walk s format place n failed)
    (ap (λ b. records_left (walk s format place n b)) stopped)

pub on_end : (s : List ℕ) (format : CaptureFormat) (place n : ℕ) (failed : Bool) →
    failed ≡ false → place ≡ length s →
    Moves (walk s format place n failed) None (walk s format place n failed)
on_end s format place n failed going at =
    on_none (walk s format place n failed) (left_in s format place n failed going
    ∙ ap (λ u. items (record_at format) place u) (drop_all place s (omega (arith, at)))
    ∙ items_nil (record_at format) place)

pub progress : (s t : Walk) (x : Result Record CaptureError) → Moves s (Some x) t →
    MakesProgress (λ _. Unit {0}) (item_count records_left) s (Some x) t
progress s t x h = record {
  on = λ _. (tt, tt, omega (arith, ap length h.gives));
  keeps = tt;
  rests = λ _. tt;
}

-- ---- how many there are

pub records-bound : (format : CaptureFormat) (place : ℕ) (s : List ℕ) →
    16 * length (items (record_at format) place s) ≤ length s + 15
records-bound format place s = items-bound (record_at format) (record_takes_some format) place s
