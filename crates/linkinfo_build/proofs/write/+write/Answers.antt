use Rattle.std.proofs.Common.{
  ◌≡◌,
  ◌≤◌,
  ◌<◌,
  ◌+◌,
  ◌-◌,
  ◌++◌,
  ◌∙◌,
  IsOk,
  List,
  Result,
  ap,
  arith,
  length,
  refl,
  rules,
  subst,
  sym,
  ℕ,
}
use Rattle.std.proofs.lemmas.List.{length-append, length-drop, take_rest}
use Rattle.nla_frame.specs.Attribute.{Attribute, buffer_len_of, canonical_string}
use Rattle.nla_frame.specs.Writing.{Writes}
use Rattle.nla_frame.proofs.Emitting.{framed_after, length-canonical_string}
use Rattle.linkinfo_build.specs.Build.{bytes_in, list_up_to}
use Rattle.linkinfo_build.specs.declared.value.BuildError.{BuildError}
use Rattle.linkinfo_build.proofs.Listing.{
  few_at,
  goes_at,
  inside_bytes,
  inside_ok,
  no_value,
  none_at_zero,
  ok_at,
  string_at,
  write_at,
}
use Rattle.linkinfo_build.proofs.Payloads.{by_datum, by_raw, into_list, low, no_error}
use Rattle.linkinfo_build.proofs.write.+write.Goals as goal

-- there is room for the first attribute of what is left
room_for : (a : Attribute) (left rest : List ℕ) → left ≡ canonical_string a ++ rest →
    buffer_len_of a ≤ length left
room_for a left rest e = omega (
  arith,
  ap length e,
  length-append (canonical_string a) rest,
  length-canonical_string a,
)

pub write_inside-unreachable-requires : goal.write_inside-unreachable-requires
write_inside-unreachable-requires t c =
    none_at_zero c.args.rows c.args.values.now c.args.depth c.if-depth-eq0.true c.requires.fits

pub write_inside-write_list-requires : goal.write_inside-write_list-requires
write_inside-write_list-requires t c =
    let some : 0 < c.args.depth = omega (arith, c.if-depth-eq0.false) in (
      omega (arith, some, c.decreases),
      (
        inside_ok c.args.rows c.args.values.now c.args.depth some c.requires.fits,
        omega (
          arith,
          c.requires.room,
          ap length (inside_bytes c.args.rows c.args.values.now c.args.depth some),
        ),
      ),
    )

pub write_inside-returns : goal.write_inside-returns
write_inside-returns t c =
    let some : 0 < c.args.depth = omega (arith, c.if-depth-eq0.false) in
    subst
    (λ (s : List ℕ). Writes s c.args.buffer.now c.write_list.new.buffer c.write_list.result)
    (sym (inside_bytes c.args.rows c.args.values.now c.args.depth some))
    c.write_list.ensures

pub write_list-write_value-place-requires : goal.write_list-write_value-place-requires
write_list-write_value-place-requires t c =
    let behind = take_rest c.args.values.now (c.loop-at.at + 1) in
    let goes =
    goes_at (list_up_to c.args.depth) c.args.rows c.args.values.now c.loop-at.at
    c.loop-at.place no_value c.loop-at-test.true _ behind c.loop-at.invariant.fits in
    let string =
    string_at (list_up_to c.args.depth) c.args.rows c.args.values.now c.loop-at.at
    c.loop-at.place no_value c.loop-at-test.true _ behind c.loop-at.invariant.fits _ _ refl
    refl in (
      omega (arith, c.decreases),
      (
        goes.payload,
        (
          omega (arith, goes.fits),
          omega (
            arith,
            room_for _ _ _ string,
            c.loop-at.invariant.so_far.place,
            c.requires.room,
            c.loop-at.auto.buffer,
            length-drop c.loop-at.place c.loop-at.buffer,
            ap length (take_rest c.loop-at.buffer c.loop-at.place),
          ),
        ),
      ),
    )

pub write_list-overflow_add-at : goal.write_list-overflow_add-at
write_list-overflow_add-at t c =
    let few =
    few_at (list_up_to c.args.depth) c.args.rows c.args.values.now c.loop-at.at
    c.loop-at.place no_value c.loop-at-test.true _ (take_rest c.args.values.now (c.loop-at.at + 1))
    c.loop-at.invariant.fits in
    omega (
      arith,
      few,
      c.inside_count.ensures,
      ap length (take_rest c.args.values.now (c.loop-at.at + 1)),
      length-drop (c.loop-at.at + 1) c.args.values.now,
      c.loop-at-test.true,
    )

pub write_list-overflow_add-at-in-loop-at : goal.write_list-overflow_add-at-in-loop-at
write_list-overflow_add-at-in-loop-at t c =
    let few =
    few_at (list_up_to c.args.depth) c.args.rows c.args.values.now c.loop-at.at
    c.loop-at.place no_value c.loop-at-test.true _ (take_rest c.args.values.now (c.loop-at.at + 1))
    c.loop-at.invariant.fits in
    omega (
      arith,
      few,
      c.inside_count.ensures,
      ap length (take_rest c.args.values.now (c.loop-at.at + 1)),
      length-drop (c.loop-at.at + 1) c.args.values.now,
      c.loop-at-test.true,
    )

pub write_list-loop-at-preserved : goal.write_list-loop-at-preserved
write_list-loop-at-preserved t c =
    let behind = take_rest c.args.values.now (c.loop-at.at + 1) in
    let few =
    few_at (list_up_to c.args.depth) c.args.rows c.args.values.now c.loop-at.at
    c.loop-at.place no_value c.loop-at-test.true _ behind c.loop-at.invariant.fits in
    record {
      fits =
          ok_at (list_up_to c.args.depth) c.args.rows c.args.values.now c.loop-at.at
          c.loop-at.place no_value c.loop-at-test.true _ behind c.loop-at.invariant.fits
          c.write_value-place.result c.inside_count.result c.write_value-place.ensures.taken
          c.inside_count.ensures;
      within =
          omega (
            arith,
            few,
            c.inside_count.ensures,
            ap length behind,
            length-drop (c.loop-at.at + 1) c.args.values.now,
            c.loop-at-test.true,
          );
      so_far =
          write_at (list_up_to c.args.depth) c.args.rows c.args.values.now c.loop-at.at
          c.loop-at.place no_value c.loop-at-test.true _ behind c.loop-at.invariant.fits
          c.write_value-place.result c.inside_count.result
          (length c.loop-at.buffer - c.loop-at.place) _ c.args.buffer.now c.loop-at.buffer
          c.write_value-place.new.buffer c.write_value-place.ensures.taken
          c.inside_count.ensures c.loop-at.invariant.so_far
          (omega (arith, c.requires.room, c.loop-at.auto.buffer)) refl
          c.write_value-place.ensures.written;
    }

pub write_payload-write_datum_payload-requires-clause-fits :
    goal.write_payload-write_datum_payload-requires-clause-fits
write_payload-write_datum_payload-requires-clause-fits t c =
    subst (λ (r : Result (List ℕ) BuildError). IsOk r)
    (by_datum (list_up_to c.args.depth) c.args.rows c.args.value.now c.args.more.now
    c.requires.fits c.shape_in-shape.result c.shape_in-shape.ensures c.in-Datum.datum
    c.in-Datum.is)
    c.requires.fits

pub write_payload-write_datum_payload-requires-clause-room :
    goal.write_payload-write_datum_payload-requires-clause-room
write_payload-write_datum_payload-requires-clause-room t c =
    subst (λ (r : Result (List ℕ) BuildError). length (bytes_in r) ≤ length c.args.buffer.now)
    (by_datum (list_up_to c.args.depth) c.args.rows c.args.value.now c.args.more.now
    c.requires.fits c.shape_in-shape.result c.shape_in-shape.ensures c.in-Datum.datum
    c.in-Datum.is)
    c.requires.room

pub write_payload-write_bytes-requires : goal.write_payload-write_bytes-requires
write_payload-write_bytes-requires t c =
    subst (λ (r : Result (List ℕ) BuildError). length (bytes_in r) ≤ length c.args.buffer.now)
    (by_raw (list_up_to c.args.depth) c.args.rows c.args.value.now c.args.more.now
    c.requires.fits c.in-Raw.bytes c.in-Raw.is)
    c.requires.room

pub write_payload-write_inside-requires : goal.write_payload-write_inside-requires
write_payload-write_inside-requires t c =
    let into =
    into_list (list_up_to c.args.depth) c.args.rows c.args.value.now c.args.more.now
    c.requires.fits c.shape_in-shape.result c.shape_in-shape.ensures c.in-List.count
    c.in-List.is c.in-Ok.inner (sym c.opened.ensures ∙ c.in-Ok.is) in (
      omega (arith, c.decreases),
      (
        subst (λ (r : Result (List ℕ) BuildError). IsOk r) into c.requires.fits,
        subst (λ (r : Result (List ℕ) BuildError). length (bytes_in r) ≤ length c.args.buffer.now)
            into c.requires.room,
      ),
    )

pub write_payload-unreachable-requires : goal.write_payload-unreachable-requires
write_payload-unreachable-requires t c =
    no_error (list_up_to c.args.depth) c.args.rows c.args.value.now c.args.more.now
    c.requires.fits c.shape_in-shape.result c.shape_in-shape.ensures c.in-List.count
    c.in-List.is c.in-Err.field-0 (sym c.opened.ensures ∙ c.in-Err.is)

pub write_payload-returns-in-Datum : goal.write_payload-returns-in-Datum
write_payload-returns-in-Datum t c =
    subst
    (λ (r : Result (List ℕ) BuildError). Writes (bytes_in r) c.args.buffer.now
    c.write_datum_payload.new.buffer c.write_datum_payload.result)
    (sym (by_datum (list_up_to c.args.depth) c.args.rows c.args.value.now c.args.more.now
    c.requires.fits c.shape_in-shape.result c.shape_in-shape.ensures c.in-Datum.datum
    c.in-Datum.is))
    c.write_datum_payload.ensures

pub write_payload-returns-in-Raw : goal.write_payload-returns-in-Raw
write_payload-returns-in-Raw t c =
    subst
    (λ (r : Result (List ℕ) BuildError). Writes (bytes_in r) c.args.buffer.now
    c.write_bytes.new.buffer c.write_bytes.result)
    (sym (by_raw (list_up_to c.args.depth) c.args.rows c.args.value.now c.args.more.now
    c.requires.fits c.in-Raw.bytes c.in-Raw.is))
    c.write_bytes.ensures

pub write_payload-returns-in-Ok : goal.write_payload-returns-in-Ok
write_payload-returns-in-Ok t c =
    subst
    (λ (r : Result (List ℕ) BuildError). Writes (bytes_in r) c.args.buffer.now
    c.write_inside.new.buffer c.write_inside.result)
    (sym (into_list (list_up_to c.args.depth) c.args.rows c.args.value.now c.args.more.now
    c.requires.fits c.shape_in-shape.result c.shape_in-shape.ensures c.in-List.count
    c.in-List.is c.in-Ok.inner (sym c.opened.ensures ∙ c.in-Ok.is)))
    c.write_inside.ensures

pub write_value-kind_written-requires : goal.write_value-kind_written-requires
write_value-kind_written-requires t c =
    low (list_up_to c.args.depth) c.args.rows c.args.value.now c.args.more.now c.requires.fits

pub write_value-returns : goal.write_value-returns
write_value-returns t c =
    let buffer = c.args.buffer.now in
    record {
      taken = search (rules, arith);
      written =
          c.write_frame.ensures
          ∙ framed_after _ buffer c.write_payload-len.new.buffer
          c.write_payload-len.result (length buffer - 4) c.kind_written.result
          c.write_payload-len.ensures.taken refl c.kind_written.ensures c.requires.room
          c.write_payload-len.ensures.written;
    }
