use Rattle.std.proofs.Common.{◌∙◌, ◌+◌, ◌-◌, ◌≤◌, length, refl, sym, subst, arith, rules}
use Rattle.nla_frame.specs.Attribute.{Attribute, Fits, buffer_len_of}
use Rattle.nla_frame.specs.NlaItems.{nla_items}
use Rattle.nla_frame.specs.Writing.{WritesAttribute}
use Rattle.nla_frame.proofs.Emitting.{framed_after}
use Rattle.linkinfo_table.specs.FamilyRows.{row_of}
use Rattle.linkinfo_table.specs.Lists.{canonical_list, values}
use Rattle.linkinfo_table.specs.Rows.{meaning_in}
use Rattle.linkinfo_table.proofs.Writing.{write_next}
use Rattle.linkinfo_devices.proofs.NestedAnswers.{accepted_list, list_attribute}
use Rattle.linkinfo_devices.proofs.nested_canonical.+nested_write_canonical.Goals as goal

pub nested_write_canonical-nested_write_list-requires :
    goal.nested_write_canonical-nested_write_list-requires
nested_write_canonical-nested_write_list-requires g t c κs within =
    let m =
    meaning_in g.F.RowFamily.FAMILY g.F.RowFamily.other
    (λ n. row_of (g.F.RowFamily.rows (c.args.lists + 1) n)) in
    let less = c.if-lists-lt-MOST_LISTS.true in
    let means =
    g.met.F.NestedFamily.list_means c.args.lists c.args.nla.now less
    (sym c.kind.ensures ∙ c.if-kind-eq-LIST_TYPE.true) in
    let accepted =
    accepted_list g.F.NestedFamily.list_value (λ s. values m (nla_items s)) c.value.result.now
    c.args.nla.now.value _ c.value.ensures.value means c.requires.accepted in
    let is =
    list_attribute g.F.RowFamily.canonical g.F.NestedFamily.list_value
    g.met.F.NestedFamily.list_written (λ s. values m (nla_items s)) c.value.result.now
    c.args.nla.now.value _ c.value.ensures.value means c.requires.accepted in (
      omega (arith, less, c.decreases),
      (
        within,
        (
          accepted,
          (
            omega (arith, less),
            (
              subst Fits is c.requires.fits,
              subst (λ (z : Attribute). buffer_len_of z ≤ length c.args.buffer.now) is
                  c.requires.room,
            ),
          ),
        ),
      ),
    )

pub nested_write_canonical-returns-then-lists-lt-MOST_LISTS :
    goal.nested_write_canonical-returns-then-lists-lt-MOST_LISTS
nested_write_canonical-returns-then-lists-lt-MOST_LISTS g t c =
    let m =
    meaning_in g.F.RowFamily.FAMILY g.F.RowFamily.other
    (λ n. row_of (g.F.RowFamily.rows (c.args.lists + 1) n)) in
    let means =
    g.met.F.NestedFamily.list_means c.args.lists c.args.nla.now c.if-lists-lt-MOST_LISTS.true
    (sym c.kind.ensures ∙ c.if-kind-eq-LIST_TYPE.true) in
    subst (λ (z : Attribute).
    WritesAttribute z c.args.buffer.now c.nested_write_list.new.buffer c.nested_write_list.result)
    (sym (list_attribute g.F.RowFamily.canonical
    g.F.NestedFamily.list_value g.met.F.NestedFamily.list_written (λ s. values m (nla_items s))
    c.value.result.now c.args.nla.now.value _ c.value.ensures.value means c.requires.accepted))
    c.nested_write_list.ensures

pub nested_write_list-returns : goal.nested_write_list-returns
nested_write_list-returns g t c =
    let m =
    meaning_in g.F.RowFamily.FAMILY g.F.RowFamily.other
    (λ n. row_of (g.F.RowFamily.rows c.args.lists n)) in
    let buffer = c.args.buffer.now in
    let a : Attribute = record {
      kind = 5;
      value = canonical_list g.F.RowFamily.canonical m (nla_items c.args.bytes.now);
    } in
    record {
      taken = search (rules, arith);
      written =
          c.write_frame.ensures
          ∙ framed_after a buffer c.nested_list_write_canonical-len.new.buffer
          c.nested_list_write_canonical-len.result (length buffer - 4) 5
          c.nested_list_write_canonical-len.ensures.taken refl refl c.requires.room
          c.nested_list_write_canonical-len.ensures.written;
    }

pub nested_list_write_canonical-loop-next-preserved :
    goal.nested_list_write_canonical-loop-next-preserved
nested_list_write_canonical-loop-next-preserved g t c =
    let m =
    meaning_in g.F.RowFamily.FAMILY g.F.RowFamily.other
    (λ n. row_of (g.F.RowFamily.rows c.args.lists n)) in
    let canonical = g.F.RowFamily.canonical in
    let buffer = c.loop-next.buffer in
    let at = c.loop-next.place in
    record {
      accepted = search rules;
      so_far =
          write_next (λ _ a. m a) (λ t _. t) canonical
          (canonical_list canonical m (nla_items c.args.bytes.now)) (tt {0})
          (nla_items c.loop-next.rest.now) c.unwrap-nla.result.0
          (nla_items c.unwrap-nla.result.1.now)
          at c.args.buffer.now buffer c.loop-next.invariant.so_far (search rules)
          c.loop-next.invariant.accepted
          (search (rules, arith)) c.nested_write_canonical-place.result
          c.nested_write_canonical-place.ensures.taken (length buffer - at) refl
          c.nested_write_canonical-place.new.buffer
          c.nested_write_canonical-place.ensures.written;
      room = search (rules, arith);
    }
