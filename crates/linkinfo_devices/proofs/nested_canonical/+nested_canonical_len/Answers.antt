use Rattle.std.proofs.Common.{◌∙◌, ◌+◌, length, sym, subst, arith}
use Rattle.std.specs.Prelude.{SomeIff}
use Rattle.nla_frame.specs.Attribute.{Attribute, Fits}
use Rattle.nla_frame.specs.NlaItems.{nla_items}
use Rattle.linkinfo_table.specs.FamilyRows.{row_of}
use Rattle.linkinfo_table.specs.Lists.{values}
use Rattle.linkinfo_table.specs.Rows.{meaning_in}
use Rattle.linkinfo_devices.proofs.NestedAnswers.{accepted_list, list_attribute}
use Rattle.linkinfo_devices.proofs.nested_canonical.+nested_canonical_len.Goals as goal

pub nested_canonical_len-nested_list_canonical_len-requires :
    goal.nested_canonical_len-nested_list_canonical_len-requires
nested_canonical_len-nested_list_canonical_len-requires g t c κs within =
    let m =
    meaning_in g.F.RowFamily.FAMILY g.F.RowFamily.other
    (λ n. row_of (g.F.RowFamily.rows (c.args.lists + 1) n)) in
    let less = c.if-lists-lt-MOST_LISTS.true in
    let five = sym c.kind.ensures ∙ c.if-kind-eq-LIST_TYPE.true in
    let accepted =
    accepted_list g.F.NestedFamily.list_value (λ s. values m (nla_items s)) c.value.result.now
    c.args.nla.now.value _ c.value.ensures.value
    (g.met.F.NestedFamily.list_means c.args.lists c.args.nla.now less five) c.requires in
    (omega (arith, less, c.decreases), (within, (accepted, omega (arith, less))))

pub nested_canonical_len-returns-then-lists-lt-MOST_LISTS :
    goal.nested_canonical_len-returns-then-lists-lt-MOST_LISTS
nested_canonical_len-returns-then-lists-lt-MOST_LISTS g t c =
    let m =
    meaning_in g.F.RowFamily.FAMILY g.F.RowFamily.other
    (λ n. row_of (g.F.RowFamily.rows (c.args.lists + 1) n)) in
    let five = sym c.kind.ensures ∙ c.if-kind-eq-LIST_TYPE.true in
    let is =
    list_attribute g.F.RowFamily.canonical g.F.NestedFamily.list_value
    g.met.F.NestedFamily.list_written (λ s. values m (nla_items s)) c.value.result.now
    c.args.nla.now.value _ c.value.ensures.value
    (g.met.F.NestedFamily.list_means c.args.lists c.args.nla.now c.if-lists-lt-MOST_LISTS.true five)
    c.requires in
    subst (λ (z : Attribute). SomeIff c.nested_list_canonical_len.result (Fits z) (length z.value))
    (sym is) c.nested_list_canonical_len.ensures
