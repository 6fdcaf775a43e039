use Rattle.std.proofs.Common.{◌∙◌, ◌+◌, length, sym, ap, arith}
use Rattle.std.proofs.lemmas.Bool.{eqb-true, ne_eqb}
use Rattle.nla_frame.specs.Attribute.{masked}
use Rattle.nla_frame.specs.NlaItems.{nla_items}
use Rattle.linkinfo_table.specs.FamilyRows.{row_of}
use Rattle.linkinfo_table.specs.Lists.{alike_pairs, headers_of, values}
use Rattle.linkinfo_table.specs.Rows.{alike_in, headers_inside, meaning_in}
use Rattle.linkinfo_devices.proofs.NestedAnswers.{
  accepted_list,
  compared_list,
  flat_pair,
  on_true,
  other_type,
  where_true,
}
use Rattle.linkinfo_devices.proofs.nested_calls.+nested_same.Goals as goal

pub nested_same-nested_list_same-requires : goal.nested_same-nested_list_same-requires
nested_same-nested_list_same-requires g t c κs within =
    let m =
    meaning_in g.F.RowFamily.FAMILY g.F.RowFamily.other
    (λ n. row_of (g.F.RowFamily.rows (c.args.lists + 1) n)) in
    let less = c.if-lists-lt-MOST_LISTS.true in
    let five = sym c.kind.ensures ∙ c.if-kind-eq-LIST_TYPE.true in
    let other_five = sym c.kind-then-lists-lt-MOST_LISTS.ensures ∙ c.if-kind-eq-LIST_TYPE-2.true in
    let first =
    accepted_list g.F.NestedFamily.list_value (λ s. values m (nla_items s)) c.value.result.now
    c.args.a.now.value _ c.value.ensures.value
    (g.met.F.NestedFamily.list_means c.args.lists c.args.a.now less five) c.requires.first in
    let second =
    accepted_list g.F.NestedFamily.list_value (λ s. values m (nla_items s))
    c.value-then-kind-eq-LIST_TYPE-2.result.now c.args.b.now.value _
    c.value-then-kind-eq-LIST_TYPE-2.ensures.value
    (g.met.F.NestedFamily.list_means c.args.lists c.args.b.now less other_five)
    c.requires.second in (
      omega (arith, less, c.decreases),
      (
        within,
        (
          first,
          (
            second,
            (
              omega (
                arith,
                c.requires.room,
                ap length c.value.ensures.value,
                ap length c.value-then-kind-eq-LIST_TYPE-2.ensures.value,
              ),
              omega (arith, less),
            ),
          ),
        ),
      ),
    )

pub nested_same-returns-then-kind-eq-LIST_TYPE-2 :
    goal.nested_same-returns-then-kind-eq-LIST_TYPE-2
nested_same-returns-then-kind-eq-LIST_TYPE-2 g t c =
    let m =
    meaning_in g.F.RowFamily.FAMILY g.F.RowFamily.other
    (λ n. row_of (g.F.RowFamily.rows (c.args.lists + 1) n)) in
    let f = alike_in (λ n. row_of (g.F.RowFamily.rows (c.args.lists + 1) n)) in
    let h = headers_inside (λ n. row_of (g.F.RowFamily.rows (c.args.lists + 1) n)) in
    let less = c.if-lists-lt-MOST_LISTS.true in
    let five = sym c.kind.ensures ∙ c.if-kind-eq-LIST_TYPE.true in
    let other_five = sym c.kind-then-lists-lt-MOST_LISTS.ensures ∙ c.if-kind-eq-LIST_TYPE-2.true in
    let one = c.value.ensures.value in
    let other = c.value-then-kind-eq-LIST_TYPE-2.ensures.value in
    let first =
    ap (λ s. headers_of m h (nla_items s)) one
    ∙ sym (g.met.F.NestedFamily.list_headers c.args.lists c.args.a.now less five) in
    let second =
    ap (λ s. headers_of m h (nla_items s)) other
    ∙ sym (g.met.F.NestedFamily.list_headers c.args.lists c.args.b.now less other_five) in
    let compared = c.nested_list_same.ensures in
    record {
      same =
          compared_list (λ p q. alike_pairs f (nla_items p) (nla_items q)) c.value.result.now
          c.args.a.now.value
          c.value-then-kind-eq-LIST_TYPE-2.result.now c.args.b.now.value
          (masked c.args.a.now.kind) (masked c.args.b.now.kind) c.nested_list_same.result _
          compared.same one other
          (g.met.F.NestedFamily.list_alike c.args.lists c.args.a.now c.args.b.now less five)
          (other_five ∙ sym five);
      counted =
          on_true c.nested_list_same.result
          (λ _ counted. counted ∙ (λ i. c.args.count.now + (first i + second i)))
          compared.counted;
      rises = compared.rises;
      quarter = omega (arith, compared.quarter, ap length one, ap length other);
    }

pub nested_same-returns-else-kind-eq-LIST_TYPE-2 :
    goal.nested_same-returns-else-kind-eq-LIST_TYPE-2
nested_same-returns-else-kind-eq-LIST_TYPE-2 g t c =
    let five = sym c.kind.ensures ∙ c.if-kind-eq-LIST_TYPE.true in
    record {
      same =
          ne_eqb _ 5 c.if-kind-eq-LIST_TYPE-2.false
          ∙ other_type _ _ (masked c.args.a.now.kind) (masked c.args.b.now.kind)
          (g.met.F.NestedFamily.list_alike c.args.lists c.args.a.now c.args.b.now
          c.if-lists-lt-MOST_LISTS.true five)
          (λ e.
          c.if-kind-eq-LIST_TYPE-2.false (c.kind-then-lists-lt-MOST_LISTS.ensures ∙ e ∙ five));
      counted = where_true _ (λ t. absurd (c.if-kind-eq-LIST_TYPE-2.false (eqb-true _ _ t)));
      rises = omega arith;
      quarter = omega arith;
    }

pub nested_same-returns-else-kind-eq-LIST_TYPE : goal.nested_same-returns-else-kind-eq-LIST_TYPE
nested_same-returns-else-kind-eq-LIST_TYPE g t c =
    let rows = g.F.RowFamily.rows c.args.lists in
    let flat =
    g.met.F.NestedFamily.flat_elsewhere c.args.lists (masked c.args.a.now.kind)
    (λ e. omega (arith, e, c.kind.ensures, c.else-kind-eq-LIST_TYPE.either)) in
    record {
      same = c.row_same.ensures;
      counted =
          where_true c.row_same.result
          (λ t. omega (
            arith,
            flat_pair rows c.args.a.now c.args.b.now flat (sym c.row_same.ensures ∙ t),
          ));
      rises = omega arith;
      quarter = omega arith;
    }
