use Rattle.std.proofs.Common.{◌∙◌, ◌+◌, length, sym, ap, arith}
use Rattle.nla_frame.specs.Attribute.{masked}
use Rattle.nla_frame.specs.NlaItems.{nla_items}
use Rattle.linkinfo_table.specs.FamilyRows.{row_of}
use Rattle.linkinfo_table.specs.Lists.{headers_of, values}
use Rattle.linkinfo_table.specs.Rows.{headers_inside, meaning_in}
use Rattle.linkinfo_devices.specs.Nested.{flat_headers}
use Rattle.linkinfo_devices.proofs.NestedAnswers.{checked_list}
use Rattle.linkinfo_devices.proofs.nested_calls.+nested_check.Goals as goal

pub nested_check-returns-then-lists-lt-MOST_LISTS :
    goal.nested_check-returns-then-lists-lt-MOST_LISTS
nested_check-returns-then-lists-lt-MOST_LISTS g t c =
    let m =
    meaning_in g.F.RowFamily.FAMILY g.F.RowFamily.other
    (λ n. row_of (g.F.RowFamily.rows (c.args.lists + 1) n)) in
    let h = headers_inside (λ n. row_of (g.F.RowFamily.rows (c.args.lists + 1) n)) in
    let five = sym c.kind.ensures ∙ c.if-kind-eq-LIST_TYPE.true in
    let less = c.if-lists-lt-MOST_LISTS.true in
    let checked = c.nested_list_check.ensures in
    record {
      answer =
          checked_list g.F.NestedFamily.list_value (λ s. values m (nla_items s))
          c.value.result.now c.args.nla.now.value c.nested_list_check.result _ checked.answer
          c.value.ensures.value
          (g.met.F.NestedFamily.list_means c.args.lists c.args.nla.now less five);
      counted =
          checked.counted
          ∙ ap (λ s. c.args.count.now + headers_of m h (nla_items s)) c.value.ensures.value
          ∙ ap (λ n. c.args.count.now + n)
          (sym (g.met.F.NestedFamily.list_headers c.args.lists c.args.nla.now less five));
      rises = checked.rises;
      quarter = omega (arith, checked.quarter, ap length c.value.ensures.value);
    }

pub nested_check-returns-else-kind-eq-LIST_TYPE : goal.nested_check-returns-else-kind-eq-LIST_TYPE
nested_check-returns-else-kind-eq-LIST_TYPE g t c =
    let flat =
    g.met.F.NestedFamily.flat_elsewhere c.args.lists (masked c.args.nla.now.kind)
    (λ e. omega (arith, e, c.kind.ensures, c.else-kind-eq-LIST_TYPE.either)) in
    record {
      answer = c.row_check.ensures;
      counted = omega (arith, flat_headers (g.F.RowFamily.rows c.args.lists) c.args.nla.now flat);
      rises = omega arith;
      quarter = omega arith;
    }
