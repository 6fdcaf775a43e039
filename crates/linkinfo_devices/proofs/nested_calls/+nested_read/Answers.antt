use Rattle.std.proofs.Common.{◌∙◌, ◌+◌, length, sym, ap, arith}
use Rattle.nla_frame.specs.Attribute.{masked}
use Rattle.nla_frame.specs.NlaItems.{nla_items}
use Rattle.linkinfo_table.specs.FamilyRows.{row_of}
use Rattle.linkinfo_table.specs.Lists.{headers_of, memory_of, values}
use Rattle.linkinfo_table.specs.Rows.{headers_inside, meaning_in, memory_in}
use Rattle.linkinfo_devices.specs.Nested.{flat_headers}
use Rattle.linkinfo_devices.proofs.NestedAnswers.{given_list, certain_list, on_list_answer, on_each}
use Rattle.linkinfo_devices.proofs.nested_calls.+nested_read.Goals as goal

pub nested_read-returns-then-lists-lt-MOST_LISTS :
    goal.nested_read-returns-then-lists-lt-MOST_LISTS
nested_read-returns-then-lists-lt-MOST_LISTS g t c =
    let m =
    meaning_in g.F.RowFamily.FAMILY g.F.RowFamily.other
    (λ n. row_of (g.F.RowFamily.rows (c.args.lists + 1) n)) in
    let needs = memory_in (λ n. row_of (g.F.RowFamily.rows (c.args.lists + 1) n)) in
    let h = headers_inside (λ n. row_of (g.F.RowFamily.rows (c.args.lists + 1) n)) in
    let five = sym c.kind.ensures ∙ c.if-kind-eq-LIST_TYPE.true in
    let less = c.if-lists-lt-MOST_LISTS.true in
    let means = g.met.F.NestedFamily.list_means c.args.lists c.args.nla.now less five in
    let read = c.nested_list_read.ensures in
    record {
      answer =
          given_list (λ v. v.items) g.F.NestedFamily.list_value _ c.value_of_list.result
          (λ s. values m (nla_items s)) c.value.result.now c.args.nla.now.value
          c.nested_list_read.result read.answer c.value.ensures.value c.value_of_list.ensures means;
      certain =
          certain_list (λ v. v.items) g.F.NestedFamily.list_value _ c.value_of_list.result
          (λ s. values m (nla_items s)) (λ s. memory_of m needs (nla_items s))
          c.value.result.now c.args.nla.now.value c.nested_list_read.result _
          read.certain c.value.ensures.value c.value_of_list.ensures means
          (g.met.F.NestedFamily.list_needs_memory c.args.lists c.args.nla.now less five);
      counted =
          on_list_answer (λ v. v.items) g.F.NestedFamily.list_value c.nested_list_read.result
          c.value_of_list.result
          read.counted c.value_of_list.ensures (λ counted.
          counted
          ∙ ap (λ s. c.args.count.now + headers_of m h (nla_items s)) c.value.ensures.value
          ∙ ap (λ n. c.args.count.now + n)
          (sym (g.met.F.NestedFamily.list_headers c.args.lists c.args.nla.now less five)));
      rises = read.rises;
      quarter = omega (arith, read.quarter, ap length c.value.ensures.value);
    }

pub nested_read-returns-else-kind-eq-LIST_TYPE : goal.nested_read-returns-else-kind-eq-LIST_TYPE
nested_read-returns-else-kind-eq-LIST_TYPE g t c =
    let flat =
    g.met.F.NestedFamily.flat_elsewhere c.args.lists (masked c.args.nla.now.kind)
    (λ e. omega (arith, e, c.kind.ensures, c.else-kind-eq-LIST_TYPE.either)) in
    record {
      answer = c.row_read.ensures.answer;
      certain = c.row_read.ensures.certain;
      counted =
          on_each c.row_read.result
          (omega (arith, flat_headers (g.F.RowFamily.rows c.args.lists) c.args.nla.now flat));
      rises = omega arith;
      quarter = omega arith;
    }

pub nested_push-returns-else-kind-eq-LIST_TYPE : goal.nested_push-returns-else-kind-eq-LIST_TYPE
nested_push-returns-else-kind-eq-LIST_TYPE g t c =
    let flat =
    g.met.F.NestedFamily.flat_elsewhere c.args.lists (masked c.args.nla.now.kind)
    (λ e. omega (arith, e, c.kind.ensures, c.else-kind-eq-LIST_TYPE.either)) in
    record {
      answer = c.row_store.ensures.answer;
      unchanged = c.row_store.ensures.unchanged;
      certain = c.row_store.ensures.certain;
      counted =
          on_each c.row_store.result
          (omega (arith, flat_headers (g.F.RowFamily.rows c.args.lists) c.args.nla.now flat));
      rises = omega arith;
      quarter = omega arith;
    }
