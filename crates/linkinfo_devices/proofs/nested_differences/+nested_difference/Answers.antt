use Rattle.std.proofs.Common.{arith, refl, sym, ◌∙◌}
use Rattle.linkinfo_table.specs.FamilyMeaning.{alike_by, meaning_by}
use Rattle.linkinfo_table.proofs.Differences.{front_ok, no_difference, pair_passes}
use Rattle.linkinfo_table.proofs.Lasts.{all_stand, left_at_attribute, left_at_start, left_of}
use Rattle.linkinfo_devices.specs.Nested.{self_listed}
use Rattle.linkinfo_devices.proofs.nested_differences.+nested_difference.Goals as goal

pub nested_list_difference-loop-p-init : goal.nested_list_difference-loop-p-init
nested_list_difference-loop-p-init g t c =
    let start_a = left_at_start c.args.a.now in
    let start_b = left_at_start c.args.b.now in
    record {
      first = c.requires.first;
      second = c.requires.second;
      stand_a = rw start_a (all_stand c.args.a.now);
      stand_b = rw start_b (all_stand c.args.b.now);
      left = rw (start_a, start_b) refl;
      room = omega (arith, c.new-count.ensures);
      left_a = omega arith;
      left_b = omega arith;
    }

pub nested_list_difference-loop-p-preserved : goal.nested_list_difference-loop-p-preserved
nested_list_difference-loop-p-preserved g t c =
    let step_x = rw c.in-Some-Ok.field-0-is at c.in-Some-Ok.ensures in
    let step_y = rw c.in-Some-Ok-next_attribute.field-0-is at c.in-Some-Ok-next_attribute.ensures in
    let before = c.loop-p.invariant in
    let a = c.args.a.now in
    let b = c.args.b.now in
    let x = c.loop-p.x.now in
    let y = c.loop-p.y.now in
    let own = g.F.RowFamily in
    let meaning = meaning_by own c.args.lists in
    let l = self_listed own.FAMILY meaning (alike_by own c.args.lists) in
    let front_a =
    left_at_attribute a x c.in-Some-Ok.after_p.now c.in-Some-Ok.p _ _ step_x before.left_a in
    let front_b =
    left_at_attribute b y c.in-Some-Ok-next_attribute.after_q.now
    c.in-Some-Ok-next_attribute.q _ _ step_y
    before.left_b in
    let none = no_difference c.pair_difference-difference.result (sym c.if-is_some.ensures) in
    let passes =
    pair_passes l (g.F.NestedFamily.contents c.args.lists) _ _ (left_of a c.in-Some-Ok.after_p.now)
    (left_of b c.in-Some-Ok-next_attribute.after_q.now)
    (sym c.pair_difference-difference.ensures.difference ∙ none) in
    record {
      first =
          (front_ok meaning x c.in-Some-Ok.after_p.now c.in-Some-Ok.p before.first
          step_x.nla_items_are).1;
      second =
          (front_ok meaning y c.in-Some-Ok-next_attribute.after_q.now c.in-Some-Ok-next_attribute.q
          before.second step_y.nla_items_are).1;
      stand_a = (rw front_a at before.stand_a).1;
      stand_b = (rw front_b at before.stand_b).1;
      left = sym passes ∙ (rw (front_a, front_b) at before.left);
      room = omega (arith, step_x.counted, step_x.room, step_y.counted, step_y.room, before.room);
      left_a = omega (arith, step_x.room, before.left_a);
      left_b = omega (arith, step_y.room, before.left_b);
    }
