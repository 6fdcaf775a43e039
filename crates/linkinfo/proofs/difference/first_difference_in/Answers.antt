use Rattle.std.specs.Prelude.{IsOk}
use Rattle.std.proofs.Common.{arith, ap, sym, subst, ◌∙◌, ◌-◌, ◌≡◌, length, Result}
use Rattle.nla_frame.specs.Attribute.{masked}
use Rattle.nla_frame.specs.NlaItems.{nla_items}
use Rattle.nla_frame.specs.declared.error.DecodeError.{DecodeError}
use Rattle.linkinfo_table.specs.declared.last.PlacedNla.{PlacedNla}
use Rattle.linkinfo_table.proofs.Lasts.{left_at_attribute, left_of}
use Rattle.linkinfo_table.proofs.Differences.{no_difference}
use Rattle.linkinfo.specs.Strings.{reading, values_from}
use Rattle.linkinfo.specs.declared.role.CurrentKinds.{CurrentKinds}
use Rattle.linkinfo.proofs.Differences.{all_is_left, left_difference, pair_alike, pair_passes}
use Rattle.linkinfo.proofs.Pairs.{entered_is, paired}
use Rattle.linkinfo.proofs.difference.first_difference_in.Goals as goal

pub loop-nla-init : goal.loop-nla-init
unfolding reading
loop-nla-init g c =
    record {
      first = rw c.none-kinds.ensures c.requires.first;
      second = rw c.none-kinds.ensures c.requires.second;
      left =
          all_is_left g.P.DataLayer.families c.none-kinds.result c.args.a.now c.args.b.now
          c.none-kinds.ensures;
      room = omega (arith, c.new-count.ensures);
      left_a = omega arith;
      left_b = omega arith;
    }

pub role_difference-difference-requires-clause-first :
    goal.role_difference-difference-requires-clause-first
role_difference-difference-requires-clause-first g c =
    let step_x = rw c.in-Some-Ok.field-0-is at c.in-Some-Ok.ensures in
    let step_y = rw c.in-Some-Ok-next_attribute.field-0-is at c.in-Some-Ok-next_attribute.ensures in
    let inv = c.loop-nla.invariant in
    (paired g.P.DataLayer.families _ _ _ _ _ _ _ _ _ c.role_of-role.ensures
    c.kind-kind.ensures step_x.nla_items_are step_y.nla_items_are inv.first inv.second).first

pub role_difference-difference-requires-clause-second :
    goal.role_difference-difference-requires-clause-second
role_difference-difference-requires-clause-second g c =
    let step_x = rw c.in-Some-Ok.field-0-is at c.in-Some-Ok.ensures in
    let step_y = rw c.in-Some-Ok-next_attribute.field-0-is at c.in-Some-Ok-next_attribute.ensures in
    let inv = c.loop-nla.invariant in
    (paired g.P.DataLayer.families _ _ _ _ _ _ _ _ _ c.role_of-role.ensures
    c.kind-kind.ensures step_x.nla_items_are step_y.nla_items_are inv.first inv.second).second
    (sym c.kind.ensures ∙ c.if-kind.false ∙ c.kind-kind.ensures)

pub unwrap-kinds-requires : goal.unwrap-kinds-requires
unwrap-kinds-requires g c =
    let step_x = rw c.in-Some-Ok.field-0-is at c.in-Some-Ok.ensures in
    let step_y = rw c.in-Some-Ok-next_attribute.field-0-is at c.in-Some-Ok-next_attribute.ensures in
    let inv = c.loop-nla.invariant in
    let pair =
    paired g.P.DataLayer.families _ _ _ _ _ _ _ _ _ c.role_of-role.ensures
    c.kind-kind.ensures step_x.nla_items_are step_y.nla_items_are inv.first inv.second in
    subst (λ (r : Result CurrentKinds DecodeError). IsOk r) (sym c.kinds_after.ensures) pair.clean

pub loop-nla-preserved : goal.loop-nla-preserved
loop-nla-preserved g c =
    let layer = g.P.DataLayer.families in
    let step_x = rw c.in-Some-Ok.field-0-is at c.in-Some-Ok.ensures in
    let step_y = rw c.in-Some-Ok-next_attribute.field-0-is at c.in-Some-Ok-next_attribute.ensures in
    let inv = c.loop-nla.invariant in
    let a = c.args.a.now in
    let b = c.args.b.now in
    let x = c.loop-nla.x.now in
    let y = c.loop-nla.y.now in
    let after_x = c.in-Some-Ok.after_x.now in
    let after_y = c.in-Some-Ok-next_attribute.after_y.now in
    let p : PlacedNla = record { offset = length a - length x; nla = c.in-Some-Ok.nla } in
    let q : PlacedNla =
    record { offset = length b - length y; nla = c.in-Some-Ok-next_attribute.nla } in
    let pair =
    paired layer _ _ _ _ _ _ _ _ _ c.role_of-role.ensures c.kind-kind.ensures
    step_x.nla_items_are step_y.nla_items_are inv.first inv.second in
    let types : masked q.nla.kind ≡ masked p.nla.kind =
    sym c.kind.ensures ∙ c.if-kind.false ∙ c.kind-kind.ensures in
    let difference = c.role_difference-difference in
    let none = no_difference difference.result (sym c.if-is_some.ensures) in
    let alike =
    pair_alike layer c.families_lawful.ensures c.role_of-role.result p q
    difference.result types pair.first
    (pair.second types) difference.ensures none in
    let kinds =
    entered_is layer _ _ _ _ _ c.role_of-role.ensures c.kind-kind.ensures
    (sym c.kinds_after.ensures ∙ c.unwrap-kinds.ensures) in
    let other = sym (pair.goes_on alike) ∙ kinds in
    let front_a = left_at_attribute a x after_x c.in-Some-Ok.nla _ _ step_x inv.left_a in
    let front_b =
    left_at_attribute b y after_y c.in-Some-Ok-next_attribute.nla _ _ step_y inv.left_b in
    let passes =
    pair_passes layer c.loop-nla.kinds c.role_of-role.result c.kind-kind.result p q
    (left_of a after_x) (left_of b after_y) difference.result c.role_of-role.ensures
    c.kind-kind.ensures types difference.ensures none in
    record {
      first =
          subst (λ (u : CurrentKinds). IsOk (values_from layer u (nla_items after_x))) kinds
          pair.first_more;
      second =
          subst (λ (u : CurrentKinds). IsOk (values_from layer u (nla_items after_y))) other
          pair.second_more;
      left =
          ap
          (λ (u : CurrentKinds). left_difference layer u (left_of a after_x) (left_of b after_y))
          (sym kinds)
          ∙ sym passes
          ∙ (rw (front_a, front_b) at inv.left);
      room = omega (arith, step_x.counted, step_x.room, step_y.counted, step_y.room, inv.room);
      left_a = omega (arith, step_x.room, inv.left_a);
      left_b = omega (arith, step_y.room, inv.left_b);
    }
