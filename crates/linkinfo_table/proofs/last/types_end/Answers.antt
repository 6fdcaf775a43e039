use Rattle.std.proofs.Common.{ap, arith, max, ◌∙◌, ◌+◌, ℕ}
use Rattle.nla_frame.specs.Attribute.{masked}
use Rattle.linkinfo_table.specs.Last.{types_end}
use Rattle.linkinfo_table.proofs.Lasts.{
  end_kept,
  end_raised,
  left_at_attribute,
  left_at_start,
  left_of,
  masked_small,
  none_yet,
}
use Rattle.linkinfo_table.proofs.last.types_end.Goals as goal

pub loop-nla-init : goal.loop-nla-init
loop-nla-init c = record {
  end =
      none_yet (types_end (left_of c.args.source.now c.args.source.now))
      ∙ ap types_end (left_at_start c.args.source.now);
  small = omega arith;
  room = omega (arith, c.new-count.ensures);
}

pub loop-nla-preserved-then-kind-end : goal.loop-nla-preserved-then-kind-end
loop-nla-preserved-then-kind-end c =
    let step = rw c.in-Some-Ok.field-0-is at c.in-Some-Ok.ensures in
    let before = c.loop-nla.invariant in
    let source = c.args.source.now in
    let front =
    left_at_attribute source c.loop-nla.rest.now c.in-Some-Ok.after.now c.in-Some-Ok.nla _ _ step
    (omega (arith, before.room)) in
    let left = types_end (left_of source c.in-Some-Ok.after.now) in
    let k = masked c.in-Some-Ok.nla.kind in
    record {
      end =
          ap (λ (n : ℕ). max (n + 1) left) c.kind-kind.ensures
          ∙ end_raised c.loop-nla.end k left
          (omega (arith, c.kind-kind.ensures, c.if-kind-end.true))
          ∙ (rw front at before.end);
      small = omega (arith, c.kind-kind.ensures, masked_small c.in-Some-Ok.nla.kind);
      room = omega (arith, step.counted, step.room, before.room);
    }

pub loop-nla-preserved : goal.loop-nla-preserved
loop-nla-preserved c =
    let step = rw c.in-Some-Ok.field-0-is at c.in-Some-Ok.ensures in
    let before = c.loop-nla.invariant in
    let source = c.args.source.now in
    let front =
    left_at_attribute source c.loop-nla.rest.now c.in-Some-Ok.after.now c.in-Some-Ok.nla _ _ step
    (omega (arith, before.room)) in
    let left = types_end (left_of source c.in-Some-Ok.after.now) in
    record {
      end =
          end_kept c.loop-nla.end (masked c.in-Some-Ok.nla.kind) left
          (omega (arith, c.kind-kind.ensures, c.if-kind-end.false))
          ∙ (rw front at before.end);
      small = before.small;
      room = omega (arith, step.counted, step.room, before.room);
    }
