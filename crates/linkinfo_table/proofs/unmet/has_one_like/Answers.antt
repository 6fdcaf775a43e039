use Rattle.std.specs.List.{list_any}
use Rattle.std.proofs.Common.{arith, ap, refl, sym, ◌∙◌, ◌||◌, Bool}
use Rattle.linkinfo_table.specs.Unmet.{is_like}
use Rattle.linkinfo_table.proofs.Differences.{front_ok}
use Rattle.linkinfo_table.proofs.Lasts.{left_at_attribute, left_at_start, left_of}
use Rattle.linkinfo_table.proofs.unmet.has_one_like.Goals as goal

pub loop-nla-init : goal.loop-nla-init
loop-nla-init g c = record {
  accepted = c.requires.have;
  left = rw (left_at_start c.args.have.now) refl;
  room = omega (arith, c.new-count.ensures);
}

pub loop-nla-preserved : goal.loop-nla-preserved
loop-nla-preserved g c =
    let step = rw c.in-Some-Ok.field-0-is at c.in-Some-Ok.ensures in
    let before = c.loop-nla.invariant in
    let family = g.F.LinkFamily in
    let have = c.args.have.now in
    let rest = c.loop-nla.rest.now in
    let like = is_like (family.alike c.args.ctx) c.args.wanted.now in
    let front =
    left_at_attribute have rest c.in-Some-Ok.after.now c.in-Some-Ok.nla _ _ step
    (omega (arith, before.room)) in
    let not_like = sym c.if-is_like.ensures in
    record {
      accepted =
          (front_ok (family.meaning c.args.ctx) rest c.in-Some-Ok.after.now c.in-Some-Ok.nla
          before.accepted step.nla_items_are).1;
      left =
          sym (ap (λ (b : Bool). b || list_any like (left_of have c.in-Some-Ok.after.now)) not_like)
          ∙ (rw front at before.left);
      room = omega (arith, step.counted, step.room, before.room);
    }
