use Rattle.std.proofs.Common.{arith, ap, refl, sym, ◌∙◌, ◌-◌, length, Option}
use Rattle.linkinfo_table.specs.Last.{attributes_of}
use Rattle.linkinfo_table.specs.Difference.{first_or}
use Rattle.linkinfo_table.specs.Unmets.{first_at, members_unmets}
use Rattle.linkinfo_table.specs.declared.last.PlacedNla.{PlacedNla}
use Rattle.linkinfo_table.specs.declared.unmet.Unmet.{Unmet}
use Rattle.linkinfo_table.proofs.Differences.{front_ok}
use Rattle.linkinfo_table.proofs.Lasts.{all_stand, left_at_attribute, left_at_start, left_of}
use Rattle.linkinfo_table.proofs.AllUnmets.{next_member}
use Rattle.linkinfo_table.proofs.unmet.members_unmet.Goals as goal

pub loop-nla-init : goal.loop-nla-init
loop-nla-init g c =
    let start = left_at_start c.args.want.now in
    record {
      accepted = c.requires.want;
      stand = rw start (all_stand c.args.want.now);
      left = rw start refl;
      room = omega (arith, c.new-count.ensures);
    }

pub loop-nla-preserved : goal.loop-nla-preserved
loop-nla-preserved g c =
    let step = rw c.in-Some-Ok.field-0-is at c.in-Some-Ok.ensures in
    let before = c.loop-nla.invariant in
    let family = g.F.LinkFamily in
    let want = c.args.want.now in
    let rest = c.loop-nla.rest.now in
    let after = c.in-Some-Ok.after.now in
    let front =
    left_at_attribute want rest after c.in-Some-Ok.nla _ _ step (omega (arith, before.room)) in
    let w : PlacedNla = record { offset = length want - length rest; nla = c.in-Some-Ok.nla } in
    let list = left_of want after in
    record {
      accepted =
          (front_ok (family.meaning c.args.ctx) rest after c.in-Some-Ok.nla before.accepted
          step.nla_items_are).1;
      stand = (rw front at before.stand).1;
      left =
          sym
          (next_member c.args.from family.FAMILY (family.alike c.args.ctx)
          (attributes_of c.args.have.now) list w
          ∙ ap (λ (o : Option Unmet).
          first_or o
          (first_at c.args.from
          (members_unmets family.FAMILY (family.alike c.args.ctx) (attributes_of c.args.have.now)
          list)))
          (sym c.member_unmet.ensures.unmet ∙ c.in_default-member_unmet.is))
          ∙ (rw front at before.left);
      room = omega (arith, step.counted, step.room, before.room);
    }
