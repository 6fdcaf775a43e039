use Rattle.std.proofs.Common.{arith, sym, ◌∙◌}
use Rattle.linkinfo_table.specs.Contents.{listed}
use Rattle.linkinfo_table.proofs.Differences.{error_passes}
use Rattle.linkinfo_table.proofs.located.list_error.Goals as goal

pub loop-next-preserved : goal.loop-next-preserved
loop-next-preserved g c =
    let step = rw c.in-Ok.is at c.in-Some.ensures in
    let before = c.loop-next.invariant in
    let family = g.F.LinkFamily in
    let l =
    listed family.FAMILY (family.meaning c.args.ctx) (family.alike c.args.ctx) family.IS_SET in
    let none = sym c.error_offset.ensures.error ∙ c.in_default-error_offset.is in
    record {
      left =
          sym (error_passes l (family.contents c.args.ctx) c.args.bytes.now c.loop-next.rest.now
          c.in-Ok.after.now c.in-Ok.nla _ _ step (omega (arith, before.room)) none)
          ∙ before.left;
      room = omega (arith, step.counted, step.room, before.room);
    }
