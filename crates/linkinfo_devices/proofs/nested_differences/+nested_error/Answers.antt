use Rattle.std.proofs.Common.{arith, sym, ◌∙◌}
use Rattle.linkinfo_table.specs.FamilyMeaning.{alike_by, meaning_by}
use Rattle.linkinfo_table.proofs.Differences.{error_passes}
use Rattle.linkinfo_devices.specs.Nested.{self_listed}
use Rattle.linkinfo_devices.proofs.nested_differences.+nested_error.Goals as goal

pub nested_list_error-loop-next-preserved : goal.nested_list_error-loop-next-preserved
nested_list_error-loop-next-preserved g t c =
    let step = rw c.in-Ok.is at c.in-Some.ensures in
    let before = c.loop-next.invariant in
    let own = g.F.RowFamily in
    let l = self_listed own.FAMILY (meaning_by own c.args.lists) (alike_by own c.args.lists) in
    let none = sym c.nested_error.ensures.error ∙ c.in_default-nested_error.is in
    record {
      left =
          sym (error_passes l (g.F.NestedFamily.contents c.args.lists) c.args.bytes.now
          c.loop-next.rest.now c.in-Ok.after.now c.in-Ok.nla _ _ step (omega (arith, before.room))
          none)
          ∙ before.left;
      room = omega (arith, step.counted, step.room, before.room);
    }
