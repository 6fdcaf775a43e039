use Rattle.std.specs.Prelude.{nat_lt}
use Rattle.std.proofs.Common.{arith, ap, refl, ◌∙◌, ◌-◌, ◌≤◌, ℕ, length, Option}
use Rattle.nla_frame.specs.Attribute.{masked}
use Rattle.linkinfo_table.proofs.Lasts.{all_stand, left_at_attribute, left_at_start, left_of}
use Rattle.linkinfo.specs.Unmet.{Named, names_before}
use Rattle.linkinfo.specs.UnmetSteps.{kind_place, port_place}
use Rattle.linkinfo.proofs.Unmets.{kind_kept, named_at, named_step, port_kept}
use Rattle.linkinfo.proofs.request.names_before.Goals as goal

pub loop-nla-init : goal.loop-nla-init
loop-nla-init c =
    let start = left_at_start c.args.bytes.now in
    record {
      left = rw start refl;
      stand = rw start (all_stand c.args.bytes.now);
      kind = tt;
      port = tt;
      room = omega (arith, c.new-count.ensures);
    }

pub loop-nla-preserved : goal.loop-nla-preserved
loop-nla-preserved c =
    let step = rw c.in-Some-Ok.field-0-is at c.in-Some-Ok.ensures in
    let before = c.loop-nla.invariant in
    let bytes = c.args.bytes.now in
    let at : ℕ = length bytes - length c.loop-nla.rest.now in
    let is_before = nat_lt at c.args.offset in
    let front =
    left_at_attribute bytes c.loop-nla.rest.now c.in-Some-Ok.after.now c.in-Some-Ok.nla _ _ step
    (omega (arith, before.room)) in
    let stand = rw front at before.stand in
    let small : at ≤ length bytes = omega arith in
    let kind_is =
    c.kind_after-kind.ensures
    ∙ ap (λ (k : ℕ). kind_place is_before k at c.loop-nla.kind) c.kind.ensures in
    let port_is =
    c.port_after-port.ensures
    ∙ ap (λ (k : ℕ). port_place is_before k at c.loop-nla.port) c.kind-in-Some-Ok.ensures in
    let named =
    named_step bytes at c.in-Some-Ok.nla stand.0 small is_before c.loop-nla.kind c.loop-nla.port in
    record {
      left =
          ap (λ (o : Option ℕ).
          names_before c.args.offset (named_at bytes o c.port_after-port.result)
          (left_of bytes c.in-Some-Ok.after.now)) kind_is
          ∙ ap (λ (o : Option ℕ).
          names_before c.args.offset (named_at bytes
          (kind_place is_before (masked c.in-Some-Ok.nla.kind) at c.loop-nla.kind) o)
          (left_of bytes c.in-Some-Ok.after.now)) port_is
          ∙ ap (λ (n : Named). names_before c.args.offset n (left_of bytes c.in-Some-Ok.after.now))
          named
          ∙ (rw front at before.left);
      stand = stand.1;
      kind =
          rw kind_is (kind_kept bytes
          at c.in-Some-Ok.nla stand.0 small is_before (masked c.in-Some-Ok.nla.kind) c.loop-nla.kind
          before.kind);
      port =
          rw port_is (port_kept bytes
          at c.in-Some-Ok.nla stand.0 small is_before (masked c.in-Some-Ok.nla.kind) c.loop-nla.port
          before.port);
      room = omega (arith, step.counted, step.room, before.room);
    }
