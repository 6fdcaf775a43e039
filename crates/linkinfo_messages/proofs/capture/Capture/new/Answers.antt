use Rattle.std.proofs.Common.{◌≤◌, length, subst, sym, arith, drop}
use Rattle.std.specs.Prelude.{IfOk}
use Rattle.std.proofs.lemmas.List.{length-drop}
use Rattle.linkinfo_messages.proofs.Capturing.{format_room, records-bound}
use Rattle.linkinfo_messages.proofs.capture.Capture.new.Goals as goal

pub invariant_of-result : goal.invariant_of-result
invariant_of-result c =
    let room : 24 ≤ length c.args.bytes.now =
    subst (λ r. IfOk r (λ _. 24 ≤ length c.args.bytes.now)) (sym c.in_ok-format.ensures)
    (format_room c.args.bytes.now) in
    (room, omega arith, λ _. omega arith)

pub returns-clause-item_bound : goal.returns-clause-item_bound
returns-clause-item_bound c =
    let room : 24 ≤ length c.args.bytes.now =
    subst (λ r. IfOk r (λ _. 24 ≤ length c.args.bytes.now)) (sym c.in_ok-format.ensures)
    (format_room c.args.bytes.now) in
    omega (
      arith,
      room,
      length-drop 24 c.args.bytes.now,
      records-bound c.in_ok-format.format 24 (drop 24 c.args.bytes.now),
    )
