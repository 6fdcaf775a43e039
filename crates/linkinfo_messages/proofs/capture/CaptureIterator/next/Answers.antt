use Rattle.std.proofs.Common.{arith, ◌≤◌, ◌+◌, ◌*◌, length}
use Rattle.std.proofs.lemmas.List.{take_rest}
use Rattle.linkinfo_messages.proofs.Capturing.{
  record_room,
  error_room,
  on_record,
  on_error,
  on_failed,
  on_end,
  progress,
}
use Rattle.linkinfo_messages.proofs.capture.CaptureIterator.next.Goals.{
  then-self-via-then-self,
  then-self-via-else-self+then-self-2,
}
use Rattle.linkinfo_messages.proofs.capture.CaptureIterator.next.Goals as goal

pub returns-then-self-clause-steps : goal.returns-then-self-clause-steps
returns-then-self-clause-steps c =
    elim c.then-self.branch [
      | then-self-via-then-self w ↦
          rw (← c.self.view_is) (on_failed _ _ _ _ _ w.if-self.true)
      | then-self-via-else-self+then-self-2 w ↦
          rw (← c.self.view_is) (on_end _ _ _ _ _ w.if-self.false w.if-self-2.true)
    ]

pub overflow_add-self : goal.overflow_add-self
overflow_add-self c =
    let room = record_room _ _ _ _ _ _ c.self.invariant.0
    (take_rest c.self.inside.bytes.now c.self.inside.place) c.in-Ok.ensures.reads in
    omega (arith, room.1)

pub invariant_of-self : goal.invariant_of-self
invariant_of-self c =
    let room = record_room _ _ _ _ _ _ c.self.invariant.0
    (take_rest c.self.inside.bytes.now c.self.inside.place) c.in-Ok.ensures.reads in
    let header : 16 * c.record_at.new.examined ≤ c.self.inside.place + c.in-Ok.len =
    omega (arith, c.in-Ok.ensures.counted, c.self.invariant.2 c.if-self.false, room.0) in
    (room.1, omega (arith, header, room.1), λ _. header)

pub invariant_of-self-in-Err : goal.invariant_of-self-in-Err
invariant_of-self-in-Err c =
    let room = error_room _ _ _ _ _ c.self.invariant.0
    (take_rest c.self.inside.bytes.now c.self.inside.place) c.in-Err.ensures.reads in
    let header : 16 * c.record_at.new.examined ≤ length c.self.inside.bytes.now =
    omega (arith, c.in-Err.ensures.counted, c.self.invariant.2 c.if-self.false, room) in
    (c.self.invariant.0, header, λ going. absurd cc)

pub returns-in-Ok-clause-steps : goal.returns-in-Ok-clause-steps
returns-in-Ok-clause-steps c =
    rw (← c.self.view_is) (on_record _ _ _ _ _ _ _ _ _ c.if-self.false c.self.invariant.0
    c.if-self-2.false (take_rest c.self.inside.bytes.now c.self.inside.place)
    c.in-Ok.ensures.reads c.in-Ok.ensures.counted)

pub returns-in-Ok-clause-goes : goal.returns-in-Ok-clause-goes
returns-in-Ok-clause-goes c = progress _ _ _ (returns-in-Ok-clause-steps c)

pub returns-in-Err-clause-steps : goal.returns-in-Err-clause-steps
returns-in-Err-clause-steps c =
    rw (← c.self.view_is) (on_error _ _ _ _ _ _ _ _ c.if-self.false c.self.invariant.0
    c.if-self-2.false (take_rest c.self.inside.bytes.now c.self.inside.place)
    c.in-Err.ensures.reads c.in-Err.ensures.counted)

pub returns-in-Err-clause-goes : goal.returns-in-Err-clause-goes
returns-in-Err-clause-goes c = progress _ _ _ (returns-in-Err-clause-steps c)
