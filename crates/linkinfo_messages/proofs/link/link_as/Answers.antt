use Rattle.std.proofs.Common.{arith, ap, length}
use Rattle.std.proofs.lemmas.List.{take_rest}
use Rattle.linkinfo_messages.proofs.Locating.{no_headers}
use Rattle.linkinfo_messages.specs.Links.{link_as}
use Rattle.std.proofs.lemmas.Grind.{common_steps}
use Rattle.linkinfo_messages.proofs.Slicing.{rest_slice, slices_in}
use Rattle.linkinfo_messages.proofs.link.link_as.Goals as goal

pub returns-in-Ok-clause-slices : goal.returns-in-Ok-clause-slices
returns-in-Ok-clause-slices c =
    let payload = c.payload-payload.result.now in
    rw (← c.payload-payload.ensures) (slices_in _ _ _ _ payload _ 16 _
    (omega (arith, c.place-place.ensures.place)) c.in-Ok.ensures.slices
    (rest_slice _ payload 16 c.if-payload-lt-LINK_HEADER_LEN.false (take_rest payload 16)))

pub returns-in-Ok-clause-link : goal.returns-in-Ok-clause-link
unfolding link_as
returns-in-Ok-clause-link c = grind (arith, common_steps)

pub returns-then-payload-lt-LINK_HEADER_LEN-clause-counted :
    goal.returns-then-payload-lt-LINK_HEADER_LEN-clause-counted
returns-then-payload-lt-LINK_HEADER_LEN-clause-counted c = omega (
  arith,
  no_headers c.args.message.now.payload
      (omega (arith, c.if-payload-lt-LINK_HEADER_LEN.true, ap length c.payload-payload.ensures)),
)
