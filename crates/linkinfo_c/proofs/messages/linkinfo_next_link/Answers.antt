use Rattle.std.proofs.Common.{[], ◌∷◌, Err, ap, subst, sym, ◌∙◌}
use Rattle.linkinfo_messages.specs.Views.{HasSlices, link_in}
use Rattle.linkinfo_messages.specs.Walks.{Walk, links_left}
use Rattle.linkinfo_c.proofs.Parts.{answer_is, has_parts}
use Rattle.linkinfo_c.proofs.messages.linkinfo_next_link.Goals as goal

pub returns-in-None-clause-answer : goal.returns-in-None-clause-answer
returns-in-None-clause-answer c =
    let steps = c.in-None.ensures.steps in
    answer_is c.args.bytes.now c.args.cursor []
    (sym c.starting_at-links.ensures.links ∙ steps.gives.0)

pub returns-in-Some-Ok-clause-parts : goal.returns-in-Some-Ok-clause-parts
returns-in-Some-Ok-clause-parts c =
    let steps = rw c.in-Some-Ok.field-0-is at c.in-Some-Ok.ensures.steps in
    has_parts c.args.bytes.now c.args.cursor c.place.result (link_in c.in-Some-Ok.link)
    (links_left c.next.new.self) c.found.result
    (sym c.starting_at-links.ensures.links ∙ steps.gives) c.found.ensures
    (subst (λ s. HasSlices c.in-Some-Ok.link s 0)
    (ap (λ (w : Walk). w.source) c.starting_at-links.ensures.start) steps.steps.slices)

pub returns-in-Some-Err-clause-answer : goal.returns-in-Some-Err-clause-answer
returns-in-Some-Err-clause-answer c =
    let steps = rw c.in-Some-Err.field-0-is at c.in-Some-Err.ensures.steps in
    rw c.message_record.ensures (answer_is c.args.bytes.now c.args.cursor
    (Err c.in-Some-Err.error ∷ links_left c.next.new.self)
    (sym c.starting_at-links.ensures.links ∙ steps.gives))
