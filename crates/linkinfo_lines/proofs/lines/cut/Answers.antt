use Rattle.std.proofs.Common.{◌+◌, refl, sym, ◌∙◌, eqb}
use Rattle.std.proofs.lemmas.List.{take_rest}
use Rattle.linkinfo_lines.proofs.Parts.{slice_split-place, slice_split-no_place}
use Rattle.linkinfo_lines.proofs.lines.cut.Goals as goal

pub returns-in-Some-clause-parts : goal.returns-in-Some-clause-parts
returns-in-Some-clause-parts c =
    let text = c.args.text.now in
    let end = c.in-Some.end in
    let place = sym c.place_of.ensures ∙ c.in-Some.is in
    rw (take_rest text (end + 1)) (slice_split-place (λ b. eqb b c.args.separator) text end place).0

pub returns-in-None-clause-parts : goal.returns-in-None-clause-parts
returns-in-None-clause-parts c =
    let none = sym c.place_of.ensures ∙ c.in-None.is in
    (slice_split-no_place (λ b. eqb b c.args.separator) c.args.text.now none, refl)
