-- The fields are read one after another.
use Rattle.std.proofs.Common.{ap, drop, sym, take, ◌∙◌}
use Rattle.std.proofs.lemmas.List.{drop-drop}
use Rattle.linkinfo_payloads.proofs.Placing.{front_of, rear_of}
use Rattle.linkinfo_payloads.proofs.fields.Tuple2Fields.read_front.Goals as goal

pub returns-clause-value : goal.returns-clause-value
returns-clause-value g c =
    let n = g.A.Fields.width in
    let m = g.B.Fields.width in
    let p = c.args.bytes.now in
    let first = c.read_front-first.ensures in
    let second = c.read_front-second.ensures in
    let a = first.value ∙ ap g.A.Fields.value_of (sym (front_of n m p)) in
    let b =
    second.value
    ∙ ap (λ q. g.B.Fields.value_of (take m q)) first.rest
    ∙ ap g.B.Fields.value_of (sym (rear_of n m p)) in
    λ i. (a i, b i)

pub returns-clause-rest : goal.returns-clause-rest
returns-clause-rest g c =
    let m = g.B.Fields.width in
    c.read_front-second.ensures.rest
    ∙ ap (λ q. drop m q) c.read_front-first.ensures.rest
    ∙ drop-drop m g.A.Fields.width c.args.bytes.now
