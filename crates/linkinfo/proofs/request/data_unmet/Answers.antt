use Rattle.std.proofs.Common.{sym, ◌∙◌}
use Rattle.std.proofs.lemmas.Slice.Eq.{bytes_eq-Decides}
use Rattle.linkinfo.proofs.AllUnmets.{data_told, data_untold, none_of_equal}
use Rattle.linkinfo.proofs.request.data_unmet.Goals as goal

pub returns-then-eq : goal.returns-then-eq
returns-then-eq g c =
    let payload = g.F.PayloadFamily.data_of c.args.family in
    let same =
    (bytes_eq-Decides c.value-had.result.now c.value-wanted.result.now).0
    (sym c.eq.ensures ∙ c.if-eq.true)
    in
    sym
    (none_of_equal c.args.from payload c.args.have.now c.args.want.now
    (sym c.value-had.ensures.value ∙ same ∙ c.value-wanted.ensures.value))

pub returns-in_err-inside-in-Some : goal.returns-in_err-inside-in-Some
returns-in_err-inside-in-Some g c =
    let contents = (g.F.PayloadFamily.data_of c.args.family).contents in
    c.from_residual.ensures
    ∙ data_untold contents _ _ c.args.from c.from_inside.result c.args.want.now c.args.have.now
    c.value-wanted.result.now c.value-had.result.now (sym c.listing.ensures ∙ c.in-Some.is)
    c.value-wanted.ensures.value c.value-had.ensures.value c.from_inside.ensures
    (sym c.in_err-inside-in-Some.was ∙ c.list_unmet.ensures.unmet)

pub returns-in_ok-inside-in-Some : goal.returns-in_ok-inside-in-Some
returns-in_ok-inside-in-Some g c =
    let contents = (g.F.PayloadFamily.data_of c.args.family).contents in
    data_told contents _ _ c.args.from c.from_inside.result c.args.want.now c.args.have.now
    c.value-wanted.result.now c.value-had.result.now c.in_ok-inside-in-Some.inside
    c.inside.result (sym c.listing.ensures ∙ c.in-Some.is) c.value-wanted.ensures.value
    c.value-had.ensures.value c.from_inside.ensures c.inside.ensures
    (sym c.in_ok-inside-in-Some.was ∙ c.list_unmet.ensures.unmet)
