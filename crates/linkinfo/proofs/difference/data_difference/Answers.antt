use Rattle.std.proofs.Common.{sym, ◌∙◌}
use Rattle.nla_frame.specs.declared.error.Family.TheVariants as family
use Rattle.linkinfo_table.specs.Difference.{inner_difference}
use Rattle.linkinfo_data.specs.Lists.{difference_in}
use Rattle.linkinfo.proofs.Listing.{difference_of_list, inside_told}
use Rattle.linkinfo.proofs.difference.data_difference.Goals as goal

pub returns-in_ok-inside-in-Some : goal.returns-in_ok-inside-in-Some
returns-in_ok-inside-in-Some g c =
    let contents = (g.F.PayloadFamily.data_of c.args.family).contents in
    inside_told (difference_in contents) (inner_difference c.args.p.now c.args.q.now) _ _ _ _ _ _ _
    c.value-x.ensures.value c.value-y.ensures.value
    (sym c.list_difference.ensures.difference ∙ c.in_ok-inside-in-Some.was) c.inside.ensures
    (difference_of_list contents c.args.p.now c.args.q.now family.LinkInfo _ _
    (sym c.listing.ensures ∙ c.in-Some.is))
