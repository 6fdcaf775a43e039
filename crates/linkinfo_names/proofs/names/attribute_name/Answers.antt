use Rattle.std.proofs.Common.{ap, ◌∙◌, ℕ, List}
use Rattle.linkinfo_names.specs.Names.{named}
use Rattle.linkinfo_names.proofs.Short.{short_name}
use Rattle.linkinfo_names.proofs.names.attribute_name.Goals as goal

-- the name is that of a row of the family
pub returns-clause-most : goal.returns-clause-most
returns-clause-most c =
    short_name c.args.family c.args.kind c.name_among.result
    (c.name_among.ensures
    ∙ ap (λ (rows : List (ℕ × List ℕ)). named rows c.args.kind) c.family_names.ensures)
