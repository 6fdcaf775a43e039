-- A name of a port kind is a name of a link kind.
use Rattle.std.proofs.Common.{sym, ◌∙◌}
use Rattle.linkinfo_numbers.specs.PortKind.{port_tag_of_name-tag, port_tag_of_other_tag}
use Rattle.linkinfo_numbers.proofs.tags.port_tag_of_name.Goals as goal

pub returns-in-Bond : goal.returns-in-Bond
returns-in-Bond c =
    port_tag_of_name-tag c.args.name.now _ (sym c.in-Bond.is ∙ c.tag_of_name.ensures)

pub returns-in-Bridge : goal.returns-in-Bridge
returns-in-Bridge c =
    port_tag_of_name-tag c.args.name.now _ (sym c.in-Bridge.is ∙ c.tag_of_name.ensures)

pub returns-in-Vrf : goal.returns-in-Vrf
returns-in-Vrf c = port_tag_of_name-tag c.args.name.now _ (sym c.in-Vrf.is ∙ c.tag_of_name.ensures)

pub returns-in-Team : goal.returns-in-Team
returns-in-Team c =
    port_tag_of_name-tag c.args.name.now _ (sym c.in-Team.is ∙ c.tag_of_name.ensures)

pub returns-in_default : goal.returns-in_default
returns-in_default c =
    port_tag_of_other_tag c.tag_of_name.result c.in_default.not-Bond c.in_default.not-Bridge
    c.in_default.not-Vrf c.in_default.not-Team
    ∙ port_tag_of_name-tag c.args.name.now _ c.tag_of_name.ensures
