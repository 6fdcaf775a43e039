use Rattle.std.proofs.Common.{◌∙◌, sym, ap, subst, rules}
use Rattle.std.specs.Prelude.{IsOk}
use Rattle.nla_frame.specs.Answers.{verdict}
use Rattle.nla_frame.specs.declared.error.Family.TheVariants as family
use Rattle.linkinfo_numbers.specs.Kind.{kind_of_name}
use Rattle.linkinfo_numbers.specs.PortKind.{port_kind_of_name}
use Rattle.linkinfo_table.specs.Rows.{row_meaning}
use Rattle.linkinfo.specs.declared.link_info.LinkInfoOf.TheVariants as info
use Rattle.linkinfo.specs.declared.role.Role.{Role}
use Rattle.linkinfo.specs.Items.{link_other, link_row}
use Rattle.linkinfo.specs.Roles.{kinds_after_role, no_kinds}
use Rattle.linkinfo.proofs.Naming.{entered_name, name_checked, with_name_ok}
use Rattle.linkinfo.proofs.item.measure_item.Goals as goal

pub shape_canonical_len-requires-clause-accepted : goal.shape_canonical_len-requires-clause-accepted
shape_canonical_len-requires-clause-accepted g c =
    entered_name c.args.nla.now _ c.value-value.ensures.value
    (with_name_ok _ _
    (subst (λ (r : Role). IsOk (kinds_after_role r no_kinds c.args.nla.now)) c.in-Kind.is
    c.requires))

pub shape_canonical_len-requires-in-PortKind-clause-accepted :
    goal.shape_canonical_len-requires-in-PortKind-clause-accepted
shape_canonical_len-requires-in-PortKind-clause-accepted g c =
    entered_name c.args.nla.now _ c.value-value.ensures.value
    (with_name_ok _ _
    (subst (λ (r : Role). IsOk (kinds_after_role r no_kinds c.args.nla.now)) c.in-PortKind.is
    c.requires))

pub returns-in-Kind : goal.returns-in-Kind
returns-in-Kind g c =
    let layer = g.P.DataLayer.families in
    let checked =
    name_checked (λ name. info.Kind (kind_of_name name)) _
    (with_name_ok _ _ (subst (λ (r : Role). IsOk (kinds_after_role r no_kinds c.args.nla.now))
    c.in-Kind.is c.requires))
    ∙ sym (ap (λ (r : Role).
    verdict (row_meaning family.LinkInfo link_other (link_row layer r) c.args.nla.now))
    c.in-Kind.is)
    in (sym checked, search rules)

pub returns-in-PortKind : goal.returns-in-PortKind
returns-in-PortKind g c =
    let layer = g.P.DataLayer.families in
    let checked =
    name_checked (λ name. info.PortKind (port_kind_of_name name)) _
    (with_name_ok _ _ (subst (λ (r : Role). IsOk (kinds_after_role r no_kinds c.args.nla.now))
    c.in-PortKind.is c.requires))
    ∙ sym (ap (λ (r : Role).
    verdict (row_meaning family.LinkInfo link_other (link_row layer r) c.args.nla.now))
    c.in-PortKind.is)
    in (sym checked, search rules)
