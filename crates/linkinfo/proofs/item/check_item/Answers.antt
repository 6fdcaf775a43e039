use Rattle.std.proofs.Common.{◌∙◌, sym, ap, subst, rules, arith}
use Rattle.std.specs.Prelude.{IsOk}
use Rattle.nla_frame.specs.Answers.{verdict}
use Rattle.nla_frame.specs.declared.error.Family.TheVariants as family
use Rattle.linkinfo_numbers.specs.Kind.{kind_of_name}
use Rattle.linkinfo_numbers.specs.PortKind.{port_kind_of_name}
use Rattle.linkinfo_table.specs.Rows.{row_meaning}
use Rattle.linkinfo.specs.declared.link_info.LinkInfoOf.TheVariants as info
use Rattle.linkinfo.specs.declared.role.Role.{Role}
use Rattle.linkinfo.specs.Items.{link_other, link_row}
use Rattle.linkinfo.specs.Roles.{kinds_after_role, no_kinds}
use Rattle.linkinfo.proofs.Naming.{name_checked, with_name_ok}
use Rattle.linkinfo.proofs.item.check_item.Goals as goal

pub returns-in-Kind : goal.returns-in-Kind
returns-in-Kind g c =
    record {
      answer =
          name_checked (λ name. info.Kind (kind_of_name name)) _
          (with_name_ok _ _ (subst (λ (r : Role). IsOk (kinds_after_role r no_kinds c.args.nla.now))
          c.in-Kind.is c.requires.entered))
          ∙ sym (ap (λ (r : Role).
          verdict (row_meaning family.LinkInfo link_other (link_row g.P.DataLayer.families r)
          c.args.nla.now)) c.in-Kind.is);
      counted = search (rules, arith);
      rises = omega arith;
      quarter = omega arith;
    }

pub returns-in-PortKind : goal.returns-in-PortKind
returns-in-PortKind g c =
    record {
      answer =
          name_checked (λ name. info.PortKind (port_kind_of_name name)) _
          (with_name_ok _ _ (subst (λ (r : Role). IsOk (kinds_after_role r no_kinds c.args.nla.now))
          c.in-PortKind.is c.requires.entered))
          ∙ sym (ap (λ (r : Role).
          verdict (row_meaning family.LinkInfo link_other (link_row g.P.DataLayer.families r)
          c.args.nla.now)) c.in-PortKind.is);
      counted = search (rules, arith);
      rises = omega arith;
      quarter = omega arith;
    }
