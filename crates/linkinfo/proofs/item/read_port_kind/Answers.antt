use Rattle.std.proofs.Common.{◌∙◌, sym, ap, Option, Result, Ok}
use Rattle.nla_frame.specs.declared.error.DecodeError.{DecodeError}
use Rattle.linkinfo_numbers.specs.PortKind.{
  port_kind_of_name,
  port_kind_of_name-tagged,
  port_kind_of_name-untagged,
  port_kind_of_tag,
  port_tag_of_name,
}
use Rattle.linkinfo_numbers.specs.declared.tags.PortTag.{PortTag}
use Rattle.linkinfo_numbers.specs.declared.port_kind.InfoPortKind.TheVariants as kind
use Rattle.linkinfo.proofs.Naming.{kind_by_name, kind_by_tag, name_needs, not_both}
use Rattle.linkinfo.proofs.item.read_port_kind.Goals as goal

abbrev given : Option PortTag → Result (Option PortTag) DecodeError
given tag = Ok tag

pub returns-in-Some-from_tag-clause-answer : goal.returns-in-Some-from_tag-clause-answer
returns-in-Some-from_tag-clause-answer c =
    kind_by_tag port_tag_of_name port_kind_of_name port_kind_of_tag c.args.nla.now c.in-Some.tag
    (c.requires ∙ ap given c.in-Some.is) c.in-Some-from_tag.kind
    (sym c.from_tag.ensures ∙ c.in-Some-from_tag.is) port_kind_of_name-tagged

pub returns-in-Some-from_tag-clause-certain : goal.returns-in-Some-from_tag-clause-certain
returns-in-Some-from_tag-clause-certain c = λ _. returns-in-Some-from_tag-clause-answer c

pub returns-in_err-copy_of-in-None-clause-certain :
    goal.returns-in_err-copy_of-in-None-clause-certain
returns-in_err-copy_of-in-None-clause-certain c = λ none.
    absurd (not_both _ (name_needs _ _ c.in_ok-name_in-in-None.ensures) none)

pub returns-in_ok-copy_of-in-None-clause-answer : goal.returns-in_ok-copy_of-in-None-clause-answer
returns-in_ok-copy_of-in-None-clause-answer c =
    kind_by_name port_tag_of_name port_kind_of_name port_kind_of_tag c.args.nla.now c.in-Some.tag
    (c.requires ∙ ap given c.in-Some.is) (λ text. kind.Other text) _ _
    (sym c.from_tag.ensures ∙ c.in-None.is) c.in_ok-name_in-in-None.ensures
    c.in_ok-copy_of-in-None.ensures port_kind_of_name-untagged

pub returns-in_ok-copy_of-in-None-clause-certain : goal.returns-in_ok-copy_of-in-None-clause-certain
returns-in_ok-copy_of-in-None-clause-certain c = λ _. returns-in_ok-copy_of-in-None-clause-answer c
