use Rattle.std.proofs.Common.{◌∙◌, sym, ap, Ok, Result}
use Rattle.nla_frame.specs.Payload.{stripped}
use Rattle.nla_frame.specs.declared.error.DecodeError.{DecodeError}
use Rattle.linkinfo_numbers.specs.Kind.{tag_of_name, tag_of_name-utf8}
use Rattle.linkinfo_numbers.specs.declared.tags.KindTag.{KindTag}
use Rattle.linkinfo.proofs.Naming.{made_known, made_of_name}
use Rattle.linkinfo.proofs.role.kind_tag_in.Goals as goal

pub returns-in_ok-name_in-in-Other : goal.returns-in_ok-name_in-in-Other
returns-in_ok-name_in-in-Other c =
    let bytes = c.without_nul.ensures ∙ ap stripped c.value.ensures.value in
    sym (
    made_of_name c.args.nla.now tag_of_name _ c.in_ok-name_in-in-Other.ensures
    ∙ ap (λ (t : KindTag). let r : Result KindTag DecodeError = Ok t in r)
    (ap tag_of_name (sym bytes) ∙ sym c.tag_of_name.ensures ∙ c.in-Other.is)
    )

pub returns-in_default : goal.returns-in_default
returns-in_default c =
    let bytes = c.without_nul.ensures ∙ ap stripped c.value.ensures.value in
    sym (
    made_known tag_of_name c.args.nla.now c.without_nul.result.now c.tag_of_name.result bytes
    (tag_of_name-utf8 c.without_nul.result.now
    (λ e. c.in_default.not-Other (c.tag_of_name.ensures ∙ e))) (sym c.tag_of_name.ensures)
    )
