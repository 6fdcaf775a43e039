use Rattle.std.proofs.Common.{Result, ap, ◌∙◌, ℕ}
use Rattle.linkinfo_build.specs.Link.{data_part, part_len, with_part_len}
use Rattle.linkinfo_build.specs.declared.forms.DataForm.{DataForm}
use Rattle.linkinfo_build.specs.declared.link.LinkBuildError.{LinkBuildError}
use Rattle.linkinfo_build.specs.declared.link.LinkPart.TheVariants as part
use Rattle.linkinfo_build.proofs.LinkParts.{whole_measured}
use Rattle.linkinfo_build.proofs.link_building.built_link_len.Goals as goal

pub returns-clause-answer : goal.returns-clause-answer
returns-clause-answer c =
    let link = c.args.link.now in
    c.with_part_len.ensures.answer
    ∙ ap (λ (r : Result ℕ LinkBuildError). with_part_len r part.PortData
    c.data_len-port_data.result)
    (c.with_part_len-len-3.ensures.answer
    ∙ ap (λ (r : Result ℕ LinkBuildError). with_part_len r part.PortKind
    c.name_len-port_kind.result)
    (c.with_part_len-len-2.ensures.answer
    ∙ ap (λ (r : Result ℕ LinkBuildError). with_part_len r part.Data c.data_len-data.result)
    c.with_part_len-len.ensures.answer))
    ∙ whole_measured link c.name_len-kind.result c.data_len-data.result
    c.name_len-port_kind.result c.data_len-port_data.result c.name_len-kind.ensures.answer
    (c.data_len-data.ensures.answer
    ∙ ap (λ (f : DataForm). part_len (data_part f link.«data»)) c.data_form.ensures)
    c.name_len-port_kind.ensures.answer
    (c.data_len-port_data.ensures.answer
    ∙ ap (λ (f : DataForm). part_len (data_part f link.port_data)) c.port_data_form.ensures)
