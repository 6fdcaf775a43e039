use Rattle.std.proofs.Common.{ap, subst, sym, ◌∙◌}
use Rattle.linkinfo.specs.Difference.{strings_difference}
use Rattle.linkinfo.specs.Strings.{reading}
use Rattle.linkinfo_data.specs.TypedLayer.{typed_layer}
use Rattle.linkinfo_c.specs.Causes.{IsReturnedCode}
use Rattle.linkinfo_c.specs.Difference.{difference_record}
use Rattle.linkinfo_c.specs.declared.difference.LinkinfoDifference.{LinkinfoDifference}
use Rattle.linkinfo_c.proofs.CausingTyped.{typed_errors}
use Rattle.linkinfo_c.proofs.CausingData.{difference_code}
use Rattle.linkinfo_c.proofs.difference.linkinfo_first_difference.Goals as goal

pub returns-clause-cause : goal.returns-clause-cause
returns-clause-cause c =
    let a = c.args.a.now in
    let b = c.args.b.now in
    subst (λ (z : LinkinfoDifference). IsReturnedCode z.error.cause)
    (sym (c.difference_record.ensures ∙ ap difference_record c.first_difference.ensures.answer))
    (difference_code (reading typed_layer a) (reading typed_layer b)
    (strings_difference typed_layer a b) (typed_errors a) (typed_errors b))
