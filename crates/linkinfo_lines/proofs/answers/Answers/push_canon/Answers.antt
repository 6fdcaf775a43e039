use Rattle.std.proofs.Common.{rules, ◌≡◌, ◌==◌, ℕ, sym, ap, ◌∙◌, Err}
use Rattle.std.specs.Prelude.{codes}
use Rattle.hex.specs.Hex.{encode_lower}
use Rattle.linkinfo_data.specs.BytesLayer.{bytes_layer}
use Rattle.linkinfo.specs.Strings.{reading}
use Rattle.linkinfo_lines.proofs.Fits.{canon_text-none, canon_text-some, canon_text-unfit}
use Rattle.linkinfo_lines.specs.Answers.{canon_text}
use Rattle.linkinfo_lines.proofs.answers.Answers.push_canon.Goals as goal

pub returns-in-Ok : goal.returns-in-Ok
returns-in-Ok c =
    let text : canon_text (reading bytes_layer c.deref.result.now) ≡ codes "-" =
    canon_text-none _ _ c.in-Ok.ensures.string
    (ap (λ (n : ℕ). n == 0) (sym c.in-Ok.bytes.ok.0)
    ∙ sym c.is_empty.ensures
    ∙ c.if-is_empty.true) in
    search (rules, text)

pub returns-in-Ok-2 : goal.returns-in-Ok-2
returns-in-Ok-2 c =
    let text : canon_text (reading bytes_layer c.deref.result.now)
    ≡ encode_lower c.in-Ok.bytes.items =
    canon_text-some _ _ c.in-Ok.ensures.string
    (ap (λ (n : ℕ). n == 0) (sym c.in-Ok.bytes.ok.0)
    ∙ sym c.is_empty.ensures
    ∙ c.if-is_empty.false) in
    search (rules, text)

pub returns-in-Err-Unfit : goal.returns-in-Err-Unfit
returns-in-Err-Unfit c =
    let text : canon_text (reading bytes_layer c.deref.result.now) ≡ codes "unfit" =
    canon_text-unfit (reading bytes_layer c.deref.result.now) c.canon.result
    (c.in-Err-Unfit.is ∙ ap (λ e. Err e) c.in-Err-Unfit.field-0-is) c.canon.ensures.refused in
    search (rules, text)
