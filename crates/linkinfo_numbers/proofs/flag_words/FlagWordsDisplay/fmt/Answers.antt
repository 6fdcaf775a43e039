use Rattle.std.proofs.Common.{arith, rules, ◌∙◌, ap, subst, sym}
use Rattle.std.proofs.lemmas.Grind.{common_steps}
use Rattle.std.specs.Fmt.{HasWritten}
use Rattle.linkinfo_numbers.proofs.FlagText.{comma_after, comma_set, text_set, words_clear}
use Rattle.linkinfo_numbers.proofs.flag_words.FlagWordsDisplay.fmt.Goals as goal
use Rattle.linkinfo_numbers.proofs.flag_words.FlagWordsDisplay.fmt.Goals.{
  then-bits-bit-ne0+in_ok-write,
  else-bits-bit-ne0,
}

pub loop-bit-preserved : goal.loop-bit-preserved
loop-bit-preserved g c = elim c.if-bits-bit-ne0.branch [
  | then-bits-bit-ne0+in_ok-write w ↦ (
    search rules,
    ap (λ b. b.now) w.comma-is ∙ comma_set _ _ _ _ c.loop-bit-test.true w.if-bits-bit-ne0.true,
    λ p. subst (λ t. HasWritten g.W.Write.write_str_gives c.args.f.now t c.if-bits-bit-ne0.f)
        (sym
        (text_set c.args.self.now.bits c.args.self.now.words.now c.loop-bit.bit-index _
        c.loop-bit-test.true w.if-bits-bit-ne0.true))
        (grind (arith, common_steps)),
  )
  | else-bits-bit-ne0 w ↦ (
    search rules,
    ap (λ b. b.now) w.comma-is
        ∙ (c.loop-bit.invariant.1
        ∙ ap comma_after (words_clear _ _ _ _ c.loop-bit-test.true w.if-bits-bit-ne0.false)),
    grind (arith, words_clear),
  )
]
