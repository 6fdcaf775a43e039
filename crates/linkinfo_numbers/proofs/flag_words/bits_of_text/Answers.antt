use Rattle.std.proofs.Common.{◌∙◌, lit<, sym, rules}
use Rattle.std.proofs.lemmas.Str.Pattern.{split_once_first}
use Rattle.linkinfo_numbers.proofs.FlagReading.{
  goes_on_at_comma,
  goes_on_at_end,
  some_words,
  stops_at_comma,
  stops_at_end,
}
use Rattle.linkinfo_numbers.proofs.flag_words.bits_of_text.Goals as goal

pub returns-in_err-bits : goal.returns-in_err-bits
returns-in_err-bits c =
    let split = split_once_first 44 _ c.split_once.result c.split_once.ensures.cases (lit< tt) in
    let cut = rw c.in-Some.is at split in
    c.from_residual.ensures
    ∙ (stops_at_comma _ c.loop-word.bits _ _ _ cut c.in_err-bits.ensures
    ∙ (c.loop-word.invariant.1
    ∙ some_words _ c.args.text.now (sym c.is_empty.ensures ∙ c.if-is_empty.false)))

pub loop-word-preserved : goal.loop-word-preserved
loop-word-preserved c =
    let split = split_once_first 44 _ c.split_once.result c.split_once.ensures.cases (lit< tt) in
    let cut = rw c.in-Some.is at split in (
      search rules,
      goes_on_at_comma _ c.loop-word.bits _ _ _ _ cut c.in_ok-bits.ensures
          ∙ c.loop-word.invariant.1,
    )

pub returns-in_err-bits_of_word : goal.returns-in_err-bits_of_word
returns-in_err-bits_of_word c =
    let split = split_once_first 44 _ c.split_once.result c.split_once.ensures.cases (lit< tt) in
    let last = rw c.in_default.is at split in
    c.from_residual-in_err-bits_of_word.ensures
    ∙ (stops_at_end _ c.loop-word.bits _ last c.in_err-bits_of_word.ensures
    ∙ (c.loop-word.invariant.1
    ∙ some_words _ c.args.text.now (sym c.is_empty.ensures ∙ c.if-is_empty.false)))

pub returns : goal.returns
returns c =
    let split = split_once_first 44 _ c.split_once.result c.split_once.ensures.cases (lit< tt) in
    let last = rw c.in_default.is at split in
    goes_on_at_end _ c.loop-word.bits _ _ last c.in_ok-bits_of_word.ensures
    ∙ (c.loop-word.invariant.1
    ∙ some_words _ c.args.text.now (sym c.is_empty.ensures ∙ c.if-is_empty.false))
