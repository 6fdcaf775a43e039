use Rattle.std.proofs.Common.{refl}
use Rattle.linkinfo_c.proofs.Sentences.{of_attribute}
use Rattle.linkinfo_c.proofs.texts.sentence.Goals as goal

pub returns-in_default : goal.returns-in_default
returns-in_default c =
    let is =
    of_attribute c.args.error.cause c.args.error c.args.offset refl c.in_default.not-Header
    c.in_default.not-Word c.in_default.not-Memory in
    rw (
      is,
      c.push_offset-in_default.ensures,
      c.push_str-in_default-3.ensures.bytes,
      c.push_str-in_default-2.ensures.bytes,
      c.push_str-in_default.ensures.bytes,
      c.new-text.ensures,
      c.as_str.ensures.value,
      c.subject.ensures,
      c.problem.ensures.problem,
    ) refl
