use Rattle.std.proofs.lemmas.Str.Ascii.{trim_ascii_end_is}
use Rattle.linkinfo_print.proofs.lines.trimmed.Goals as goal

pub returns : goal.returns
returns c =
    let is = trim_ascii_end_is _ _ c.trim_ascii_end.ensures.value in
    rw c.without_front.ensures at is
