use Rattle.std.proofs.Common.{sym, ◌∙◌}
use Rattle.linkinfo_build.proofs.Suited.{suited}
use Rattle.linkinfo_build.proofs.measure.datum_payload_len.Goals as goal

pub datum_len-requires : goal.datum_len-requires
datum_len-requires c = suited _ _ (sym c.is_suited.ensures ∙ c.if-not-is_suited.false)
