-- A list that does not fit attribute by attribute is encoded in more bytes than a payload has.
use Rattle.std.proofs.Common.{arith}
use Rattle.nla_frame.proofs.Emitting.{list_fits}
use Rattle.linkinfo_table.proofs.list_payload.NlasLinkPayload.fit_len.Goals as goal

pub returns-in_err-nlas_fit_len : goal.returns-in_err-nlas_fit_len
returns-in_err-nlas_fit_len g c = grind (arith, list_fits)
