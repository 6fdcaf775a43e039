use Rattle.std.proofs.Common.{rules}
use Rattle.linkinfo_print.proofs.Answering.{nine_padded}
use Rattle.linkinfo_print.proofs.message.time_text.Goals as goal

pub returns : goal.returns
returns c = search (rules, nine_padded c.in-Some.nanoseconds)
