use Rattle.linkinfo_messages.proofs.Moving.{records_moved}
use Rattle.linkinfo_messages.proofs.laws.record_offsets.Goals as goal

pub returns : goal.returns
returns c = records_moved
