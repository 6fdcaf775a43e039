use Rattle.linkinfo_messages.proofs.Writing.{reads_back}
use Rattle.linkinfo_messages.proofs.laws.written.Goals as goal

pub returns : goal.returns
returns c = reads_back
