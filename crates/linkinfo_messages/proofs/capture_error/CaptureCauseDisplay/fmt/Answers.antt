use Rattle.std.proofs.Common.{rules}
use Rattle.linkinfo_messages.proofs.capture_error.CaptureCauseDisplay.fmt.Goals as goal

pub returns-in-Device-clause-writes : goal.returns-in-Device-clause-writes
returns-in-Device-clause-writes g c = rw c.in-Device.is (search rules)
