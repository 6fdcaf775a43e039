use Rattle.linkinfo_messages.proofs.Capturing.{records-bound}
use Rattle.linkinfo_messages.proofs.capture.CaptureFormat.records.Goals as goal

pub returns-clause-item_bound : goal.returns-clause-item_bound
returns-clause-item_bound c = records-bound c.args.self 0 c.args.bytes.now
