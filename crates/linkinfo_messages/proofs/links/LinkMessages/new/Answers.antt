use Rattle.linkinfo_messages.proofs.Linking.{links-bound}
use Rattle.linkinfo_messages.proofs.links.LinkMessages.new.Goals as goal

pub returns-clause-item_bound : goal.returns-clause-item_bound
returns-clause-item_bound c = links-bound c.args.bytes.now 0
