use Rattle.linkinfo_messages.proofs.Linking.{links-bound}
use Rattle.linkinfo_messages.proofs.Resuming.{from_least}
use Rattle.linkinfo_messages.proofs.links.LinkMessages.starting_at.Goals as goal

pub returns-clause-links : goal.returns-clause-links
returns-clause-links c =
    from_least c.args.bytes.now c.args.place c.min.result c.min.ensures

pub returns-clause-item_bound : goal.returns-clause-item_bound
returns-clause-item_bound c = links-bound c.args.bytes.now c.min.result
