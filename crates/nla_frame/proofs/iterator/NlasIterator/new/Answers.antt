use Rattle.nla_frame.proofs.Walking.{item_bound}
use Rattle.nla_frame.proofs.iterator.NlasIterator.new.Goals as goal

pub returns-clause-item_bound : goal.returns-clause-item_bound
returns-clause-item_bound c = item_bound c.args.bytes.now
