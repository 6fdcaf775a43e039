use Rattle.linkinfo_messages.proofs.Moving.{messages_moved, links_moved}
use Rattle.linkinfo_messages.proofs.laws.message_offsets.Goals as goal

pub returns-clause-messages_moved : goal.returns-clause-messages_moved
returns-clause-messages_moved c = messages_moved

pub returns-clause-links_moved : goal.returns-clause-links_moved
returns-clause-links_moved c = links_moved
