use Rattle.std.proofs.Common.{sym, ◌∙◌}
use Rattle.linkinfo_messages.specs.Messages.{message_at}
use Rattle.linkinfo_messages.proofs.Streaming.{
  alone,
  with_more,
  message_leads,
  messages_cut,
  links_cut,
}
use Rattle.linkinfo_messages.proofs.laws.message_stream.Goals as goal

pub returns-clause-whole : goal.returns-clause-whole
returns-clause-whole c =
    λ place n s len room. (_, alone message_at place n s _ (message_leads place n s len room))

pub returns-clause-same : goal.returns-clause-same
returns-clause-same c =
    λ place n s more len room.
    with_more message_at place n s more _ (message_leads place n s len room)
    ∙ sym (alone message_at place n s _ (message_leads place n s len room))

pub returns-clause-messages_split : goal.returns-clause-messages_split
returns-clause-messages_split c = messages_cut

pub returns-clause-links_split : goal.returns-clause-links_split
returns-clause-links_split c = links_cut
