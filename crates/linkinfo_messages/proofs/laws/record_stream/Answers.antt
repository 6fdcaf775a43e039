use Rattle.std.proofs.Common.{sym, ◌∙◌}
use Rattle.linkinfo_messages.specs.Captures.{record_at}
use Rattle.linkinfo_messages.proofs.Streaming.{alone, with_more, record_leads, records_cut}
use Rattle.linkinfo_messages.proofs.laws.record_stream.Goals as goal

pub returns-clause-whole : goal.returns-clause-whole
returns-clause-whole c =
    λ format place n s len room.
    (_, alone (record_at format) place n s _ (record_leads format place n s len room))

pub returns-clause-same : goal.returns-clause-same
returns-clause-same c =
    λ format place n s more len room.
    with_more (record_at format) place n s more _ (record_leads format place n s len room)
    ∙ sym (alone (record_at format) place n s _ (record_leads format place n s len room))

pub returns-clause-records_split : goal.returns-clause-records_split
returns-clause-records_split c = records_cut
