use Rattle.linkinfo_view.proofs.members.put_formatted.Goals as goal

pub returns-in-FlowInfo : goal.returns-in-FlowInfo
returns-in-FlowInfo g c =
    rw (c.in-FlowInfo.is, ← c.first_of-in-FlowInfo.ensures) c.put_flow_info.ensures

pub returns-in-SecondNames : goal.returns-in-SecondNames
returns-in-SecondNames g c =
    let first = c.first_of-in-SecondNames.ensures in
    let second = c.second_of-in-SecondNames.ensures in
    rw (c.in-SecondNames.is, ← first, ← second) c.put_names-in-SecondNames.ensures
