use Rattle.std.proofs.Common.{option_map, string_bytes}
use Rattle.serde_json.specs.View.{view}
use Rattle.linkinfo_print.proofs.JsonFlat.{list_there, message_flat, value_whole, value_within}
use Rattle.linkinfo_print.proofs.message.message_json.Goals as goal

pub returns-clause-shallow : goal.returns-clause-shallow
returns-clause-shallow c =
    value_within 6 _ c.message_value.result
    (message_flat c.args.link.now.event c.args.link.now.flags c.args.link.now.index
    (option_map (λ n. n.now) c.args.link.now.name) (option_map view c.args.list)
    (option_map string_bytes c.args.time)
    (list_there c.args.list c.requires.shallow c.requires.whole_numbers))
    c.message_value.ensures

pub returns-clause-whole_numbers : goal.returns-clause-whole_numbers
returns-clause-whole_numbers c =
    value_whole 6 _ c.message_value.result
    (message_flat c.args.link.now.event c.args.link.now.flags c.args.link.now.index
    (option_map (λ n. n.now) c.args.link.now.name) (option_map view c.args.list)
    (option_map string_bytes c.args.time)
    (list_there c.args.list c.requires.shallow c.requires.whole_numbers))
    c.message_value.ensures
