use Rattle.std.proofs.Common.{◌≡◌, ◌++◌, drop, map}
use Rattle.std.specs.List.{flat_map}
use Rattle.serde_json.specs.View.{view}
use Rattle.linkinfo_print.specs.MessageData.{link_flags, no_carrier, one_flag}
use Rattle.linkinfo_print.proofs.message.flags_json.Given as goal

abbrev pub invariant-loop-index : goal.invariant-loop-index
invariant-loop-index l =
    map view l.names.items ++ flat_map (one_flag l.flags) (drop l.index link_flags)
    ≡ no_carrier l.flags ++ flat_map (one_flag l.flags) link_flags
