use Rattle.std.proofs.Common.{◌≡◌, ◌++◌}
use Rattle.serde_json.specs.View.{members_view}
use Rattle.linkinfo_print.specs.Text.{member_lines}
use Rattle.linkinfo_print.proofs.text.push_member_lines.Given as goal

abbrev pub invariant-loop-key : goal.invariant-loop-key
invariant-loop-key l =
    l.text.items ++ member_lines l.indent (members_view l.key-iterator)
    ≡ l.initial.text.items ++ member_lines l.indent (members_view l.members.entries)
