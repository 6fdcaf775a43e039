use Rattle.std.proofs.Common.{◌≡◌, ◌++◌, drop}
use Rattle.serde_json.specs.View.{items_view}
use Rattle.linkinfo_print.specs.Text.{other_lines}
use Rattle.linkinfo_print.proofs.text.push_others.Given as goal

abbrev pub invariant-loop-other : goal.invariant-loop-other
invariant-loop-other l =
    l.text.items ++ other_lines l.indent (items_view (drop l.other-index l.other-items))
    ≡ l.initial.text.items ++ other_lines l.indent (items_view l.other-items)
