use Rattle.std.proofs.Common.{◌≡◌, ◌++◌, false, drop}
use Rattle.serde_json.specs.View.{items_view}
use Rattle.linkinfo_print.specs.Text.{joined}
use Rattle.linkinfo_print.proofs.text.push_joined.Given as goal

abbrev pub invariant-loop-item : goal.invariant-loop-item
invariant-loop-item l =
    l.text.items ++ joined l.later (items_view (drop l.item-index l.item-items))
    ≡ l.initial.text.items ++ joined false (items_view l.item-items)
