use Rattle.std.proofs.Common.{◌≡◌, ◌++◌, drop}
use Rattle.serde_json.specs.View.{items_view, members_view}
use Rattle.linkinfo_print.specs.Text.{items_text, members_text}
use Rattle.linkinfo_print.proofs.inline.+inline.Given as goal

-- the text so far, and that of the items to come
abbrev pub invariant-push_items-loop-item : goal.invariant-push_items-loop-item
invariant-push_items-loop-item l =
    l.text.items ++ items_text (items_view (drop l.item-index l.item-items))
    ≡ l.initial.text.items ++ items_text (items_view l.item-items)

abbrev pub invariant-push_members-loop-key : goal.invariant-push_members-loop-key
invariant-push_members-loop-key l =
    l.text.items ++ members_text (members_view l.key-iterator)
    ≡ l.initial.text.items ++ members_text (members_view l.members.entries)
