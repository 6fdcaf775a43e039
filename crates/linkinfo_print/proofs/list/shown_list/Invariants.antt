use Rattle.std.proofs.Common.{◌≡◌, ◌++◌, None, length, map}
use Rattle.serde_json.specs.View.{members_view, view}
use Rattle.linkinfo.specs.Walks.{items_left, link_walk}
use Rattle.linkinfo.specs.Roles.{no_kinds}
use Rattle.serde_json.specs.Data.{no_members}
use Rattle.linkinfo_print.specs.ListData.{members_on, others_in}
use Rattle.linkinfo_print.proofs.list.shown_list.Given as goal

abbrev pub invariant-loop-next : goal.invariant-loop-next
invariant-loop-next l = record {
  members : members_on (members_view l.shown.members.entries) l.walk.kinds l.shown.named
      (items_left l.walk)
      ≡ members_on no_members no_kinds None (items_left (link_walk l.bytes));
  others : map view l.shown.others.items ++ others_in (items_left l.walk)
      ≡ others_in (items_left (link_walk l.bytes));
}

abbrev pub decreases-loop-next : goal.decreases-loop-next
decreases-loop-next l = length (items_left l.walk)
