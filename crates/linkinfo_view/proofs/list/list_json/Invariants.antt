use Rattle.std.proofs.Common.{◌≡◌, ◌++◌, length, map}
use Rattle.serde_json.specs.Data.{no_members}
use Rattle.serde_json.specs.View.{members_view, view}
use Rattle.linkinfo_view.specs.Attributes.{attributes, rest_of}
use Rattle.linkinfo_view.specs.View.{others_in, shown_in}
use Rattle.linkinfo_view.proofs.list.list_json.Given as goal

abbrev pub invariant-loop-attribute : goal.invariant-loop-attribute
invariant-loop-attribute g l =
    (shown_in g.N.Nesting.shown l.table (attributes l.rest) (members_view l.map.entries)
    ≡ shown_in g.N.Nesting.shown l.table (attributes l.payload) no_members)
    × (map view l.others.items ++ others_in l.table (attributes l.rest)
    ≡ others_in l.table (attributes l.payload))
    × (rest_of l.rest ≡ rest_of l.payload)

abbrev pub decreases-loop-attribute : goal.decreases-loop-attribute
decreases-loop-attribute g l = length l.rest
