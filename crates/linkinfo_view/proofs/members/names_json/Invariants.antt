use Rattle.std.proofs.Common.{◌≡◌, ◌-◌, ◌++◌, map}
use Rattle.serde_json.specs.View.{view}
use Rattle.linkinfo_view.specs.Values.{names_from, over_flags, without}
use Rattle.linkinfo_view.proofs.members.names_json.Given as goal

abbrev pub invariant-loop-place : goal.invariant-loop-place
invariant-loop-place l =
    (map view l.names.items ++ names_from (16 - l.place) l.place l.flags l.number
    ≡ names_from 16 0 l.flags l.number)
    × (over_flags without (16 - l.place) l.place l.flags l.number l.left
    ≡ over_flags without 16 0 l.flags l.number l.number)
