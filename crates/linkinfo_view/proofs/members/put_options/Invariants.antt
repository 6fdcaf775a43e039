use Rattle.std.proofs.Common.{◌≡◌, ◌-◌}
use Rattle.serde_json.specs.View.{members_view}
use Rattle.linkinfo_view.specs.Values.{options_from}
use Rattle.linkinfo_view.specs.View.{put_all}
use Rattle.linkinfo_view.proofs.members.put_options.Given as goal

abbrev pub invariant-loop-place : goal.invariant-loop-place
invariant-loop-place l =
    put_all (options_from (16 - l.place) l.place l.flags l.number l.mask)
    (members_view l.map.entries)
    ≡ put_all (options_from 16 0 l.flags l.number l.mask) (members_view l.initial.map.entries)
