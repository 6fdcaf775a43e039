use Rattle.std.proofs.Common.{◌≡◌, ◌-◌}
use Rattle.serde_json.specs.View.{members_view}
use Rattle.linkinfo_view.specs.Values.{bits_from}
use Rattle.linkinfo_view.specs.View.{put_all}
use Rattle.linkinfo_view.proofs.members.put_bits.Given as goal

abbrev pub invariant-loop-place : goal.invariant-loop-place
invariant-loop-place l =
    put_all (bits_from (16 - l.place) l.place l.flags l.number) (members_view l.map.entries)
    ≡ put_all (bits_from 16 0 l.flags l.number) (members_view l.initial.map.entries)
