use Rattle.std.proofs.Common.{◌≡◌, ◌-◌, [], string_bytes}
use Rattle.linkinfo_view.specs.Values.{listed, over_flags}
use Rattle.linkinfo_view.proofs.members.listed_json.Given as goal

abbrev pub invariant-loop-place : goal.invariant-loop-place
invariant-loop-place l =
    over_flags listed (16 - l.place) l.place l.flags l.number (string_bytes l.text)
    ≡ over_flags listed 16 0 l.flags l.number []
