use Rattle.std.proofs.Common.{◌≡◌, ◌++◌, take, string_bytes}
use Rattle.std.specs.List.{flat_map}
use Rattle.linkinfo_view.specs.Text.{after_colon}
use Rattle.linkinfo_view.proofs.text.push_after_colons.Given as goal

abbrev pub invariant-loop-octet : goal.invariant-loop-octet
invariant-loop-octet l =
    string_bytes l.text
    ≡ string_bytes l.initial.text ++ flat_map (after_colon l.digits) (take l.octet-index l.octets)
