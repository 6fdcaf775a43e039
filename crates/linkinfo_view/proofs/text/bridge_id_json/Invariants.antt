use Rattle.std.proofs.Common.{◌≡◌, take, string_bytes}
use Rattle.std.specs.List.{flat_map}
use Rattle.linkinfo_view.specs.Text.{byte_digits}
use Rattle.linkinfo_view.proofs.text.bridge_id_json.Given as goal

abbrev pub invariant-loop-byte : goal.invariant-loop-byte
invariant-loop-byte l = string_bytes l.text ≡ flat_map byte_digits (take l.byte-index l.priority)
