use Rattle.std.proofs.Common.{◌≡◌, drop, map, string_bytes}
use Rattle.linkinfo_print.specs.Options.{request_from, request_of}
use Rattle.linkinfo_print.proofs.options.request_of.Given as goal

abbrev pub invariant-loop-index : goal.invariant-loop-index
invariant-loop-index l =
    request_from l.index l.seen (map string_bytes (drop l.index l.words))
    ≡ request_of (map string_bytes l.words)
