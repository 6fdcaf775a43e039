use Rattle.std.proofs.Common.{◌≡◌, drop}
use Rattle.linkinfo_names.specs.Names.{named, slice_rows}
use Rattle.linkinfo_names.proofs.names.name_among.Given as goal

-- the name is among the rows that are left
abbrev pub invariant-loop-number : goal.invariant-loop-number
invariant-loop-number l =
    named (slice_rows (drop l.number-index l.rows)) l.kind ≡ named (slice_rows l.rows) l.kind
