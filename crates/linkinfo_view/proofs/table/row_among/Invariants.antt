use Rattle.std.proofs.Common.{◌≡◌, drop}
use Rattle.linkinfo_view.specs.Lines.{slice_lines}
use Rattle.linkinfo_view.specs.Table.{found}
use Rattle.linkinfo_view.proofs.table.row_among.Given as goal

-- the row is among those that are left
abbrev pub invariant-loop-number : goal.invariant-loop-number
invariant-loop-number l =
    found (slice_lines (drop l.number-index l.rows)) l.kind ≡ found (slice_lines l.rows) l.kind
