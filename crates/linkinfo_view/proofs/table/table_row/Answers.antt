use Rattle.std.proofs.Common.{◌≡◌, Some, sym, rules}
use Rattle.linkinfo_view.specs.Lines.{line_of}
use Rattle.linkinfo_view.specs.Table.{found, own_rows, shared_rows}
use Rattle.linkinfo_view.proofs.Found.{found_first}
use Rattle.linkinfo_view.proofs.table.table_row.Goals as goal

pub returns-in-Some : goal.returns-in-Some
returns-in-Some c =
    let own : found (own_rows c.args.table) c.args.kind ≡ Some (line_of c.in-Some.row) =
    search rules in
    sym (found_first (own_rows c.args.table) (shared_rows c.args.table) c.args.kind
    (line_of c.in-Some.row) own)
