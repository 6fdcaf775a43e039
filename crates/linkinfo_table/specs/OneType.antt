-- Equivalent attributes of a family of rows have one type, flag bits aside.
use Rattle.std.specs.Prelude.{ℕ}
use Rattle.std.proofs.Common.{sym}
use Rattle.nla_frame.specs.Attribute.{masked}
use Rattle.linkinfo_table.specs.Contents.{HasOneType}
use Rattle.linkinfo_table.specs.RowLaws.{alike_masked}
use Rattle.linkinfo_table.specs.Rows.{Row, alike_in}

pub rows_type : {F : Type 0} (rows : ℕ → Row F) → HasOneType (alike_in rows)
unfolding alike_in
rows_type rows a b e = sym (alike_masked (rows (masked a.kind)) a b e)
