-- What an attribute means by the rows of a family: as `RowFamily` has them, or by one table.
use Rattle.std.specs.Prelude.{ℕ, Bool, List, Result}
use Rattle.nla_frame.specs.Attribute.{Attribute}
use Rattle.nla_frame.specs.Canonical.{attribute_for}
use Rattle.nla_frame.specs.declared.default_nla.DefaultNla.{DefaultNla}
use Rattle.nla_frame.specs.declared.error.DecodeError.{DecodeError}
use Rattle.nla_frame.specs.declared.error.Family.{Family}
use Rattle.linkinfo_table.specs.FamilyRows.{PlainRow, row_of, table_row}
use Rattle.linkinfo_table.specs.Rows.{alike_in, headers_inside, meaning_in, memory_in}
use Rattle.linkinfo_table.specs.declared.row_family.RowFamily.{Ghosts}

module _ {F Context : Type 0} (own : Ghosts F Context) (c : Context) where
  -- the value or the error that the row of its type gives an attribute
  abbrev pub meaning_by : Attribute → Result F DecodeError
  meaning_by a = meaning_in own.FAMILY own.other (λ n. row_of (own.rows c n)) a

  -- whether reading the attribute may allocate
  abbrev pub memory_by : Attribute → Bool
  memory_by a = memory_in (λ n. row_of (own.rows c n)) a

  -- whether two accepted attributes are equivalent
  abbrev pub alike_by : Attribute → Attribute → Bool
  alike_by a b = alike_in (λ n. row_of (own.rows c n)) a b

  -- the number of headers examined inside the attribute
  abbrev pub headers_by : Attribute → ℕ
  headers_by a = headers_inside (λ n. row_of (own.rows c n)) a

  -- the canonical attribute of what the attribute means
  abbrev pub canonical_by : Attribute → Attribute
  canonical_by a = attribute_for own.canonical (meaning_by a)

-- ---- by one table of plain rows

abbrev pub table_meaning : {F : Type 0} → Family → (DefaultNla → F) → List (PlainRow F) →
    Attribute → Result F DecodeError
table_meaning family other rows a = meaning_in family other (λ n. row_of (table_row rows n)) a

abbrev pub table_memory : {F : Type 0} → List (PlainRow F) → Attribute → Bool
table_memory rows a = memory_in (λ n. row_of (table_row rows n)) a
