-- A row as contracts see it: its name is a text.
use Rattle.std.specs.Prelude.{ℕ, List, map}
use Rattle.std.specs.Borrow.{Bor}
use Rattle.linkinfo_shapes.specs.declared.shape.Shape.{Shape}
use Rattle.linkinfo_view.specs.declared.format.Format.{Format}
use Rattle.linkinfo_view.specs.declared.format.Row.{Row}

pub record Line : Type 0 where
  pub name : List ℕ
  pub shape : Shape
  pub format : Format

abbrev pub line_of : Row → Line
line_of r = record { name = r.name.now; shape = r.shape; format = r.format }

-- a row as the code has it, with a reference to a name: type, member, shape and format
abbrev pub line_at : {N : Type 0} → (N → List ℕ) → ℕ × N × Shape × Format → ℕ × Line
line_at text (number, name, shape, format) =
    (number, record { name = text name; shape = shape; format = format })

-- the rows of a constant
abbrev pub lines : List (ℕ × record { now : List ℕ } × Shape × Format) → List (ℕ × Line)
lines entries = map (line_at (λ name. name.now)) entries

-- the rows of a slice
abbrev pub slice_lines : List (ℕ × Bor (List ℕ) × Shape × Format) → List (ℕ × Line)
slice_lines entries = map (line_at (λ name. name.now)) entries
