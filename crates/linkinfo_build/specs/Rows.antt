-- The rows of the attributes in a list: those of a family over the typed layer, and the row of the
-- tunnel flags, which the kind of the link chooses.
use Rattle.std.specs.Prelude.{ℕ, ◌==◌, if◌then◌else◌, Option, Some, None}
use Rattle.nla_frame.specs.declared.error.Family.{Family}
use Rattle.nla_frame.specs.declared.error.Family.TheVariants as family
use Rattle.linkinfo_names.specs.Standing.{family_in}
use Rattle.linkinfo_shapes.specs.Typed.{typed_shape_of}
use Rattle.linkinfo_shapes.specs.declared.shape.Shape.{Shape}
use Rattle.linkinfo_build.specs.declared.rows.Rows.{Rows}

-- the rows of a family under no kind
abbrev pub rows_of : Family → Rows
rows_of f = record { family = f; tunnel_flags = None }

-- the shape of a type in attributes of a family, where that of `IFLA_IPTUN_FLAGS` is given
abbrev pub shape_under : Option Shape → Family → ℕ → Option Shape
shape_under flags family.IpTunnel kind =
    if kind == 8 then flags else typed_shape_of family.IpTunnel kind
shape_under flags f kind = typed_shape_of f kind

-- the shape of a type, if it has a row
unfoldable pub shape_in : Rows → ℕ → Option Shape
shape_in rows kind = shape_under rows.tunnel_flags rows.family kind

abbrev pub inner_rows : Option Family → Option Rows
inner_rows None = None
inner_rows (Some inner) = Some (rows_of inner)

-- the rows of the attributes in a payload of this shape
abbrev pub rows_in : Rows → Option Shape → Option Rows
rows_in rows shape = inner_rows (family_in rows.family shape)
